-- How far a line was read, one character on.
use Rattle.std.proofs.Common.{◌≡◌, ℕ, suc, ◌+◌, ◌-◌, ◌<◌, ◌≤◌, true, false, ◌⊎◌, inl, inr, List, [], ◌∷◌, ◌++◌, Option, Some, None, length, replicate, get_or, refl, sym, ap, ◌∙◌, subst, arith, length-append}
use Rattle.std.specs.Char.{len_utf8}
use Rattle.std.specs.Str.{chars, IsUtf8}
use lib.Utf8.{encode, encodes, scalar, scalars}
use Rattle.std.specs.List.{list_all}
use denote.Ref.{Bor}
use Rattle.std.proofs.lemmas.Bool.{and_parts, and_from, cases_lt, le-leb, lt-leb, lt-ltb, le-ltb}
use Rattle.std.proofs.lemmas.List.{get_or-append_right, get_or-replicate, get_or_append_left, length-replicate}
use Rattle.std.proofs.lemmas.Str.{encodes-chars, scalars-chars, length-encode, len_utf8_bounds, chars-nil}
use Rattle.jsgen_strings.specs.Points.{ArePoints, is_point}
use Rattle.jsgen_syntax.proofs.Wtf8.{scalar_below}
use Rattle.jsgen_strings.proofs.Looks.{low_first}
use Rattle.jsgen_map.specs.declared.tables.ColumnOffsets.{ColumnOffsets}
use Rattle.jsgen_map.specs.declared.position.Position.{Position}
use Rattle.jsgen_map.specs.LineColumn.{at, behind, closes_line, position, units}
use Rattle.jsgen_map.specs.Lines.{column_in}
use Rattle.jsgen_map.specs.Reading.{AreColumns, Closes, EndsAt, GoesOn, IsPlainRun, ReadsLine}

-- within a character the place is the one before it
pub inside : (p : Position) (c : ℕ) (cs : List ℕ) (n : ℕ) → n < len_utf8 c → position p (c ∷ cs) n ≡ p
inside p c cs n l = rw (lt-leb (len_utf8 c) n l) refl

-- and behind it the count goes on
pub past : (p : Position) (c : ℕ) (cs : List ℕ) (n : ℕ) → position p (c ∷ cs) (len_utf8 c + n) ≡ position (behind p c cs) cs n
past p c cs n =
    let l : len_utf8 c ≤ len_utf8 c + n = omega arith in
    let e : (len_utf8 c + n) - len_utf8 c ≡ n = omega arith in
    rw (le-leb (len_utf8 c) (len_utf8 c + n) l, e) refl

pub in_line : (l column c : ℕ) (cs : List ℕ) → closes_line c cs ≡ false → behind (at l column) c cs ≡ at l (column + units c)
in_line l column c cs h = rw h refl

pub to_next_line : (l column c : ℕ) (cs : List ℕ) → closes_line c cs ≡ true → behind (at l column) c cs ≡ at (suc l) 0
to_next_line l column c cs h = rw h refl

-- ---- the first character of some bytes

pub whole_size : (bytes : List ℕ) (c : ℕ) (rest : List ℕ) → ArePoints bytes → ArePoints rest → chars bytes ≡ c ∷ chars rest → length bytes ≡ len_utf8 c + length rest
whole_size bytes c rest p q e =
    let f : encode c ++ encodes (chars rest) ≡ bytes = sym (ap encodes e) ∙ p.0 in
    let g : length (encode c ++ rest) ≡ length bytes = ap (λ x. length (encode c ++ x)) (sym q.0) ∙ ap length f in
    let h = length-append (encode c) rest in
    let i = length-encode c in
    omega arith

-- ---- how far a line was read

pub on_none : (first : ℕ) (bytes : List ℕ) → ArePoints bytes → GoesOn first bytes 0 first bytes
on_none first bytes p = record {
  points = p;
  size = omega arith;
  next = λ l n. let e : 0 + n ≡ n = omega arith in ap (position (at l first) (chars bytes)) e;
}

step_ahead : (first : ℕ) (bytes : List ℕ) (len column : ℕ) (rest : List ℕ) (c : ℕ) (more : List ℕ) → GoesOn first bytes len column rest → chars rest ≡ c ∷ chars more → (l n : ℕ) → position (at l first) (chars bytes) ((len + len_utf8 c) + n) ≡ position (behind (at l column) c (chars more)) (chars more) n
step_ahead first bytes len column rest c more g e l n =
    let h : (len + len_utf8 c) + n ≡ len + (len_utf8 c + n) = omega arith in
    ap (position (at l first) (chars bytes)) h ∙ (g.next l (len_utf8 c + n) ∙ (ap (λ x. position (at l column) x (len_utf8 c + n)) e ∙ past (at l column) c (chars more) n))

pub on_more : (first : ℕ) (bytes : List ℕ) (len column : ℕ) (rest : List ℕ) (c : ℕ) (more : List ℕ) → GoesOn first bytes len column rest → ArePoints more → chars rest ≡ c ∷ chars more → closes_line c (chars more) ≡ false → GoesOn first bytes (len + len_utf8 c) (column + units c) more
on_more first bytes len column rest c more g p e h = record {
  points = p;
  size = let s = whole_size rest c more g.points p e in let t = g.size in omega arith;
  next = λ l n. step_ahead first bytes len column rest c more g e l n ∙ ap (λ q. position q (chars more) n) (in_line l column c (chars more) h);
}

pub on_close : (first : ℕ) (bytes : List ℕ) (len column : ℕ) (rest : List ℕ) (c : ℕ) (more : List ℕ) → GoesOn first bytes len column rest → ArePoints more → chars rest ≡ c ∷ chars more → closes_line c (chars more) ≡ true → Closes first bytes (len + len_utf8 c) more
on_close first bytes len column rest c more g p e h = record {
  points = p;
  size = let s = whole_size rest c more g.points p e in let t = g.size in omega arith;
  some = let b = (len_utf8_bounds c).0 in omega arith;
  next = λ l n. step_ahead first bytes len column rest c more g e l n ∙ ap (λ q. position q (chars more) n) (to_next_line l column c (chars more) h);
}

-- ---- the columns of the bytes so far

-- the offsets inside the next character have the column before it
pub columns_more : (first : ℕ) (bytes columns : List ℕ) (column : ℕ) (rest : List ℕ) (c : ℕ) (cs : List ℕ) → AreColumns first bytes columns → GoesOn first bytes (length columns) column rest → chars rest ≡ c ∷ cs → AreColumns first bytes (columns ++ replicate (len_utf8 c) column)
columns_more first bytes columns column rest c cs a g e l n h = by (cases_lt n (length columns))
  where
    by : (n < length columns) ⊎ (length columns ≤ n) → position (at l first) (chars bytes) n ≡ at l (get_or (columns ++ replicate (len_utf8 c) column) n 0)
    by (inl k) = a l n k ∙ ap (at l) (sym (get_or_append_left columns (replicate (len_utf8 c) column) 0 n k))
    by (inr k) =
        let i : length columns + (n - length columns) ≡ n = omega arith in
        let s = length-append columns (replicate (len_utf8 c) column) in
        let r = length-replicate (len_utf8 c) column in
        let j : n - length columns < len_utf8 c = omega arith in
        let t = get_or-append_right columns (replicate (len_utf8 c) column) (length columns) n 0 refl k in
        ap (position (at l first) (chars bytes)) (sym i) ∙ (g.next l (n - length columns) ∙ (ap (λ x. position (at l column) x (n - length columns)) e ∙ (inside (at l column) c cs (n - length columns) j ∙ ap (at l) (sym (t ∙ get_or-replicate (len_utf8 c) (n - length columns) column 0 j)))))

-- and so has the end of the text
pub columns_end : (first : ℕ) (bytes columns : List ℕ) (column : ℕ) (rest : List ℕ) → AreColumns first bytes columns → GoesOn first bytes (length columns) column rest → length rest ≡ 0 → AreColumns first bytes (columns ++ column ∷ [])
columns_end first bytes columns column rest a g e l n h = by (cases_lt n (length columns))
  where
    empty : (xs : List ℕ) → length xs ≡ 0 → chars xs ≡ []
    empty [] k = chars-nil
    empty (x ∷ xs) k = absurd (omega arith)

    by : (n < length columns) ⊎ (length columns ≤ n) → position (at l first) (chars bytes) n ≡ at l (get_or (columns ++ column ∷ []) n 0)
    by (inl k) = a l n k ∙ ap (at l) (sym (get_or_append_left columns (column ∷ []) 0 n k))
    by (inr k) =
        let s = length-append columns (column ∷ []) in
        let i : length columns + 0 ≡ n = omega arith in
        let z : n - length columns ≡ 0 = omega arith in
        let t = get_or-append_right columns (column ∷ []) (length columns) n 0 refl k in
        ap (position (at l first) (chars bytes)) (sym i) ∙ (g.next l 0 ∙ (ap (λ x. position (at l column) x 0) (empty rest e) ∙ ap (at l) (sym (t ∙ ap (λ m. get_or (column ∷ []) m 0) z))))

-- ---- a plain run

units_one : (c : ℕ) → c < 128 → units c ≡ 1
units_one c l = let k : c < 0x1_0000 = omega arith in rw (lt-ltb c 0x1_0000 k) refl

width_one : (c : ℕ) → c < 128 → len_utf8 c ≡ 1
width_one c l = rw (lt-ltb c 0x80 l) refl

pub plain_none : (bytes : List ℕ) → ArePoints bytes → IsPlainRun bytes 0 bytes
plain_none bytes p = record {
  shown = λ l n h. let e : n ≡ 0 = omega arith in ap (position (at l 0) (chars bytes)) e ∙ (at_nothing (chars bytes) (at l 0) ∙ ap (at l) (sym e));
  on = on_none 0 bytes p;
}
  where
    at_nothing : (cs : List ℕ) (p : Position) → position p cs 0 ≡ p
    at_nothing [] p = refl
    at_nothing (c ∷ cs) p = inside p c cs 0 (let b = (len_utf8_bounds c).0 in omega arith)

pub plain_more : (bytes : List ℕ) (len c : ℕ) (rest more : List ℕ) → IsPlainRun bytes len rest → rest ≡ c ∷ more → c < 128 → closes_line c (chars more) ≡ false → IsPlainRun bytes (len + 1) more
plain_more bytes len c rest more r e l h =
    let f = low_first rest c more r.on.points e l in
    let w = width_one c l in
    let u = units_one c l in
    let g = on_more 0 bytes len len rest c more r.on f.points f.are h in
    let on : GoesOn 0 bytes (len + 1) (len + 1) more = subst (λ v. GoesOn 0 bytes (len + v) (len + 1) more) w (subst (λ v. GoesOn 0 bytes (len + len_utf8 c) (len + v) more) u g) in
    record {
      shown = λ k n b. shown_by k n on b (cases_lt len n);
      on = on;
    }
  where
    start : (cs : List ℕ) (p : Position) → position p cs 0 ≡ p
    start [] p = refl
    start (c ∷ cs) p = inside p c cs 0 (let b = (len_utf8_bounds c).0 in omega arith)

    shown_by : (k n : ℕ) → GoesOn 0 bytes (len + 1) (len + 1) more → n ≤ len + 1 → (len < n) ⊎ (n ≤ len) → position (at k 0) (chars bytes) n ≡ at k n
    shown_by k n on b (inr s) = r.shown k n s
    shown_by k n on b (inl s) =
        let i : n ≡ (len + 1) + 0 = omega arith in
        let j : len + 1 ≡ n = omega arith in
        ap (position (at k 0) (chars bytes)) i ∙ (on.next k 0 ∙ (start (chars more) (at k (len + 1)) ∙ ap (at k) j))

-- a byte of ASCII behind which the line ends
pub plain_close : (bytes : List ℕ) (len c : ℕ) (rest more : List ℕ) → IsPlainRun bytes len rest → rest ≡ c ∷ more → c < 128 → closes_line c (chars more) ≡ true → Closes 0 bytes (len + 1) more
plain_close bytes len c rest more r e l h =
    let f = low_first rest c more r.on.points e l in
    subst (λ v. Closes 0 bytes (len + v) more) (width_one c l) (on_close 0 bytes len len rest c more r.on f.points f.are h)

-- ---- a step of the columns' loop

pub record Stepped (first : ℕ) (bytes new : List ℕ) (count : ℕ) : Type 0 where
  pub columns : AreColumns first bytes new
  pub size : length new ≡ count

pub stepped : (first : ℕ) (bytes columns : List ℕ) (column : ℕ) (rest : List ℕ) (c : ℕ) (own more new : List ℕ) → AreColumns first bytes columns → GoesOn first bytes (length columns) column rest → chars rest ≡ c ∷ chars more → own ≡ encode c → new ≡ columns ++ replicate (length own) column → Stepped first bytes new (length columns + len_utf8 c)
stepped first bytes columns column rest c own more new a g e o n =
    let w : length own ≡ len_utf8 c = ap length o ∙ length-encode c in
    let i : new ≡ columns ++ replicate (len_utf8 c) column = n ∙ ap (λ k. columns ++ replicate k column) w in
    record {
      columns = subst (AreColumns first bytes) (sym i) (columns_more first bytes columns column rest c (chars more) a g e);
      size = ap length i ∙ (length-append columns (replicate (len_utf8 c) column) ∙ ap (λ k. length columns + k) (length-replicate (len_utf8 c) column));
    }

pub units_within : (c : ℕ) → units c ≤ len_utf8 c
units_within c = by (cases_lt c 0x1_0000)
  where
    by : (c < 0x1_0000) ⊎ (0x1_0000 ≤ c) → units c ≤ len_utf8 c
    by (inl l) = let e : units c ≡ 1 = rw (lt-ltb c 0x1_0000 l) refl in let b = (len_utf8_bounds c).0 in omega arith
    by (inr l) =
        let i : 0x80 ≤ c = omega arith in
        let j : 0x800 ≤ c = omega arith in
        let e : units c ≡ 2 = rw (le-ltb c 0x1_0000 l) refl in
        let f : len_utf8 c ≡ 4 = rw (le-ltb c 0x80 i, le-ltb c 0x800 j, le-ltb c 0x1_0000 l) refl in
        omega arith

-- ---- a whole line

-- of ASCII
pub ascii_line : (bytes : List ℕ) (len c : ℕ) (rest : List ℕ) (more : Bor (List ℕ)) → IsPlainRun bytes len rest → rest ≡ c ∷ more.now → c < 128 → closes_line c (chars more.now) ≡ true → ReadsLine bytes (record { columns = None; offsets = len + 1; rest = Some more })
ascii_line bytes len c rest more r e l h = record {
  shown = λ k n b. r.shown k n (omega arith);
  ends = plain_close bytes len c rest more.now r e l h;
}

pub last_ascii_line : (bytes : List ℕ) (len : ℕ) (rest : List ℕ) → IsPlainRun bytes len rest → length rest ≡ 0 → ReadsLine bytes (record { columns = None; offsets = len + 1; rest = None })
last_ascii_line bytes len rest r e = record {
  shown = λ k n b. r.shown k n (omega arith);
  ends = let s = r.on.size in omega arith;
}

-- with a table
pub table_line : (bytes : List ℕ) (len : ℕ) (rest : List ℕ) (t : ColumnOffsets) (more : Option (Bor (List ℕ))) (offsets : ℕ) → IsPlainRun bytes len rest → t.first ≡ len → AreColumns len rest t.columns.items → EndsAt len rest (length t.columns.items) more → offsets ≡ len + length t.columns.items → ReadsLine bytes (record { columns = Some t; offsets = offsets; rest = more })
table_line bytes len rest t more offsets r f c e o = record {
  shown = λ k n b. shown k n b (cases_lt n len);
  ends = ends more e;
}
  where
    shown : (k n : ℕ) → n < offsets → (n < len) ⊎ (len ≤ n) → position (at k 0) (chars bytes) n ≡ at k (column_in (Some t) n)
    shown k n b (inl l) = let m : n < t.first = omega arith in r.shown k n (omega arith) ∙ ap (at k) (rw (lt-ltb n t.first m) refl)
    shown k n b (inr l) =
        let i : n ≡ len + (n - len) = omega arith in
        let m : t.first ≤ n = omega arith in
        let j : n - len < length t.columns.items = omega arith in
        let d : n - len ≡ n - t.first = omega arith in
        ap (position (at k 0) (chars bytes)) i ∙ (r.on.next k (n - len) ∙ (c k (n - len) j ∙ ap (at k) (ap (λ v. get_or t.columns.items v 0) d ∙ rw (le-ltb n t.first m) refl)))

    ends : (more : Option (Bor (List ℕ))) → EndsAt len rest (length t.columns.items) more → EndsAt 0 bytes offsets more
    ends None e = let s = r.on.size in omega arith
    ends (Some m) e = record {
      points = e.points;
      size = let s = r.on.size in let t = e.size in omega arith;
      some = let s = e.some in omega arith;
      next = λ k n.
          let i : offsets + n ≡ len + (length t.columns.items + n) = omega arith in
          ap (position (at k 0) (chars bytes)) i ∙ (r.on.next k (length t.columns.items + n) ∙ e.next k n);
    }

-- ---- the bytes of a text

points_of_scalars : (cs : List ℕ) → scalars cs ≡ true → list_all is_point cs ≡ true
points_of_scalars [] h = refl
points_of_scalars (c ∷ cs) h =
    let k = and_parts (scalar c) (scalars cs) h in
    and_from (is_point c) (list_all is_point cs) (lt-ltb c 0x11_0000 (scalar_below c k.0)) (points_of_scalars cs k.1)

pub points_of_text : (s : List ℕ) → IsUtf8 s → ArePoints s
points_of_text s u = (encodes-chars s u, points_of_scalars (chars s) (scalars-chars s u))
