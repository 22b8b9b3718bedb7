-- How far the lines of a source were read, one line on.
use Rattle.std.proofs.Common.{◌≡◌, ℕ, suc, ◌+◌, ◌-◌, ◌<◌, ◌≤◌, ◌⊎◌, inl, inr, List, [], ◌∷◌, ◌++◌, Option, Some, None, length, slice_get, zero, refl, sym, ap, ap₂, ◌∙◌, subst, arith}
use Rattle.std.specs.Option.{option_map_or, option_and_then}
use Rattle.std.specs.Str.{chars}
use denote.Ref.{Bor}
use Rattle.std.proofs.lemmas.Bool.{cases_lt}
use Rattle.std.proofs.lemmas.List.{length_push}
use Rattle.std.proofs.lemmas.Option.{slice_get_past, slice_get_within, same_Some}
use Rattle.jsgen_strings.specs.Points.{ArePoints}
use Rattle.jsgen_map.specs.declared.lines.ReadLine.{ReadLine}
use Rattle.jsgen_map.specs.declared.tables.ColumnOffsets.{ColumnOffsets}
use Rattle.jsgen_map.specs.declared.tables.Line.{Line}
use Rattle.jsgen_map.specs.LineColumn.{at, line_column, position}
use Rattle.jsgen_map.specs.Lines.{answer_of, column_in, start_of, table_of, IsAdded}
use Rattle.jsgen_map.specs.Reading.{EndsAt, ReadsLine}
use Rattle.jsgen_map.proofs.Places.{there}

-- ---- one element more

pub get_left : {X : Type 0} (xs ys : List X) (k : ℕ) → k < length xs → slice_get (xs ++ ys) k ≡ slice_get xs k
get_left [] ys k l = absurd (omega arith)
get_left (x ∷ xs) ys zero l = refl
get_left (x ∷ xs) ys (suc k) l = get_left xs ys k (omega arith)

pub get_last : {X : Type 0} (xs : List X) (y : X) → slice_get (xs ++ y ∷ []) (length xs) ≡ Some y
get_last [] y = refl
get_last (x ∷ xs) y = get_last xs y

-- where a line starts
abbrev pub start_in : Option Line → ℕ → ℕ
start_in o end = option_map_or (λ (line : Line). line.start) o end

-- where the lines start, with one more
pub start_push : (lines : List Line) (line : Line) (k end : ℕ) → k ≤ length lines → start_of (lines ++ line ∷ []) k end ≡ start_of lines k line.start
start_push lines line k end l = by (cases_lt k (length lines))
  where
    by : (k < length lines) ⊎ (length lines ≤ k) → start_of (lines ++ line ∷ []) k end ≡ start_of lines k line.start
    by (inl h) =
        let t = there lines k h in
        ap (λ o. start_in o end) (get_left lines (line ∷ []) k h ∙ t.is) ∙ ap (λ o. start_in o line.start) (sym t.is)
    by (inr h) =
        let e : k ≡ length lines = omega arith in
        ap (λ o. start_in o end) (ap (slice_get (lines ++ line ∷ [])) e ∙ get_last lines line) ∙ ap (λ o. start_in o line.start) (sym (slice_get_past lines k h))

-- ---- the lines so far

abbrev pub IsBelow : Option ℕ → ℕ → Type 0
IsBelow None n = Unit {0}
IsBelow (Some i) n = i < n

-- what is left of the source begins with the line of the next number
pub record Left (source : List ℕ) (start number : ℕ) (bytes : List ℕ) : Type 0 where
  pub points : ArePoints bytes
  pub size : start + length bytes ≡ length source
  pub next : (n : ℕ) → line_column source (start + n) ≡ position (at number 0) (chars bytes) n

abbrev pub Rest : List ℕ → ℕ → ℕ → Option (Bor (List ℕ)) → Type 0
Rest source start number None = start ≡ suc (length source)
Rest source start number (Some bytes) = Left source start number bytes.now

pub record Known (source : List ℕ) (lines : List Line) (tables : List ColumnOffsets) (start : ℕ) : Type 0 where
  pub numbered : (k : ℕ) (line : Line) → slice_get lines k ≡ Some line → IsBelow line.columns (length tables)
  pub answers : (k : ℕ) (line : Line) → slice_get lines k ≡ Some line → (n : ℕ) → line.start ≤ n → n < start_of lines (suc k) start → line_column source n ≡ answer_of tables k line n
  pub begins : start_of lines 0 start ≡ 0
  pub few : length tables ≤ start

pub known_none : (source : List ℕ) (lines : List Line) (tables : List ColumnOffsets) → lines ≡ [] → tables ≡ [] → Known source lines tables 0
known_none source lines tables e f = record {
  numbered = λ k line h. absurd (let w = slice_get_within lines k line h in let z = ap length e in omega arith);
  answers = λ k line h n a b. absurd (let w = slice_get_within lines k line h in let z = ap length e in omega arith);
  begins = ap (λ ls. start_of ls 0 0) e;
  few = let z = ap length f in omega arith;
}

pub left_all : (source bytes : List ℕ) (lines : List Line) → lines ≡ [] → bytes ≡ source → ArePoints source → Left source 0 (length lines) bytes
left_all source bytes lines e f p = record {
  points = subst ArePoints (sym f) p;
  size = let z = ap length f in omega arith;
  next = λ n. let z : 0 + n ≡ n = omega arith in ap (line_column source) z ∙ ap₂ (λ k bs. position (at k 0) (chars bs) n) (sym (ap length e)) (sym f);
}

-- the table that a number names, with another table behind
table_left : (tables more : List ColumnOffsets) (number : Option ℕ) → IsBelow number (length tables) → option_and_then (λ k. slice_get (tables ++ more) k) number ≡ option_and_then (λ k. slice_get tables k) number
table_left tables more None b = refl
table_left tables more (Some i) b = get_left tables more i b

below_more : (number : Option ℕ) (n m : ℕ) → n ≤ m → IsBelow number n → IsBelow number m
below_more None n m l b = tt
below_more (Some i) n m l b = omega arith

-- one line more: its table, where it has one, was added
pub record Grown (tables : List ColumnOffsets) (columns : Option ColumnOffsets) (new : List ColumnOffsets) (number : Option ℕ) : Type 0 where
  pub same : (line : Line) → IsBelow line.columns (length tables) → table_of new line ≡ table_of tables line
  pub own : option_and_then (λ k. slice_get new k) number ≡ columns
  pub below : IsBelow number (length new)
  pub least : length tables ≤ length new
  pub most : length new ≤ suc (length tables)

pub grown : (tables : List ColumnOffsets) (columns : Option ColumnOffsets) (new : List ColumnOffsets) (number : Option ℕ) → IsAdded tables columns new number → Grown tables columns new number
grown tables None new number (e, f) = record {
  same = λ line b. ap (λ ts. table_of ts line) e;
  own = ap (λ o. option_and_then (λ k. slice_get new k) o) f;
  below = subst (λ o. IsBelow o (length new)) (sym f) tt;
  least = let z = ap length e in omega arith;
  most = let z = ap length e in omega arith;
}
grown tables (Some t) new number (e, f) = record {
  same = λ line b. ap (λ ts. table_of ts line) e ∙ table_left tables (t ∷ []) line.columns b;
  own = ap (λ o. option_and_then (λ k. slice_get new k) o) f ∙ (ap (λ ts. slice_get ts (length tables)) e ∙ get_last tables t);
  below = subst (λ o. IsBelow o (length new)) (sym f) (let z = ap length e ∙ length_push tables t in omega arith);
  least = let z = ap length e ∙ length_push tables t in omega arith;
  most = let z = ap length e ∙ length_push tables t in omega arith;
}

pub known_more : (source : List ℕ) (lines : List Line) (tables : List ColumnOffsets) (start : ℕ) (bytes : List ℕ) (read : ReadLine) (new : List ColumnOffsets) (number : Option ℕ) (pushed : List Line) → Known source lines tables start → Left source start (length lines) bytes → ReadsLine bytes read → IsAdded tables read.columns new number → 0 < read.offsets → pushed ≡ lines ++ record { start = start; columns = number } ∷ [] → Known source pushed new (start + read.offsets)
known_more source lines tables start bytes read new number pushed known left reads added some p = subst (λ ls. Known source ls new (start + read.offsets)) (sym p) (record {
  numbered = numbered;
  answers = answers;
  begins = start_push lines line 0 (start + read.offsets) (omega arith) ∙ known.begins;
  few = let a = g.most in let b = known.few in omega arith;
})
  where
    line : Line
    line = record { start = start; columns = number }

    g : Grown tables read.columns new number
    g = grown tables read.columns new number added

    last_is : (k : ℕ) (l : Line) → slice_get (lines ++ line ∷ []) k ≡ Some l → length lines ≤ k → (k ≡ length lines) × (l ≡ line)
    last_is k l h m =
        let w = slice_get_within (lines ++ line ∷ []) k l h in
        let s = length_push lines line in
        let e : k ≡ length lines = omega arith in
        (e, same_Some l line (sym h ∙ (ap (slice_get (lines ++ line ∷ [])) e ∙ get_last lines line)))

    numbered : (k : ℕ) (l : Line) → slice_get (lines ++ line ∷ []) k ≡ Some l → IsBelow l.columns (length new)
    numbered k l h = by (cases_lt k (length lines))
      where
        by : (k < length lines) ⊎ (length lines ≤ k) → IsBelow l.columns (length new)
        by (inl m) = below_more l.columns (length tables) (length new) g.least (known.numbered k l (sym (get_left lines (line ∷ []) k m) ∙ h))
        by (inr m) = subst (λ (v : Line). IsBelow v.columns (length new)) (sym (last_is k l h m).1) g.below

    answers : (k : ℕ) (l : Line) → slice_get (lines ++ line ∷ []) k ≡ Some l → (n : ℕ) → l.start ≤ n → n < start_of (lines ++ line ∷ []) (suc k) (start + read.offsets) → line_column source n ≡ answer_of new k l n
    answers k l h n a b = by (cases_lt k (length lines))
      where
        by : (k < length lines) ⊎ (length lines ≤ k) → line_column source n ≡ answer_of new k l n
        by (inl m) =
            let i = sym (get_left lines (line ∷ []) k m) ∙ h in
            let e = start_push lines line (suc k) (start + read.offsets) (omega arith) in
            known.answers k l i n a (subst (λ v. n < v) e b) ∙ ap (λ t. at k (column_in t (n - l.start))) (sym (g.same l (known.numbered k l i)))
        by (inr m) =
            let z = last_is k l h m in
            let s = length_push lines line in
            let past : length (lines ++ line ∷ []) ≤ suc k = omega arith in
            let c = subst (λ o. n < start_in o (start + read.offsets)) (slice_get_past (lines ++ line ∷ []) (suc k) past) b in
            let f : l.start ≡ start = ap (λ (v : Line). v.start) z.1 in
            let d : n - start < read.offsets = omega arith in
            let q : n ≡ start + (n - start) = omega arith in
            ap (line_column source) q ∙ (left.next (n - start) ∙ (reads.shown (length lines) (n - start) d ∙ (ap₂ (λ j t. at j (column_in t (n - start))) (sym z.0) (sym g.own) ∙ ap (λ (v : Line). answer_of new k v n) (sym z.1))))

pub rest_more : (source : List ℕ) (lines : List Line) (start : ℕ) (bytes : List ℕ) (offsets : ℕ) (rest : Option (Bor (List ℕ))) (line : Line) (pushed : List Line) → Left source start (length lines) bytes → EndsAt 0 bytes offsets rest → pushed ≡ lines ++ line ∷ [] → Rest source (start + offsets) (length pushed) rest
rest_more source lines start bytes offsets None line pushed left ends p = let s = left.size in omega arith
rest_more source lines start bytes offsets (Some rest) line pushed left ends p = record {
  points = ends.points;
  size = let s = left.size in let t = ends.size in omega arith;
  next = λ n.
      let i : (start + offsets) + n ≡ start + (offsets + n) = omega arith in
      let s : suc (length lines) ≡ length pushed = let z = ap length p ∙ length_push lines line in omega arith in
      ap (line_column source) i ∙ (left.next (offsets + n) ∙ (ends.next (length lines) n ∙ ap (λ k. position (at k 0) (chars rest.now) n) s));
}

pub offsets_some : (bytes : List ℕ) (offsets : ℕ) (rest : Option (Bor (List ℕ))) → EndsAt 0 bytes offsets rest → 0 < offsets
offsets_some bytes offsets None e = omega arith
offsets_some bytes offsets (Some rest) e = e.some
