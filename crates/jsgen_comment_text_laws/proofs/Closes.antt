-- The first `*/` of a block is its end, as it is printed too.
use Rattle.std.proofs.Common.{cond, ◌≡◌, ℕ, Bool, true, false, not, ◌&&◌, ◌==◌, List, [], ◌∷◌, ◌++◌, codes, if◌then◌else◌, refl, ap, sym, subst, ◌∙◌, append-nil}
use Rattle.std.specs.Char.{is_whitespace}
use Rattle.std.specs.List.{list_all}
use Rattle.std.specs.Str.{skip_leading_whitespace}
use Rattle.std.proofs.lemmas.Bool.{false≢true, both_ways, and_parts, and_from, and_right, eqb-true, not-true, false_from_ne_true}
use Rattle.jsgen_syntax.specs.Strings.{begins_script}
use Rattle.jsgen_syntax.specs.Raw.{tag_free, tag_free_after}
use Rattle.jsgen_model.specs.LineEnds.{is_line_terminator}
use Rattle.jsgen_model.specs.Groups.{closes_block, onto, lines_behind, lines_of}
use Rattle.jsgen_model.specs.Layout.{text_if}
use Rattle.jsgen_model.specs.Valid.{begins_with_mark, ends_at_close}
use Rattle.jsgen_comment_text_laws.proofs.Lines.{is_blank, AsLines}
use Rattle.jsgen_comment_text_laws.proofs.Darks.{blank_is_white, terminator_is_white}

-- ---- character by character

abbrev pub is_end : List ℕ → Bool
is_end [] = true
is_end (c ∷ cs) = false

-- the first `*/` is the end, behind `*` where the test holds
abbrev pub scan : Bool → List ℕ → Bool
scan star [] = false
scan star (c ∷ cs) = if star && (c == 47) then is_end cs else scan (c == 42) cs

-- there is no `*/`
abbrev pub passes : Bool → List ℕ → Bool
passes star [] = true
passes star (c ∷ cs) = not (star && (c == 47)) && passes (c == 42) cs

scan_from : (c : ℕ) (cs : List ℕ) → ends_at_close (c ∷ cs) ≡ scan (c == 42) cs
scan_from c [] = refl
scan_from c (d ∷ []) = by ((c == 42) && (d == 47))
  where
    by : (b : Bool) → b ≡ (if b then true else false)
    by true = refl
    by false = refl
scan_from c (d ∷ e ∷ cs) = by ((c == 42) && (d == 47)) (scan_from d (e ∷ cs))
  where
    by : (b : Bool) → ends_at_close (d ∷ e ∷ cs) ≡ scan (d == 42) (e ∷ cs) → (not b && ends_at_close (d ∷ e ∷ cs)) ≡ (if b then false else scan (d == 42) (e ∷ cs))
    by true rest = refl
    by false rest = rest

pub scanned : (cs : List ℕ) → ends_at_close cs ≡ scan false cs
scanned [] = refl
scanned (c ∷ cs) = scan_from c cs

-- ---- without white space at the start

no_star : (c : ℕ) → is_whitespace c ≡ true → (c == 42) ≡ false
no_star c e = false_from_ne_true (c == 42) (λ f. both_ways (is_whitespace c) (subst (λ x. is_whitespace x ≡ false) (sym (eqb-true c 42 f)) refl) e)

scan_skipped : (l : List ℕ) → scan false (skip_leading_whitespace l) ≡ scan false l
scan_skipped [] = refl
scan_skipped (c ∷ cs) = by (is_whitespace c) refl (scan_skipped cs)
  where
    by : (b : Bool) → is_whitespace c ≡ b → scan false (skip_leading_whitespace cs) ≡ scan false cs → scan false (cond b (skip_leading_whitespace cs) (c ∷ cs)) ≡ scan (c == 42) cs
    by true e rest = rest ∙ sym (ap (λ b. scan b cs) (no_star c e))
    by false e rest = refl

passes_skipped : (l : List ℕ) → passes false (skip_leading_whitespace l) ≡ passes false l
passes_skipped [] = refl
passes_skipped (c ∷ cs) = by (is_whitespace c) refl (passes_skipped cs)
  where
    by : (b : Bool) → is_whitespace c ≡ b → passes false (skip_leading_whitespace cs) ≡ passes false cs → passes false (cond b (skip_leading_whitespace cs) (c ∷ cs)) ≡ passes (c == 42) cs
    by true e rest = rest ∙ sym (ap (λ b. passes b cs) (no_star c e))
    by false e rest = refl

scan_blanks : (w cs : List ℕ) → list_all is_blank w ≡ true → scan false (w ++ cs) ≡ scan false cs
scan_blanks [] cs e = refl
scan_blanks (c ∷ w) cs e =
    let h = and_parts (is_blank c) (list_all is_blank w) e in
    ap (λ b. scan b (w ++ cs)) (no_star c (blank_is_white c h.0)) ∙ scan_blanks w cs h.1

-- ---- with backslashes

apart : (c : ℕ) → ((c == 60) && (c == 42)) ≡ false
apart c = by (c == 60) refl
  where
    by : (b : Bool) → (c == 60) ≡ b → (b && (c == 42)) ≡ false
    by true e = subst (λ x. (x == 42) ≡ false) (sym (eqb-true c 60 e)) refl
    by false e = refl

no_more : (b : Bool) (cs : List ℕ) → is_end (tag_free_after b cs) ≡ is_end cs
unfolding tag_free_after
no_more b [] = refl
no_more b (c ∷ cs) = by (b && (c == 47) && begins_script cs)
  where
    by : (t : Bool) → is_end ((if t then 92 ∷ c ∷ [] else c ∷ []) ++ tag_free_after (c == 60) cs) ≡ false
    by true = refl
    by false = refl

-- a `/` behind `<` isn't behind `*`
pub scan_tags : (star b : Bool) (l : List ℕ) → (b && star) ≡ false → scan star (tag_free_after b l) ≡ scan star l
unfolding tag_free_after
scan_tags star b [] n = refl
scan_tags star b (c ∷ cs) n = by star b n (b && (c == 47) && begins_script cs) refl (scan_tags (c == 42) (c == 60) cs (apart c))
  where
    by : (star b : Bool) → (b && star) ≡ false → (t : Bool) → (b && (c == 47) && begins_script cs) ≡ t → scan (c == 42) (tag_free_after (c == 60) cs) ≡ scan (c == 42) cs → scan star ((if t then 92 ∷ c ∷ [] else c ∷ []) ++ tag_free_after (c == 60) cs) ≡ scan star (c ∷ cs)
    by star b n false e rest = ap (λ x. if star && (c == 47) then x else scan (c == 42) (tag_free_after (c == 60) cs)) (no_more (c == 60) cs) ∙ ap (λ x. if star && (c == 47) then is_end cs else x) rest
    by false b n true e rest = rest
    by true true n true e rest = absurd (false≢true (sym n))
    by true false n true e rest = absurd (false≢true e)

-- a line in which no `*/` stands, and its end
scan_line : (star b : Bool) (l rest : List ℕ) → (b && star) ≡ false → passes star l ≡ true → scan star (tag_free_after b l ++ (10 ∷ rest)) ≡ scan false rest
unfolding tag_free_after
scan_line true b [] rest n h = refl
scan_line false b [] rest n h = refl
scan_line star b (c ∷ cs) rest n h =
    let k = and_parts (not (star && (c == 47))) (passes (c == 42) cs) h in
    by star b n (not-true (star && (c == 47)) k.0) (b && (c == 47) && begins_script cs) refl (scan_line (c == 42) (c == 60) cs rest (apart c) k.1)
  where
    by : (star b : Bool) → (b && star) ≡ false → (star && (c == 47)) ≡ false → (t : Bool) → (b && (c == 47) && begins_script cs) ≡ t → scan (c == 42) (tag_free_after (c == 60) cs ++ (10 ∷ rest)) ≡ scan false rest → scan star (((if t then 92 ∷ c ∷ [] else c ∷ []) ++ tag_free_after (c == 60) cs) ++ (10 ∷ rest)) ≡ scan false rest
    by star b n m false e h = ap (λ x. if x then is_end (tag_free_after (c == 60) cs ++ (10 ∷ rest)) else scan (c == 42) (tag_free_after (c == 60) cs ++ (10 ∷ rest))) m ∙ h
    by false b n m true e h = h
    by true true n m true e h = absurd (false≢true (sym n))
    by true false n m true e h = absurd (false≢true e)

-- ---- line by line

-- the first `*/` is the end of the last line
abbrev pub lines_close : Bool → List (List ℕ) → Bool
lines_close star [] = false
lines_close star (l ∷ []) = scan star l
lines_close star (l ∷ m ∷ ls) = passes star l && lines_close false (m ∷ ls)

lines_close_onto : (star : Bool) (c : ℕ) (ls : List (List ℕ)) → (star && (c == 47)) ≡ false → lines_close (c == 42) ls ≡ true → lines_close star (onto c ls) ≡ true
lines_close_onto star c [] n h = absurd (false≢true h)
lines_close_onto star c (l ∷ []) n h = ap (λ x. if x then is_end l else scan (c == 42) l) n ∙ h
lines_close_onto star c (l ∷ m ∷ ls) n h =
    let k = and_parts (passes (c == 42) l) (lines_close false (m ∷ ls)) h in
    and_from (passes star (c ∷ l)) (lines_close false (m ∷ ls)) (and_from (not (star && (c == 47))) (passes (c == 42) l) (ap not n) k.0) k.1

lines_close_empty : (star : Bool) (ls : List (List ℕ)) → lines_close false ls ≡ true → lines_close star ([] ∷ ls) ≡ true
lines_close_empty star [] h = absurd (false≢true h)
lines_close_empty star (l ∷ ls) h = h

-- a line's end is no part of `*/`
pub end_is_none : (star : Bool) (c : ℕ) (cs : List ℕ) → is_line_terminator c ≡ true → scan star (c ∷ cs) ≡ scan false cs
end_is_none star c cs e =
    ap (λ x. if x then is_end cs else scan (c == 42) cs) (and_right star (c == 47) no_slash) ∙
    ap (λ x. scan x cs) (no_star c (terminator_is_white c e))
  where
    no_slash : (c == 47) ≡ false
    no_slash = false_from_ne_true (c == 47) (λ f. both_ways (is_line_terminator c) (subst (λ x. is_line_terminator x ≡ false) (sym (eqb-true c 47 f)) refl) e)

pub close_in_lines : (returned star : Bool) (cs : List ℕ) → (returned && star) ≡ false → scan star cs ≡ true → lines_close star (lines_behind returned cs) ≡ true
close_in_lines returned star [] n h = absurd (false≢true h)
close_in_lines returned star (c ∷ cs) n h = by returned star n (c == 10) refl (is_line_terminator c) refl h (λ r s. close_in_lines r s cs)
  where
    Rest : Type 0
    Rest = (r s : Bool) → (r && s) ≡ false → scan s cs ≡ true → lines_close s (lines_behind r cs) ≡ true

    last : (star x : Bool) → (star && (c == 47)) ≡ x → (if x then is_end cs else scan (c == 42) cs) ≡ true → Rest → lines_close star (onto c (lines_behind false cs)) ≡ true
    last star true e h rest = ended cs h
      where
        ended : (ds : List ℕ) → is_end ds ≡ true → lines_close star (onto c (lines_behind false ds)) ≡ true
        ended [] k = ap (λ x. if x then true else false) e
        ended (d ∷ ds) k = absurd (false≢true k)
    last star false e h rest = lines_close_onto star c (lines_behind false cs) e (rest false (c == 42) refl h)

    others : (star y : Bool) → is_line_terminator c ≡ y → scan star (c ∷ cs) ≡ true → Rest → lines_close star (if y then [] ∷ lines_behind (c == 13) cs else onto c (lines_behind false cs)) ≡ true
    others star true e h rest = lines_close_empty star (lines_behind (c == 13) cs) (rest (c == 13) false (and_right (c == 13) false refl) (sym (end_is_none star c cs e) ∙ h))
    others star false e h rest = last star (star && (c == 47)) refl h rest

    by : (r s : Bool) → (r && s) ≡ false → (x : Bool) → (c == 10) ≡ x → (y : Bool) → is_line_terminator c ≡ y → scan s (c ∷ cs) ≡ true → Rest → lines_close s (if r && x then lines_behind false cs else (if y then [] ∷ lines_behind (c == 13) cs else onto c (lines_behind false cs))) ≡ true
    by false s n x e y f h rest = others s y f h rest
    by true s n false e y f h rest = others s y f h rest
    by true true n true e y f h rest = absurd (false≢true (sym n))
    by true false n true e y f h rest = rest false false refl (ap (λ x. scan x cs) (sym (subst (λ x. (x == 42) ≡ false) (sym (eqb-true c 10 e)) refl)) ∙ h)

-- ---- which lines close the block

pub passing_is_open : (star : Bool) (l : List ℕ) → passes star l ≡ true → closes_block l ≡ false
passing_is_open star [] h = refl
passing_is_open star (c ∷ []) h = refl
passing_is_open star (c ∷ d ∷ []) h =
    let k = and_parts (not (star && (c == 47))) (not ((c == 42) && (d == 47)) && true) h in
    not-true ((c == 42) && (d == 47)) (and_parts (not ((c == 42) && (d == 47))) true k.1).0
passing_is_open star (c ∷ d ∷ e ∷ cs) h = passing_is_open (c == 42) (d ∷ e ∷ cs) (and_parts (not (star && (c == 47))) (passes (c == 42) (d ∷ e ∷ cs)) h).1

closing_from : (c : ℕ) (l : List ℕ) → scan (c == 42) l ≡ true → closes_block (c ∷ l) ≡ true
closing_from c [] h = absurd (false≢true h)
closing_from c (d ∷ []) h = by ((c == 42) && (d == 47)) h
  where
    by : (b : Bool) → (if b then true else false) ≡ true → b ≡ true
    by true e = refl
    by false e = absurd (false≢true e)
closing_from c (d ∷ e ∷ l) h = by ((c == 42) && (d == 47)) h (closing_from d (e ∷ l))
  where
    by : (b : Bool) → (if b then false else scan (d == 42) (e ∷ l)) ≡ true → (scan (d == 42) (e ∷ l) ≡ true → closes_block (d ∷ e ∷ l) ≡ true) → closes_block (d ∷ e ∷ l) ≡ true
    by true h rest = absurd (false≢true h)
    by false h rest = rest h

pub closing_line : (l : List ℕ) → scan false l ≡ true → closes_block l ≡ true
closing_line [] h = absurd (false≢true h)
closing_line (c ∷ l) h = closing_from c l h

-- behind `/*`
pub closing_block : (k : List ℕ) → scan false k ≡ true → closes_block (47 ∷ 42 ∷ k) ≡ true
closing_block [] h = absurd (false≢true h)
closing_block (c ∷ []) h = absurd (false≢true h)
closing_block (c ∷ d ∷ k) h = closing_from c (d ∷ k) h

-- the one first line that ends so, though it doesn't close the block
pub only_slash : (k : List ℕ) → passes false k ≡ true → closes_block (47 ∷ 42 ∷ k) ≡ true → k ≡ 47 ∷ []
only_slash [] h e = absurd (false≢true e)
only_slash (c ∷ []) h e = ap (λ x. x ∷ []) (eqb-true c 47 e)
only_slash (c ∷ d ∷ k) h e = absurd (both_ways (closes_block (c ∷ d ∷ k)) (passing_is_open false (c ∷ d ∷ k) h) e)

-- ---- what is printed

pub line_end_if : (b : Bool) → b ≡ false → text_if (not b) (codes "\n") ≡ 10 ∷ []
line_end_if b e = ap (λ x. text_if (not x) (codes "\n")) e

pub no_line_end_if : (b : Bool) → b ≡ true → text_if (not b) (codes "\n") ≡ []
no_line_end_if b e = ap (λ x. text_if (not x) (codes "\n")) e

pub later_lines : (ls : List (List ℕ)) (text : List ℕ) → AsLines ls text → lines_close false ls ≡ true → scan false text ≡ true
later_lines [] text h e = absurd (false≢true e)
later_lines (l ∷ []) text h e =
    let own = skip_leading_whitespace l in
    ap (λ t. scan false t) (h.is ∙ ap (λ t. h.indentation ++ (tag_free own ++ t)) (ap (λ t. t ++ h.rest) (no_line_end_if (closes_block l) (closing_line l e)) ∙ h.others)) ∙
    (scan_blanks h.indentation (tag_free own ++ []) h.blank ∙
    (ap (λ t. scan false t) (append-nil (tag_free own)) ∙
    (scan_tags false false own refl ∙ (scan_skipped l ∙ e))))
later_lines (l ∷ m ∷ ls) text h e =
    let own = skip_leading_whitespace l in
    let k = and_parts (passes false l) (lines_close false (m ∷ ls)) e in
    ap (λ t. scan false t) (h.is ∙ ap (λ t. h.indentation ++ (tag_free own ++ (t ++ h.rest))) (line_end_if (closes_block l) (passing_is_open false l k.0))) ∙
    (scan_blanks h.indentation (tag_free own ++ (10 ∷ h.rest)) h.blank ∙
    (scan_line false false own h.rest refl (passes_skipped l ∙ k.0) ∙
    later_lines (m ∷ ls) h.rest h.others k.1))

slash : (rest : List ℕ) → scan false (tag_free (47 ∷ []) ++ rest) ≡ scan false rest
unfolding tag_free_after
slash rest = refl

-- the first line, behind `/*`
after_first : (k : List ℕ) (ls : List (List ℕ)) (end rest : List ℕ) → end ≡ text_if (not (closes_block (47 ∷ 42 ∷ k))) (codes "\n") → AsLines ls rest → lines_close false (k ∷ ls) ≡ true → scan false (tag_free k ++ (end ++ rest)) ≡ true
after_first k [] end rest is h e =
    ap (λ t. scan false (tag_free k ++ t)) (ap (λ t. t ++ rest) (is ∙ no_line_end_if (closes_block (47 ∷ 42 ∷ k)) (closing_block k e)) ∙ h) ∙
    (ap (λ t. scan false t) (append-nil (tag_free k)) ∙ (scan_tags false false k refl ∙ e))
after_first k (m ∷ ls) end rest is h e = by (closes_block (47 ∷ 42 ∷ k)) refl
  where
    parts : (passes false k ≡ true) × (lines_close false (m ∷ ls) ≡ true)
    parts = and_parts (passes false k) (lines_close false (m ∷ ls)) e

    by : (b : Bool) → closes_block (47 ∷ 42 ∷ k) ≡ b → scan false (tag_free k ++ (end ++ rest)) ≡ true
    by true f =
        ap (λ t. scan false (tag_free k ++ (t ++ rest))) (is ∙ no_line_end_if (closes_block (47 ∷ 42 ∷ k)) f) ∙
        (ap (λ t. scan false (tag_free t ++ rest)) (only_slash k parts.0 f) ∙ (slash rest ∙ later_lines (m ∷ ls) rest h parts.1))
    by false f =
        ap (λ t. scan false (tag_free k ++ (t ++ rest))) (is ∙ line_end_if (closes_block (47 ∷ 42 ∷ k)) f) ∙
        (scan_line false false k rest refl parts.0 ∙ later_lines (m ∷ ls) rest h parts.1)

pub by_lines : (ls : List (List ℕ)) (text : List ℕ) → AsLines (onto 47 (onto 42 ls)) text → lines_close false ls ≡ true → begins_with_mark (codes "/*") ends_at_close text ≡ true
unfolding tag_free_after
by_lines [] text h e = absurd (false≢true e)
by_lines (k ∷ ls) text h e =
    let end = text_if (not (closes_block (47 ∷ 42 ∷ k))) (codes "\n") in
    ap (begins_with_mark (codes "/*") ends_at_close) (h.is ∙ ap (λ w. w ++ (tag_free (47 ∷ 42 ∷ k) ++ (end ++ h.rest))) (h.opens refl)) ∙
    (scanned (tag_free k ++ (end ++ h.rest)) ∙ after_first k ls end h.rest refl h.others e)

-- behind `/*` of the source
pub block_closes : (rest text : List ℕ) → AsLines (lines_of (codes "/*" ++ rest)) text → ends_at_close rest ≡ true → begins_with_mark (codes "/*") ends_at_close text ≡ true
block_closes rest text h e = by_lines (lines_behind false rest) text h (close_in_lines false false rest refl (sym (scanned rest) ∙ e))
