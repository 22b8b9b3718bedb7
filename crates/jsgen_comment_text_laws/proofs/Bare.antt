-- The lines of a block as it is printed are those of the block.
use Rattle.std.specs.Prelude.{⊤, not}
use Rattle.std.proofs.Common.{cond, ◌≡◌, ℕ, Bool, true, false, ◌&&◌, ◌||◌, ◌==◌, List, [], ◌∷◌, ◌++◌, map, codes, if◌then◌else◌, refl, ap, sym, subst, ◌∙◌, append_assoc, append-nil}
use Rattle.std.specs.Char.{is_whitespace}
use Rattle.std.specs.List.{list_all}
use Rattle.std.specs.Str.{skip_leading_whitespace}
use Rattle.std.proofs.lemmas.Bool.{false≢true, both_ways, and_parts, or_parts, or_from, and_right, eqb-true, false_from_ne_true, true_from_ne_false}
use Rattle.jsgen_syntax.specs.Raw.{tag_free, tag_free_after}
use Rattle.jsgen_model.specs.LineEnds.{is_line_terminator}
use Rattle.jsgen_model.specs.Tokens.{has_line_end}
use Rattle.jsgen_model.specs.Groups.{closes_block, onto, lines_behind, lines_of}
use Rattle.jsgen_model.specs.Valid.{begins_with_mark, ends_at_close}
use Rattle.jsgen_comment_text_laws.specs.Law.{bare_lines, begins_closed}
use Rattle.jsgen_comment_text_laws.proofs.Lines.{is_blank, AsLine, AsLines}
use Rattle.jsgen_comment_text_laws.proofs.Darks.{blank_is_white}
use Rattle.jsgen_comment_text_laws.proofs.Closes.{is_end, scan, passes, lines_close, scanned, passing_is_open, closing_block, closing_line, only_slash, line_end_if, no_line_end_if, later_lines, by_lines, end_is_none, close_in_lines}
use Rattle.jsgen_comment_text_laws.proofs.Stays.{same_ends}

-- ---- no line holds a line's end

abbrev NoEnds : List (List ℕ) → Type 0
NoEnds [] = ⊤
NoEnds (l ∷ ls) = (has_line_end l ≡ false) × NoEnds ls

none_onto : (c : ℕ) (ls : List (List ℕ)) → is_line_terminator c ≡ false → NoEnds ls → NoEnds (onto c ls)
none_onto c [] e h = (or_from (is_line_terminator c) false e refl, tt)
none_onto c (l ∷ ls) e h = (or_from (is_line_terminator c) (has_line_end l) e h.0, h.1)

none_in_lines : (returned : Bool) (cs : List ℕ) → NoEnds (lines_behind returned cs)
none_in_lines returned [] = tt
none_in_lines returned (c ∷ cs) = by (returned && (c == 10)) (is_line_terminator c) refl (λ r. none_in_lines r cs)
  where
    by : (x y : Bool) → is_line_terminator c ≡ y → ((r : Bool) → NoEnds (lines_behind r cs)) → NoEnds (if x then lines_behind false cs else (if y then [] ∷ lines_behind (c == 13) cs else onto c (lines_behind false cs)))
    by true y e rest = rest false
    by false true e rest = (refl, rest (c == 13))
    by false false e rest = none_onto c (lines_behind false cs) e (rest false)

none_in_both : (a b : List ℕ) → has_line_end a ≡ false → has_line_end b ≡ false → has_line_end (a ++ b) ≡ false
none_in_both [] b e f = f
none_in_both (c ∷ a) b e f = let k = or_parts (is_line_terminator c) (has_line_end a) e in or_from (is_line_terminator c) (has_line_end (a ++ b)) k.0 (none_in_both a b k.1 f)

none_in_skipped : (l : List ℕ) → has_line_end l ≡ false → has_line_end (skip_leading_whitespace l) ≡ false
none_in_skipped [] e = refl
none_in_skipped (c ∷ cs) e = by (is_whitespace c) (none_in_skipped cs (or_parts (is_line_terminator c) (has_line_end cs) e).1)
  where
    by : (b : Bool) → has_line_end (skip_leading_whitespace cs) ≡ false → has_line_end (cond b (skip_leading_whitespace cs) (c ∷ cs)) ≡ false
    by true rest = rest
    by false rest = e

blank_is_none : (c : ℕ) → is_blank c ≡ true → is_line_terminator c ≡ false
blank_is_none c e = by (c == 32) refl (c == 9) refl e
  where
    by : (a : Bool) → (c == 32) ≡ a → (b : Bool) → (c == 9) ≡ b → not (not (a || b)) ≡ true → is_line_terminator c ≡ false
    by true f b g e = subst (λ x. is_line_terminator x ≡ false) (sym (eqb-true c 32 f)) refl
    by false f true g e = subst (λ x. is_line_terminator x ≡ false) (sym (eqb-true c 9 g)) refl
    by false f false g e = absurd (false≢true e)

none_in_blanks : (w : List ℕ) → list_all is_blank w ≡ true → has_line_end w ≡ false
none_in_blanks [] e = refl
none_in_blanks (c ∷ w) e =
    let h = and_parts (is_blank c) (list_all is_blank w) e in
    or_from (is_line_terminator c) (has_line_end w) (blank_is_none c h.0) (none_in_blanks w h.1)

-- indentation and what is printed of a line
none_in_line : (w l : List ℕ) → list_all is_blank w ≡ true → has_line_end l ≡ false → has_line_end (w ++ tag_free (skip_leading_whitespace l)) ≡ false
none_in_line w l e f = none_in_both w (tag_free (skip_leading_whitespace l)) (none_in_blanks w e) (same_ends false (skip_leading_whitespace l) ∙ none_in_skipped l f)

-- ---- a text is cut at its ends

cut : (a rest : List ℕ) → has_line_end a ≡ false → lines_of (a ++ (10 ∷ rest)) ≡ a ∷ lines_of rest
cut [] rest e = refl
cut (c ∷ a) rest e =
    let k = or_parts (is_line_terminator c) (has_line_end a) e in
    ap (λ b. if b then [] ∷ lines_behind (c == 13) (a ++ (10 ∷ rest)) else onto c (lines_of (a ++ (10 ∷ rest)))) k.0 ∙ ap (onto c) (cut a rest k.1)

uncut : (a : List ℕ) → is_end a ≡ false → has_line_end a ≡ false → lines_of a ≡ a ∷ []
uncut [] n e = absurd (false≢true (sym n))
uncut (c ∷ []) n e = ap (λ b. if b then [] ∷ [] else onto c []) (or_parts (is_line_terminator c) false e).0
uncut (c ∷ d ∷ a) n e =
    let k = or_parts (is_line_terminator c) (has_line_end (d ∷ a)) e in
    ap (λ b. if b then [] ∷ lines_behind (c == 13) (d ∷ a) else onto c (lines_of (d ∷ a))) k.0 ∙ ap (onto c) (uncut (d ∷ a) refl k.1)

-- ---- without white space at the start

skips_blanks : (w t : List ℕ) → list_all is_blank w ≡ true → skip_leading_whitespace (w ++ t) ≡ skip_leading_whitespace t
skips_blanks [] t e = refl
skips_blanks (c ∷ w) t e =
    let h = and_parts (is_blank c) (list_all is_blank w) e in
    ap (λ b. cond b (skip_leading_whitespace (w ++ t)) (c ∷ (w ++ t))) (blank_is_white c h.0) ∙ skips_blanks w t h.1

skips_none : (l : List ℕ) → skip_leading_whitespace (tag_free (skip_leading_whitespace l)) ≡ tag_free (skip_leading_whitespace l)
unfolding tag_free_after
skips_none [] = refl
skips_none (c ∷ cs) = by (is_whitespace c) refl (skips_none cs)
  where
    by : (b : Bool) → is_whitespace c ≡ b → skip_leading_whitespace (tag_free (skip_leading_whitespace cs)) ≡ tag_free (skip_leading_whitespace cs) → skip_leading_whitespace (tag_free (cond b (skip_leading_whitespace cs) (c ∷ cs))) ≡ tag_free (cond b (skip_leading_whitespace cs) (c ∷ cs))
    by true e rest = rest
    by false e rest = ap (λ b. cond b (skip_leading_whitespace (tag_free_after (c == 60) cs)) (c ∷ tag_free_after (c == 60) cs)) e

bare : (w l : List ℕ) → list_all is_blank w ≡ true → skip_leading_whitespace (w ++ tag_free (skip_leading_whitespace l)) ≡ tag_free (skip_leading_whitespace l)
bare w l e = skips_blanks w (tag_free (skip_leading_whitespace l)) e ∙ skips_none l

-- ---- line by line

-- a line that others follow
inner_line : (l text : List ℕ) (ls : List (List ℕ)) (h : AsLine l text (λ rest. AsLines ls rest)) → closes_block l ≡ false → has_line_end l ≡ false → bare_lines text ≡ tag_free (skip_leading_whitespace l) ∷ bare_lines h.rest
inner_line l text ls h e f =
    let own = tag_free (skip_leading_whitespace l) in
    ap bare_lines (h.is ∙ (ap (λ t. h.indentation ++ (own ++ (t ++ h.rest))) (line_end_if (closes_block l) e) ∙ sym (append_assoc h.indentation own (10 ∷ h.rest)))) ∙
    (ap (λ ls. map skip_leading_whitespace ls) (cut (h.indentation ++ own) h.rest (none_in_line h.indentation l h.blank f)) ∙
    ap (λ t. t ∷ bare_lines h.rest) (bare h.indentation l h.blank))

last_line : (l text : List ℕ) (h : AsLine l text (λ rest. AsLines [] rest)) → closes_block l ≡ true → has_line_end l ≡ false → is_end text ≡ false → bare_lines text ≡ tag_free (skip_leading_whitespace l) ∷ []
last_line l text h e f n =
    let own = tag_free (skip_leading_whitespace l) in
    let is = h.is ∙ (ap (λ t. h.indentation ++ (own ++ t)) (ap (λ t. t ++ h.rest) (no_line_end_if (closes_block l) e) ∙ h.others) ∙ ap (λ t. h.indentation ++ t) (append-nil own)) in
    ap bare_lines is ∙
    (ap (λ ls. map skip_leading_whitespace ls) (uncut (h.indentation ++ own) (ap is_end (sym is) ∙ n) (none_in_line h.indentation l h.blank f)) ∙
    ap (λ t. t ∷ []) (bare h.indentation l h.blank))

scan_is_some : (text : List ℕ) → scan false text ≡ true → is_end text ≡ false
scan_is_some [] e = absurd (false≢true e)
scan_is_some (c ∷ cs) e = refl

block_is_some : (text : List ℕ) → begins_with_mark (codes "/*") ends_at_close text ≡ true → is_end text ≡ false
block_is_some [] e = absurd (false≢true e)
block_is_some (c ∷ cs) e = refl

later_bare : (ls : List (List ℕ)) (text : List ℕ) → AsLines ls text → lines_close false ls ≡ true → NoEnds ls → bare_lines text ≡ map tag_free (map skip_leading_whitespace ls)
later_bare [] text h e n = absurd (false≢true e)
later_bare (l ∷ []) text h e n = last_line l text h (closing_line l e) n.0 (scan_is_some text (later_lines (l ∷ []) text h e))
later_bare (l ∷ m ∷ ls) text h e n =
    let k = and_parts (passes false l) (lines_close false (m ∷ ls)) e in
    inner_line l text (m ∷ ls) h (passing_is_open false l k.0) n.0 ∙ ap (λ t. tag_free (skip_leading_whitespace l) ∷ t) (later_bare (m ∷ ls) h.rest h.others k.1 n.1)

-- behind `/*`
bare_by_lines : (ls : List (List ℕ)) (text : List ℕ) → AsLines (onto 47 (onto 42 ls)) text → lines_close false ls ≡ true → NoEnds (onto 47 (onto 42 ls)) → begins_closed (onto 47 (onto 42 ls)) ≡ false → bare_lines text ≡ map tag_free (map skip_leading_whitespace (onto 47 (onto 42 ls)))
bare_by_lines [] text h e n o = absurd (false≢true e)
bare_by_lines (k ∷ []) text h e n o = last_line (47 ∷ 42 ∷ k) text h (closing_block k e) n.0 (block_is_some text (by_lines (k ∷ []) text h e))
bare_by_lines (k ∷ m ∷ ls) text h e n o =
    let p = and_parts (passes false k) (lines_close false (m ∷ ls)) e in
    let open_line = false_from_ne_true (closes_block (47 ∷ 42 ∷ k)) (λ c. both_ways (begins_closed ((47 ∷ 42 ∷ k) ∷ m ∷ ls)) o (subst (λ x. begins_closed ((47 ∷ 42 ∷ x) ∷ m ∷ ls) ≡ true) (sym (only_slash k p.0 c)) refl)) in
    inner_line (47 ∷ 42 ∷ k) text (m ∷ ls) h open_line n.0 ∙ ap (λ t. tag_free (skip_leading_whitespace (47 ∷ 42 ∷ k)) ∷ t) (later_bare (m ∷ ls) h.rest h.others p.1 n.1)

-- of the source
pub block_is_bare : (rest text : List ℕ) → AsLines (lines_of (codes "/*" ++ rest)) text → ends_at_close rest ≡ true → begins_closed (lines_of (codes "/*" ++ rest)) ≡ false → bare_lines text ≡ map tag_free (bare_lines (codes "/*" ++ rest))
block_is_bare rest text h e o = bare_by_lines (lines_of rest) text h (close_in_lines false false rest refl (sym (scanned rest) ∙ e)) (none_in_lines false (codes "/*" ++ rest)) o

-- ---- so it has several lines still

abbrev are_several : List (List ℕ) → Bool
are_several (l ∷ m ∷ ls) = true
are_several ls = false

several_mapped : (f : List ℕ → List ℕ) (ls : List (List ℕ)) → are_several (map f ls) ≡ are_several ls
several_mapped f [] = refl
several_mapped f (l ∷ []) = refl
several_mapped f (l ∷ m ∷ ls) = refl

several_onto : (c : ℕ) (ls : List (List ℕ)) → are_several ls ≡ true → are_several (onto c ls) ≡ true
several_onto c [] e = absurd (false≢true e)
several_onto c (l ∷ []) e = absurd (false≢true e)
several_onto c (l ∷ m ∷ ls) e = refl

-- a line's end, behind which the last line closes
several_behind : (ls : List (List ℕ)) → lines_close false ls ≡ true → are_several ([] ∷ ls) ≡ true
several_behind [] e = absurd (false≢true e)
several_behind (l ∷ ls) e = refl

none_at_end : (cs : List ℕ) → is_end cs ≡ true → has_line_end cs ≡ false
none_at_end [] e = refl
none_at_end (c ∷ cs) e = absurd (false≢true e)

several : (star : Bool) (cs : List ℕ) → scan star cs ≡ true → has_line_end cs ≡ true → are_several (lines_of cs) ≡ true
several star [] h e = absurd (false≢true e)
several star (c ∷ cs) h e = by h (is_line_terminator c) refl e (star && (c == 47)) h (several (c == 42) cs)
  where
    by : scan star (c ∷ cs) ≡ true → (y : Bool) → is_line_terminator c ≡ y → (y || has_line_end cs) ≡ true → (x : Bool) → (if x then is_end cs else scan (c == 42) cs) ≡ true → (scan (c == 42) cs ≡ true → has_line_end cs ≡ true → are_several (lines_of cs) ≡ true) → are_several (if y then [] ∷ lines_behind (c == 13) cs else onto c (lines_of cs)) ≡ true
    by whole true f e x h rest = several_behind (lines_behind (c == 13) cs) (close_in_lines (c == 13) false cs (and_right (c == 13) false refl) (sym (end_is_none star c cs f) ∙ whole))
    by whole false f e true h rest = absurd (both_ways (has_line_end cs) (none_at_end cs h) e)
    by whole false f e false h rest = several_onto c (lines_of cs) (rest h e)

-- of the source
pub block_has_end : (rest text : List ℕ) → AsLines (lines_of (codes "/*" ++ rest)) text → ends_at_close rest ≡ true → has_line_end rest ≡ true → begins_closed (lines_of (codes "/*" ++ rest)) ≡ false → has_line_end text ≡ true
block_has_end rest text h e f o = true_from_ne_false (has_line_end text) (λ n. both_ways (are_several (bare_lines text)) (one n) more)
  where
    lines : are_several (lines_of (codes "/*" ++ rest)) ≡ true
    lines = several_onto 47 (onto 42 (lines_of rest)) (several_onto 42 (lines_of rest) (several false rest (sym (scanned rest) ∙ e) f))

    more : are_several (bare_lines text) ≡ true
    more =
        ap are_several (block_is_bare rest text h e o) ∙
        (several_mapped tag_free (bare_lines (codes "/*" ++ rest)) ∙ (several_mapped skip_leading_whitespace (lines_of (codes "/*" ++ rest)) ∙ lines))

    some : is_end text ≡ false
    some = block_is_some text (by_lines (lines_of rest) text h (close_in_lines false false rest refl (sym (scanned rest) ∙ e)))

    one : has_line_end text ≡ false → are_several (bare_lines text) ≡ false
    one n = ap (λ ls. are_several (map skip_leading_whitespace ls)) (uncut text some n)
