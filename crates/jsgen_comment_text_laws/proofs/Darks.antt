-- What isn't white in a block as it is printed is what isn't white in the block.
use Rattle.std.proofs.Common.{cond, ◌≡◌, ℕ, Bool, true, false, not, ◌&&◌, ◌||◌, ◌==◌, List, [], ◌∷◌, ◌++◌, codes, length, take, if◌then◌else◌, refl, ap, sym, subst, ◌∙◌, append_assoc, append-nil, arith}
use Rattle.std.specs.Char.{is_whitespace, is_not_whitespace, to_ascii_lowercase}
use Rattle.std.specs.List.{list_all}
use Rattle.std.specs.Str.{skip_leading_whitespace, str_eq_ignore_ascii_case}
use Rattle.std.proofs.lemmas.Bool.{false≢true, both_ways, and_parts, eqb-true, not-true, and_right, false_from_ne_true}
use Rattle.std.proofs.lemmas.Bool.Decides.{nat_tests}
use Rattle.std.proofs.lemmas.List.Elements.{filter-append}
use Rattle.jsgen_syntax.specs.Strings.{begins_script}
use Rattle.jsgen_syntax.specs.Raw.{tag_character, tag_free, tag_free_after}
use Rattle.jsgen_model.specs.LineEnds.{is_line_terminator}
use Rattle.jsgen_model.specs.Groups.{closes_block, onto, lines_behind, lines_of}
use Rattle.jsgen_model.specs.Layout.{text_if}
use Rattle.jsgen_comment_text_laws.specs.Law.{dark_of}
use Rattle.jsgen_comment_text_laws.proofs.Lines.{is_blank, AsLines}

-- ---- characters

pub terminator_is_white : (c : ℕ) → is_line_terminator c ≡ true → is_whitespace c ≡ true
terminator_is_white c e = grind (arith, nat_tests)

pub blank_is_white : (c : ℕ) → is_blank c ≡ true → is_whitespace c ≡ true
blank_is_white c e = by (c == 32) refl (c == 9) refl e
  where
    by : (a : Bool) → (c == 32) ≡ a → (b : Bool) → (c == 9) ≡ b → not (not (a || b)) ≡ true → is_whitespace c ≡ true
    by true f b g e = subst (λ x. is_whitespace x ≡ true) (sym (eqb-true c 32 f)) refl
    by false f true g e = subst (λ x. is_whitespace x ≡ true) (sym (eqb-true c 9 g)) refl
    by false f false g e = absurd (false≢true e)

-- white characters have no part
pub without_white : (c : ℕ) (cs : List ℕ) → is_whitespace c ≡ true → dark_of (c ∷ cs) ≡ dark_of cs
without_white c cs e = ap (λ b. cond (not b) (c ∷ dark_of cs) (dark_of cs)) e

dark_blanks : (cs : List ℕ) → list_all is_blank cs ≡ true → dark_of cs ≡ []
dark_blanks [] e = refl
dark_blanks (c ∷ cs) e =
    let h = and_parts (is_blank c) (list_all is_blank cs) e in
    without_white c cs (blank_is_white c h.0) ∙ dark_blanks cs h.1

pub dark_both : (a b : List ℕ) → dark_of (a ++ b) ≡ dark_of a ++ dark_of b
dark_both a b = filter-append is_not_whitespace a b

-- ---- `</script` ends at a line's end

abbrev begins_word : List ℕ → List ℕ → Bool
begins_word word text = str_eq_ignore_ascii_case (take (length word) text) word

-- a line's end has no part in the word
abbrev is_apart : ℕ → Bool
is_apart d = not (10 == to_ascii_lowercase d) && not (13 == to_ascii_lowercase d) && not (8232 == to_ascii_lowercase d) && not (8233 == to_ascii_lowercase d)

no_letter : (c d : ℕ) → is_line_terminator c ≡ true → is_apart d ≡ true → (to_ascii_lowercase c == to_ascii_lowercase d) ≡ false
no_letter c d e k = by (c == 10) refl (c == 13) refl (c == 8232) refl (c == 8233) refl e
  where
    parts : (((10 == to_ascii_lowercase d) ≡ false) × ((13 == to_ascii_lowercase d) ≡ false)) × (((8232 == to_ascii_lowercase d) ≡ false) × ((8233 == to_ascii_lowercase d) ≡ false))
    parts =
        let a = and_parts (not (10 == to_ascii_lowercase d) && not (13 == to_ascii_lowercase d) && not (8232 == to_ascii_lowercase d)) (not (8233 == to_ascii_lowercase d)) k in
        let b = and_parts (not (10 == to_ascii_lowercase d) && not (13 == to_ascii_lowercase d)) (not (8232 == to_ascii_lowercase d)) a.0 in
        let w = and_parts (not (10 == to_ascii_lowercase d)) (not (13 == to_ascii_lowercase d)) b.0 in
        ((not-true _ w.0, not-true _ w.1), (not-true _ b.1, not-true _ a.1))

    is : (n : ℕ) → (c == n) ≡ true → (to_ascii_lowercase n == to_ascii_lowercase d) ≡ false → (to_ascii_lowercase c == to_ascii_lowercase d) ≡ false
    is n f h = subst (λ x. (to_ascii_lowercase x == to_ascii_lowercase d) ≡ false) (sym (eqb-true c n f)) h

    by : (x : Bool) → (c == 10) ≡ x → (y : Bool) → (c == 13) ≡ y → (z : Bool) → (c == 8232) ≡ z → (w : Bool) → (c == 8233) ≡ w → (x || y || z || w) ≡ true → (to_ascii_lowercase c == to_ascii_lowercase d) ≡ false
    by true f y g z h w i e = is 10 f parts.0.0
    by false f true g z h w i e = is 13 g parts.0.1
    by false f false g true h w i e = is 8232 h parts.1.0
    by false f false g false h true i e = is 8233 i parts.1.1
    by false f false g false h false i e = absurd (false≢true e)

-- the first line
abbrev first_line : List (List ℕ) → List ℕ
first_line [] = []
first_line (l ∷ ls) = l

first_of_onto : (c : ℕ) (ls : List (List ℕ)) → first_line (onto c ls) ≡ c ∷ first_line ls
first_of_onto c [] = refl
first_of_onto c (l ∷ ls) = refl

word_in_line : (word : List ℕ) → list_all is_apart word ≡ true → (cs : List ℕ) → begins_word word (first_line (lines_behind false cs)) ≡ begins_word word cs
word_in_line [] k cs = refl
word_in_line (d ∷ word) k [] = refl
word_in_line (d ∷ word) k (c ∷ cs) =
    let apart = and_parts (is_apart d) (list_all is_apart word) k in
    by (is_line_terminator c) refl apart.0 (word_in_line word apart.1 cs)
  where
    by : (b : Bool) → is_line_terminator c ≡ b → is_apart d ≡ true → begins_word word (first_line (lines_behind false cs)) ≡ begins_word word cs → begins_word (d ∷ word) (first_line (if b then [] ∷ lines_behind (c == 13) cs else onto c (lines_behind false cs))) ≡ begins_word (d ∷ word) (c ∷ cs)
    by true e apart rest = sym (ap (λ b. b && begins_word word cs) (no_letter c d e apart))
    by false e apart rest = ap (begins_word (d ∷ word)) (first_of_onto c (lines_behind false cs)) ∙ ap (λ b. (to_ascii_lowercase c == to_ascii_lowercase d) && b) rest

script_in_line : (cs : List ℕ) → begins_script (first_line (lines_behind false cs)) ≡ begins_script cs
script_in_line cs = word_in_line (codes "script") refl cs

-- ---- all lines

-- what isn't white in lines, of which the first may stand behind a `<`
abbrev darks_after : Bool → List (List ℕ) → List ℕ
darks_after after_less [] = []
darks_after after_less (l ∷ ls) = dark_of (tag_free_after after_less l) ++ darks_after false ls

-- a line's end is white, and nothing is put in before it or behind it
end_is_white : (c : ℕ) (b : Bool) (cs : List ℕ) → is_line_terminator c ≡ true → dark_of (tag_free_after b (c ∷ cs)) ≡ dark_of (tag_free_after false cs)
unfolding tag_free_after
end_is_white c b cs e = by (c == 10) refl (c == 13) refl (c == 8232) refl (c == 8233) refl e
  where
    at : (b : Bool) → (dark_of (tag_free_after b (10 ∷ cs)) ≡ dark_of (tag_free_after false cs)) × (dark_of (tag_free_after b (13 ∷ cs)) ≡ dark_of (tag_free_after false cs)) × (dark_of (tag_free_after b (8232 ∷ cs)) ≡ dark_of (tag_free_after false cs)) × (dark_of (tag_free_after b (8233 ∷ cs)) ≡ dark_of (tag_free_after false cs))
    at true = (refl, refl, refl, refl)
    at false = (refl, refl, refl, refl)

    is : (n : ℕ) → (c == n) ≡ true → dark_of (tag_free_after b (n ∷ cs)) ≡ dark_of (tag_free_after false cs) → dark_of (tag_free_after b (c ∷ cs)) ≡ dark_of (tag_free_after false cs)
    is n f h = subst (λ x. dark_of (tag_free_after b (x ∷ cs)) ≡ dark_of (tag_free_after false cs)) (sym (eqb-true c n f)) h

    by : (x : Bool) → (c == 10) ≡ x → (y : Bool) → (c == 13) ≡ y → (z : Bool) → (c == 8232) ≡ z → (w : Bool) → (c == 8233) ≡ w → (x || y || z || w) ≡ true → dark_of (tag_free_after b (c ∷ cs)) ≡ dark_of (tag_free_after false cs)
    by true f y g z h w i e = is 10 f (at b).0
    by false f true g z h w i e = is 13 g (at b).1
    by false f false g true h w i e = is 8232 h (at b).2
    by false f false g false h true i e = is 8233 i (at b).3
    by false f false g false h false i e = absurd (false≢true e)

darks_of_onto : (after_less : Bool) (c : ℕ) (ls : List (List ℕ)) → darks_after after_less (onto c ls) ≡ dark_of (tag_character after_less c (first_line ls)) ++ darks_after (c == 60) ls
unfolding tag_free_after
darks_of_onto after_less c [] = ap (λ t. dark_of t ++ []) (append-nil (tag_character after_less c []))
darks_of_onto after_less c (l ∷ ls) =
    ap (λ t. t ++ darks_after false ls) (dark_both (tag_character after_less c l) (tag_free_after (c == 60) l)) ∙
    append_assoc (dark_of (tag_character after_less c l)) (dark_of (tag_free_after (c == 60) l)) (darks_after false ls)

-- behind a carriage return stands no `<`
darks_of_lines : (returned after_less : Bool) (cs : List ℕ) → (returned && after_less) ≡ false → darks_after after_less (lines_behind returned cs) ≡ dark_of (tag_free_after after_less cs)
unfolding tag_free_after
darks_of_lines returned after_less [] n = refl
darks_of_lines returned after_less (c ∷ cs) n = by returned after_less n (c == 10) refl (is_line_terminator c) refl (λ r b. darks_of_lines r b cs)
  where
    Goal : Bool → Bool → Bool → Bool → Type 0
    Goal r b x y = darks_after b (if r && x then lines_behind false cs else (if y then [] ∷ lines_behind (c == 13) cs else onto c (lines_behind false cs))) ≡ dark_of (tag_free_after b (c ∷ cs))

    others : (b y : Bool) → is_line_terminator c ≡ y → ((r b : Bool) → (r && b) ≡ false → darks_after b (lines_behind r cs) ≡ dark_of (tag_free_after b cs)) → darks_after b (if y then [] ∷ lines_behind (c == 13) cs else onto c (lines_behind false cs)) ≡ dark_of (tag_free_after b (c ∷ cs))
    others b true e rest = rest (c == 13) false (and_right (c == 13) false refl) ∙ sym (end_is_white c b cs e)
    others b false e rest =
        darks_of_onto b c (lines_behind false cs) ∙
        (ap (λ s. dark_of (if b && (c == 47) && s then 92 ∷ c ∷ [] else c ∷ []) ++ darks_after (c == 60) (lines_behind false cs)) (script_in_line cs) ∙
        (ap (λ t. dark_of (tag_character b c cs) ++ t) (rest false (c == 60) refl) ∙
        sym (dark_both (tag_character b c cs) (tag_free_after (c == 60) cs))))

    by : (r b : Bool) → (r && b) ≡ false → (x : Bool) → (c == 10) ≡ x → (y : Bool) → is_line_terminator c ≡ y → ((r b : Bool) → (r && b) ≡ false → darks_after b (lines_behind r cs) ≡ dark_of (tag_free_after b cs)) → Goal r b x y
    by false b n x e y f rest = others b y f rest
    by true b n false e y f rest = others b y f rest
    by true true n true e y f rest = absurd (false≢true (sym n))
    by true false n true e y f rest = rest false false refl ∙ sym (end_is_white c false cs (ap (λ v. v || (c == 13) || (c == 8232) || (c == 8233)) e))

-- ---- what is printed

no_less : (c : ℕ) → is_whitespace c ≡ true → (c == 60) ≡ false
no_less c e = false_from_ne_true (c == 60) (λ f. both_ways (is_whitespace c) (subst (λ x. is_whitespace x ≡ false) (sym (eqb-true c 60 f)) refl) e)

darks_of_skipped : (l : List ℕ) → dark_of (tag_free (skip_leading_whitespace l)) ≡ dark_of (tag_free l)
unfolding tag_free_after
darks_of_skipped [] = refl
darks_of_skipped (c ∷ cs) = by (is_whitespace c) refl (darks_of_skipped cs)
  where
    by : (b : Bool) → is_whitespace c ≡ b → dark_of (tag_free (skip_leading_whitespace cs)) ≡ dark_of (tag_free cs) → dark_of (tag_free (cond b (skip_leading_whitespace cs) (c ∷ cs))) ≡ dark_of (tag_free (c ∷ cs))
    by true e rest = rest ∙ sym (ap (λ b. dark_of (c ∷ tag_free_after b cs)) (no_less c e) ∙ without_white c (tag_free cs) e)
    by false e rest = refl

no_darks : (b : Bool) → dark_of (text_if b (codes "\n")) ≡ []
no_darks true = refl
no_darks false = refl

darks_printed : (ls : List (List ℕ)) (text : List ℕ) → AsLines ls text → dark_of text ≡ darks_after false ls
darks_printed [] text h = ap dark_of h
darks_printed (l ∷ ls) text h =
    let own = tag_free (skip_leading_whitespace l) in
    let end = text_if (not (closes_block l)) (codes "\n") in
    ap dark_of h.is ∙
    (dark_both h.indentation (own ++ (end ++ h.rest)) ∙
    (ap (λ t. t ++ dark_of (own ++ (end ++ h.rest))) (dark_blanks h.indentation h.blank) ∙
    (dark_both own (end ++ h.rest) ∙
    (ap (λ t. t ++ dark_of (end ++ h.rest)) (darks_of_skipped l) ∙
    ap (λ t. dark_of (tag_free l) ++ t) (dark_both end h.rest ∙ (ap (λ t. t ++ dark_of h.rest) (no_darks (not (closes_block l))) ∙ darks_printed ls h.rest h.others))))))

pub darks_of_block : (t text : List ℕ) → AsLines (lines_of t) text → dark_of text ≡ dark_of (tag_free t)
darks_of_block t text h = darks_printed (lines_of t) text h ∙ darks_of_lines false false t refl
