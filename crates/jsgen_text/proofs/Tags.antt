-- Backslashes before the `/` of `</script`: without them the text is as it was, and with them no `</script` stands in it.
use Rattle.std.proofs.Common.{◌≡◌, ℕ, ◌<◌, Bool, true, false, not, ◌&&◌, ◌==◌, List, [], ◌∷◌, ◌++◌, codes, length, take, if◌then◌else◌, refl, sym, ap, ◌∙◌, subst, arith}
use Rattle.std.specs.Char.{to_ascii_lowercase}
use Rattle.std.specs.List.{list_all}
use Rattle.std.specs.Str.{str_eq_ignore_ascii_case}
use Rattle.std.proofs.lemmas.Bool.{both_ways, and_parts, and_from, or_from, not-true, eqb-true, false_from_ne_true}
use Rattle.std.proofs.lemmas.Bool.Decides.{nat_tests}
use Rattle.jsgen_syntax.specs.Strings.{begins_script}
use Rattle.jsgen_syntax.specs.Raw.{tag_free, tag_free_after, put_in, put_in_after, unmarked, begins_close_tag, holds_close_tag}

-- ---- without the backslashes

taken_out_after : (after_less : Bool) (cs : List ℕ) → unmarked (put_in_after after_less cs) (tag_free_after after_less cs) ≡ cs
unfolding put_in_after tag_free_after unmarked
taken_out_after after_less [] = refl
taken_out_after after_less (c ∷ cs) = by (after_less && (c == 47) && begins_script cs) ∙ ap (λ t. c ∷ t) (taken_out_after (c == 60) cs)
  where
    by : (b : Bool) → unmarked ((if b then true ∷ false ∷ [] else false ∷ []) ++ put_in_after (c == 60) cs) ((if b then 92 ∷ c ∷ [] else c ∷ []) ++ tag_free_after (c == 60) cs) ≡ c ∷ unmarked (put_in_after (c == 60) cs) (tag_free_after (c == 60) cs)
    by true = refl
    by false = refl

pub taken_out : (text : List ℕ) → unmarked (put_in text) (tag_free text) ≡ text
taken_out text = taken_out_after false text

-- ---- no `</script`

-- the text begins with the word, in any letter case
abbrev begins_word : List ℕ → List ℕ → Bool
begins_word word text = str_eq_ignore_ascii_case (take (length word) text) word

-- a character that is no letter has one case
one_case : (c d : ℕ) → d < 65 → (to_ascii_lowercase c == d) ≡ true → (c == d) ≡ true
one_case c d l h = grind (arith, nat_tests)

-- a word without a backslash stood there before
stood_before : (word : List ℕ) → list_all (λ d. not (92 == to_ascii_lowercase d)) word ≡ true → (after_less : Bool) (cs : List ℕ) → begins_word word (tag_free_after after_less cs) ≡ true → begins_word word cs ≡ true
unfolding tag_free_after
stood_before [] k after_less cs h = refl
stood_before (d ∷ word) k after_less [] h = h
stood_before (d ∷ word) k after_less (c ∷ cs) h =
    let apart = and_parts (not (92 == to_ascii_lowercase d)) (list_all (λ x. not (92 == to_ascii_lowercase x)) word) k in
    by (after_less && (c == 47) && begins_script cs) (not-true (92 == to_ascii_lowercase d) apart.0) (stood_before word apart.1 (c == 60) cs) h
  where
    by : (b : Bool) → (92 == to_ascii_lowercase d) ≡ false → (begins_word word (tag_free_after (c == 60) cs) ≡ true → begins_word word cs ≡ true) → begins_word (d ∷ word) ((if b then 92 ∷ c ∷ [] else c ∷ []) ++ tag_free_after (c == 60) cs) ≡ true → begins_word (d ∷ word) (c ∷ cs) ≡ true
    by true n f e = absurd (both_ways (92 == to_ascii_lowercase d) n (and_parts (92 == to_ascii_lowercase d) _ e).0)
    by false n f e =
        let is = and_parts (to_ascii_lowercase c == to_ascii_lowercase d) (begins_word word (tag_free_after (c == 60) cs)) e in
        and_from (to_ascii_lowercase c == to_ascii_lowercase d) (begins_word word cs) is.0 (f is.1)

-- behind a `<` no text goes on so
behind_less : (cs : List ℕ) → begins_word (codes "/script") (tag_free_after true cs) ≡ false
unfolding tag_free_after
behind_less [] = refl
behind_less (c ∷ cs) = by ((c == 47) && begins_script cs) refl
  where
    by : (b : Bool) → ((c == 47) && begins_script cs) ≡ b → begins_word (codes "/script") ((if b then 92 ∷ c ∷ [] else c ∷ []) ++ tag_free_after (c == 60) cs) ≡ false
    by true e = refl
    by false e = false_from_ne_true _ (λ h.
        let is = and_parts (to_ascii_lowercase c == 47) (begins_word (codes "script") (tag_free_after (c == 60) cs)) h in
        both_ways _ e (and_from (c == 47) (begins_script cs) (one_case c 47 (omega arith) is.0) (stood_before (codes "script") refl (c == 60) cs is.1)))

no_tag_here : (c : ℕ) (cs : List ℕ) → begins_close_tag (c ∷ tag_free_after (c == 60) cs) ≡ false
no_tag_here c cs = false_from_ne_true _ (λ h.
    let is = and_parts (to_ascii_lowercase c == 60) (begins_word (codes "/script") (tag_free_after (c == 60) cs)) h in
    both_ways _ (behind_less cs) (subst (λ b. begins_word (codes "/script") (tag_free_after b cs) ≡ true) (one_case c 60 (omega arith) is.0) is.1))

no_tag_after : (after_less : Bool) (cs : List ℕ) → holds_close_tag (tag_free_after after_less cs) ≡ false
unfolding tag_free_after holds_close_tag
no_tag_after after_less [] = refl
no_tag_after after_less (c ∷ cs) = by (after_less && (c == 47) && begins_script cs) refl (no_tag_after (c == 60) cs)
  where
    by : (b : Bool) → (after_less && (c == 47) && begins_script cs) ≡ b → holds_close_tag (tag_free_after (c == 60) cs) ≡ false → holds_close_tag ((if b then 92 ∷ c ∷ [] else c ∷ []) ++ tag_free_after (c == 60) cs) ≡ false
    by true e h =
        let slash = and_parts after_less (c == 47) (and_parts (after_less && (c == 47)) (begins_script cs) e).0 in
        subst (λ x. holds_close_tag (92 ∷ x ∷ tag_free_after (c == 60) cs) ≡ false) (sym (eqb-true c 47 slash.1)) h
    by false e h = or_from (begins_close_tag (c ∷ tag_free_after (c == 60) cs)) (holds_close_tag (tag_free_after (c == 60) cs)) (no_tag_here c cs) h

pub no_tag : (text : List ℕ) → holds_close_tag (tag_free text) ≡ false
no_tag text = no_tag_after false text
