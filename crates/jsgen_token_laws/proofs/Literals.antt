-- The texts of numbers in trees: whole numbers, raw ones and big integers.
use Rattle.std.proofs.Common.{◌≡◌, ℕ, true, false, not, ◌&&◌, ◌==◌, Option, Some, None, List, [], ◌∷◌, ◌++◌, codes, refl, ap}
use Rattle.std.specs.Char.{is_ascii_digit}
use Rattle.std.specs.List.{list_all, list_any, last_or}
use Rattle.std.specs.Option.{option_map_or}
use Rattle.std.proofs.lemmas.Bool.{both_ways, and_from, and_parts, false_from_ne_true, not-true, or_from, or_parts}
use Rattle.jsgen_syntax.specs.Escapes.{begins}
use Rattle.jsgen_model.specs.Numbers.{spells_number, spells_whole, ends_in, is_raw_number}
use Rattle.jsgen_model.proofs.NumberRuns.{whole_number}
use Rattle.jsgen_token_laws.proofs.Characters.{found_passes, whole_digits, last_behind}

-- ---- whole numbers

-- digits don't end in a character that is none
digit_elsewhere : (cs : List ℕ) (c : ℕ) → list_all (λ d. not (is_ascii_digit d)) cs ≡ true → is_ascii_digit c ≡ true → list_any (λ d. c == d) cs ≡ false
digit_elsewhere cs c n h = false_from_ne_true (list_any (λ d. c == d) cs) (λ e. both_ways (is_ascii_digit c) (not-true (is_ascii_digit c) (found_passes (λ d. not (is_ascii_digit d)) c cs n e)) h)

digits_end : (cs : List ℕ) → list_all (λ d. not (is_ascii_digit d)) cs ≡ true → (o : Option ℕ) (c : ℕ) (w : List ℕ) → list_all is_ascii_digit (c ∷ w) ≡ true → option_map_or (λ x. list_any (λ d. x == d) cs) (last_or o (c ∷ w)) false ≡ false
digits_end cs n o c [] h = digit_elsewhere cs c n (and_parts (is_ascii_digit c) true h).0
digits_end cs n o c (d ∷ w) h = digits_end cs n (Some c) d w (and_parts (is_ascii_digit c) (list_all is_ascii_digit (d ∷ w)) h).1

whole_ends : (cs : List ℕ) → list_all (λ d. not (is_ascii_digit d)) cs ≡ true → (w : List ℕ) → spells_whole w ≡ true → ends_in cs w ≡ false
whole_ends cs n [] h = refl
whole_ends cs n (c ∷ w) h = digits_end cs n None c w (whole_digits (c ∷ w) h)

pub whole_begins : (w : List ℕ) → spells_whole w ≡ true → begins is_ascii_digit w ≡ true
whole_begins [] h = absurd (both_ways false refl h)
whole_begins (c ∷ w) h = (and_parts (is_ascii_digit c) (list_all is_ascii_digit w) (whole_digits (c ∷ w) h)).0

pub whole_no_dot : (w : List ℕ) → spells_whole w ≡ true → ends_in (codes ".") w ≡ false
whole_no_dot w h = whole_ends (codes ".") refl w h

pub whole_no_suffix : (w : List ℕ) → spells_whole w ≡ true → ends_in (codes "n") w ≡ false
whole_no_suffix w h = whole_ends (codes "n") refl w h

-- a whole number is a raw one
pub whole_raw : (w : List ℕ) → spells_whole w ≡ true → is_raw_number w ≡ true
unfolding is_raw_number
whole_raw w h = and_from _ (spells_number w) (and_from (begins is_ascii_digit w) _ (whole_begins w h) (ap not (whole_ends (codes ".n") refl w h))) (whole_number w h)

-- ---- with a suffix

pub big_begins : (w : List ℕ) → spells_whole w ≡ true → begins is_ascii_digit (w ++ codes "n") ≡ true
big_begins [] h = absurd (both_ways false refl h)
big_begins (c ∷ w) h = whole_begins (c ∷ w) h

pub big_no_dot : (w : List ℕ) → ends_in (codes ".") (w ++ codes "n") ≡ false
big_no_dot w = ap (λ o. option_map_or (λ x. list_any (λ d. x == d) (codes ".")) o false) (last_behind None w (codes "n"))

pub big_suffix : (w : List ℕ) → ends_in (codes "n") (w ++ codes "n") ≡ true
big_suffix w = ap (λ o. option_map_or (λ x. list_any (λ d. x == d) (codes "n")) o false) (last_behind None w (codes "n"))

-- ---- raw numbers

no_dot_in : (o : Option ℕ) → option_map_or (λ x. list_any (λ d. x == d) (codes ".n")) o false ≡ false → option_map_or (λ x. list_any (λ d. x == d) (codes ".")) o false ≡ false
no_dot_in None h = refl
no_dot_in (Some c) h = or_from (c == 46) false (or_parts (c == 46) _ h).0 refl

pub raw_parts : (w : List ℕ) → is_raw_number w ≡ true → (begins is_ascii_digit w ≡ true) × (ends_in (codes ".") w ≡ false) × (spells_number w ≡ true)
unfolding is_raw_number
raw_parts w h =
    let k = and_parts (begins is_ascii_digit w && not (ends_in (codes ".n") w)) (spells_number w) h in
    let j = and_parts (begins is_ascii_digit w) (not (ends_in (codes ".n") w)) k.0 in
    (j.0, no_dot_in (last_or None w) (not-true (ends_in (codes ".n") w) j.1), k.1)

no_suffix_in : (o : Option ℕ) → option_map_or (λ x. list_any (λ d. x == d) (codes ".n")) o false ≡ false → option_map_or (λ x. list_any (λ d. x == d) (codes "n")) o false ≡ false
no_suffix_in None h = refl
no_suffix_in (Some c) h = (or_parts (c == 46) _ h).1

pub raw_no_suffix : (w : List ℕ) → is_raw_number w ≡ true → ends_in (codes "n") w ≡ false
unfolding is_raw_number
raw_no_suffix w h = no_suffix_in (last_or None w) (not-true (ends_in (codes ".n") w) (and_parts (begins is_ascii_digit w) (not (ends_in (codes ".n") w)) (and_parts (begins is_ascii_digit w && not (ends_in (codes ".n") w)) (spells_number w) h).0).1)
