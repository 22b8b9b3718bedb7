-- What `parse` reads of a text is the number that the text of digits is.
use Rattle.std.proofs.Common.{◌≡◌, ℕ, ◌^◌, ◌<◌, ◌&&◌, List, [], ◌∷◌, length, get_or, Bool, true, false, Some, None, Result, Ok, Err, refl, arith, nat_lt, if◌then◌else◌}
use Rattle.std.specs.Prelude.{OkIff}
use Rattle.std.specs.Result.{result_ok}
use Rattle.std.specs.Str.{all_ascii_digits}
use Rattle.std.specs.Str.Parse.{digits_value, ParsesUnsigned}
use Rattle.std.proofs.lemmas.Bool.Decides.{nat_tests}
use Rattle.std.proofs.lemmas.Str.Parse.{IsNumeralModel, numerals_by_value, tells_all_ascii_digits, parse_plain}
use Rattle.jsgen_fields.specs.Values.{starts_plainly, decimal_number}

own : IsNumeralModel (λ ds. all_ascii_digits ds ≡ true) (digits_value 10)
own = numerals_by_value _ tells_all_ascii_digits

below : (a b : ℕ) → a < b → nat_lt a b ≡ true
below a b h = grind (arith, nat_tests)

under : (a b : ℕ) → nat_lt a b ≡ true → a < b
under a b h = grind (arith, nat_tests)

all_hold : (p a b : Bool) (x y : ℕ) → p ≡ true → a ≡ true → b ≡ true → y ≡ x → Some y ≡ (if p && a && b then Some x else None)
all_hold p a b x y h i j k = rw (h, i, j, k) refl

not_all : (p a b : Bool) (x : ℕ) → (p ≡ true → a ≡ true → b ≡ true → ⊥) → None ≡ (if p && a && b then Some x else None)
not_all true true true x h = absurd (h refl refl refl)
not_all true true false x h = refl
not_all true false b x h = refl
not_all false a b x h = refl

parsed : {E : Type 0} (s : List ℕ) (r : Result ℕ E) → OkIff r ((all_ascii_digits s ≡ true) × (0 < length s) × (digits_value 10 s < 2 ^ 128)) (digits_value 10 s) → starts_plainly s ≡ true → 0 < length s
    → result_ok r ≡ decimal_number s
unfolding decimal_number
parsed s (Ok x) h p n = all_hold (starts_plainly s) (all_ascii_digits s) (nat_lt (digits_value 10 s) (2 ^ 128)) (digits_value 10 s) x p h.0.0 (below _ _ h.0.2) h.1
parsed s (Err e) h p n = not_all (starts_plainly s) (all_ascii_digits s) (nat_lt (digits_value 10 s) (2 ^ 128)) (digits_value 10 s) (λ q a b. h (a, n, under _ _ b))

some_digit : (s : List ℕ) → starts_plainly s ≡ true → 0 < length s
some_digit [] h = cc
some_digit (c ∷ s) h = omega arith

pub number_parsed : {E : Type 0} (s : List ℕ) (r : Result ℕ E) → ParsesUnsigned 128 10 s r → starts_plainly s ≡ true → (get_or s 0 0 ≡ 43 → ⊥) → result_ok r ≡ decimal_number s
number_parsed s r h p q = parsed s r (parse_plain own 128 s r h q) p (some_digit s p)

pub no_plain_start : (s : List ℕ) → starts_plainly s ≡ false → None ≡ decimal_number s
unfolding decimal_number
no_plain_start s h = not_all (starts_plainly s) (all_ascii_digits s) (nat_lt (digits_value 10 s) (2 ^ 128)) (digits_value 10 s) (λ p a b. cc)

plus_no_digit : (s : List ℕ) → get_or s 0 0 ≡ 43 → all_ascii_digits s ≡ true → ⊥
plus_no_digit [] h a = omega (arith, h)
plus_no_digit (c ∷ s) h a = absurd_plus c s h a
  where
    absurd_plus : (c : ℕ) (s : List ℕ) → c ≡ 43 → all_ascii_digits (c ∷ s) ≡ true → ⊥
    absurd_plus c s h a = let b : false ≡ true = rw h at a in cc

pub plus_start : (s : List ℕ) → get_or s 0 0 ≡ 43 → None ≡ decimal_number s
unfolding decimal_number
plus_start s h = not_all (starts_plainly s) (all_ascii_digits s) (nat_lt (digits_value 10 s) (2 ^ 128)) (digits_value 10 s) (λ p a b. plus_no_digit s h a)
