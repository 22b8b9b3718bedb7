-- The decimal digits of a number have no leading zero.
use Rattle.std.proofs.Common.{◌≡◌, ℕ, ◌+◌, ◌%◌, ◌^◌, ◌<◌, Bool, true, false, not, ◌==◌, decimal, List, [], ◌∷◌, ◌++◌, refl, ap, arith}
use Rattle.std.specs.Char.{is_ascii_digit}
use Rattle.std.specs.List.{list_all}
use Rattle.std.proofs.lemmas.Bool.{both_ways, and_from, le-leb, ne_eqb}
use Rattle.std.proofs.lemmas.Fmt.{decimal_by_steps_wide}
use Rattle.jsgen_model.specs.Numbers.{spells_whole}
use Rattle.jsgen_token_laws.proofs.Characters.{all_append}

abbrev leads : List ℕ → Bool
leads [] = false
leads (c ∷ cs) = not (c == 48)

digit_there : (d : ℕ) → d < 10 → is_ascii_digit (48 + d) ≡ true
digit_there d h = and_from _ _ (le-leb 48 (48 + d) (omega arith)) (le-leb (48 + d) 57 (omega arith))

one_more : (ds : List ℕ) (d : ℕ) → list_all is_ascii_digit ds ≡ true → leads ds ≡ true → is_ascii_digit d ≡ true → (spells_whole (ds ++ (d ∷ [])) ≡ true) × (list_all is_ascii_digit (ds ++ (d ∷ [])) ≡ true) × (leads (ds ++ (d ∷ [])) ≡ true)
one_more [] d h f g = absurd (both_ways false refl f)
one_more (c ∷ []) d h f g = let k = all_append is_ascii_digit (c ∷ []) (d ∷ []) h (and_from (is_ascii_digit d) true g refl) in (and_from (not (c == 48)) _ f k, k, f)
one_more (c ∷ e ∷ ds) d h f g = let k = all_append is_ascii_digit (c ∷ e ∷ ds) (d ∷ []) h (and_from (is_ascii_digit d) true g refl) in (and_from (not (c == 48)) _ f k, k, f)

Whole : ℕ → List ℕ → Type 0
Whole m ds = (spells_whole ds ≡ true) × (0 < m → (list_all is_ascii_digit ds ≡ true) × (leads ds ≡ true))

pub decimal_whole : (n : ℕ) → n < 2 ^ 128 → spells_whole (decimal n) ≡ true
unfolding Whole
decimal_whole n h = (decimal_by_steps_wide Whole
    (λ m l. (digit_there m l, λ z. (and_from (is_ascii_digit (48 + m)) true (digit_there m l) refl, ap not (ne_eqb (48 + m) 48 (λ e. omega arith)))))
    (λ m ds l w. let k = w.1 (omega arith) in let o = one_more ds (48 + m % 10) k.0 k.1 (digit_there (m % 10) (omega arith)) in (o.0, λ z. (o.1, o.2)))
    n (omega arith)).0
