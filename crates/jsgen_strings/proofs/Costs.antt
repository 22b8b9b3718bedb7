-- What a quote costs, from the first unit on.
use Rattle.std.proofs.Common.{◌≡◌, ℕ, ◌+◌, ◌≤◌, ◌==◌, ◌||◌, Bool, true, false, List, [], ◌∷◌, length, if◌then◌else◌, refl, ap, ◌∙◌, arith}
use Rattle.std.proofs.lemmas.Bool.Decides.{nat_tests}
use Rattle.jsgen_syntax.specs.declared.quote.Quote.{Quote}
use Rattle.jsgen_syntax.specs.declared.quote.Quote.TheVariants.{Single, Double, Backtick}
use Rattle.jsgen_syntax.specs.Strings.{costs_more, quote_cost}

pub cost_more : (q : Quote) (u : ℕ) (rest behind : List ℕ) → rest ≡ u ∷ behind → costs_more q u behind ≡ true → quote_cost q rest ≡ quote_cost q behind + 1
unfolding quote_cost
cost_more q u rest behind e h =
    let k = ap (quote_cost q) e ∙ ap (λ b. (if b then 1 else 0) + quote_cost q behind) h in
    omega arith

pub cost_same : (q : Quote) (u : ℕ) (rest behind : List ℕ) → rest ≡ u ∷ behind → costs_more q u behind ≡ false → quote_cost q rest ≡ quote_cost q behind
unfolding quote_cost
cost_same q u rest behind e h =
    let k = ap (quote_cost q) e ∙ ap (λ b. (if b then 1 else 0) + quote_cost q behind) h in
    omega arith

pub cost_none : (q : Quote) (rest : List ℕ) → length rest ≡ 0 → quote_cost q rest ≡ 0
unfolding quote_cost
cost_none q [] z = refl
cost_none q (u ∷ rest) z = absurd (omega arith)

-- what the first unit costs, and those behind it
pub cost_step : (q : Quote) (u : ℕ) (rest behind : List ℕ) → rest ≡ u ∷ behind → quote_cost q rest ≡ (if costs_more q u behind then 1 else 0) + quote_cost q behind
unfolding quote_cost
cost_step q u rest behind e = ap (quote_cost q) e

pub at_most_one : (b : Bool) → (if b then 1 else 0) ≤ 1
at_most_one true = omega arith
at_most_one false = omega arith

-- a unit that costs nothing in any quote
pub costs_nothing : (q : Quote) (u : ℕ) (behind : List ℕ) → (u == 10 || u == 34 || u == 36 || u == 39 || u == 96) ≡ false → costs_more q u behind ≡ false
costs_nothing Single u behind h = grind (arith, nat_tests)
costs_nothing Double u behind h = grind (arith, nat_tests)
costs_nothing Backtick u behind h = grind (arith, nat_tests)
