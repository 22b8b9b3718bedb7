-- The machine of big integers accepts their values.
use Rattle.std.proofs.Common.{◌≡◌, ℕ, Bool, true, false, not, cond, ◌&&◌, ◌==◌, List, [], ◌∷◌, refl, sym, ap}
use Rattle.std.specs.Char.{is_ascii_digit}
use Rattle.std.specs.List.{list_all}
use Rattle.std.proofs.lemmas.Bool.{eqb-true}
use Rattle.jsgen_model.specs.Numbers.{spells_whole, is_big_integer}
use Rattle.jsgen_numbers.specs.declared.whole.Whole.TheVariants as wholes
use Rattle.jsgen_numbers.specs.Machine.{first_digit, accepts, run}

dead : (w : List ℕ) → accepts (run wholes.Dead w) ≡ false
dead [] = refl
dead (c ∷ w) = dead w

digits : (w : List ℕ) → accepts (run wholes.Digits w) ≡ list_all is_ascii_digit w
digits [] = refl
digits (c ∷ w) = by (is_ascii_digit c) (digits w)
  where
    by : (b : Bool) → accepts (run wholes.Digits w) ≡ list_all is_ascii_digit w → accepts (run (cond b wholes.Digits wholes.Dead) w) ≡ (b && list_all is_ascii_digit w)
    by true h = h
    by false h = dead w

first : (c : ℕ) (w : List ℕ) → accepts (run (first_digit c) w) ≡ spells_whole (c ∷ w)
first c [] = by (c == 48) refl
  where
    other : (b : Bool) → accepts (cond b wholes.Digits wholes.Dead) ≡ b
    other true = refl
    other false = refl

    by : (z : Bool) → (c == 48) ≡ z → accepts (cond z wholes.Zero (cond (is_ascii_digit c) wholes.Digits wholes.Dead)) ≡ is_ascii_digit c
    by true e = sym (ap is_ascii_digit (eqb-true c 48 e))
    by false e = other (is_ascii_digit c)
first c (d ∷ w) = by (c == 48) (is_ascii_digit c)
  where
    by : (z b : Bool) → accepts (run (cond z wholes.Zero (cond b wholes.Digits wholes.Dead)) (d ∷ w)) ≡ (not z && (b && list_all is_ascii_digit (d ∷ w)))
    by true b = dead w
    by false true = digits (d ∷ w)
    by false false = dead (d ∷ w)

pub big_runs : (w : List ℕ) → accepts (run wholes.Start w) ≡ is_big_integer w
unfolding is_big_integer
big_runs [] = refl
big_runs (c ∷ w) = by (c == 45) w
  where
    by : (b : Bool) (w : List ℕ) → accepts (run (cond b wholes.Minus (first_digit c)) w) ≡ cond b (spells_whole w) (spells_whole (c ∷ w))
    by true [] = refl
    by true (d ∷ w) = first d w
    by false w = first c w
