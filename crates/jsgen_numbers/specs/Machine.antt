-- The machine that takes the value of a big integer.
use Rattle.std.specs.Prelude.{ℕ, Bool, true, false, List, [], ◌∷◌, ◌==◌, if◌then◌else◌}
use Rattle.std.specs.Char.{is_ascii_digit}
use Rattle.jsgen_numbers.specs.declared.whole.Whole.{Whole}
use Rattle.jsgen_numbers.specs.declared.whole.Whole.TheVariants as wholes

abbrev pub accepts : Whole → Bool
accepts wholes.Zero = true
accepts wholes.Digits = true
accepts state = false

abbrev pub first_digit : ℕ → Whole
first_digit c = if c == 48 then wholes.Zero else (if is_ascii_digit c then wholes.Digits else wholes.Dead)

abbrev pub step : Whole → ℕ → Whole
step wholes.Start c = if c == 45 then wholes.Minus else first_digit c
step wholes.Minus c = first_digit c
step wholes.Zero c = wholes.Dead
step wholes.Digits c = if is_ascii_digit c then wholes.Digits else wholes.Dead
step wholes.Dead c = wholes.Dead

abbrev pub run : Whole → List ℕ → Whole
run state [] = state
run state (c ∷ cs) = run (step state c) cs
