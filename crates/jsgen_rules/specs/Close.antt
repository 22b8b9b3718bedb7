-- The machine that looks for the end of a comment in `/*` and `*/`.
use Rattle.std.specs.Prelude.{ℕ, Bool, true, false, List, [], ◌∷◌, ◌==◌, if◌then◌else◌}
use Rattle.jsgen_rules.specs.declared.comments.Close.{Close}
use Rattle.jsgen_rules.specs.declared.comments.Close.TheVariants as closes

abbrev pub is_closed : Close → Bool
is_closed closes.Closed = true
is_closed state = false

abbrev pub star_or_open : ℕ → Close
star_or_open c = if c == 42 then closes.Star else closes.Open

abbrev pub step : Close → ℕ → Close
step closes.Open c = star_or_open c
step closes.Star c = if c == 47 then closes.Closed else star_or_open c
step closes.Closed c = closes.Passed
step closes.Passed c = closes.Passed

abbrev pub run : Close → List ℕ → Close
run state [] = state
run state (c ∷ cs) = run (step state c) cs
