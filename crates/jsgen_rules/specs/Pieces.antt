-- The machine that takes the raw text of a piece of a template.
use Rattle.std.specs.Prelude.{ℕ, Bool, true, false, ◌||◌, List, [], ◌∷◌, ◌==◌, if◌then◌else◌}
use Rattle.jsgen_rules.specs.declared.templates.Raw.{Raw}
use Rattle.jsgen_rules.specs.declared.templates.Raw.TheVariants as raws

abbrev pub may_end : Raw → Bool
may_end raws.Characters = true
may_end raws.Dollar = true
may_end state = false

-- a character that no backslash stands before
abbrev pub in_characters : ℕ → Raw
in_characters c = if c == 92 then raws.Escape else (if (c == 13) || (c == 96) then raws.Dead else (if c == 36 then raws.Dollar else raws.Characters))

abbrev pub step : Raw → ℕ → Raw
step raws.Characters c = in_characters c
step raws.Dollar c = if c == 123 then raws.Dead else in_characters c
step raws.Escape c = if c == 13 then raws.Dead else raws.Characters
step raws.Dead c = raws.Dead

abbrev pub run : Raw → List ℕ → Raw
run state [] = state
run state (c ∷ cs) = run (step state c) cs
