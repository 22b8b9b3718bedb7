-- The machines that take a regular expression's body and count a flag.
use Rattle.std.specs.Prelude.{ℕ, Bool, true, false, List, [], ◌∷◌, ◌==◌, if◌then◌else◌}
use Rattle.jsgen_model.specs.Tokens.{is_line_terminator}
use Rattle.jsgen_rules.specs.declared.regular_expressions.Body.{Body}
use Rattle.jsgen_rules.specs.declared.regular_expressions.Body.TheVariants as bodies
use Rattle.jsgen_rules.specs.declared.regular_expressions.Count.{Count}
use Rattle.jsgen_rules.specs.declared.regular_expressions.Count.TheVariants as counts

abbrev pub may_end : Body → Bool
may_end bodies.Characters = true
may_end state = false

abbrev pub in_characters : ℕ → Body
in_characters c = if c == 92 then bodies.Escape else (if c == 91 then bodies.Class else (if c == 47 then bodies.Dead else bodies.Characters))

abbrev pub in_class : ℕ → Body
in_class c = if c == 92 then bodies.ClassEscape else (if c == 93 then bodies.Characters else bodies.Class)

-- behind a state, by a character that ends no line
abbrev pub behind : Body → ℕ → Body
behind bodies.Start c = if c == 42 then bodies.Dead else in_characters c
behind bodies.Characters c = in_characters c
behind bodies.Escape c = bodies.Characters
behind bodies.Class c = in_class c
behind bodies.ClassEscape c = bodies.Class
behind bodies.Dead c = bodies.Dead

abbrev pub step : Body → ℕ → Body
step state c = if is_line_terminator c then bodies.Dead else behind state c

abbrev pub run : Body → List ℕ → Body
run state [] = state
run state (c ∷ cs) = run (step state c) cs

abbrev pub is_twice : Count → Bool
is_twice counts.Twice = true
is_twice count = false

abbrev pub count_step : Count → Bool → Count
count_step counts.Never comes = if comes then counts.Once else counts.Never
count_step counts.Once comes = if comes then counts.Twice else counts.Once
count_step counts.Twice comes = counts.Twice

abbrev pub count : Count → ℕ → List ℕ → Count
count so_far letter [] = so_far
count so_far letter (c ∷ cs) = count (count_step so_far (c == letter)) letter cs
