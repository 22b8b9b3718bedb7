use Rattle.std.proofs.Common.{◌≡◌, length, drop}
use Rattle.std.specs.Str.{chars}
use Rattle.jsgen_model.specs.RegularExpressions.{comes_twice}
use Rattle.jsgen_rules.specs.Bodies.{is_twice, count}
use Rattle.jsgen_rules.proofs.regular_expressions.comes_twice.Given as goal

abbrev pub invariant-loop-c : goal.invariant-loop-c
invariant-loop-c l = is_twice (count l.count l.letter (drop (length l.yielded) (chars l.flags))) ≡ comes_twice l.letter (chars l.flags)
