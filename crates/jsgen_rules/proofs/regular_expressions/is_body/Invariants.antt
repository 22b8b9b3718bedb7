use Rattle.std.proofs.Common.{◌≡◌, length, drop}
use Rattle.std.specs.Str.{chars}
use Rattle.jsgen_model.specs.RegularExpressions.{is_body}
use Rattle.jsgen_rules.specs.Bodies.{may_end, run}
use Rattle.jsgen_rules.proofs.regular_expressions.is_body.Given as goal

abbrev pub invariant-loop-c : goal.invariant-loop-c
invariant-loop-c l = may_end (run l.state (drop (length l.yielded) (chars l.pattern))) ≡ is_body (chars l.pattern)
