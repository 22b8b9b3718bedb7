use Rattle.std.proofs.Common.{◌≡◌, length, drop}
use Rattle.std.specs.Str.{chars}
use Rattle.jsgen_model.specs.Templates.{is_raw}
use Rattle.jsgen_rules.specs.Pieces.{may_end, run}
use Rattle.jsgen_rules.proofs.templates.is_raw.Given as goal

abbrev pub invariant-loop-c : goal.invariant-loop-c
invariant-loop-c l = may_end (run l.state (drop (length l.yielded) (chars l.raw))) ≡ is_raw (chars l.raw)
