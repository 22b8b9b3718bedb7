use Rattle.std.proofs.Common.{◌≡◌, length, drop}
use Rattle.std.specs.Str.{chars}
use Rattle.jsgen_rules.specs.declared.comments.Close.TheVariants as closes
use Rattle.jsgen_rules.specs.Close.{run}
use Rattle.jsgen_rules.proofs.comments.close_behind.Given as goal

abbrev pub invariant-loop-c : goal.invariant-loop-c
invariant-loop-c l = run l.state (drop (length l.yielded) (chars l.text)) ≡ run closes.Open (chars l.text)
