use Rattle.std.proofs.Common.{◌≡◌, length, drop}
use Rattle.std.specs.Str.{chars}
use Rattle.jsgen_model.specs.Numbers.{is_big_integer}
use Rattle.jsgen_numbers.specs.Machine.{accepts, run}
use Rattle.jsgen_numbers.proofs.is_big_integer.Given as goal

abbrev pub invariant-loop-c : goal.invariant-loop-c
invariant-loop-c l = accepts (run l.state (drop (length l.yielded) (chars l.text))) ≡ is_big_integer (chars l.text)
