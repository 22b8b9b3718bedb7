use Rattle.std.proofs.Common.{◌≡◌, length, drop}
use Rattle.std.specs.Str.{chars}
use Rattle.jsgen_model.proofs.NumberStates.{start, run}
use Rattle.jsgen_numbers.specs.Plain.{number_plain}
use Rattle.jsgen_numbers.proofs.number.run.Given as goal

abbrev pub invariant-loop-c : goal.invariant-loop-c
invariant-loop-c l = run (number_plain l.state) (drop (length l.yielded) (chars l.text)) ≡ run start (chars l.text)
