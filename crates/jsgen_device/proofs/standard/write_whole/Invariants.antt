use Rattle.jsgen_device.proofs.Written.{WrittenSoFar}
use Rattle.jsgen_device.proofs.standard.write_whole.Given as goal

abbrev pub invariant-loop : goal.invariant-loop
invariant-loop g l = WrittenSoFar (g.W.Write.contents l.initial.writer) (g.W.Write.contents l.writer) l.bytes l.at
