use Rattle.std.proofs.Common.{length, ◌-◌}
use Rattle.jsgen_tool.proofs.Loops.{PushedSoFar}
use Rattle.jsgen_tool.proofs.transfer.push_all.Given as goal

abbrev pub invariant-loop-at : goal.invariant-loop-at
invariant-loop-at g l = PushedSoFar (g.K.Sink.got l.initial.sink) (g.K.Sink.got l.sink)
    (g.K.Sink.faults l.initial.sink) (g.K.Sink.faults l.sink) l.text l.at

abbrev pub decreases-loop-at : goal.decreases-loop-at
decreases-loop-at g l = length l.text - l.at
