use Rattle.std.proofs.Common.{length, ◌-◌, ◌+◌}
use Rattle.jsgen_tool.specs.Transfer.{limit}
use Rattle.jsgen_tool.proofs.Loops.{ReadSoFar}
use Rattle.jsgen_tool.proofs.transfer.read_all.Given as goal

abbrev pub invariant-loop-chunk : goal.invariant-loop-chunk
invariant-loop-chunk g l = ReadSoFar (g.S.Source.left l.initial.source) (g.S.Source.left l.source)
    (g.S.Source.faults l.initial.source) (g.S.Source.faults l.source) l.bytes.items

abbrev pub decreases-loop-chunk : goal.decreases-loop-chunk
decreases-loop-chunk g l = limit + 1 - length l.bytes.items
