use Rattle.std.proofs.Common.{◌≡◌, length}
use Rattle.jsgen_device.specs.Memory.{listed}
use Rattle.jsgen_device.proofs.memory.MemSink.failing.Given as goal

abbrev pub invariant-loop-rest : goal.invariant-loop-rest
invariant-loop-rest l = listed l.self.fail.items l.self.calls ≡ listed l.rest l.self.calls

abbrev pub decreases-loop-rest : goal.decreases-loop-rest
decreases-loop-rest l = length l.rest
