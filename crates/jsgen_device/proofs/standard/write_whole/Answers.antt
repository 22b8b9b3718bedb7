use Rattle.jsgen_device.proofs.Written.{write_next, write_none}
use Rattle.jsgen_device.proofs.standard.write_whole.Goals as goal
use Rattle.jsgen_device.proofs.standard.write_whole.Goals.{in-Ok, in-Err}

pub loop-preserved : goal.loop-preserved
loop-preserved g c = elim c.match-write.branch [
  | in-Ok w ↦ rw w.at-is (write_next _ _ _ _ _ _ c.loop.invariant w.in-Ok.ensures.bound w.in-Ok.ensures.bytes)
  | in-Err w ↦ rw w.at-is (write_none _ _ _ _ _ c.loop.invariant w.in-Err.ensures.bytes)
]
