use Rattle.std.proofs.Common.{drop}
use Rattle.jsgen_map.specs.Reading.{IsPlainRun}
use Rattle.jsgen_map.proofs.lines.plain_len.Given as goal

abbrev pub invariant-loop-i : goal.invariant-loop-i
invariant-loop-i l = IsPlainRun l.bytes l.i (drop l.i l.bytes)
