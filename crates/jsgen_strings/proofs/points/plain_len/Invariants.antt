use Rattle.std.proofs.Common.{◌≡◌, true, take}
use Rattle.std.specs.List.{list_all}
use Rattle.jsgen_strings.specs.Points.{is_plain}
use Rattle.jsgen_strings.proofs.points.plain_len.Given as goal

abbrev pub invariant-loop-i : goal.invariant-loop-i
invariant-loop-i l = list_all is_plain (take l.i l.bytes) ≡ true
