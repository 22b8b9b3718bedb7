use Rattle.std.proofs.Common.{◌≡◌, ◌+◌, ◌≤◌, drop}
use Rattle.jsgen_map.specs.Count.{counted_from}
use Rattle.jsgen_map.proofs.count.count_on.Given as goal

abbrev pub invariant-loop-byte : goal.invariant-loop-byte
invariant-loop-byte l = record {
  count : counted_from l.count (drop l.byte-index l.bytes) ≡ counted_from l.initial.count l.bytes;
  line : l.count.place.line ≤ l.initial.count.place.line + l.byte-index;
  column : l.count.place.column ≤ l.initial.count.place.column + l.byte-index;
}
