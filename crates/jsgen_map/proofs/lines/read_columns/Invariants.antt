use Rattle.std.proofs.Common.{◌+◌, ◌≤◌, length}
use Rattle.jsgen_map.specs.Reading.{AreColumns, GoesOn}
use Rattle.jsgen_map.proofs.lines.read_columns.Given as goal

abbrev pub invariant-characters : goal.invariant-characters
invariant-characters l = record {
  columns : AreColumns l.first l.bytes l.columns.items;
  on : GoesOn l.first l.bytes (length l.columns.items) l.column l.rest;
  bound : l.column ≤ l.first + length l.columns.items;
}

abbrev pub decreases-characters : goal.decreases-characters
decreases-characters l = length l.rest
