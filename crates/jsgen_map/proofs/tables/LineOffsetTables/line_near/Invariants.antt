use Rattle.std.proofs.Common.{suc, ◌<◌, ◌≤◌, length}
use Rattle.jsgen_map.specs.Lines.{start_of}
use Rattle.jsgen_map.proofs.tables.LineOffsetTables.line_near.Given as goal

abbrev pub invariant-loop : goal.invariant-loop
invariant-loop l = (l.low < length l.self.lines.items) × (start_of l.self.lines.items l.low (suc l.position) ≤ l.position)
