use Rattle.std.proofs.Common.{◌-◌}
use Rattle.jsgen_map.specs.Lines.{IsBetween}
use Rattle.jsgen_map.proofs.tables.LineOffsetTables.line_between.Given as goal

abbrev pub invariant-loop-low : goal.invariant-loop-low
invariant-loop-low l = IsBetween l.self.lines.items l.low l.high l.position

abbrev pub decreases-loop-low : goal.decreases-loop-low
decreases-loop-low l = l.high - l.low
