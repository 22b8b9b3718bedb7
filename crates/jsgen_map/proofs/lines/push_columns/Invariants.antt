use Rattle.std.proofs.Common.{◌≡◌, ◌++◌, replicate}
use Rattle.jsgen_map.proofs.lines.push_columns.Given as goal

abbrev pub invariant-loop : goal.invariant-loop
invariant-loop l = l.columns.items ≡ l.initial.columns.items ++ replicate l.counter l.column
