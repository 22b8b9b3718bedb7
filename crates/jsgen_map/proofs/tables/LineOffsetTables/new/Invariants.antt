use Rattle.std.proofs.Common.{suc, length}
use Rattle.std.specs.Option.{option_map_or}
use denote.Ref.{Bor}
use Rattle.std.proofs.Common.{List, ℕ}
use Rattle.jsgen_map.proofs.TableReads.{Known, Rest}
use Rattle.jsgen_map.proofs.tables.LineOffsetTables.new.Given as goal

abbrev pub invariant-lines : goal.invariant-lines
invariant-lines l = record {
  known : Known l.source l.lines.items l.column_offsets.items l.start;
  rest : Rest l.source l.start (length l.lines.items) l.rest;
}

abbrev pub decreases-lines : goal.decreases-lines
decreases-lines l = option_map_or (λ (bytes : Bor (List ℕ)). suc (length bytes.now)) l.rest 0
