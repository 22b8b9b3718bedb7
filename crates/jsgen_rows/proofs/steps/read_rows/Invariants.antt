use Rattle.std.proofs.Common.{◌≡◌, [], map, drop}
use Rattle.serde_json.specs.View.{view}
use Rattle.jsgen_tree.specs.Plain.{node_plain}
use Rattle.jsgen_fields.specs.Reads.{read_rows}
use Rattle.jsgen_kept.specs.Kept.{entries}
use Rattle.jsgen_rows.proofs.steps.read_rows.Given as goal

-- the rows left, after those that are kept, give the whole
abbrev pub invariant-loop-row : goal.invariant-loop-row
invariant-loop-row l = read_rows (map view (drop l.row-index l.rows)) (entries node_plain l.kept.items) ≡ read_rows (map view l.rows) []
