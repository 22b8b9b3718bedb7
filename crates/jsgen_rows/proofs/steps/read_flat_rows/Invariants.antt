use Rattle.std.proofs.Common.{◌≡◌, ◌-◌, []}
use Rattle.jsgen_tree.specs.Plain.{node_plain}
use Rattle.jsgen_flat.specs.Flat.{rows_from, rows_of}
use Rattle.jsgen_flat.specs.Views.{sections}
use Rattle.jsgen_fields.specs.Reads.{read_rows}
use Rattle.jsgen_kept.specs.Kept.{entries}
use Rattle.jsgen_rows.proofs.steps.read_flat_rows.Given as goal

-- the rows left, after those that are kept, give the whole
abbrev pub invariant-loop-count : goal.invariant-loop-count
invariant-loop-count l = read_rows (rows_from (sections l.job) (l.job.row_count - l.count) l.begin) (entries node_plain l.kept.items) ≡ read_rows (rows_of (sections l.job)) []
