-- Generated from tools/nodes/table.txt; edit that and run tools/nodes/generate.
-- What each call ensures, field by field.
use Rattle.std.proofs.Common.{refl}
use Rattle.jsgen_fields.specs.Reads.{read_node}
use Rattle.jsgen_fields.proofs.FieldSteps.{refused, passed}
use Rattle.jsgen_fields.proofs.Gives.{gives_node}
use Rattle.jsgen_tree.specs.Rows.{assignment_target_rest_row}
use Rattle.jsgen_pattern_rows.proofs.targets.read_assignment_target_rest.Goals as goal

pub returns-in-Err : goal.returns-in-Err
unfolding read_node
returns-in-Err g c = λ told. refused _ (refused _ (c.in-Err.ensures told))

pub returns-in-Ok-boxed : goal.returns-in-Ok-boxed
unfolding read_node
returns-in-Ok-boxed g c = passed _ (passed _ c.in-Ok.ensures refl) (gives_node g.R.Typed.plain c.row_of_assignment_target_rest.result _ (assignment_target_rest_row g.N.HasType.plain) _ _ c.in-Ok-boxed.ensures c.row_of_assignment_target_rest.ensures)

pub returns-in-Err-boxed : goal.returns-in-Err-boxed
returns-in-Err-boxed g c = λ told. let h = c.in-Err-boxed.ensures told in cc h
