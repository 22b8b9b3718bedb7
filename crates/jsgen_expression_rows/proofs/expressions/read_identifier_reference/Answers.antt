-- Generated from tools/nodes/table.txt; edit that and run tools/nodes/generate.
-- What each call ensures, field by field.
use Rattle.std.proofs.Common.{refl}
use Rattle.jsgen_fields.specs.Reads.{read_node}
use Rattle.jsgen_fields.proofs.FieldSteps.{refused, passed}
use Rattle.jsgen_fields.proofs.Gives.{gives_node}
use Rattle.jsgen_tree.specs.Rows.{identifier_reference_row}
use Rattle.jsgen_expression_rows.proofs.expressions.read_identifier_reference.Goals as goal

pub returns-in-Err : goal.returns-in-Err
unfolding read_node
returns-in-Err g c = λ told. refused _ (refused _ (refused _ (c.in-Err.ensures told)))

pub returns-in-Err-optional_number : goal.returns-in-Err-optional_number
unfolding read_node
returns-in-Err-optional_number g c = λ told. refused _ (passed _ (passed _ c.in-Ok.ensures refl) (refused _ (refused _ (refused _ (c.in-Err-optional_number.ensures told)))))

pub returns-in-Ok-boxed : goal.returns-in-Ok-boxed
unfolding read_node
returns-in-Ok-boxed g c = passed _ (passed _ (passed _ c.in-Ok.ensures refl) (passed _ (passed _ (passed _ c.in-Ok-optional_number.ensures refl) refl) refl)) (gives_node g.R.Typed.plain c.row_of_identifier_reference.result _ identifier_reference_row _ _ c.in-Ok-boxed.ensures c.row_of_identifier_reference.ensures)

pub returns-in-Err-boxed : goal.returns-in-Err-boxed
returns-in-Err-boxed g c = λ told. let h = c.in-Err-boxed.ensures told in cc h
