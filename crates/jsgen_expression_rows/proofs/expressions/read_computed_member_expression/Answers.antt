-- Generated from tools/nodes/table.txt; edit that and run tools/nodes/generate.
-- What each call ensures, field by field.
use Rattle.std.proofs.Common.{refl}
use Rattle.jsgen_fields.specs.Reads.{read_node}
use Rattle.jsgen_fields.proofs.FieldSteps.{refused, passed}
use Rattle.jsgen_fields.proofs.Gives.{gives_node}
use Rattle.jsgen_tree.specs.Rows.{computed_member_expression_row}
use Rattle.jsgen_expression_rows.proofs.expressions.read_computed_member_expression.Goals as goal

pub returns-in-Err : goal.returns-in-Err
unfolding read_node
returns-in-Err g c = λ told. refused _ (refused _ (c.in-Err.ensures told))

pub returns-in-Err-optional_flag : goal.returns-in-Err-optional_flag
unfolding read_node
returns-in-Err-optional_flag g c = λ told. refused _ (passed _ c.in-Ok.ensures (refused _ (refused _ (refused _ (c.in-Err-optional_flag.ensures told)))))

pub returns-in-Err-needed_expression : goal.returns-in-Err-needed_expression
unfolding read_node
returns-in-Err-needed_expression g c = λ told. refused _ (passed _ c.in-Ok.ensures (refused _ (passed _ (passed _ c.in-Ok-optional_flag.ensures refl) (refused _ (refused _ (c.in-Err-needed_expression.ensures told))))))

pub returns-in-Ok-boxed : goal.returns-in-Ok-boxed
unfolding read_node
returns-in-Ok-boxed g c = passed _ (passed _ c.in-Ok.ensures (passed _ (passed _ (passed _ c.in-Ok-optional_flag.ensures refl) (passed _ (passed _ c.in-Ok-needed_expression.ensures refl) refl)) refl)) (gives_node g.R.Typed.plain c.row_of_computed_member_expression.result _ (computed_member_expression_row g.N.HasType.plain) _ _ c.in-Ok-boxed.ensures c.row_of_computed_member_expression.ensures)

pub returns-in-Err-boxed : goal.returns-in-Err-boxed
returns-in-Err-boxed g c = λ told. let h = c.in-Err-boxed.ensures told in cc h
