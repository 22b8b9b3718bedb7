-- Generated from tools/nodes/table.txt; edit that and run tools/nodes/generate.
-- What each call ensures, field by field.
use Rattle.std.proofs.Common.{refl}
use Rattle.jsgen_fields.specs.Reads.{read_node}
use Rattle.jsgen_fields.proofs.FieldSteps.{refused, passed, gives_by}
use Rattle.jsgen_fields.proofs.Gives.{gives_row}
use Rattle.jsgen_tree.specs.Rows.{call_expression_row}
use Rattle.jsgen_expression_rows.proofs.expressions.read_call_expression.Goals as goal

pub returns-in-Err : goal.returns-in-Err
unfolding read_node
returns-in-Err g c = λ told. refused _ (refused _ (c.in-Err.ensures told))

pub returns-in-Err-field_not_given : goal.returns-in-Err-field_not_given
unfolding read_node
returns-in-Err-field_not_given g c = λ told. refused _ (passed _ c.in-Ok.ensures (refused _ (refused _ (refused _ (c.in-Err-field_not_given.ensures told)))))

pub returns-in-Err-argument_list : goal.returns-in-Err-argument_list
unfolding read_node
returns-in-Err-argument_list g c = λ told. refused _ (passed _ c.in-Ok.ensures (refused _ (passed _ (passed _ c.in-Ok-field_not_given.ensures refl) (refused _ (refused _ (c.in-Err-argument_list.ensures told))))))

pub returns-in-Err-optional_flag : goal.returns-in-Err-optional_flag
unfolding read_node
returns-in-Err-optional_flag g c = λ told. refused _ (passed _ c.in-Ok.ensures (refused _ (passed _ (passed _ c.in-Ok-field_not_given.ensures refl) (refused _ (passed _ c.in-Ok-argument_list.ensures (refused _ (refused _ (refused _ (c.in-Err-optional_flag.ensures told)))))))))

pub returns-in-Err-optional_flag-2 : goal.returns-in-Err-optional_flag-2
unfolding read_node
returns-in-Err-optional_flag-2 g c = λ told. refused _ (passed _ c.in-Ok.ensures (refused _ (passed _ (passed _ c.in-Ok-field_not_given.ensures refl) (refused _ (passed _ c.in-Ok-argument_list.ensures (refused _ (passed _ (passed _ c.in-Ok-optional_flag.ensures refl) (refused _ (refused _ (refused _ (c.in-Err-optional_flag-2.ensures told)))))))))))

pub returns-in-Ok-boxed : goal.returns-in-Ok-boxed
unfolding read_node
returns-in-Ok-boxed g c = gives_by _ _ _ (passed _ (passed _ c.in-Ok.ensures (passed _ (passed _ (passed _ c.in-Ok-field_not_given.ensures refl) (passed _ (passed _ c.in-Ok-argument_list.ensures (passed _ (passed _ (passed _ c.in-Ok-optional_flag.ensures refl) (passed _ (passed _ (passed _ c.in-Ok-optional_flag-2.ensures refl) refl) refl)) refl)) refl)) refl)) refl) (gives_row _ _ _ (call_expression_row g.N.HasType.plain) _ _ c.in-Ok-boxed.ensures c.row_of_expression.ensures)

pub returns-in-Err-boxed : goal.returns-in-Err-boxed
returns-in-Err-boxed g c = λ told. let h = c.in-Err-boxed.ensures told in cc h
