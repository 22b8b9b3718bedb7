-- Generated from tools/nodes/table.txt; edit that and run tools/nodes/generate.
-- What each call ensures, field by field.
use Rattle.std.proofs.Common.{refl}
use Rattle.jsgen_fields.specs.Reads.{read_node}
use Rattle.jsgen_fields.proofs.FieldSteps.{refused, passed}
use Rattle.jsgen_fields.proofs.Gives.{gives_node}
use Rattle.jsgen_tree.specs.Rows.{object_property_row}
use Rattle.jsgen_expression_rows.proofs.collections.read_object_property.Goals as goal

pub returns-in-Err : goal.returns-in-Err
unfolding read_node
returns-in-Err g c = λ told. refused _ (refused _ (refused _ (c.in-Err.ensures told)))

pub returns-in-Err-needed_property_key : goal.returns-in-Err-needed_property_key
unfolding read_node
returns-in-Err-needed_property_key g c = λ told. refused _ (passed _ (passed _ c.in-Ok.ensures refl) (refused _ (refused _ (c.in-Err-needed_property_key.ensures told))))

pub returns-in-Err-needed_expression : goal.returns-in-Err-needed_expression
unfolding read_node
returns-in-Err-needed_expression g c = λ told. refused _ (passed _ (passed _ c.in-Ok.ensures refl) (refused _ (passed _ c.in-Ok-needed_property_key.ensures (refused _ (refused _ (c.in-Err-needed_expression.ensures told))))))

pub returns-in-Err-optional_flag : goal.returns-in-Err-optional_flag
unfolding read_node
returns-in-Err-optional_flag g c = λ told. refused _ (passed _ (passed _ c.in-Ok.ensures refl) (refused _ (passed _ c.in-Ok-needed_property_key.ensures (refused _ (passed _ c.in-Ok-needed_expression.ensures (refused _ (refused _ (refused _ (c.in-Err-optional_flag.ensures told)))))))))

pub returns-in-Err-optional_flag-2 : goal.returns-in-Err-optional_flag-2
unfolding read_node
returns-in-Err-optional_flag-2 g c = λ told. refused _ (passed _ (passed _ c.in-Ok.ensures refl) (refused _ (passed _ c.in-Ok-needed_property_key.ensures (refused _ (passed _ c.in-Ok-needed_expression.ensures (refused _ (passed _ (passed _ c.in-Ok-optional_flag.ensures refl) (refused _ (refused _ (refused _ (c.in-Err-optional_flag-2.ensures told)))))))))))

pub returns-in-Err-optional_flag-3 : goal.returns-in-Err-optional_flag-3
unfolding read_node
returns-in-Err-optional_flag-3 g c = λ told. refused _ (passed _ (passed _ c.in-Ok.ensures refl) (refused _ (passed _ c.in-Ok-needed_property_key.ensures (refused _ (passed _ c.in-Ok-needed_expression.ensures (refused _ (passed _ (passed _ c.in-Ok-optional_flag.ensures refl) (refused _ (passed _ (passed _ c.in-Ok-optional_flag-2.ensures refl) (refused _ (refused _ (refused _ (c.in-Err-optional_flag-3.ensures told)))))))))))))

pub returns-in-Ok-boxed : goal.returns-in-Ok-boxed
unfolding read_node
returns-in-Ok-boxed g c = passed _ (passed _ (passed _ c.in-Ok.ensures refl) (passed _ (passed _ c.in-Ok-needed_property_key.ensures (passed _ (passed _ c.in-Ok-needed_expression.ensures (passed _ (passed _ (passed _ c.in-Ok-optional_flag.ensures refl) (passed _ (passed _ (passed _ c.in-Ok-optional_flag-2.ensures refl) (passed _ (passed _ (passed _ c.in-Ok-optional_flag-3.ensures refl) refl) refl)) refl)) refl)) refl)) refl)) (gives_node g.R.Typed.plain c.row_of_object_property.result _ (object_property_row g.N.HasType.plain) _ _ c.in-Ok-boxed.ensures c.row_of_object_property.ensures)

pub returns-in-Err-boxed : goal.returns-in-Err-boxed
returns-in-Err-boxed g c = λ told. let h = c.in-Err-boxed.ensures told in cc h
