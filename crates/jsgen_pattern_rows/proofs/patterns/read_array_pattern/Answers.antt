-- Generated from tools/nodes/table.txt; edit that and run tools/nodes/generate.
-- What each call ensures, field by field.
use Rattle.std.proofs.Common.{refl}
use Rattle.jsgen_fields.specs.Reads.{read_node}
use Rattle.jsgen_fields.proofs.FieldSteps.{refused, passed, gives_by}
use Rattle.jsgen_fields.proofs.Gives.{gives_row}
use Rattle.jsgen_tree.specs.Rows.{array_pattern_row}
use Rattle.jsgen_pattern_rows.proofs.patterns.read_array_pattern.Goals as goal

pub returns-in-Err : goal.returns-in-Err
unfolding read_node
returns-in-Err g c = λ told. refused _ (refused _ (c.in-Err.ensures told))

pub returns-in-Err-optional_binding_rest_element : goal.returns-in-Err-optional_binding_rest_element
unfolding read_node
returns-in-Err-optional_binding_rest_element g c = λ told. refused _ (passed _ c.in-Ok.ensures (refused _ (refused _ (c.in-Err-optional_binding_rest_element.ensures told))))

pub returns-in-Ok-boxed : goal.returns-in-Ok-boxed
unfolding read_node
returns-in-Ok-boxed g c = gives_by _ _ _ (passed _ (passed _ c.in-Ok.ensures (passed _ (passed _ c.in-Ok-optional_binding_rest_element.ensures refl) refl)) refl) (gives_row _ _ _ (array_pattern_row g.N.HasType.plain) _ _ c.in-Ok-boxed.ensures c.row_of_binding_pattern.ensures)

pub returns-in-Err-boxed : goal.returns-in-Err-boxed
returns-in-Err-boxed g c = λ told. let h = c.in-Err-boxed.ensures told in cc h
