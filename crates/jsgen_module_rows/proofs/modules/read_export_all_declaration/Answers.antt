-- Generated from tools/nodes/table.txt; edit that and run tools/nodes/generate.
-- What each call ensures, field by field.
use Rattle.std.proofs.Common.{refl}
use Rattle.jsgen_fields.specs.Reads.{read_node}
use Rattle.jsgen_fields.proofs.FieldSteps.{refused, passed, gives_by}
use Rattle.jsgen_fields.proofs.Gives.{gives_row}
use Rattle.jsgen_tree.specs.Rows.{export_all_declaration_row}
use Rattle.jsgen_module_rows.proofs.modules.read_export_all_declaration.Goals as goal

pub returns-in-Err : goal.returns-in-Err
unfolding read_node
returns-in-Err g c = λ told. refused _ (refused _ (refused _ (c.in-Err.ensures told)))

pub returns-in-Err-optional_module_export_name : goal.returns-in-Err-optional_module_export_name
unfolding read_node
returns-in-Err-optional_module_export_name g c = λ told. refused _ (passed _ (passed _ c.in-Ok.ensures refl) (refused _ (refused _ (c.in-Err-optional_module_export_name.ensures told))))

pub returns-in-Err-needed_string_literal : goal.returns-in-Err-needed_string_literal
unfolding read_node
returns-in-Err-needed_string_literal g c = λ told. refused _ (passed _ (passed _ c.in-Ok.ensures refl) (refused _ (passed _ c.in-Ok-optional_module_export_name.ensures (refused _ (refused _ (c.in-Err-needed_string_literal.ensures told))))))

pub returns-in-Err-optional_with_clause : goal.returns-in-Err-optional_with_clause
unfolding read_node
returns-in-Err-optional_with_clause g c = λ told. refused _ (passed _ (passed _ c.in-Ok.ensures refl) (refused _ (passed _ c.in-Ok-optional_module_export_name.ensures (refused _ (passed _ c.in-Ok-needed_string_literal.ensures (refused _ (refused _ (c.in-Err-optional_with_clause.ensures told))))))))

pub returns-in-Ok-boxed : goal.returns-in-Ok-boxed
unfolding read_node
returns-in-Ok-boxed g c = gives_by _ _ _ (passed _ (passed _ (passed _ c.in-Ok.ensures refl) (passed _ (passed _ c.in-Ok-optional_module_export_name.ensures (passed _ (passed _ c.in-Ok-needed_string_literal.ensures (passed _ (passed _ c.in-Ok-optional_with_clause.ensures refl) refl)) refl)) refl)) refl) (gives_row _ _ _ export_all_declaration_row _ _ c.in-Ok-boxed.ensures c.row_of_statement.ensures)

pub returns-in-Err-boxed : goal.returns-in-Err-boxed
returns-in-Err-boxed g c = λ told. let h = c.in-Err-boxed.ensures told in cc h
