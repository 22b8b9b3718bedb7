-- Generated from tools/nodes/table.txt; edit that and run tools/nodes/generate.
-- What each call ensures, field by field.
use Rattle.std.proofs.Common.{refl}
use Rattle.jsgen_fields.specs.Reads.{read_node}
use Rattle.jsgen_fields.proofs.FieldSteps.{refused, passed, gives_by}
use Rattle.jsgen_fields.proofs.Gives.{gives_row}
use Rattle.jsgen_tree.specs.Rows.{variable_declaration_row}
use Rattle.jsgen_statement_rows.proofs.statements.read_variable_declaration.Goals as goal

pub returns-in-Err : goal.returns-in-Err
unfolding read_node
returns-in-Err g c = λ told. refused _ (refused _ (refused _ (c.in-Err.ensures told)))

pub returns-in-Err-field_not_given : goal.returns-in-Err-field_not_given
unfolding read_node
returns-in-Err-field_not_given g c = λ told. refused _ (passed _ (passed _ c.in-Ok.ensures refl) (refused _ (refused _ (refused _ (c.in-Err-field_not_given.ensures told)))))

pub returns-in-Err-variable_declarator_list : goal.returns-in-Err-variable_declarator_list
unfolding read_node
returns-in-Err-variable_declarator_list g c = λ told. refused _ (passed _ (passed _ c.in-Ok.ensures refl) (refused _ (passed _ (passed _ c.in-Ok-field_not_given.ensures refl) (refused _ (refused _ (c.in-Err-variable_declarator_list.ensures told))))))

pub returns-in-Ok-boxed : goal.returns-in-Ok-boxed
unfolding read_node
returns-in-Ok-boxed g c = gives_by _ _ _ (passed _ (passed _ (passed _ c.in-Ok.ensures refl) (passed _ (passed _ (passed _ c.in-Ok-field_not_given.ensures refl) (passed _ (passed _ c.in-Ok-variable_declarator_list.ensures refl) refl)) refl)) refl) (gives_row _ _ _ (variable_declaration_row g.N.HasType.plain) _ _ c.in-Ok-boxed.ensures c.row_of_declaration.ensures)

pub returns-in-Err-boxed : goal.returns-in-Err-boxed
returns-in-Err-boxed g c = λ told. let h = c.in-Err-boxed.ensures told in cc h
