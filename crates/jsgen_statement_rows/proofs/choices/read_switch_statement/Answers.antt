-- Generated from tools/nodes/table.txt; edit that and run tools/nodes/generate.
-- What each call ensures, field by field.
use Rattle.std.proofs.Common.{refl}
use Rattle.jsgen_fields.specs.Reads.{read_node}
use Rattle.jsgen_fields.proofs.FieldSteps.{refused, passed, gives_by}
use Rattle.jsgen_fields.proofs.Gives.{gives_row}
use Rattle.jsgen_tree.specs.Rows.{switch_statement_row}
use Rattle.jsgen_statement_rows.proofs.choices.read_switch_statement.Goals as goal

pub returns-in-Err : goal.returns-in-Err
unfolding read_node
returns-in-Err g c = λ told. refused _ (refused _ (c.in-Err.ensures told))

pub returns-in-Err-switch_case_list : goal.returns-in-Err-switch_case_list
unfolding read_node
returns-in-Err-switch_case_list g c = λ told. refused _ (passed _ c.in-Ok.ensures (refused _ (refused _ (c.in-Err-switch_case_list.ensures told))))

pub returns-in-Ok-boxed : goal.returns-in-Ok-boxed
unfolding read_node
returns-in-Ok-boxed g c = gives_by _ _ _ (passed _ (passed _ c.in-Ok.ensures (passed _ (passed _ c.in-Ok-switch_case_list.ensures refl) refl)) refl) (gives_row _ _ _ (switch_statement_row g.N.HasType.plain) _ _ c.in-Ok-boxed.ensures c.row_of_statement.ensures)

pub returns-in-Err-boxed : goal.returns-in-Err-boxed
returns-in-Err-boxed g c = λ told. let h = c.in-Err-boxed.ensures told in cc h
