-- Generated from tools/nodes/table.txt; edit that and run tools/nodes/generate.
-- What each call ensures, field by field.
use Rattle.std.proofs.Common.{refl}
use Rattle.jsgen_fields.specs.Reads.{read_node}
use Rattle.jsgen_fields.proofs.FieldSteps.{refused, passed}
use Rattle.jsgen_fields.proofs.Gives.{gives_node}
use Rattle.jsgen_tree.specs.Rows.{catch_clause_row}
use Rattle.jsgen_statement_rows.proofs.choices.read_catch_clause.Goals as goal

pub returns-in-Err : goal.returns-in-Err
unfolding read_node
returns-in-Err g c = λ told. refused _ (refused _ (c.in-Err.ensures told))

pub returns-in-Err-field_not_given : goal.returns-in-Err-field_not_given
unfolding read_node
returns-in-Err-field_not_given g c = λ told. refused _ (passed _ c.in-Ok.ensures (refused _ (refused _ (refused _ (c.in-Err-field_not_given.ensures told)))))

pub returns-in-Err-needed_block_statement : goal.returns-in-Err-needed_block_statement
unfolding read_node
returns-in-Err-needed_block_statement g c = λ told. refused _ (passed _ c.in-Ok.ensures (refused _ (passed _ (passed _ c.in-Ok-field_not_given.ensures refl) (refused _ (refused _ (c.in-Err-needed_block_statement.ensures told))))))

pub returns-in-Ok-boxed : goal.returns-in-Ok-boxed
unfolding read_node
returns-in-Ok-boxed g c = passed _ (passed _ c.in-Ok.ensures (passed _ (passed _ (passed _ c.in-Ok-field_not_given.ensures refl) (passed _ (passed _ c.in-Ok-needed_block_statement.ensures refl) refl)) refl)) (gives_node g.R.Typed.plain c.row_of_catch_clause.result _ (catch_clause_row g.N.HasType.plain) _ _ c.in-Ok-boxed.ensures c.row_of_catch_clause.ensures)

pub returns-in-Err-boxed : goal.returns-in-Err-boxed
returns-in-Err-boxed g c = λ told. let h = c.in-Err-boxed.ensures told in cc h
