-- Generated from tools/nodes/table.txt; edit that and run tools/nodes/generate.
-- What each call ensures, field by field.
use Rattle.std.proofs.Common.{refl}
use Rattle.std.specs.Prelude.{codes}
use Rattle.jsgen_fields.specs.Given.{row_data}
use Rattle.jsgen_fields.specs.Reads.{read_node}
use Rattle.jsgen_fields.specs.Values.{at, field, not_given}
use Rattle.jsgen_fields.proofs.FieldSteps.{refused, passed}
use Rattle.jsgen_fields.proofs.Gives.{first_of_two, second_of_two, refused_of_two, gives_node}
use Rattle.jsgen_tree.specs.Rows.{variable_declarator_row}
use Rattle.jsgen_statement_rows.proofs.statements.read_variable_declarator.Goals as goal

pub returns-in-Err : goal.returns-in-Err
unfolding read_node
returns-in-Err g c = λ told. refused _ (refused _ (c.in-Err.ensures told))

pub returns-in-Err-neither_given : goal.returns-in-Err-neither_given
unfolding read_node
returns-in-Err-neither_given g c = λ told. rw (c.in-Ok.ensures) (refused_of_two (not_given (at c.args.number 3) (field (codes "definite") (row_data c.args.row.now))) (not_given (at c.args.number 4) (field (codes "type_annotation") (row_data c.args.row.now))) (c.in-Err-neither_given.ensures told) (λ e. rw e) (λ e f. rw (e, f)))

pub returns-in-Err-optional_expression : goal.returns-in-Err-optional_expression
unfolding read_node
returns-in-Err-optional_expression g c = λ told. refused _ (passed _ c.in-Ok.ensures (refused _ (passed _ (passed _ (first_of_two (not_given (at c.args.number 3) (field (codes "definite") (row_data c.args.row.now))) (not_given (at c.args.number 4) (field (codes "type_annotation") (row_data c.args.row.now))) c.in-Ok-neither_given.ensures) refl) (refused _ (passed _ (passed _ (second_of_two (not_given (at c.args.number 3) (field (codes "definite") (row_data c.args.row.now))) (not_given (at c.args.number 4) (field (codes "type_annotation") (row_data c.args.row.now))) c.in-Ok-neither_given.ensures) refl) (refused _ (refused _ (c.in-Err-optional_expression.ensures told))))))))

pub returns-in-Ok-boxed : goal.returns-in-Ok-boxed
unfolding read_node
returns-in-Ok-boxed g c = passed _ (passed _ c.in-Ok.ensures (passed _ (passed _ (passed _ (first_of_two (not_given (at c.args.number 3) (field (codes "definite") (row_data c.args.row.now))) (not_given (at c.args.number 4) (field (codes "type_annotation") (row_data c.args.row.now))) c.in-Ok-neither_given.ensures) refl) (passed _ (passed _ (passed _ (second_of_two (not_given (at c.args.number 3) (field (codes "definite") (row_data c.args.row.now))) (not_given (at c.args.number 4) (field (codes "type_annotation") (row_data c.args.row.now))) c.in-Ok-neither_given.ensures) refl) (passed _ (passed _ c.in-Ok-optional_expression.ensures refl) refl)) refl)) refl)) (gives_node g.R.Typed.plain c.row_of_variable_declarator.result _ (variable_declarator_row g.N.HasType.plain) _ _ c.in-Ok-boxed.ensures c.row_of_variable_declarator.ensures)

pub returns-in-Err-boxed : goal.returns-in-Err-boxed
returns-in-Err-boxed g c = λ told. let h = c.in-Err-boxed.ensures told in cc h
