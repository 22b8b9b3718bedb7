-- Generated from tools/nodes/table.txt; edit that and run tools/nodes/generate.
-- What each call ensures, field by field.
use Rattle.std.proofs.Common.{refl}
use Rattle.std.specs.Prelude.{codes}
use Rattle.jsgen_fields.specs.Given.{row_data}
use Rattle.jsgen_fields.specs.Reads.{read_node}
use Rattle.jsgen_fields.specs.Values.{at, field, not_given}
use Rattle.jsgen_fields.proofs.FieldSteps.{refused, passed}
use Rattle.jsgen_fields.proofs.Gives.{first_of_two, second_of_two, refused_of_two, gives_node}
use Rattle.jsgen_tree.specs.Rows.{function_row}
use Rattle.jsgen_expression_rows.proofs.functions.read_function.Goals as goal

pub returns-in-Err : goal.returns-in-Err
unfolding read_node
returns-in-Err g c = λ told. refused _ (refused _ (refused _ (c.in-Err.ensures told)))

pub returns-in-Err-optional_binding_identifier : goal.returns-in-Err-optional_binding_identifier
unfolding read_node
returns-in-Err-optional_binding_identifier g c = λ told. refused _ (passed _ (passed _ c.in-Ok.ensures refl) (refused _ (refused _ (c.in-Err-optional_binding_identifier.ensures told))))

pub returns-in-Err-optional_flag : goal.returns-in-Err-optional_flag
unfolding read_node
returns-in-Err-optional_flag g c = λ told. refused _ (passed _ (passed _ c.in-Ok.ensures refl) (refused _ (passed _ c.in-Ok-optional_binding_identifier.ensures (refused _ (refused _ (refused _ (c.in-Err-optional_flag.ensures told)))))))

pub returns-in-Err-optional_flag-2 : goal.returns-in-Err-optional_flag-2
unfolding read_node
returns-in-Err-optional_flag-2 g c = λ told. refused _ (passed _ (passed _ c.in-Ok.ensures refl) (refused _ (passed _ c.in-Ok-optional_binding_identifier.ensures (refused _ (passed _ (passed _ c.in-Ok-optional_flag.ensures refl) (refused _ (refused _ (refused _ (c.in-Err-optional_flag-2.ensures told)))))))))

pub returns-in-Err-field_not_given : goal.returns-in-Err-field_not_given
unfolding read_node
returns-in-Err-field_not_given g c = λ told. refused _ (passed _ (passed _ c.in-Ok.ensures refl) (refused _ (passed _ c.in-Ok-optional_binding_identifier.ensures (refused _ (passed _ (passed _ c.in-Ok-optional_flag.ensures refl) (refused _ (passed _ (passed _ c.in-Ok-optional_flag-2.ensures refl) (refused _ (refused _ (refused _ (c.in-Err-field_not_given.ensures told)))))))))))

pub returns-in-Err-optional_flag-3 : goal.returns-in-Err-optional_flag-3
unfolding read_node
returns-in-Err-optional_flag-3 g c = λ told. refused _ (passed _ (passed _ c.in-Ok.ensures refl) (refused _ (passed _ c.in-Ok-optional_binding_identifier.ensures (refused _ (passed _ (passed _ c.in-Ok-optional_flag.ensures refl) (refused _ (passed _ (passed _ c.in-Ok-optional_flag-2.ensures refl) (refused _ (passed _ (passed _ c.in-Ok-field_not_given.ensures refl) (refused _ (refused _ (refused _ (c.in-Err-optional_flag-3.ensures told)))))))))))))

pub returns-in-Err-optional_flag-4 : goal.returns-in-Err-optional_flag-4
unfolding read_node
returns-in-Err-optional_flag-4 g c = λ told. refused _ (passed _ (passed _ c.in-Ok.ensures refl) (refused _ (passed _ c.in-Ok-optional_binding_identifier.ensures (refused _ (passed _ (passed _ c.in-Ok-optional_flag.ensures refl) (refused _ (passed _ (passed _ c.in-Ok-optional_flag-2.ensures refl) (refused _ (passed _ (passed _ c.in-Ok-field_not_given.ensures refl) (refused _ (passed _ (passed _ c.in-Ok-optional_flag-3.ensures refl) (refused _ (refused _ (refused _ (c.in-Err-optional_flag-4.ensures told)))))))))))))))

pub returns-in-Err-neither_given : goal.returns-in-Err-neither_given
unfolding read_node
returns-in-Err-neither_given g c = λ told. rw (c.in-Ok.ensures, c.in-Ok-optional_binding_identifier.ensures, c.in-Ok-optional_flag.ensures, c.in-Ok-optional_flag-2.ensures, c.in-Ok-field_not_given.ensures, c.in-Ok-optional_flag-3.ensures, c.in-Ok-optional_flag-4.ensures) (refused_of_two (not_given (at c.args.number 9) (field (codes "type_parameters") (row_data c.args.row.now))) (not_given (at c.args.number 10) (field (codes "this_param") (row_data c.args.row.now))) (c.in-Err-neither_given.ensures told) (λ e. rw e) (λ e f. rw (e, f)))

pub returns-in-Err-needed_formal_parameters : goal.returns-in-Err-needed_formal_parameters
unfolding read_node
returns-in-Err-needed_formal_parameters g c = λ told. refused _ (passed _ (passed _ c.in-Ok.ensures refl) (refused _ (passed _ c.in-Ok-optional_binding_identifier.ensures (refused _ (passed _ (passed _ c.in-Ok-optional_flag.ensures refl) (refused _ (passed _ (passed _ c.in-Ok-optional_flag-2.ensures refl) (refused _ (passed _ (passed _ c.in-Ok-field_not_given.ensures refl) (refused _ (passed _ (passed _ c.in-Ok-optional_flag-3.ensures refl) (refused _ (passed _ (passed _ c.in-Ok-optional_flag-4.ensures refl) (refused _ (passed _ (passed _ (first_of_two (not_given (at c.args.number 9) (field (codes "type_parameters") (row_data c.args.row.now))) (not_given (at c.args.number 10) (field (codes "this_param") (row_data c.args.row.now))) c.in-Ok-neither_given.ensures) refl) (refused _ (passed _ (passed _ (second_of_two (not_given (at c.args.number 9) (field (codes "type_parameters") (row_data c.args.row.now))) (not_given (at c.args.number 10) (field (codes "this_param") (row_data c.args.row.now))) c.in-Ok-neither_given.ensures) refl) (refused _ (refused _ (c.in-Err-needed_formal_parameters.ensures told))))))))))))))))))))

pub returns-in-Err-field_not_given-2 : goal.returns-in-Err-field_not_given-2
unfolding read_node
returns-in-Err-field_not_given-2 g c = λ told. refused _ (passed _ (passed _ c.in-Ok.ensures refl) (refused _ (passed _ c.in-Ok-optional_binding_identifier.ensures (refused _ (passed _ (passed _ c.in-Ok-optional_flag.ensures refl) (refused _ (passed _ (passed _ c.in-Ok-optional_flag-2.ensures refl) (refused _ (passed _ (passed _ c.in-Ok-field_not_given.ensures refl) (refused _ (passed _ (passed _ c.in-Ok-optional_flag-3.ensures refl) (refused _ (passed _ (passed _ c.in-Ok-optional_flag-4.ensures refl) (refused _ (passed _ (passed _ (first_of_two (not_given (at c.args.number 9) (field (codes "type_parameters") (row_data c.args.row.now))) (not_given (at c.args.number 10) (field (codes "this_param") (row_data c.args.row.now))) c.in-Ok-neither_given.ensures) refl) (refused _ (passed _ (passed _ (second_of_two (not_given (at c.args.number 9) (field (codes "type_parameters") (row_data c.args.row.now))) (not_given (at c.args.number 10) (field (codes "this_param") (row_data c.args.row.now))) c.in-Ok-neither_given.ensures) refl) (refused _ (passed _ c.in-Ok-needed_formal_parameters.ensures (refused _ (refused _ (refused _ (c.in-Err-field_not_given-2.ensures told)))))))))))))))))))))))

pub returns-in-Err-optional_function_body : goal.returns-in-Err-optional_function_body
unfolding read_node
returns-in-Err-optional_function_body g c = λ told. refused _ (passed _ (passed _ c.in-Ok.ensures refl) (refused _ (passed _ c.in-Ok-optional_binding_identifier.ensures (refused _ (passed _ (passed _ c.in-Ok-optional_flag.ensures refl) (refused _ (passed _ (passed _ c.in-Ok-optional_flag-2.ensures refl) (refused _ (passed _ (passed _ c.in-Ok-field_not_given.ensures refl) (refused _ (passed _ (passed _ c.in-Ok-optional_flag-3.ensures refl) (refused _ (passed _ (passed _ c.in-Ok-optional_flag-4.ensures refl) (refused _ (passed _ (passed _ (first_of_two (not_given (at c.args.number 9) (field (codes "type_parameters") (row_data c.args.row.now))) (not_given (at c.args.number 10) (field (codes "this_param") (row_data c.args.row.now))) c.in-Ok-neither_given.ensures) refl) (refused _ (passed _ (passed _ (second_of_two (not_given (at c.args.number 9) (field (codes "type_parameters") (row_data c.args.row.now))) (not_given (at c.args.number 10) (field (codes "this_param") (row_data c.args.row.now))) c.in-Ok-neither_given.ensures) refl) (refused _ (passed _ c.in-Ok-needed_formal_parameters.ensures (refused _ (passed _ (passed _ c.in-Ok-field_not_given-2.ensures refl) (refused _ (refused _ (c.in-Err-optional_function_body.ensures told))))))))))))))))))))))))

pub returns-in-Ok-boxed : goal.returns-in-Ok-boxed
unfolding read_node
returns-in-Ok-boxed g c = passed _ (passed _ (passed _ c.in-Ok.ensures refl) (passed _ (passed _ c.in-Ok-optional_binding_identifier.ensures (passed _ (passed _ (passed _ c.in-Ok-optional_flag.ensures refl) (passed _ (passed _ (passed _ c.in-Ok-optional_flag-2.ensures refl) (passed _ (passed _ (passed _ c.in-Ok-field_not_given.ensures refl) (passed _ (passed _ (passed _ c.in-Ok-optional_flag-3.ensures refl) (passed _ (passed _ (passed _ c.in-Ok-optional_flag-4.ensures refl) (passed _ (passed _ (passed _ (first_of_two (not_given (at c.args.number 9) (field (codes "type_parameters") (row_data c.args.row.now))) (not_given (at c.args.number 10) (field (codes "this_param") (row_data c.args.row.now))) c.in-Ok-neither_given.ensures) refl) (passed _ (passed _ (passed _ (second_of_two (not_given (at c.args.number 9) (field (codes "type_parameters") (row_data c.args.row.now))) (not_given (at c.args.number 10) (field (codes "this_param") (row_data c.args.row.now))) c.in-Ok-neither_given.ensures) refl) (passed _ (passed _ c.in-Ok-needed_formal_parameters.ensures (passed _ (passed _ (passed _ c.in-Ok-field_not_given-2.ensures refl) (passed _ (passed _ c.in-Ok-optional_function_body.ensures refl) refl)) refl)) refl)) refl)) refl)) refl)) refl)) refl)) refl)) refl)) refl)) (gives_node g.R.Typed.plain c.row_of_function.result _ (function_row g.N.HasType.plain) _ _ c.in-Ok-boxed.ensures c.row_of_function.ensures)

pub returns-in-Err-boxed : goal.returns-in-Err-boxed
returns-in-Err-boxed g c = λ told. let h = c.in-Err-boxed.ensures told in cc h
