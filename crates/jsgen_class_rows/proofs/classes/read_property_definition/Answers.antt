-- Generated from tools/nodes/table.txt; edit that and run tools/nodes/generate.
-- What each call ensures, field by field.
use Rattle.std.proofs.Common.{refl}
use Rattle.std.specs.Prelude.{codes}
use Rattle.jsgen_fields.specs.Given.{row_data}
use Rattle.jsgen_fields.specs.Reads.{read_node}
use Rattle.jsgen_fields.specs.Values.{at, field, not_given}
use Rattle.jsgen_fields.proofs.FieldSteps.{refused, passed, gives_by}
use Rattle.jsgen_fields.proofs.Gives.{first_of_two, second_of_two, refused_of_two, gives_row}
use Rattle.jsgen_tree.specs.Rows.{property_definition_row}
use Rattle.jsgen_class_rows.proofs.classes.read_property_definition.Goals as goal

pub returns-in-Err : goal.returns-in-Err
unfolding read_node
returns-in-Err g c = λ told. refused _ (refused _ (refused _ (c.in-Err.ensures told)))

pub returns-in-Err-needed_property_key : goal.returns-in-Err-needed_property_key
unfolding read_node
returns-in-Err-needed_property_key g c = λ told. refused _ (passed _ (passed _ c.in-Ok.ensures refl) (refused _ (refused _ (c.in-Err-needed_property_key.ensures told))))

pub returns-in-Err-field_not_given : goal.returns-in-Err-field_not_given
unfolding read_node
returns-in-Err-field_not_given g c = λ told. refused _ (passed _ (passed _ c.in-Ok.ensures refl) (refused _ (passed _ c.in-Ok-needed_property_key.ensures (refused _ (refused _ (refused _ (c.in-Err-field_not_given.ensures told)))))))

pub returns-in-Err-optional_flag : goal.returns-in-Err-optional_flag
unfolding read_node
returns-in-Err-optional_flag g c = λ told. refused _ (passed _ (passed _ c.in-Ok.ensures refl) (refused _ (passed _ c.in-Ok-needed_property_key.ensures (refused _ (passed _ (passed _ c.in-Ok-field_not_given.ensures refl) (refused _ (refused _ (refused _ (c.in-Err-optional_flag.ensures told)))))))))

pub returns-in-Err-neither_given : goal.returns-in-Err-neither_given
unfolding read_node
returns-in-Err-neither_given g c = λ told. rw (c.in-Ok.ensures, c.in-Ok-needed_property_key.ensures, c.in-Ok-field_not_given.ensures, c.in-Ok-optional_flag.ensures) (refused_of_two (not_given (at c.args.number 6) (field (codes "declare") (row_data c.args.row.now))) (not_given (at c.args.number 7) (field (codes "is_abstract") (row_data c.args.row.now))) (c.in-Err-neither_given.ensures told) (λ e. rw e) (λ e f. rw (e, f)))

pub returns-in-Err-optional_flag-2 : goal.returns-in-Err-optional_flag-2
unfolding read_node
returns-in-Err-optional_flag-2 g c = λ told. refused _ (passed _ (passed _ c.in-Ok.ensures refl) (refused _ (passed _ c.in-Ok-needed_property_key.ensures (refused _ (passed _ (passed _ c.in-Ok-field_not_given.ensures refl) (refused _ (passed _ (passed _ c.in-Ok-optional_flag.ensures refl) (refused _ (passed _ (passed _ (first_of_two (not_given (at c.args.number 6) (field (codes "declare") (row_data c.args.row.now))) (not_given (at c.args.number 7) (field (codes "is_abstract") (row_data c.args.row.now))) c.in-Ok-neither_given.ensures) refl) (refused _ (passed _ (passed _ (second_of_two (not_given (at c.args.number 6) (field (codes "declare") (row_data c.args.row.now))) (not_given (at c.args.number 7) (field (codes "is_abstract") (row_data c.args.row.now))) c.in-Ok-neither_given.ensures) refl) (refused _ (refused _ (refused _ (c.in-Err-optional_flag-2.ensures told)))))))))))))))

pub returns-in-Err-neither_given-2 : goal.returns-in-Err-neither_given-2
unfolding read_node
returns-in-Err-neither_given-2 g c = λ told. rw (c.in-Ok.ensures, c.in-Ok-needed_property_key.ensures, c.in-Ok-field_not_given.ensures, c.in-Ok-optional_flag.ensures, first_of_two (not_given (at c.args.number 6) (field (codes "declare") (row_data c.args.row.now))) (not_given (at c.args.number 7) (field (codes "is_abstract") (row_data c.args.row.now))) c.in-Ok-neither_given.ensures, second_of_two (not_given (at c.args.number 6) (field (codes "declare") (row_data c.args.row.now))) (not_given (at c.args.number 7) (field (codes "is_abstract") (row_data c.args.row.now))) c.in-Ok-neither_given.ensures, c.in-Ok-optional_flag-2.ensures) (refused_of_two (not_given (at c.args.number 9) (field (codes "is_override") (row_data c.args.row.now))) (not_given (at c.args.number 10) (field (codes "readonly") (row_data c.args.row.now))) (c.in-Err-neither_given-2.ensures told) (λ e. rw e) (λ e f. rw (e, f)))

pub returns-in-Err-neither_given-3 : goal.returns-in-Err-neither_given-3
unfolding read_node
returns-in-Err-neither_given-3 g c = λ told. rw (c.in-Ok.ensures, c.in-Ok-needed_property_key.ensures, c.in-Ok-field_not_given.ensures, c.in-Ok-optional_flag.ensures, first_of_two (not_given (at c.args.number 6) (field (codes "declare") (row_data c.args.row.now))) (not_given (at c.args.number 7) (field (codes "is_abstract") (row_data c.args.row.now))) c.in-Ok-neither_given.ensures, second_of_two (not_given (at c.args.number 6) (field (codes "declare") (row_data c.args.row.now))) (not_given (at c.args.number 7) (field (codes "is_abstract") (row_data c.args.row.now))) c.in-Ok-neither_given.ensures, c.in-Ok-optional_flag-2.ensures, first_of_two (not_given (at c.args.number 9) (field (codes "is_override") (row_data c.args.row.now))) (not_given (at c.args.number 10) (field (codes "readonly") (row_data c.args.row.now))) c.in-Ok-neither_given-2.ensures, second_of_two (not_given (at c.args.number 9) (field (codes "is_override") (row_data c.args.row.now))) (not_given (at c.args.number 10) (field (codes "readonly") (row_data c.args.row.now))) c.in-Ok-neither_given-2.ensures) (refused_of_two (not_given (at c.args.number 11) (field (codes "optional") (row_data c.args.row.now))) (not_given (at c.args.number 12) (field (codes "definite") (row_data c.args.row.now))) (c.in-Err-neither_given-3.ensures told) (λ e. rw e) (λ e f. rw (e, f)))

pub returns-in-Err-field_not_given-2 : goal.returns-in-Err-field_not_given-2
unfolding read_node
returns-in-Err-field_not_given-2 g c = λ told. refused _ (passed _ (passed _ c.in-Ok.ensures refl) (refused _ (passed _ c.in-Ok-needed_property_key.ensures (refused _ (passed _ (passed _ c.in-Ok-field_not_given.ensures refl) (refused _ (passed _ (passed _ c.in-Ok-optional_flag.ensures refl) (refused _ (passed _ (passed _ (first_of_two (not_given (at c.args.number 6) (field (codes "declare") (row_data c.args.row.now))) (not_given (at c.args.number 7) (field (codes "is_abstract") (row_data c.args.row.now))) c.in-Ok-neither_given.ensures) refl) (refused _ (passed _ (passed _ (second_of_two (not_given (at c.args.number 6) (field (codes "declare") (row_data c.args.row.now))) (not_given (at c.args.number 7) (field (codes "is_abstract") (row_data c.args.row.now))) c.in-Ok-neither_given.ensures) refl) (refused _ (passed _ (passed _ c.in-Ok-optional_flag-2.ensures refl) (refused _ (passed _ (passed _ (first_of_two (not_given (at c.args.number 9) (field (codes "is_override") (row_data c.args.row.now))) (not_given (at c.args.number 10) (field (codes "readonly") (row_data c.args.row.now))) c.in-Ok-neither_given-2.ensures) refl) (refused _ (passed _ (passed _ (second_of_two (not_given (at c.args.number 9) (field (codes "is_override") (row_data c.args.row.now))) (not_given (at c.args.number 10) (field (codes "readonly") (row_data c.args.row.now))) c.in-Ok-neither_given-2.ensures) refl) (refused _ (passed _ (passed _ (first_of_two (not_given (at c.args.number 11) (field (codes "optional") (row_data c.args.row.now))) (not_given (at c.args.number 12) (field (codes "definite") (row_data c.args.row.now))) c.in-Ok-neither_given-3.ensures) refl) (refused _ (passed _ (passed _ (second_of_two (not_given (at c.args.number 11) (field (codes "optional") (row_data c.args.row.now))) (not_given (at c.args.number 12) (field (codes "definite") (row_data c.args.row.now))) c.in-Ok-neither_given-3.ensures) refl) (refused _ (refused _ (refused _ (c.in-Err-field_not_given-2.ensures told)))))))))))))))))))))))))

pub returns-in-Err-optional_expression : goal.returns-in-Err-optional_expression
unfolding read_node
returns-in-Err-optional_expression g c = λ told. refused _ (passed _ (passed _ c.in-Ok.ensures refl) (refused _ (passed _ c.in-Ok-needed_property_key.ensures (refused _ (passed _ (passed _ c.in-Ok-field_not_given.ensures refl) (refused _ (passed _ (passed _ c.in-Ok-optional_flag.ensures refl) (refused _ (passed _ (passed _ (first_of_two (not_given (at c.args.number 6) (field (codes "declare") (row_data c.args.row.now))) (not_given (at c.args.number 7) (field (codes "is_abstract") (row_data c.args.row.now))) c.in-Ok-neither_given.ensures) refl) (refused _ (passed _ (passed _ (second_of_two (not_given (at c.args.number 6) (field (codes "declare") (row_data c.args.row.now))) (not_given (at c.args.number 7) (field (codes "is_abstract") (row_data c.args.row.now))) c.in-Ok-neither_given.ensures) refl) (refused _ (passed _ (passed _ c.in-Ok-optional_flag-2.ensures refl) (refused _ (passed _ (passed _ (first_of_two (not_given (at c.args.number 9) (field (codes "is_override") (row_data c.args.row.now))) (not_given (at c.args.number 10) (field (codes "readonly") (row_data c.args.row.now))) c.in-Ok-neither_given-2.ensures) refl) (refused _ (passed _ (passed _ (second_of_two (not_given (at c.args.number 9) (field (codes "is_override") (row_data c.args.row.now))) (not_given (at c.args.number 10) (field (codes "readonly") (row_data c.args.row.now))) c.in-Ok-neither_given-2.ensures) refl) (refused _ (passed _ (passed _ (first_of_two (not_given (at c.args.number 11) (field (codes "optional") (row_data c.args.row.now))) (not_given (at c.args.number 12) (field (codes "definite") (row_data c.args.row.now))) c.in-Ok-neither_given-3.ensures) refl) (refused _ (passed _ (passed _ (second_of_two (not_given (at c.args.number 11) (field (codes "optional") (row_data c.args.row.now))) (not_given (at c.args.number 12) (field (codes "definite") (row_data c.args.row.now))) c.in-Ok-neither_given-3.ensures) refl) (refused _ (passed _ (passed _ c.in-Ok-field_not_given-2.ensures refl) (refused _ (refused _ (c.in-Err-optional_expression.ensures told))))))))))))))))))))))))))

pub returns-in-Ok-boxed : goal.returns-in-Ok-boxed
unfolding read_node
returns-in-Ok-boxed g c = gives_by _ _ _ (passed _ (passed _ (passed _ c.in-Ok.ensures refl) (passed _ (passed _ c.in-Ok-needed_property_key.ensures (passed _ (passed _ (passed _ c.in-Ok-field_not_given.ensures refl) (passed _ (passed _ (passed _ c.in-Ok-optional_flag.ensures refl) (passed _ (passed _ (passed _ (first_of_two (not_given (at c.args.number 6) (field (codes "declare") (row_data c.args.row.now))) (not_given (at c.args.number 7) (field (codes "is_abstract") (row_data c.args.row.now))) c.in-Ok-neither_given.ensures) refl) (passed _ (passed _ (passed _ (second_of_two (not_given (at c.args.number 6) (field (codes "declare") (row_data c.args.row.now))) (not_given (at c.args.number 7) (field (codes "is_abstract") (row_data c.args.row.now))) c.in-Ok-neither_given.ensures) refl) (passed _ (passed _ (passed _ c.in-Ok-optional_flag-2.ensures refl) (passed _ (passed _ (passed _ (first_of_two (not_given (at c.args.number 9) (field (codes "is_override") (row_data c.args.row.now))) (not_given (at c.args.number 10) (field (codes "readonly") (row_data c.args.row.now))) c.in-Ok-neither_given-2.ensures) refl) (passed _ (passed _ (passed _ (second_of_two (not_given (at c.args.number 9) (field (codes "is_override") (row_data c.args.row.now))) (not_given (at c.args.number 10) (field (codes "readonly") (row_data c.args.row.now))) c.in-Ok-neither_given-2.ensures) refl) (passed _ (passed _ (passed _ (first_of_two (not_given (at c.args.number 11) (field (codes "optional") (row_data c.args.row.now))) (not_given (at c.args.number 12) (field (codes "definite") (row_data c.args.row.now))) c.in-Ok-neither_given-3.ensures) refl) (passed _ (passed _ (passed _ (second_of_two (not_given (at c.args.number 11) (field (codes "optional") (row_data c.args.row.now))) (not_given (at c.args.number 12) (field (codes "definite") (row_data c.args.row.now))) c.in-Ok-neither_given-3.ensures) refl) (passed _ (passed _ (passed _ c.in-Ok-field_not_given-2.ensures refl) (passed _ (passed _ c.in-Ok-optional_expression.ensures refl) refl)) refl)) refl)) refl)) refl)) refl)) refl)) refl)) refl)) refl)) refl)) refl)) refl) (gives_row _ _ _ (property_definition_row g.N.HasType.plain) _ _ c.in-Ok-boxed.ensures c.row_of_class_element.ensures)

pub returns-in-Err-boxed : goal.returns-in-Err-boxed
returns-in-Err-boxed g c = λ told. let h = c.in-Err-boxed.ensures told in cc h
