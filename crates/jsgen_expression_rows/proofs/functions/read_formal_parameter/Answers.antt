-- Generated from tools/nodes/table.txt; edit that and run tools/nodes/generate.
-- What each call ensures, field by field.
use Rattle.std.proofs.Common.{refl}
use Rattle.std.specs.Prelude.{codes}
use Rattle.jsgen_fields.specs.Given.{row_data}
use Rattle.jsgen_fields.specs.Reads.{read_node}
use Rattle.jsgen_fields.specs.Values.{at, field, not_given}
use Rattle.jsgen_fields.proofs.FieldSteps.{refused, passed}
use Rattle.jsgen_fields.proofs.Gives.{first_of_two, second_of_two, refused_of_two, gives_node}
use Rattle.jsgen_tree.specs.Rows.{formal_parameter_row}
use Rattle.jsgen_expression_rows.proofs.functions.read_formal_parameter.Goals as goal

pub returns-in-Err : goal.returns-in-Err
unfolding read_node
returns-in-Err g c = λ told. refused_of_two (not_given (at c.args.number 2) (field (codes "decorators") (row_data c.args.row.now))) (not_given (at c.args.number 3) (field (codes "accessibility") (row_data c.args.row.now))) (c.in-Err.ensures told) (λ e. rw e) (λ e f. rw (e, f))

pub returns-in-Err-neither_given : goal.returns-in-Err-neither_given
unfolding read_node
returns-in-Err-neither_given g c = λ told. rw (first_of_two (not_given (at c.args.number 2) (field (codes "decorators") (row_data c.args.row.now))) (not_given (at c.args.number 3) (field (codes "accessibility") (row_data c.args.row.now))) c.in-Ok.ensures, second_of_two (not_given (at c.args.number 2) (field (codes "decorators") (row_data c.args.row.now))) (not_given (at c.args.number 3) (field (codes "accessibility") (row_data c.args.row.now))) c.in-Ok.ensures) (refused_of_two (not_given (at c.args.number 4) (field (codes "is_override") (row_data c.args.row.now))) (not_given (at c.args.number 5) (field (codes "readonly") (row_data c.args.row.now))) (c.in-Err-neither_given.ensures told) (λ e. rw e) (λ e f. rw (e, f)))

pub returns-in-Err-needed_binding_pattern : goal.returns-in-Err-needed_binding_pattern
unfolding read_node
returns-in-Err-needed_binding_pattern g c = λ told. refused _ (passed _ (passed _ (first_of_two (not_given (at c.args.number 2) (field (codes "decorators") (row_data c.args.row.now))) (not_given (at c.args.number 3) (field (codes "accessibility") (row_data c.args.row.now))) c.in-Ok.ensures) refl) (refused _ (passed _ (passed _ (second_of_two (not_given (at c.args.number 2) (field (codes "decorators") (row_data c.args.row.now))) (not_given (at c.args.number 3) (field (codes "accessibility") (row_data c.args.row.now))) c.in-Ok.ensures) refl) (refused _ (passed _ (passed _ (first_of_two (not_given (at c.args.number 4) (field (codes "is_override") (row_data c.args.row.now))) (not_given (at c.args.number 5) (field (codes "readonly") (row_data c.args.row.now))) c.in-Ok-neither_given.ensures) refl) (refused _ (passed _ (passed _ (second_of_two (not_given (at c.args.number 4) (field (codes "is_override") (row_data c.args.row.now))) (not_given (at c.args.number 5) (field (codes "readonly") (row_data c.args.row.now))) c.in-Ok-neither_given.ensures) refl) (refused _ (refused _ (c.in-Err-needed_binding_pattern.ensures told))))))))))

pub returns-in-Err-neither_given-2 : goal.returns-in-Err-neither_given-2
unfolding read_node
returns-in-Err-neither_given-2 g c = λ told. rw (first_of_two (not_given (at c.args.number 2) (field (codes "decorators") (row_data c.args.row.now))) (not_given (at c.args.number 3) (field (codes "accessibility") (row_data c.args.row.now))) c.in-Ok.ensures, second_of_two (not_given (at c.args.number 2) (field (codes "decorators") (row_data c.args.row.now))) (not_given (at c.args.number 3) (field (codes "accessibility") (row_data c.args.row.now))) c.in-Ok.ensures, first_of_two (not_given (at c.args.number 4) (field (codes "is_override") (row_data c.args.row.now))) (not_given (at c.args.number 5) (field (codes "readonly") (row_data c.args.row.now))) c.in-Ok-neither_given.ensures, second_of_two (not_given (at c.args.number 4) (field (codes "is_override") (row_data c.args.row.now))) (not_given (at c.args.number 5) (field (codes "readonly") (row_data c.args.row.now))) c.in-Ok-neither_given.ensures, c.in-Ok-needed_binding_pattern.ensures) (refused_of_two (not_given (at c.args.number 7) (field (codes "optional") (row_data c.args.row.now))) (not_given (at c.args.number 8) (field (codes "type_annotation") (row_data c.args.row.now))) (c.in-Err-neither_given-2.ensures told) (λ e. rw e) (λ e f. rw (e, f)))

pub returns-in-Err-optional_expression : goal.returns-in-Err-optional_expression
unfolding read_node
returns-in-Err-optional_expression g c = λ told. refused _ (passed _ (passed _ (first_of_two (not_given (at c.args.number 2) (field (codes "decorators") (row_data c.args.row.now))) (not_given (at c.args.number 3) (field (codes "accessibility") (row_data c.args.row.now))) c.in-Ok.ensures) refl) (refused _ (passed _ (passed _ (second_of_two (not_given (at c.args.number 2) (field (codes "decorators") (row_data c.args.row.now))) (not_given (at c.args.number 3) (field (codes "accessibility") (row_data c.args.row.now))) c.in-Ok.ensures) refl) (refused _ (passed _ (passed _ (first_of_two (not_given (at c.args.number 4) (field (codes "is_override") (row_data c.args.row.now))) (not_given (at c.args.number 5) (field (codes "readonly") (row_data c.args.row.now))) c.in-Ok-neither_given.ensures) refl) (refused _ (passed _ (passed _ (second_of_two (not_given (at c.args.number 4) (field (codes "is_override") (row_data c.args.row.now))) (not_given (at c.args.number 5) (field (codes "readonly") (row_data c.args.row.now))) c.in-Ok-neither_given.ensures) refl) (refused _ (passed _ c.in-Ok-needed_binding_pattern.ensures (refused _ (passed _ (passed _ (first_of_two (not_given (at c.args.number 7) (field (codes "optional") (row_data c.args.row.now))) (not_given (at c.args.number 8) (field (codes "type_annotation") (row_data c.args.row.now))) c.in-Ok-neither_given-2.ensures) refl) (refused _ (passed _ (passed _ (second_of_two (not_given (at c.args.number 7) (field (codes "optional") (row_data c.args.row.now))) (not_given (at c.args.number 8) (field (codes "type_annotation") (row_data c.args.row.now))) c.in-Ok-neither_given-2.ensures) refl) (refused _ (refused _ (c.in-Err-optional_expression.ensures told))))))))))))))))

pub returns-in-Ok-boxed : goal.returns-in-Ok-boxed
unfolding read_node
returns-in-Ok-boxed g c = passed _ (passed _ (passed _ (first_of_two (not_given (at c.args.number 2) (field (codes "decorators") (row_data c.args.row.now))) (not_given (at c.args.number 3) (field (codes "accessibility") (row_data c.args.row.now))) c.in-Ok.ensures) refl) (passed _ (passed _ (passed _ (second_of_two (not_given (at c.args.number 2) (field (codes "decorators") (row_data c.args.row.now))) (not_given (at c.args.number 3) (field (codes "accessibility") (row_data c.args.row.now))) c.in-Ok.ensures) refl) (passed _ (passed _ (passed _ (first_of_two (not_given (at c.args.number 4) (field (codes "is_override") (row_data c.args.row.now))) (not_given (at c.args.number 5) (field (codes "readonly") (row_data c.args.row.now))) c.in-Ok-neither_given.ensures) refl) (passed _ (passed _ (passed _ (second_of_two (not_given (at c.args.number 4) (field (codes "is_override") (row_data c.args.row.now))) (not_given (at c.args.number 5) (field (codes "readonly") (row_data c.args.row.now))) c.in-Ok-neither_given.ensures) refl) (passed _ (passed _ c.in-Ok-needed_binding_pattern.ensures (passed _ (passed _ (passed _ (first_of_two (not_given (at c.args.number 7) (field (codes "optional") (row_data c.args.row.now))) (not_given (at c.args.number 8) (field (codes "type_annotation") (row_data c.args.row.now))) c.in-Ok-neither_given-2.ensures) refl) (passed _ (passed _ (passed _ (second_of_two (not_given (at c.args.number 7) (field (codes "optional") (row_data c.args.row.now))) (not_given (at c.args.number 8) (field (codes "type_annotation") (row_data c.args.row.now))) c.in-Ok-neither_given-2.ensures) refl) (passed _ (passed _ c.in-Ok-optional_expression.ensures refl) refl)) refl)) refl)) refl)) refl)) refl)) refl)) (gives_node g.R.Typed.plain c.row_of_formal_parameter.result _ (formal_parameter_row g.N.HasType.plain) _ _ c.in-Ok-boxed.ensures c.row_of_formal_parameter.ensures)

pub returns-in-Err-boxed : goal.returns-in-Err-boxed
returns-in-Err-boxed g c = λ told. let h = c.in-Err-boxed.ensures told in cc h
