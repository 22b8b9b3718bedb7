-- Generated from tools/nodes/table.txt; edit that and run tools/nodes/generate.
-- What each call ensures, field by field.
use Rattle.std.proofs.Common.{refl}
use Rattle.std.specs.Prelude.{codes}
use Rattle.jsgen_fields.specs.Given.{row_data}
use Rattle.jsgen_fields.specs.Reads.{read_node}
use Rattle.jsgen_fields.specs.Values.{at, field, not_given}
use Rattle.jsgen_fields.proofs.FieldSteps.{refused, passed}
use Rattle.jsgen_fields.proofs.Gives.{first_of_two, second_of_two, refused_of_two, gives_node}
use Rattle.jsgen_tree.specs.Rows.{program_row}
use Rattle.jsgen_statement_rows.proofs.statements.read_program.Goals as goal

pub returns-in-Err : goal.returns-in-Err
unfolding read_node
returns-in-Err g c = λ told. refused _ (refused _ (refused _ (c.in-Err.ensures told)))

pub returns-in-Err-needed_source_kind : goal.returns-in-Err-needed_source_kind
unfolding read_node
returns-in-Err-needed_source_kind g c = λ told. refused _ (passed _ (passed _ c.in-Ok.ensures refl) (refused _ (refused _ (refused _ (c.in-Err-needed_source_kind.ensures told)))))

pub returns-in-Err-neither_given : goal.returns-in-Err-neither_given
unfolding read_node
returns-in-Err-neither_given g c = λ told. rw (c.in-Ok.ensures, c.in-Ok-needed_source_kind.ensures) (refused_of_two (not_given (at c.args.number 4) (field (codes "jsx") (row_data c.args.row.now))) (not_given (at c.args.number 5) (field (codes "typescript") (row_data c.args.row.now))) (c.in-Err-neither_given.ensures told) (λ e. rw e) (λ e f. rw (e, f)))

pub returns-in-Err-comment_list : goal.returns-in-Err-comment_list
unfolding read_node
returns-in-Err-comment_list g c = λ told. refused _ (passed _ (passed _ c.in-Ok.ensures refl) (refused _ (passed _ (passed _ c.in-Ok-needed_source_kind.ensures refl) (refused _ (passed _ (passed _ (first_of_two (not_given (at c.args.number 4) (field (codes "jsx") (row_data c.args.row.now))) (not_given (at c.args.number 5) (field (codes "typescript") (row_data c.args.row.now))) c.in-Ok-neither_given.ensures) refl) (refused _ (passed _ (passed _ (second_of_two (not_given (at c.args.number 4) (field (codes "jsx") (row_data c.args.row.now))) (not_given (at c.args.number 5) (field (codes "typescript") (row_data c.args.row.now))) c.in-Ok-neither_given.ensures) refl) (refused _ (refused _ (c.in-Err-comment_list.ensures told))))))))))

pub returns-in-Err-optional_hashbang : goal.returns-in-Err-optional_hashbang
unfolding read_node
returns-in-Err-optional_hashbang g c = λ told. refused _ (passed _ (passed _ c.in-Ok.ensures refl) (refused _ (passed _ (passed _ c.in-Ok-needed_source_kind.ensures refl) (refused _ (passed _ (passed _ (first_of_two (not_given (at c.args.number 4) (field (codes "jsx") (row_data c.args.row.now))) (not_given (at c.args.number 5) (field (codes "typescript") (row_data c.args.row.now))) c.in-Ok-neither_given.ensures) refl) (refused _ (passed _ (passed _ (second_of_two (not_given (at c.args.number 4) (field (codes "jsx") (row_data c.args.row.now))) (not_given (at c.args.number 5) (field (codes "typescript") (row_data c.args.row.now))) c.in-Ok-neither_given.ensures) refl) (refused _ (passed _ c.in-Ok-comment_list.ensures (refused _ (refused _ (c.in-Err-optional_hashbang.ensures told))))))))))))

pub returns-in-Err-directive_list : goal.returns-in-Err-directive_list
unfolding read_node
returns-in-Err-directive_list g c = λ told. refused _ (passed _ (passed _ c.in-Ok.ensures refl) (refused _ (passed _ (passed _ c.in-Ok-needed_source_kind.ensures refl) (refused _ (passed _ (passed _ (first_of_two (not_given (at c.args.number 4) (field (codes "jsx") (row_data c.args.row.now))) (not_given (at c.args.number 5) (field (codes "typescript") (row_data c.args.row.now))) c.in-Ok-neither_given.ensures) refl) (refused _ (passed _ (passed _ (second_of_two (not_given (at c.args.number 4) (field (codes "jsx") (row_data c.args.row.now))) (not_given (at c.args.number 5) (field (codes "typescript") (row_data c.args.row.now))) c.in-Ok-neither_given.ensures) refl) (refused _ (passed _ c.in-Ok-comment_list.ensures (refused _ (passed _ c.in-Ok-optional_hashbang.ensures (refused _ (refused _ (c.in-Err-directive_list.ensures told))))))))))))))

pub returns-in-Err-statement_list : goal.returns-in-Err-statement_list
unfolding read_node
returns-in-Err-statement_list g c = λ told. refused _ (passed _ (passed _ c.in-Ok.ensures refl) (refused _ (passed _ (passed _ c.in-Ok-needed_source_kind.ensures refl) (refused _ (passed _ (passed _ (first_of_two (not_given (at c.args.number 4) (field (codes "jsx") (row_data c.args.row.now))) (not_given (at c.args.number 5) (field (codes "typescript") (row_data c.args.row.now))) c.in-Ok-neither_given.ensures) refl) (refused _ (passed _ (passed _ (second_of_two (not_given (at c.args.number 4) (field (codes "jsx") (row_data c.args.row.now))) (not_given (at c.args.number 5) (field (codes "typescript") (row_data c.args.row.now))) c.in-Ok-neither_given.ensures) refl) (refused _ (passed _ c.in-Ok-comment_list.ensures (refused _ (passed _ c.in-Ok-optional_hashbang.ensures (refused _ (passed _ c.in-Ok-directive_list.ensures (refused _ (refused _ (c.in-Err-statement_list.ensures told))))))))))))))))

pub returns-in-Ok-boxed : goal.returns-in-Ok-boxed
unfolding read_node
returns-in-Ok-boxed g c = passed _ (passed _ (passed _ c.in-Ok.ensures refl) (passed _ (passed _ (passed _ c.in-Ok-needed_source_kind.ensures refl) (passed _ (passed _ (passed _ (first_of_two (not_given (at c.args.number 4) (field (codes "jsx") (row_data c.args.row.now))) (not_given (at c.args.number 5) (field (codes "typescript") (row_data c.args.row.now))) c.in-Ok-neither_given.ensures) refl) (passed _ (passed _ (passed _ (second_of_two (not_given (at c.args.number 4) (field (codes "jsx") (row_data c.args.row.now))) (not_given (at c.args.number 5) (field (codes "typescript") (row_data c.args.row.now))) c.in-Ok-neither_given.ensures) refl) (passed _ (passed _ c.in-Ok-comment_list.ensures (passed _ (passed _ c.in-Ok-optional_hashbang.ensures (passed _ (passed _ c.in-Ok-directive_list.ensures (passed _ (passed _ c.in-Ok-statement_list.ensures refl) refl)) refl)) refl)) refl)) refl)) refl)) refl)) (gives_node g.R.Typed.plain c.row_of_program.result _ (program_row g.N.HasType.plain) _ _ c.in-Ok-boxed.ensures c.row_of_program.ensures)

pub returns-in-Err-boxed : goal.returns-in-Err-boxed
returns-in-Err-boxed g c = λ told. let h = c.in-Err-boxed.ensures told in cc h
