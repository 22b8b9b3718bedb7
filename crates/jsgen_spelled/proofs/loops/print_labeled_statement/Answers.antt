-- Generated from tools/nodes/table.txt; edit that and run tools/nodes/generate.
-- The steps in a row.
use Rattle.jsgen_printer.proofs.Sequence.{◌⨾◌}
use Rattle.jsgen_spelled.proofs.loops.print_labeled_statement.Goals as goal

pub returns : goal.returns
returns g c = c.print_comments.ensures ⨾ (c.print_indentation.ensures ⨾ (c.print_space_apart.ensures ⨾ (c.print_mark.ensures ⨾ ((rw c.deref.ensures at c.print_label_identifier.ensures) ⨾ (c.print_colon.ensures ⨾ (rw c.get.ensures at c.print_body.ensures))))))
