-- Generated from tools/nodes/table.txt; edit that and run tools/nodes/generate.
-- The steps in a row.
use Rattle.jsgen_printer.proofs.Sequence.{◌⨾◌}
use Rattle.jsgen_spelled.proofs.loops.print_continue_statement.Goals as goal

pub returns : goal.returns
returns c = c.print_comments.ensures ⨾ (c.print_indentation.ensures ⨾ (c.print_marked_word.ensures ⨾ ((rw c.child.ensures at c.print_apart.ensures) ⨾ c.print_statement_end.ensures)))
