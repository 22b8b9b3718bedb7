-- Generated from tools/nodes/table.txt; edit that and run tools/nodes/generate.
-- The steps in a row.
use Rattle.jsgen_printer.proofs.Sequence.{◌⨾◌}
use Rattle.jsgen_spelled.proofs.statements.print_expression_statement.Goals as goal

pub returns : goal.returns
returns g c = c.print_comments.ensures ⨾ (c.print_marked_indentation.ensures ⨾ (c.begin_statement.ensures.lays ⨾ ((rw (c.in_brackets.ensures, c.get.ensures) at c.print.ensures) ⨾ c.print_statement_end.ensures)))
