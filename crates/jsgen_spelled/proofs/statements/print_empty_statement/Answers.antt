-- Generated from tools/nodes/table.txt; edit that and run tools/nodes/generate.
-- The steps in a row.
use Rattle.jsgen_printer.proofs.Sequence.{◌⨾◌}
use Rattle.jsgen_spelled.proofs.statements.print_empty_statement.Goals as goal

pub returns : goal.returns
returns c = c.print_comments.ensures ⨾ (c.print_indentation.ensures ⨾ (c.print_mark.ensures ⨾ (c.print_semicolon.ensures ⨾ c.print_soft_line.ensures)))
