-- Generated from tools/nodes/table.txt; edit that and run tools/nodes/generate.
-- The steps in a row.
use Rattle.jsgen_printer.proofs.Sequence.{◌⨾◌, wrapped_laid}
use Rattle.jsgen_spelled.proofs.operations.print_unary_expression.Goals as goal

pub returns : goal.returns
returns g c = (rw (c.within-within.ensures, c.wraps-wrap.ensures) at (wrapped_laid c.wraps-wrap.result c.print_opening_if.ensures (c.print_marked_unary_operator.ensures ⨾ (c.print_behind_unary.ensures ⨾ (rw (c.child.ensures, c.get.ensures) at c.print.ensures))) c.print_closing_if.ensures))
