-- Generated from tools/nodes/table.txt; edit that and run tools/nodes/generate.
-- The steps in a row.
use Rattle.jsgen_printer.proofs.Sequence.{◌⨾◌}
use Rattle.jsgen_spelled.proofs.expressions.print_reg_exp_literal.Goals as goal

pub returns : goal.returns
returns c = c.print_mark.ensures ⨾ (rw (c.as_str.ensures.value, c.as_str-2.ensures.value) at c.print_regular_expression.ensures)
