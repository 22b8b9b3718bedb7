-- Generated from tools/nodes/table.txt; edit that and run tools/nodes/generate.
-- The steps in a row.
use Rattle.jsgen_printer.proofs.Sequence.{◌⨾◌, wrapped_laid}
use Rattle.jsgen_spelled.proofs.functions.print_yield_expression.Goals as goal

pub returns : goal.returns
returns g c = (rw (c.within-within.ensures, c.wraps-wrap.ensures) at (wrapped_laid c.wraps-wrap.result c.print_opening_if.ensures (c.print_marked_word.ensures ⨾ (c.print_star_if.ensures ⨾ (rw (c.with_calls.ensures, c.child.ensures) at c.print_apart.ensures))) c.print_closing_if.ensures))
