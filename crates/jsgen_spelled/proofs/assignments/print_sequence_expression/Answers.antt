-- Generated from tools/nodes/table.txt; edit that and run tools/nodes/generate.
-- The steps in a row.
use Rattle.jsgen_printer.proofs.Sequence.{wrapped_laid}
use Rattle.jsgen_spelled.proofs.assignments.print_sequence_expression.Goals as goal

pub returns : goal.returns
returns g c = (rw c.wraps-wrap.ensures at (wrapped_laid c.wraps-wrap.result c.print_opening_if.ensures (rw (c.deref.ensures.value, c.with_calls.ensures, c.child.ensures) at c.print_list.ensures) c.print_closing_if.ensures))
