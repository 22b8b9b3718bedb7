use Rattle.jsgen_printer.proofs.Sequence.{wrapped_laid}
use Rattle.jsgen_nodes.proofs.operations.print_update_expression.Goals as goal

pub returns : goal.returns
returns g c = rw (c.within.ensures, c.wraps-wrap.ensures, c.update_level-level.ensures) at (wrapped_laid c.wraps-wrap.result c.print_opening_if.ensures c.print_update.ensures c.print_closing_if.ensures)
