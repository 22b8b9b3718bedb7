use Rattle.jsgen_printer.proofs.Sequence.{wrapped_laid}
use Rattle.jsgen_nodes.proofs.expressions.print_chain_expression.Goals as goal

pub returns : goal.returns
returns g c = rw (c.chain.ensures, c.wraps_chain-wrap.ensures) at (wrapped_laid c.wraps_chain-wrap.result c.print_opening_if.ensures c.print_chain_element.ensures c.print_closing_if.ensures)
