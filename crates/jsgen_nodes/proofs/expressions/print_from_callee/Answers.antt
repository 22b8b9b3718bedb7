use Rattle.jsgen_printer.proofs.Sequence.{◌⨾◌}
use Rattle.jsgen_nodes.proofs.expressions.print_from_callee.Goals as goal

pub returns : goal.returns
returns g c = (rw c.called.ensures at c.print_linked.ensures) ⨾ (c.print_bracket_link.ensures ⨾ (rw (c.deref.ensures.value, c.in_brackets-within.ensures, c.plain_quotes-quotes.ensures.first, c.plain_quotes-quotes.ensures.second) at c.print_arguments.ensures))
