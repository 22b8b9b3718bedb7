use Rattle.jsgen_printer.proofs.Sequence.{◌⨾◌, in_brackets_laid}
use Rattle.jsgen_model.specs.Punctuator.{Square}
use Rattle.jsgen_nodes.proofs.expressions.print_computed_member_expression.Goals as goal

pub returns : goal.returns
returns g c = (rw c.linked.ensures at c.print_linked.ensures) ⨾ (c.print_bracket_link.ensures ⨾ in_brackets_laid Square c.print_opening.ensures (rw (c.quoted_plainly.ensures, c.in_brackets-within.ensures, c.get.ensures) at c.print.ensures) c.print_closing.ensures)
