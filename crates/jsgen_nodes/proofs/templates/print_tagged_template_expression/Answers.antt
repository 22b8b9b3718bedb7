use Rattle.jsgen_printer.proofs.Sequence.{◌⨾◌}
use Rattle.jsgen_nodes.proofs.templates.print_tagged_template_expression.Goals as goal

pub returns : goal.returns
returns g c = c.print_mark.ensures ⨾ ((rw c.tag.ensures at c.print_linked.ensures) ⨾ (rw (c.deref.ensures, c.tagged.ensures) at c.print_template_literal.ensures))
