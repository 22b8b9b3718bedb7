use Rattle.jsgen_printer.proofs.Sequence.{◌⨾◌}
use Rattle.jsgen_nodes.proofs.templates.print_template_literal.Goals as goal

pub returns : goal.returns
returns g c = (rw c.deref.ensures.value at c.print_before_name.ensures) ⨾ (c.print_mark.ensures ⨾ (rw (c.deref-2.ensures.value, c.deref-3.ensures.value) at c.print_template.ensures))
