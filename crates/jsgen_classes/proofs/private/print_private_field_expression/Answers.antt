use Rattle.jsgen_printer.proofs.Sequence.{◌⨾◌}
use Rattle.jsgen_classes.proofs.private.print_private_field_expression.Goals as goal

pub returns : goal.returns
returns g c = (rw c.linked.ensures at c.print_linked.ensures) ⨾ (c.print_name_link.ensures ⨾ (rw c.deref.ensures at c.print_private_identifier.ensures))
