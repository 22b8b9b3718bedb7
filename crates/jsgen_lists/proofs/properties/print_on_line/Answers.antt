use Rattle.jsgen_printer.proofs.Sequence.{◌⨾◌}
use Rattle.jsgen_lists.proofs.properties.print_on_line.Goals as goal

pub returns : goal.returns
returns g c = (rw c.span.ensures at c.print_member_line.ensures) ⨾ c.print_property.ensures
