use Rattle.jsgen_printer.proofs.Sequence.{◌⨾◌}
use Rattle.jsgen_lists.proofs.members.print_linked.Goals as goal

pub returns : goal.returns
returns g c = c.print_object.ensures ⨾ (rw c.span.ensures at c.print_link_mark.ensures)
