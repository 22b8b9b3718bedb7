use Rattle.jsgen_printer.proofs.Sequence.{◌⨾◌}
use Rattle.jsgen_lists.proofs.updates.print_before.Goals as goal

pub returns : goal.returns
returns g c = c.print_marked_update_operator.ensures ⨾ (rw c.child.ensures at c.print_object.ensures)
