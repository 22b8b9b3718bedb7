use Rattle.jsgen_printer.proofs.Sequence.{◌⨾◌}
use Rattle.jsgen_lists.proofs.updates.print_behind.Goals as goal

pub returns : goal.returns
returns g c = c.print_mark.ensures ⨾ ((rw c.child.ensures at c.print_linked.ensures) ⨾ c.print_update_operator.ensures)
