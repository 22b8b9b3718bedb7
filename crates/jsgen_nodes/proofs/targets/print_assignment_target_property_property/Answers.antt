use Rattle.jsgen_printer.proofs.Sequence.{◌⨾◌}
use Rattle.jsgen_nodes.proofs.targets.print_assignment_target_property_property.Goals as goal

pub returns : goal.returns
returns g c = c.print_before_target.ensures ⨾ (rw c.in_brackets.ensures at c.print_maybe_default.ensures)
