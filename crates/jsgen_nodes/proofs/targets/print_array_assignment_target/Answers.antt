use Rattle.jsgen_printer.proofs.Sequence.{◌⨾◌}
use Rattle.jsgen_nodes.proofs.targets.print_array_assignment_target.Goals as goal

pub returns : goal.returns
returns g c = c.print_mark.ensures ⨾ (rw (c.deref.ensures.value, c.in_brackets-within.ensures) at c.print_pattern_brackets.ensures)
