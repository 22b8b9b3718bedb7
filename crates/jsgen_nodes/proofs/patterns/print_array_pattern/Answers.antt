use Rattle.jsgen_printer.proofs.Sequence.{◌⨾◌}
use Rattle.jsgen_nodes.proofs.patterns.print_array_pattern.Goals as goal

pub returns : goal.returns
returns g c = c.print_mark.ensures ⨾ (rw (c.deref.ensures.value, c.child.ensures) at c.print_pattern_brackets.ensures)
