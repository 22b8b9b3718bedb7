use Rattle.jsgen_printer.proofs.Sequence.{◌⨾◌}
use Rattle.jsgen_nodes.proofs.patterns.print_binding_property.Goals as goal

pub returns : goal.returns
returns g c = c.print_before_bound.ensures ⨾ (rw (c.child.ensures, c.get.ensures) at c.print.ensures)
