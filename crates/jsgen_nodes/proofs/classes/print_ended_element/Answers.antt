use Rattle.jsgen_printer.proofs.Sequence.{◌⨾◌}
use Rattle.jsgen_nodes.proofs.classes.print_ended_element.Goals as goal

pub returns : goal.returns
returns g c = c.print_class_element.ensures ⨾ (rw c.element_type.ensures at c.end_element.ensures)
