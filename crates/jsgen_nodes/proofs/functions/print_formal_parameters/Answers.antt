use Rattle.jsgen_printer.proofs.Sequence.{◌⨾◌}
use Rattle.jsgen_nodes.proofs.functions.print_formal_parameters.Goals as goal

pub returns : goal.returns
returns g c = (rw c.deref.ensures.value at c.print_list.ensures) ⨾ ((rw c.deref-2.ensures.value at c.print_comma_between.ensures) ⨾ c.print_if_given.ensures)
