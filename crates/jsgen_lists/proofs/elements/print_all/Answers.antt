use Rattle.jsgen_printer.proofs.Sequence.{◌⨾◌}
use Rattle.jsgen_lists.proofs.elements.print_all.Goals as goal

pub returns : goal.returns
returns g c = c.print_elements.ensures ⨾ c.print_last_comma.ensures
