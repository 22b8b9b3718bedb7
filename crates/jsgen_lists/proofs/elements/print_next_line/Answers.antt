use Rattle.jsgen_printer.proofs.Sequence.{◌⨾◌}
use Rattle.jsgen_lists.proofs.elements.print_next_line.Goals as goal

pub returns : goal.returns
returns c = c.print_soft_line.ensures ⨾ c.print_indentation.ensures
