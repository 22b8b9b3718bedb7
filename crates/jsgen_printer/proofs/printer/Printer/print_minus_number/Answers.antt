use Rattle.jsgen_printer.proofs.Sequence.{◌⨾◌}
use Rattle.jsgen_printer.proofs.printer.Printer.print_minus_number.Goals as goal

pub returns : goal.returns
returns c = c.print_minus.ensures ⨾ c.print_number.ensures
