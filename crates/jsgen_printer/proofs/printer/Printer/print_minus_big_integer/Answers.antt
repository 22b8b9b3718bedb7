use Rattle.jsgen_printer.proofs.Sequence.{◌⨾◌}
use Rattle.jsgen_printer.proofs.printer.Printer.print_minus_big_integer.Goals as goal

pub returns : goal.returns
returns c = c.print_marked_unary_operator.ensures ⨾ c.print_big_integer.ensures
