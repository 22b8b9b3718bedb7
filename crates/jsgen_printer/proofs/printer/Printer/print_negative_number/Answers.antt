use Rattle.jsgen_printer.proofs.Sequence.{wrapped_laid}
use Rattle.jsgen_printer.proofs.printer.Printer.print_negative_number.Goals as goal

pub returns : goal.returns
returns c = wrapped_laid c.args.wrap c.print_opening_if.ensures c.print_minus_number.ensures c.print_closing_if.ensures
