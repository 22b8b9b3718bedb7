use Rattle.jsgen_printer.proofs.Sequence.{◌⨾◌, wrapped_laid}
use Rattle.jsgen_printer.proofs.printer.Printer.print_negative_big_integer.Goals as goal

pub returns : goal.returns
returns c = c.print_mark_if.ensures ⨾ wrapped_laid c.args.wrap c.print_opening_if.ensures c.print_minus_big_integer.ensures c.print_closing_if.ensures
