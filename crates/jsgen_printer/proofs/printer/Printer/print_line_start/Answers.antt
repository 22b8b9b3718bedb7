use Rattle.jsgen_printer.proofs.Comments.{line_adds, here_adds}
use Rattle.jsgen_printer.proofs.Sequence.{goes_then, items_go}
use Rattle.jsgen_printer.proofs.printer.Printer.print_line_start.Goals as goal

pub returns : goal.returns
returns c = goes_then (λ pen. (line_adds pen).text) (λ pen. (here_adds pen).text) c.print_line_end.ensures (items_go c.print_indentation.ensures)
