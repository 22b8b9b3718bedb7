use Rattle.jsgen_model.specs.Groups.{group_at}
use Rattle.jsgen_printer.proofs.Comments.{broken_taken_adds, here_adds}
use Rattle.jsgen_printer.proofs.Sequence.{goes_then, items_go}
use Rattle.jsgen_printer.proofs.printer.Printer.print_line_break.Goals as goal

pub returns : goal.returns
returns c = goes_then (λ p. (broken_taken_adds c.args.start (group_at c.args.start p) p).text) (λ p. (here_adds p).text) c.print_taken_lines.ensures (items_go c.print_indentation.ensures)
