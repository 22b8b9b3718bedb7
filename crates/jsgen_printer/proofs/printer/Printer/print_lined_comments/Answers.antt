use Rattle.jsgen_model.specs.Items.{all_of_them}
use Rattle.jsgen_printer.proofs.Comments.{comments_add, here_adds}
use Rattle.jsgen_printer.proofs.Sequence.{goes_then, items_go}
use Rattle.jsgen_printer.proofs.printer.Printer.print_lined_comments.Goals as goal

pub returns : goal.returns
returns c = goes_then (λ pen. (comments_add all_of_them c.args.offset pen).text) (λ pen. (here_adds pen).text) (items_go c.print_comments.ensures) (items_go c.print_indentation.ensures)
