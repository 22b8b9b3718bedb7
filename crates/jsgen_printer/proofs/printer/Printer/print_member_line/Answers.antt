use Rattle.std.proofs.Common.{refl}
use Rattle.jsgen_model.specs.Items.{member_line}
use Rattle.jsgen_printer.proofs.Comments.{soft_line_adds, lined_adds}
use Rattle.jsgen_printer.proofs.Sequence.{goes_laid, goes_then, items_go}
use Rattle.jsgen_printer.proofs.printer.Printer.print_member_line.Goals as goal

pub returns : goal.returns
returns c = goes_laid (member_line c.args.start) refl (goes_then (λ p. (soft_line_adds p).text) (λ p. (lined_adds c.args.start p).text) (items_go c.print_soft_line.ensures) c.print_lined_comments.ensures)
