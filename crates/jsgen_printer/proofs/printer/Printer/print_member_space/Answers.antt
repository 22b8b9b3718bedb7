use Rattle.std.proofs.Common.{refl}
use Rattle.jsgen_model.specs.Items.{member_space, with_due_space}
use Rattle.jsgen_printer.proofs.Comments.{softly_adds, comments_add}
use Rattle.jsgen_printer.proofs.Sequence.{goes_laid, goes_then, items_go}
use Rattle.jsgen_printer.proofs.printer.Printer.print_member_space.Goals as goal

pub returns : goal.returns
returns c = goes_laid (member_space c.args.start) refl (goes_then (λ p. (softly_adds p).text) (λ p. (comments_add with_due_space c.args.start p).text) (items_go c.print_soft_space.ensures) (items_go c.print_comments_with_space.ensures))
