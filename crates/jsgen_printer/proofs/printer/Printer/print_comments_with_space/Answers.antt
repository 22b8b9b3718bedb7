use Rattle.std.proofs.Common.{ap, sym, ◌∙◌}
use Rattle.jsgen_model.specs.Groups.{group_at, printed_if}
use Rattle.jsgen_model.specs.Items.{comments, with_due_space}
use Rattle.jsgen_printer.specs.Printer.{pen_of}
use Rattle.jsgen_printer.proofs.Comments.{taken_adds, used_up_adds}
use Rattle.jsgen_printer.proofs.Sequence.{goes_laid, goes_then}
use Rattle.jsgen_printer.proofs.printer.Printer.print_comments_with_space.Goals as goal

pub returns-then-has_comments : goal.returns-then-has_comments
returns-then-has_comments c =
    let pen = pen_of c.args.self.now in
    let o = c.args.offset in
    goes_laid (comments with_due_space o)
    (ap (λ t. printed_if t with_due_space o pen) (sym c.if-has_comments.true ∙ c.has_comments.ensures))
    (goes_then (λ p. (taken_adds with_due_space o (group_at o p) p).text) (λ p. (used_up_adds p.pending_space p).text) c.print_taken.ensures c.use_pending_space.ensures)
