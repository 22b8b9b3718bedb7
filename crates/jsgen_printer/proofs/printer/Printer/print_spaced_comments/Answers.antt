use Rattle.std.proofs.Common.{false, ap, sym, ◌∙◌}
use Rattle.jsgen_model.specs.Groups.{group_at, without_group, printed_if}
use Rattle.jsgen_model.specs.Items.{comments, then_space}
use Rattle.jsgen_printer.specs.Printer.{pen_of}
use Rattle.jsgen_printer.proofs.Comments.{group_adds, softly_adds}
use Rattle.jsgen_printer.proofs.Prefixes.{whole_prefix, more_prefix}
use Rattle.jsgen_printer.proofs.Sequence.{goes_laid, goes_then}
use Rattle.jsgen_printer.proofs.printer.Printer.print_spaced_comments.Goals as goal

pub returns-then-has_comments : goal.returns-then-has_comments
returns-then-has_comments c =
    let o = c.args.offset in
    goes_laid (comments then_space o) (ap (λ t. printed_if t then_space o (pen_of c.args.self.now)) (sym c.if-has_comments.true ∙ c.has_comments.ensures))
    (goes_then (λ p. more_prefix _ (group_adds false (group_at o p) (without_group o p)).text) (λ p. whole_prefix p.code)
    (goes_then (λ p. (group_adds false (group_at o p) (without_group o p)).text) (λ p. (softly_adds p).text) c.print_taken.ensures c.print_space.ensures) c.drop_pending_space.ensures)
