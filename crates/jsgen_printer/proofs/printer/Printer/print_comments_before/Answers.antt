use Rattle.std.proofs.Common.{◌≡◌, refl, ap, sym, ◌∙◌, false}
use Rattle.jsgen_model.specs.Groups.{group, group_at, without_group, before_group, behind_group, printed_if}
use Rattle.jsgen_model.specs.Items.{comments, all_of_them, with_key_annotation}
use Rattle.jsgen_model.specs.Layout.{Pen}
use Rattle.jsgen_printer.specs.Printer.{pen_of, manner_of}
use Rattle.jsgen_printer.specs.declared.printer.comments.CommentsBefore.{CommentsBefore}
use Rattle.jsgen_printer.specs.declared.printer.comments.CommentsBefore.TheVariants as befores
use Rattle.jsgen_printer.proofs.Comments.{taken_adds, behind_group_adds}
use Rattle.jsgen_printer.proofs.Sequence.{goes_laid, goes_then}
use Rattle.jsgen_printer.proofs.printer.Printer.print_comments_before.Goals as goal

-- nothing is due before them
nothing_before : (which : CommentsBefore) (pen : Pen) → pen ≡ before_group (manner_of which) pen
nothing_before befores.All pen = refl
nothing_before befores.ForTools pen = refl

due_behind : (which : CommentsBefore) (pen : Pen) → behind_group with_key_annotation pen ≡ behind_group (manner_of which) pen
due_behind befores.All pen = refl
due_behind befores.ForTools pen = refl

pub returns-then-has_comments_before : goal.returns-then-has_comments_before
returns-then-has_comments_before c =
    let pen = pen_of c.args.self.now in
    let o = c.args.offset in
    let which = c.args.which in
    goes_laid (comments (manner_of which) o)
    (due_behind which (group false (group_at o pen) (without_group o pen))
    ∙ (ap (λ p. behind_group (manner_of which) (group false (group_at o pen) (without_group o p))) (nothing_before which pen)
    ∙ ap (λ t. printed_if t (manner_of which) o pen) (sym c.if-has_comments_before.true ∙ c.has_comments_before.ensures)))
    (goes_then (λ p. (taken_adds all_of_them o (group_at o p) p).text) (λ p. (behind_group_adds with_key_annotation p).text) c.print_taken.ensures c.print_due.ensures)
