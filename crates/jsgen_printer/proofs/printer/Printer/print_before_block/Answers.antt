use Rattle.std.proofs.Common.{◌≡◌, true, ◌||◌, ap, sym, ◌∙◌}
use Rattle.jsgen_model.specs.Comments.{are_any}
use Rattle.jsgen_model.specs.Groups.{group_at, comments_at, space_behind}
use Rattle.jsgen_model.specs.Items.{all_of_them}
use Rattle.jsgen_model.specs.Lay.{before_block}
use Rattle.jsgen_printer.specs.Printer.{pen_of}
use Rattle.jsgen_printer.proofs.Comments.{comments_add, used_up_adds}
use Rattle.jsgen_printer.proofs.Sequence.{goes_as, goes_then, items_go}
use Rattle.jsgen_printer.proofs.printer.Printer.print_before_block.Goals.{then-stood-via-then-stood, then-stood-via-else-stood+then-has_comments}
use Rattle.jsgen_printer.proofs.printer.Printer.print_before_block.Goals as goal

pub returns-then-stood : goal.returns-then-stood
returns-then-stood c =
    let pen = pen_of c.args.self.now in
    let start = c.args.start in
    let some = are_any (group_at start pen) in
    let stand : c.args.stood || some ≡ true = elim c.then-stood.branch [ then-stood-via-then-stood w ↦ ap (λ t. t || some) w.if-stood.true | then-stood-via-else-stood+then-has_comments w ↦ ap (λ t. t || some) w.if-stood.false ∙ (sym w.has_comments.ensures ∙ w.if-has_comments.true) ] in
    goes_as (before_block c.args.stood start) (ap (λ t. space_behind t (comments_at all_of_them start pen)) (sym stand))
    (goes_then (λ p. (comments_add all_of_them start p).text) (λ p. (used_up_adds _ p).text) (items_go c.print_comments.ensures) c.print_space_behind.ensures)
