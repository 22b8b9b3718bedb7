use Rattle.std.proofs.Common.{◌≡◌, ◌∷◌, map, refl, ap, sym, ◌∙◌}
use Rattle.jsgen_comments.specs.Plain.{comment_plain, group_plain}
use Rattle.jsgen_model.specs.Groups.{group}
use Rattle.jsgen_printer.specs.Printer.{pen_of, start_of}
use Rattle.jsgen_printer.proofs.Comments.{before_first_adds, comment_adds, first_adds, behind_adds}
use Rattle.jsgen_printer.proofs.Prefixes.{prefix_of_prefix}
use Rattle.jsgen_printer.proofs.Sequence.{goes_as, goes_then, begun_again}
use Rattle.jsgen_printer.proofs.printer.Printer.print_group.Goals as goal

pub returns-in-Some : goal.returns-in-Some
unfolding pen_of
returns-in-Some c =
    let source = c.args.group.now.source.now in
    let first = c.in-Some.first.now in
    let others = c.in-Some.others.now in
    let all : c.args.group.now.comments.items ≡ first ∷ others = sym c.deref.ensures.value ∙ c.in-Some.ensures.cases.0 in
    goes_as (group c.args.ended (group_plain c.args.group.now))
    (ap (λ l. group c.args.ended (map (comment_plain source) l) (pen_of c.args.self.now)) (sym all))
    (begun_again (start_of c.args.self.now.start) refl
    (λ pen. prefix_of_prefix (first_adds (comment_plain source first) pen).text (behind_adds c.args.ended (comment_plain source first) (map (comment_plain source) others) _).text)
    (goes_then (λ pen. (first_adds (comment_plain source first) pen).text) (λ pen. (behind_adds c.args.ended (comment_plain source first) (map (comment_plain source) others) pen).text)
    (goes_then (λ pen. (before_first_adds first.preceded_by_newline pen).text) (λ pen. (comment_adds (comment_plain source first) pen).text) c.print_before_first.ensures c.print_comment.ensures) c.print_behind.ensures) c.begin_at.ensures)
