use Rattle.std.proofs.Common.{◌≡◌, ℕ, ◌+◌, ◌<◌, List, [], ◌∷◌, length, map, drop, slice_index_or, refl, ap, add-one, drop-cons}
use Rattle.std.proofs.lemmas.List.{drop_all}
use Rattle.jsgen_comments.specs.Plain.{comment_plain}
use Rattle.jsgen_model.specs.Groups.{comment_written, each_on_line, indented_here, line_ended}
use Rattle.jsgen_model.specs.Layout.{Pen}
use Rattle.jsgen_tree.specs.declared.statements.Comment.{Comment}
use Rattle.jsgen_printer.specs.Printer.{pen_of}
use Rattle.jsgen_printer.specs.Steps.{Goes}
use Rattle.jsgen_printer.specs.declared.printer.Printer.{Printer}
use Rattle.jsgen_printer.proofs.Comments.{comment_adds, new_line_adds, each_on_line_adds}
use Rattle.jsgen_printer.proofs.Onward.{Onward, onward, arrived}
use Rattle.jsgen_printer.proofs.Prefixes.{prefix_of_prefix}
use Rattle.jsgen_printer.proofs.Sequence.{goes_then}
use Rattle.jsgen_printer.proofs.printer.Printer.print_each_on_line.Goals as goal

one_there : {A : Type 0} (xs : List A) (i : ℕ) (d : A) → i < length xs → drop i xs ≡ slice_index_or xs i d ∷ drop (i + 1) xs
one_there xs i d h = rw (add-one, drop-cons xs i d) refl

-- one more comment
one_more : {a b d e : Printer} {whole : Pen → Pen} (source : List ℕ) (next : Comment) (others : List Comment) (i : ℕ) → drop i others ≡ next ∷ drop (i + 1) others → Onward a b (each_on_line (map (comment_plain source) (drop i others))) whole → Goes b d (λ pen. indented_here (line_ended pen)) → Goes d e (comment_written (comment_plain source next)) → Onward a e (each_on_line (map (comment_plain source) (drop (i + 1) others))) whole
one_more {a} {b} {d} {e} source next others i is so_far start it =
    onward {g = λ pen. comment_written (comment_plain source next) (indented_here (line_ended pen))} (each_on_line (map (comment_plain source) (drop (i + 1) others)))
    (λ pen. prefix_of_prefix (new_line_adds pen).text (comment_adds (comment_plain source next) (indented_here (line_ended pen))).text)
    (λ pen. (each_on_line_adds (map (comment_plain source) (drop (i + 1) others)) pen).text)
    (ap (λ l. each_on_line (map (comment_plain source) l) (pen_of b)) is)
    so_far
    (goes_then (λ pen. (new_line_adds pen).text) (λ pen. (comment_adds (comment_plain source next) pen).text) start it)

pub loop-comment-preserved : goal.loop-comment-preserved
loop-comment-preserved c = one_more c.args.source.now _ c.args.comments.now c.loop-comment.comment-index (one_there c.args.comments.now c.loop-comment.comment-index _ c.loop-comment-test.true) c.loop-comment.invariant c.print_line_start.ensures c.print_comment.ensures

pub returns : goal.returns
returns c =
    let none : drop c.loop-comment.comment-index c.args.comments.now ≡ [] = drop_all c.loop-comment.comment-index c.args.comments.now c.loop-comment-test.false in
    arrived (ap (λ l. each_on_line (map (comment_plain c.args.source.now) l) (pen_of c.loop-comment.self)) none) c.loop-comment.invariant
