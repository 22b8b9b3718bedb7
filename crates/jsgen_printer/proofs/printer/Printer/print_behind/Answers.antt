use Rattle.std.proofs.Common.{◌≡◌, ℕ, ◌+◌, ◌<◌, Bool, ◌||◌, List, [], ◌∷◌, length, map, drop, slice_index_or, refl, ap, sym, ◌∙◌, add-one, drop-cons}
use Rattle.std.proofs.lemmas.List.{drop_all}
use Rattle.jsgen_comments.specs.Plain.{comment_plain}
use Rattle.jsgen_model.specs.Groups.{behind_comment, behind_last, before_later, comment_written, is_line, ends_its_line, is_legal}
use Rattle.jsgen_model.specs.Layout.{Pen}
use Rattle.jsgen_tree.specs.declared.statements.Comment.{Comment}
use Rattle.jsgen_printer.specs.Printer.{pen_of}
use Rattle.jsgen_printer.specs.Steps.{Goes}
use Rattle.jsgen_printer.specs.declared.printer.Printer.{Printer}
use Rattle.jsgen_printer.proofs.Comments.{before_later_adds, comment_adds, later_adds, behind_adds, behind_last_adds}
use Rattle.jsgen_printer.proofs.Onward.{Onward, onward, arrived}
use Rattle.jsgen_printer.proofs.Prefixes.{whole_prefix}
use Rattle.jsgen_printer.proofs.Sequence.{goes_then}
use Rattle.jsgen_printer.proofs.printer.Printer.print_behind.Goals.{then-ended, else-ended}
use Rattle.jsgen_printer.proofs.printer.Printer.print_behind.Goals as goal

one_there : {A : Type 0} (xs : List A) (i : ℕ) (d : A) → i < length xs → drop i xs ≡ slice_index_or xs i d ∷ drop (i + 1) xs
one_there xs i d h = rw (add-one, drop-cons xs i d) refl

-- one more comment
one_later : {a b d e : Printer} {whole : Pen → Pen} (source : List ℕ) (ended : Bool) (last next : Comment) (others : List Comment) (i : ℕ) → drop i others ≡ next ∷ drop (i + 1) others → Onward a b (behind_comment ended (comment_plain source last) (map (comment_plain source) (drop i others))) whole → Goes b d (before_later (next.preceded_by_newline || is_line last.kind) (is_legal next.content)) → Goes d e (comment_written (comment_plain source next)) → Onward a e (behind_comment ended (comment_plain source next) (map (comment_plain source) (drop (i + 1) others))) whole
one_later {a} {b} {d} {e} source ended last next others i is so_far before it =
    onward {g = λ pen. comment_written (comment_plain source next) (before_later (next.preceded_by_newline || is_line last.kind) (is_legal next.content) pen)} (behind_comment ended (comment_plain source next) (map (comment_plain source) (drop (i + 1) others)))
    (λ pen. (later_adds (next.preceded_by_newline || is_line last.kind) (comment_plain source next) pen).text)
    (λ pen. (behind_adds ended (comment_plain source next) (map (comment_plain source) (drop (i + 1) others)) pen).text)
    (ap (λ l. behind_comment ended (comment_plain source last) (map (comment_plain source) l) (pen_of b)) is)
    so_far
    (goes_then (λ pen. (before_later_adds (next.preceded_by_newline || is_line last.kind) (is_legal next.content) pen).text) (λ pen. (comment_adds (comment_plain source next) pen).text) before it)

pub loop-comment-preserved : goal.loop-comment-preserved
loop-comment-preserved c = one_later c.args.source.now c.args.ended c.loop-comment.last _ c.args.others.now c.loop-comment.comment-index (one_there c.args.others.now c.loop-comment.comment-index _ c.loop-comment-test.true) c.loop-comment.invariant (rw c.begins_line.ensures at c.print_before_later.ensures) c.print_comment.ensures

pub returns : goal.returns
returns c =
    let last = c.loop-comment.last in
    let source = c.args.source.now in
    let ends = ends_its_line (comment_plain source last) in
    let none : drop c.loop-comment.comment-index c.args.others.now ≡ [] = drop_all c.loop-comment.comment-index c.args.others.now c.loop-comment-test.false in
    let test : c.if-ended.print_behind_last ≡ c.args.ended || ends = elim c.if-ended.branch [ then-ended w ↦ w.print_behind_last-is ∙ (w.if-ended.true ∙ ap (λ e. e || ends) (sym w.if-ended.true)) | else-ended w ↦ w.print_behind_last-is ∙ (w.ends_its_line.ensures source ∙ ap (λ e. e || ends) (sym w.if-ended.false)) ] in
    arrived refl (onward {g = behind_last c.if-ended.print_behind_last} (λ pen. pen) (λ pen. (behind_last_adds c.if-ended.print_behind_last pen).text) (λ pen. whole_prefix pen.code)
    (ap (λ l. behind_comment c.args.ended (comment_plain source last) (map (comment_plain source) l) (pen_of c.loop-comment.self)) none ∙ ap (λ t. behind_last t (pen_of c.loop-comment.self)) (sym test))
    c.loop-comment.invariant c.print_behind_last.ensures)
