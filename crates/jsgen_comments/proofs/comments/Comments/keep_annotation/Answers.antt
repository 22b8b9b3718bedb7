use Rattle.std.proofs.Common.{◌≡◌, refl, true, [], ◌∷◌, ◌&&◌, if◌then◌else◌, sym, ap, ◌∙◌}
use Rattle.jsgen_model.specs.Comments.{is_annotation, with_group}
use Rattle.jsgen_comments.specs.Plain.{annotations_of, comment_plain}
use Rattle.jsgen_comments.proofs.Annotated.{grown}
use Rattle.jsgen_comments.proofs.comments.Comments.keep_annotation.Goals as goal

pub returns-in_ok-insert-clause-kept : goal.returns-in_ok-insert-clause-kept
returns-in_ok-insert-clause-kept c =
    let comment = c.args.comment in
    let source = c.args.self.now.source.now in
    let before = annotations_of c.args.self.now in
    let after = with_group comment.attached_to (comment_plain source comment ∷ []) before in
    let wanted : (comment.leading && (is_annotation comment.content && c.args.options.now.annotation)) ≡ true = rw (c.if-comment.true, sym c.is_annotation.ensures ∙ c.if-is_annotation.true, c.if-options.true) refl in
    grown source comment.attached_to comment c.args.self.now.annotations.entries c.insert.new.self.entries c.in_ok-insert.ensures.entries
    ∙ sym (ap (λ b. if b then after else before) wanted)
