use Rattle.std.proofs.Common.{Vec, sym, ap, ◌∙◌}
use Rattle.std.specs.declared.alloc.Global.{Global}
use Rattle.jsgen_tree.specs.declared.statements.Comment as tree
use Rattle.jsgen_comments.proofs.Seen.{all_found, moved, none_yet, past_known_at, past_new_at, past_other}
use Rattle.jsgen_comments.proofs.legal.licences.Goals as goal
use Rattle.jsgen_comments.proofs.legal.licences.Goals.{then-is_legal+in_ok-wording+in_ok-insert+then-branch+in_ok-push, then-is_legal+in_ok-wording+in_ok-insert+else-branch, else-is_legal}

pub loop-comment-init : goal.loop-comment-init
loop-comment-init c = none_yet c.args.source.now c.args.comments.now c.new-seen.result c.new-found.result.items c.new-seen.ensures.empty c.new-found.ensures.items

pub loop-comment-preserved : goal.loop-comment-preserved
loop-comment-preserved c =
    let cs = c.args.comments.now in
    let i = c.loop-comment.comment-index in
    let here = c.loop-comment.invariant in
    let inside = c.loop-comment-test.true in
    elim c.if-is_legal.branch [
      | then-is_legal+in_ok-wording+in_ok-insert+then-branch+in_ok-push w ↦ moved w.seen-is (ap (λ (v : Vec tree.Comment Global). v.items) w.found-is) (past_new_at cs i _ w.in_ok-wording.wording w.in_ok-insert.field-0 inside (sym c.is_legal.ensures ∙ w.if-is_legal.true) w.in_ok-wording.ensures w.in_ok-insert.ensures.added w.if-branch.true w.in_ok-insert.ensures.updates w.in_ok-push.ensures.items here)
      | then-is_legal+in_ok-wording+in_ok-insert+else-branch w ↦ moved w.seen-is (ap (λ (v : Vec tree.Comment Global). v.items) w.found-is) (past_known_at cs i _ w.in_ok-wording.wording w.in_ok-insert.field-0 inside (sym c.is_legal.ensures ∙ w.if-is_legal.true) w.in_ok-wording.ensures w.in_ok-insert.ensures.added w.if-branch.false w.in_ok-insert.ensures.unchanged here)
      | else-is_legal w ↦ moved w.seen-is (ap (λ (v : Vec tree.Comment Global). v.items) w.found-is) (past_other cs i _ inside (sym c.is_legal.ensures ∙ w.if-is_legal.false) here)
    ]

pub returns : goal.returns
returns c = all_found c.args.comments.now c.loop-comment.comment-index c.loop-comment-test.false c.loop-comment.invariant
