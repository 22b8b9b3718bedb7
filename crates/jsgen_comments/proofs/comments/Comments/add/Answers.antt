use Rattle.std.proofs.Common.{◌≡◌, ◌++◌, ◌∷◌, [], if◌then◌else◌, sym, ap, ◌∙◌}
use Rattle.jsgen_model.specs.Comments.{there, with_group, without, with_offset, outlives}
use Rattle.jsgen_comments.specs.Plain.{comment_plain}
use Rattle.jsgen_comments.proofs.Store.{absent, found, grown, groups_of, comments_of, same_store, with_orphan, no_orphan}
use Rattle.jsgen_comments.proofs.comments.Comments.add.Goals as goal
use Rattle.jsgen_comments.proofs.comments.Comments.add.Goals.{in-Some, in-None}

pub returns-in_ok-insert-2-clause-added : goal.returns-in_ok-insert-2-clause-added
returns-in_ok-insert-2-clause-added c =
    let source = c.args.self.now.source.now in
    let o = c.args.comment.attached_to in
    let es = c.args.self.now.groups.entries in
    let keys = c.args.self.now.orphans.keys in
    let group : comments_of source c.match-remove.group.items ≡ there o (groups_of source es) = elim c.match-remove.branch [
      | in-Some w ↦ ap (λ v. comments_of source v.items) w.group-is ∙ found source o es w.in-Some.group w.in-Some.ensures.value
      | in-None w ↦ ap (λ v. comments_of source v.items) w.group-is ∙ (ap (comments_of source) w.new-group.ensures.items ∙ absent source o es w.in-None.ensures.value)
    ] in
    let groups = grown source o c.args.comment es c.remove.new.self.entries c.insert.new.self.entries c.match-remove.group c.push.new.self group c.in_ok-push.ensures.items c.remove.ensures.entries c.in_ok-insert.ensures.entries in
    let orphans = with_orphan (outlives c.args.comment.content) o keys c.insert-then-outlives.new.self.keys (sym c.outlives.ensures ∙ c.if-outlives.true) c.in_ok-insert-2.ensures.keys in
    same_store (groups_of source c.insert.new.self.entries) (with_group o (there o (groups_of source es) ++ comment_plain source c.args.comment ∷ []) (without o (groups_of source es))) c.insert-then-outlives.new.self.keys (if outlives c.args.comment.content then with_offset o keys else keys) groups orphans

pub returns-else-outlives-clause-added : goal.returns-else-outlives-clause-added
returns-else-outlives-clause-added c =
    let source = c.args.self.now.source.now in
    let o = c.args.comment.attached_to in
    let es = c.args.self.now.groups.entries in
    let keys = c.args.self.now.orphans.keys in
    let group : comments_of source c.match-remove.group.items ≡ there o (groups_of source es) = elim c.match-remove.branch [
      | in-Some w ↦ ap (λ v. comments_of source v.items) w.group-is ∙ found source o es w.in-Some.group w.in-Some.ensures.value
      | in-None w ↦ ap (λ v. comments_of source v.items) w.group-is ∙ (ap (comments_of source) w.new-group.ensures.items ∙ absent source o es w.in-None.ensures.value)
    ] in
    let groups = grown source o c.args.comment es c.remove.new.self.entries c.insert.new.self.entries c.match-remove.group c.push.new.self group c.in_ok-push.ensures.items c.remove.ensures.entries c.in_ok-insert.ensures.entries in
    let orphans = no_orphan (outlives c.args.comment.content) o keys (sym c.outlives.ensures ∙ c.if-outlives.false) in
    same_store (groups_of source c.insert.new.self.entries) (with_group o (there o (groups_of source es) ++ comment_plain source c.args.comment ∷ []) (without o (groups_of source es))) keys (if outlives c.args.comment.content then with_offset o keys else keys) groups orphans
