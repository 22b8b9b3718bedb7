use Rattle.std.proofs.Common.{◌≡◌, ◌++◌, not, take}
use Rattle.std.specs.List.{filter}
use Rattle.jsgen_model.specs.Comments.{outlives}
use Rattle.jsgen_tree.specs.declared.statements.Comment.{Comment}
use Rattle.jsgen_comments.proofs.comments.part.Given as goal

abbrev pub invariant-loop-comment : goal.invariant-loop-comment
invariant-loop-comment l = record {
  found : l.found.items ≡ l.initial.found.items ++ filter (λ (c : Comment). outlives c.content) (take l.comment-index l.group);
  others : l.others.items ≡ filter (λ (c : Comment). not (outlives c.content)) (take l.comment-index l.group);
}
