use Rattle.std.proofs.Common.{◌≡◌, ◌++◌, map, length}
use Rattle.jsgen_model.specs.Comments.{orphans_below, left_below}
use Rattle.jsgen_comments.specs.Plain.{comment_plain, store_of}
use Rattle.jsgen_comments.proofs.comments.Comments.take_orphans.Given as goal

abbrev pub invariant-loop-orphan : goal.invariant-loop-orphan
invariant-loop-orphan l = record {
  source : l.self.source ≡ l.initial.self.source;
  annotations : l.self.annotations ≡ l.initial.self.annotations;
  group : map (comment_plain l.self.source.now) l.found.items ++ orphans_below l.offset (store_of l.self) ≡ orphans_below l.offset (store_of l.initial.self);
  store : left_below l.offset (store_of l.self) ≡ left_below l.offset (store_of l.initial.self);
}

abbrev pub decreases-loop-orphan : goal.decreases-loop-orphan
decreases-loop-orphan l = length l.self.orphans.keys
