use Rattle.std.proofs.Common.{◌≡◌}
use Rattle.jsgen_model.specs.Comments.{any_at, has_orphans_below}
use Rattle.jsgen_comments.specs.Plain.{store_of}
use Rattle.jsgen_comments.proofs.comments.Comments.has_orphans.Given as goal

abbrev pub invariant-loop-orphan : goal.invariant-loop-orphan
invariant-loop-orphan l =
    (goal.iterator-loop-orphan).can_next l.orphan-iterator ×
    (goal.iterator-loop-orphan).is_finite l.orphan-iterator ×
    (any_at l.offset l.orphan-iterator (store_of l.self).groups ≡ has_orphans_below l.offset (store_of l.self))
