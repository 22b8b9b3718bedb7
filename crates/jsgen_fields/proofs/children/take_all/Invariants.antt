use Rattle.std.proofs.Common.{◌≡◌, [], map, drop}
use Rattle.jsgen_fields.specs.Given.{given_items}
use Rattle.jsgen_fields.specs.Reads.{take_child, take_each}
use Rattle.jsgen_pool.specs.Pool.{entries}
use Rattle.jsgen_fields.proofs.children.take_all.Given as goal

-- the values left, after what was taken so far, give the whole
abbrev pub invariant-loop-index : goal.invariant-loop-index
invariant-loop-index g l =
    take_each (take_child l.fn.at g.C.Child.of_set) (map g.C.Child.plain l.children.items) (drop l.index (given_items l.items)) (entries g.R.Typed.plain l.kept.items) ≡ take_each (take_child l.fn.at g.C.Child.of_set) [] (given_items l.items) (entries g.R.Typed.plain l.fn.kept.items)
