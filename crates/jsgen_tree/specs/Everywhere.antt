-- What holds of a tree node by node.
use Rattle.std.specs.Prelude.{◌≡◌, Bool, true, ⊤}
use Rattle.jsgen_tree.specs.Tree.{Tree, node, Slots, no_slots, one, maybe, many, maybe_many, Maybe, absent, given, Trees, no_trees, more, hole, MaybeTrees, no_list, listed}

-- the test holds of the node, and of each node below it
abbrev mutual
  pub Everywhere : (Tree → Bool) → Tree → Type 0
  Everywhere test (node type a slots) = (test (node type a slots) ≡ true) × EverywhereInSlots test slots

  pub EverywhereInSlots : (Tree → Bool) → Slots → Type 0
  EverywhereInSlots test no_slots = ⊤
  EverywhereInSlots test (one t slots) = Everywhere test t × EverywhereInSlots test slots
  EverywhereInSlots test (maybe m slots) = EverywhereIfGiven test m × EverywhereInSlots test slots
  EverywhereInSlots test (many ts slots) = EverywhereInTrees test ts × EverywhereInSlots test slots
  EverywhereInSlots test (maybe_many ts slots) = EverywhereIfListed test ts × EverywhereInSlots test slots

  pub EverywhereIfGiven : (Tree → Bool) → Maybe → Type 0
  EverywhereIfGiven test absent = ⊤
  EverywhereIfGiven test (given t) = Everywhere test t

  pub EverywhereInTrees : (Tree → Bool) → Trees → Type 0
  EverywhereInTrees test no_trees = ⊤
  EverywhereInTrees test (more t ts) = Everywhere test t × EverywhereInTrees test ts
  EverywhereInTrees test (hole ts) = EverywhereInTrees test ts

  pub EverywhereIfListed : (Tree → Bool) → MaybeTrees → Type 0
  EverywhereIfListed test no_list = ⊤
  EverywhereIfListed test (listed ts) = EverywhereInTrees test ts
