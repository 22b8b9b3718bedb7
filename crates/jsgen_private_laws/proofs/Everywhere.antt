-- What holds of each node of a tree holds of each where private names are resolved, if that changes nothing for a single node.
use Rattle.std.proofs.Common.{◌≡◌, ℕ, suc, List, Bool, true}
use Rattle.jsgen_tree.specs.Job.{Tables}
use Rattle.jsgen_tree.specs.Tree.{Tree, node, Slots, no_slots, one, maybe, many, maybe_many, Maybe, absent, given, Trees, no_trees, more, hole, MaybeTrees, no_list, listed}
use Rattle.jsgen_tree.specs.Nodes as tree
use Rattle.jsgen_tree.specs.Everywhere.{Everywhere, EverywhereInSlots, EverywhereIfGiven, EverywhereInTrees, EverywhereIfListed}
use Rattle.jsgen_model.specs.Private.{classes_within}
use Rattle.jsgen_model.specs.Resolved.{after, after_maybe, after_trees, after_maybe_trees, resolved, resolved_slots, resolved_maybe, resolved_trees, resolved_maybe_trees}

module _ (tables : Tables) (test : Tree → Bool) (keeps : (classes : List ℕ) (n : ℕ) (t : Tree) → test t ≡ true → test (resolved tables classes n t) ≡ true) where
  mutual
    pub resolved_everywhere : (classes : List ℕ) (n : ℕ) (t : Tree) → Everywhere test t → Everywhere test (resolved tables classes n t)
    resolved_everywhere classes n (tree.private_identifier a) p = (keeps classes n (tree.private_identifier a) p.0, tt)
    resolved_everywhere classes n (tree.class_body a body) p = (keeps classes n (tree.class_body a body) p.0, (resolved_in_trees (classes_within tables n classes) (suc n) body p.1.0, tt))
    resolved_everywhere classes n (node type a slots) p = (keeps classes n (node type a slots) p.0, resolved_in_slots classes n slots p.1)

    resolved_in_slots : (classes : List ℕ) (n : ℕ) (slots : Slots) → EverywhereInSlots test slots → EverywhereInSlots test (resolved_slots tables classes n slots)
    resolved_in_slots classes n no_slots p = tt
    resolved_in_slots classes n (one t slots) p = (resolved_everywhere classes n t p.0, resolved_in_slots classes (after t n) slots p.1)
    resolved_in_slots classes n (maybe m slots) p = (resolved_if_given classes n m p.0, resolved_in_slots classes (after_maybe m n) slots p.1)
    resolved_in_slots classes n (many ts slots) p = (resolved_in_trees classes n ts p.0, resolved_in_slots classes (after_trees ts n) slots p.1)
    resolved_in_slots classes n (maybe_many ts slots) p = (resolved_if_listed classes n ts p.0, resolved_in_slots classes (after_maybe_trees ts n) slots p.1)

    resolved_if_given : (classes : List ℕ) (n : ℕ) (m : Maybe) → EverywhereIfGiven test m → EverywhereIfGiven test (resolved_maybe tables classes n m)
    resolved_if_given classes n absent p = tt
    resolved_if_given classes n (given t) p = resolved_everywhere classes n t p

    resolved_in_trees : (classes : List ℕ) (n : ℕ) (ts : Trees) → EverywhereInTrees test ts → EverywhereInTrees test (resolved_trees tables classes n ts)
    resolved_in_trees classes n no_trees p = tt
    resolved_in_trees classes n (more t ts) p = (resolved_everywhere classes n t p.0, resolved_in_trees classes (after t n) ts p.1)
    resolved_in_trees classes n (hole ts) p = resolved_in_trees classes n ts p

    resolved_if_listed : (classes : List ℕ) (n : ℕ) (ts : MaybeTrees) → EverywhereIfListed test ts → EverywhereIfListed test (resolved_maybe_trees tables classes n ts)
    resolved_if_listed classes n no_list p = tt
    resolved_if_listed classes n (listed ts) p = resolved_in_trees classes n ts p
