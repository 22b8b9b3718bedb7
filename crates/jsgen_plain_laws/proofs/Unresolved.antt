-- A plain program has no private name, so that tables of them change nothing of it.
use Rattle.std.proofs.Common.{◌≡◌, ℕ, List, false, refl, ap}
use Rattle.std.proofs.lemmas.Bool.{both_ways}
use Rattle.jsgen_tree.specs.Job.{Tables}
use Rattle.jsgen_tree.specs.Everywhere.{EverywhereInSlots, EverywhereIfGiven, EverywhereInTrees, EverywhereIfListed}
use Rattle.jsgen_tree.specs.Nodes as tree
use Rattle.jsgen_tree.specs.Tree.{Tree, node, Slots, no_slots, one, maybe, many, maybe_many, Maybe, absent, given, Trees, no_trees, more, hole, MaybeTrees, no_list, listed}
use Rattle.jsgen_model.specs.Plain.{IsPlain, is_plain_row}
use Rattle.jsgen_model.specs.Resolved.{after, after_maybe, after_trees, after_maybe_trees, resolved, resolved_slots, resolved_maybe, resolved_trees, resolved_maybe_trees}

module _ (tables : Tables) where
  mutual
    pub unresolved : (classes : List ℕ) (n : ℕ) (t : Tree) → IsPlain t → resolved tables classes n t ≡ t
    unresolved classes n (tree.private_identifier a) p = absurd (both_ways false refl p.0)
    unresolved classes n (tree.class_body a body) p = absurd (both_ways false refl p.0)
    unresolved classes n (node type a slots) p = ap (λ s. node type a s) (unresolved_slots classes n slots p.1)

    unresolved_slots : (classes : List ℕ) (n : ℕ) (slots : Slots) → EverywhereInSlots is_plain_row slots → resolved_slots tables classes n slots ≡ slots
    unresolved_slots classes n no_slots p = refl
    unresolved_slots classes n (one t slots) p = λ i. one (unresolved classes n t p.0 i) (unresolved_slots classes (after t n) slots p.1 i)
    unresolved_slots classes n (maybe m slots) p = λ i. maybe (unresolved_maybe classes n m p.0 i) (unresolved_slots classes (after_maybe m n) slots p.1 i)
    unresolved_slots classes n (many ts slots) p = λ i. many (unresolved_trees classes n ts p.0 i) (unresolved_slots classes (after_trees ts n) slots p.1 i)
    unresolved_slots classes n (maybe_many ts slots) p = λ i. maybe_many (unresolved_listed classes n ts p.0 i) (unresolved_slots classes (after_maybe_trees ts n) slots p.1 i)

    unresolved_maybe : (classes : List ℕ) (n : ℕ) (m : Maybe) → EverywhereIfGiven is_plain_row m → resolved_maybe tables classes n m ≡ m
    unresolved_maybe classes n absent p = refl
    unresolved_maybe classes n (given t) p = ap given (unresolved classes n t p)

    unresolved_trees : (classes : List ℕ) (n : ℕ) (ts : Trees) → EverywhereInTrees is_plain_row ts → resolved_trees tables classes n ts ≡ ts
    unresolved_trees classes n no_trees p = refl
    unresolved_trees classes n (more t ts) p = λ i. more (unresolved classes n t p.0 i) (unresolved_trees classes (after t n) ts p.1 i)
    unresolved_trees classes n (hole ts) p = ap hole (unresolved_trees classes n ts p)

    unresolved_listed : (classes : List ℕ) (n : ℕ) (ts : MaybeTrees) → EverywhereIfListed is_plain_row ts → resolved_maybe_trees tables classes n ts ≡ ts
    unresolved_listed classes n no_list p = refl
    unresolved_listed classes n (listed ts) p = ap listed (unresolved_trees classes n ts p)
