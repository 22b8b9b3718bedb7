-- Resolving private names changes no class's number, and done once it is done.
use Rattle.std.proofs.Common.{◌≡◌, ℕ, suc, List, refl, ap, ◌∙◌}
use Rattle.jsgen_tree.specs.Job.{Tables}
use Rattle.jsgen_tree.specs.Tree.{Tree, node, Slots, no_slots, one, maybe, many, maybe_many, Maybe, absent, given, Trees, no_trees, more, hole, MaybeTrees, no_list, listed}
use Rattle.jsgen_tree.specs.Nodes as tree
use Rattle.jsgen_model.specs.Private.{classes_within}
use Rattle.jsgen_model.specs.Resolved.{after, after_slots, after_maybe, after_trees, after_maybe_trees, resolved, resolved_slots, resolved_maybe, resolved_trees, resolved_maybe_trees}
use Rattle.jsgen_private_laws.specs.Settled.{without_private}

-- ---- the number behind a tree, whatever is the number before it

module _ (tables : Tables) where
  mutual
    pub after_same : (classes : List ℕ) (n m : ℕ) (t : Tree) → after (resolved tables classes n t) m ≡ after t m
    after_same classes n m (tree.private_identifier a) = refl
    after_same classes n m (tree.class_body a body) = after_trees_same (classes_within tables n classes) (suc n) (suc m) body
    after_same classes n m (node type a slots) = after_slots_same classes n m slots

    pub after_slots_same : (classes : List ℕ) (n m : ℕ) (slots : Slots) → after_slots (resolved_slots tables classes n slots) m ≡ after_slots slots m
    after_slots_same classes n m no_slots = refl
    after_slots_same classes n m (one t slots) = ap (after_slots (resolved_slots tables classes (after t n) slots)) (after_same classes n m t) ∙ after_slots_same classes (after t n) (after t m) slots
    after_slots_same classes n m (maybe o slots) = ap (after_slots (resolved_slots tables classes (after_maybe o n) slots)) (after_maybe_same classes n m o) ∙ after_slots_same classes (after_maybe o n) (after_maybe o m) slots
    after_slots_same classes n m (many ts slots) = ap (after_slots (resolved_slots tables classes (after_trees ts n) slots)) (after_trees_same classes n m ts) ∙ after_slots_same classes (after_trees ts n) (after_trees ts m) slots
    after_slots_same classes n m (maybe_many ts slots) = ap (after_slots (resolved_slots tables classes (after_maybe_trees ts n) slots)) (after_maybe_trees_same classes n m ts) ∙ after_slots_same classes (after_maybe_trees ts n) (after_maybe_trees ts m) slots

    pub after_maybe_same : (classes : List ℕ) (n m : ℕ) (o : Maybe) → after_maybe (resolved_maybe tables classes n o) m ≡ after_maybe o m
    after_maybe_same classes n m absent = refl
    after_maybe_same classes n m (given t) = after_same classes n m t

    pub after_trees_same : (classes : List ℕ) (n m : ℕ) (ts : Trees) → after_trees (resolved_trees tables classes n ts) m ≡ after_trees ts m
    after_trees_same classes n m no_trees = refl
    after_trees_same classes n m (more t ts) = ap (after_trees (resolved_trees tables classes (after t n) ts)) (after_same classes n m t) ∙ after_trees_same classes (after t n) (after t m) ts
    after_trees_same classes n m (hole ts) = after_trees_same classes n m ts

    pub after_maybe_trees_same : (classes : List ℕ) (n m : ℕ) (ts : MaybeTrees) → after_maybe_trees (resolved_maybe_trees tables classes n ts) m ≡ after_maybe_trees ts m
    after_maybe_trees_same classes n m no_list = refl
    after_maybe_trees_same classes n m (listed ts) = after_trees_same classes n m ts

-- ---- without tables resolved names stay, within whatever classes and from whatever number

module _ (names tables : Tables) where
  mutual
    pub resolved_again : (ks classes : List ℕ) (m n : ℕ) (t : Tree) → resolved (without_private names) ks m (resolved tables classes n t) ≡ resolved tables classes n t
    resolved_again ks classes m n (tree.private_identifier a) = refl
    resolved_again ks classes m n (tree.class_body a body) = ap (tree.class_body a) (resolved_trees_again ks (classes_within tables n classes) (suc m) (suc n) body)
    resolved_again ks classes m n (node type a slots) = let e = resolved_slots_again ks classes m n slots in λ i. node type a (e i)

    resolved_slots_again : (ks classes : List ℕ) (m n : ℕ) (slots : Slots) → resolved_slots (without_private names) ks m (resolved_slots tables classes n slots) ≡ resolved_slots tables classes n slots
    resolved_slots_again ks classes m n no_slots = refl
    resolved_slots_again ks classes m n (one t slots) = let e = resolved_again ks classes m n t in let f = resolved_slots_again ks classes (after (resolved tables classes n t) m) (after t n) slots in λ i. one (e i) (f i)
    resolved_slots_again ks classes m n (maybe o slots) = let e = resolved_maybe_again ks classes m n o in let f = resolved_slots_again ks classes (after_maybe (resolved_maybe tables classes n o) m) (after_maybe o n) slots in λ i. maybe (e i) (f i)
    resolved_slots_again ks classes m n (many ts slots) = let e = resolved_trees_again ks classes m n ts in let f = resolved_slots_again ks classes (after_trees (resolved_trees tables classes n ts) m) (after_trees ts n) slots in λ i. many (e i) (f i)
    resolved_slots_again ks classes m n (maybe_many ts slots) = let e = resolved_maybe_trees_again ks classes m n ts in let f = resolved_slots_again ks classes (after_maybe_trees (resolved_maybe_trees tables classes n ts) m) (after_maybe_trees ts n) slots in λ i. maybe_many (e i) (f i)

    resolved_maybe_again : (ks classes : List ℕ) (m n : ℕ) (o : Maybe) → resolved_maybe (without_private names) ks m (resolved_maybe tables classes n o) ≡ resolved_maybe tables classes n o
    resolved_maybe_again ks classes m n absent = refl
    resolved_maybe_again ks classes m n (given t) = ap given (resolved_again ks classes m n t)

    resolved_trees_again : (ks classes : List ℕ) (m n : ℕ) (ts : Trees) → resolved_trees (without_private names) ks m (resolved_trees tables classes n ts) ≡ resolved_trees tables classes n ts
    resolved_trees_again ks classes m n no_trees = refl
    resolved_trees_again ks classes m n (more t ts) = let e = resolved_again ks classes m n t in let f = resolved_trees_again ks classes (after (resolved tables classes n t) m) (after t n) ts in λ i. more (e i) (f i)
    resolved_trees_again ks classes m n (hole ts) = ap hole (resolved_trees_again ks classes m n ts)

    resolved_maybe_trees_again : (ks classes : List ℕ) (m n : ℕ) (ts : MaybeTrees) → resolved_maybe_trees (without_private names) ks m (resolved_maybe_trees tables classes n ts) ≡ resolved_maybe_trees tables classes n ts
    resolved_maybe_trees_again ks classes m n no_list = refl
    resolved_maybe_trees_again ks classes m n (listed ts) = ap listed (resolved_trees_again ks classes m n ts)
