-- References and bindings are renamed by the scoping alone, and not by tables of private names.
use Rattle.std.proofs.Common.{◌≡◌, refl}
use Rattle.jsgen_tree.specs.Job.{Tables}
use Rattle.jsgen_tree.specs.Tree.{Tree, node, Slots, no_slots, one, maybe, many, maybe_many, Maybe, absent, given, Trees, no_trees, more, hole, MaybeTrees, no_list, listed}
use Rattle.jsgen_tree.specs.Nodes as tree
use Rattle.jsgen_model.specs.Renamed.{written_out, renamed, renamed_slots, renamed_maybe, renamed_trees, renamed_maybe_trees}
use Rattle.jsgen_private_laws.specs.Settled.{without_private}

module _ (tables : Tables) where
  mutual
    pub renamed_same : (t : Tree) → renamed (without_private tables) t ≡ renamed tables t
    renamed_same (tree.identifier_reference a) = refl
    renamed_same (tree.binding_identifier a) = refl
    renamed_same (tree.target_property_identifier a binding init) = let e = renamed_same binding in let f = renamed_maybe_same init in λ i. written_out a binding (e i) (f i)
    renamed_same (node type a slots) = let e = renamed_slots_same slots in λ i. node type a (e i)

    pub renamed_slots_same : (slots : Slots) → renamed_slots (without_private tables) slots ≡ renamed_slots tables slots
    renamed_slots_same no_slots = refl
    renamed_slots_same (one t slots) = let e = renamed_same t in let f = renamed_slots_same slots in λ i. one (e i) (f i)
    renamed_slots_same (maybe m slots) = let e = renamed_maybe_same m in let f = renamed_slots_same slots in λ i. maybe (e i) (f i)
    renamed_slots_same (many ts slots) = let e = renamed_trees_same ts in let f = renamed_slots_same slots in λ i. many (e i) (f i)
    renamed_slots_same (maybe_many ts slots) = let e = renamed_maybe_trees_same ts in let f = renamed_slots_same slots in λ i. maybe_many (e i) (f i)

    pub renamed_maybe_same : (m : Maybe) → renamed_maybe (without_private tables) m ≡ renamed_maybe tables m
    renamed_maybe_same absent = refl
    renamed_maybe_same (given t) = let e = renamed_same t in λ i. given (e i)

    pub renamed_trees_same : (ts : Trees) → renamed_trees (without_private tables) ts ≡ renamed_trees tables ts
    renamed_trees_same no_trees = refl
    renamed_trees_same (more t ts) = let e = renamed_same t in let f = renamed_trees_same ts in λ i. more (e i) (f i)
    renamed_trees_same (hole ts) = let f = renamed_trees_same ts in λ i. hole (f i)

    pub renamed_maybe_trees_same : (ts : MaybeTrees) → renamed_maybe_trees (without_private tables) ts ≡ renamed_maybe_trees tables ts
    renamed_maybe_trees_same no_list = refl
    renamed_maybe_trees_same (listed ts) = let f = renamed_trees_same ts in λ i. listed (f i)
