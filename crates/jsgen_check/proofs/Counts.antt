-- Numbers of classes, which matter as far as there are tables.
use Rattle.std.proofs.Common.{◌≡◌, ℕ, suc, min, ◌≤◌, ◌⊎◌, inl, inr, true, false, Bool, List, [], ◌∷◌, ◌++◌, length, Option, Some, None, refl, sym, ap, subst, ◌∙◌, arith}
use Rattle.std.specs.Prelude.{slice_get}
use Rattle.std.proofs.lemmas.Option.{slice_get_past}
use Rattle.jsgen_tree.specs.declared.types.NodeSet.{NodeSet}
use Rattle.jsgen_tree.specs.declared.types.NodeType.{NodeType}
use Rattle.jsgen_tree.specs.declared.types.NodeType.TheVariants as types
use Rattle.jsgen_tree.specs.Job.{Tables}
use Rattle.jsgen_tree.specs.Nodes as tree
use Rattle.jsgen_tree.specs.Tree.{Tree, node, Atoms, Slots, no_slots, one, maybe, many, maybe_many, Maybe, absent, given, Trees, no_trees, more, hole, MaybeTrees, no_list, listed}
use Rattle.jsgen_model.specs.Private.{has_table, classes_within}
use Rattle.jsgen_model.specs.Resolved.{after, after_slots, after_maybe, after_trees, after_maybe_trees}
use Rattle.jsgen_model.specs.Valid.{Surroundings, ChildPlace, asked_sets, around_fields, first_number, places_of, child_places, around_first, other_places, place_faults, breaches, span_faults, own_faults, set_faults, in_slots, in_maybe, in_trees, in_maybe_trees}
use Rattle.jsgen_model.specs.declared.fault.TreeFault.{TreeFault}
use Rattle.jsgen_rules.specs.Classes.{counted}
use Rattle.jsgen_check.specs.Verdict.{SameNumber}

-- ---- the number behind a tree

-- numbers that are the same are one number, or both are past the tables
one_or_past : (m n k : ℕ) → min m k ≡ min n k → (m ≡ n) ⊎ (k ≤ m) × (k ≤ n)
one_or_past m n k same = grind (arith, same)

next_same : (tables : Tables) (m n : ℕ) → counted tables m ≡ counted tables n → counted tables (suc m) ≡ counted tables (suc n)
unfolding counted
next_same tables m n same = omega (arith, same)

mutual
  pub after_same : (tables : Tables) (m n : ℕ) → counted tables m ≡ counted tables n → (t : Tree) → counted tables (after t m) ≡ counted tables (after t n)
  after_same tables m n same (tree.class_body a members) = after_same_trees tables (suc m) (suc n) (next_same tables m n same) members
  after_same tables m n same (node type a slots) = after_same_slots tables m n same slots

  pub after_same_slots : (tables : Tables) (m n : ℕ) → counted tables m ≡ counted tables n → (slots : Slots) → counted tables (after_slots slots m) ≡ counted tables (after_slots slots n)
  after_same_slots tables m n same no_slots = same
  after_same_slots tables m n same (one t slots) = after_same_slots tables (after t m) (after t n) (after_same tables m n same t) slots
  after_same_slots tables m n same (maybe x slots) = after_same_slots tables (after_maybe x m) (after_maybe x n) (after_same_maybe tables m n same x) slots
  after_same_slots tables m n same (many ts slots) = after_same_slots tables (after_trees ts m) (after_trees ts n) (after_same_trees tables m n same ts) slots
  after_same_slots tables m n same (maybe_many ts slots) = after_same_slots tables (after_maybe_trees ts m) (after_maybe_trees ts n) (after_same_maybe_trees tables m n same ts) slots

  pub after_same_maybe : (tables : Tables) (m n : ℕ) → counted tables m ≡ counted tables n → (x : Maybe) → counted tables (after_maybe x m) ≡ counted tables (after_maybe x n)
  after_same_maybe tables m n same absent = same
  after_same_maybe tables m n same (given t) = after_same tables m n same t

  pub after_same_trees : (tables : Tables) (m n : ℕ) → counted tables m ≡ counted tables n → (ts : Trees) → counted tables (after_trees ts m) ≡ counted tables (after_trees ts n)
  after_same_trees tables m n same no_trees = same
  after_same_trees tables m n same (more t ts) = after_same_trees tables (after t m) (after t n) (after_same tables m n same t) ts
  after_same_trees tables m n same (hole ts) = after_same_trees tables m n same ts

  pub after_same_maybe_trees : (tables : Tables) (m n : ℕ) → counted tables m ≡ counted tables n → (ts : MaybeTrees) → counted tables (after_maybe_trees ts m) ≡ counted tables (after_maybe_trees ts n)
  after_same_maybe_trees tables m n same no_list = same
  after_same_maybe_trees tables m n same (listed ts) = after_same_trees tables m n same ts

-- the number behind a node is that behind its children
pub after_node : (type : NodeType) (a : Atoms) (slots : Slots) (n : ℕ) → after (node type a slots) n ≡ after_slots slots (first_number (node type a slots) n)
after_node types.ClassBody a (many members no_slots) n = refl
after_node type a slots n = refl

-- ---- what surrounds children

-- the tables are the same everywhere
abbrev pub Shares : Tables → List ChildPlace → Type 0
Shares tables [] = Unit {0}
Shares tables (p ∷ ps) = (p.around.tables ≡ tables) × Shares tables ps

abbrev pub AllShare : Tables → List Surroundings → Type 0
AllShare tables [] = Unit {0}
AllShare tables (s ∷ ss) = (s.tables ≡ tables) × AllShare tables ss

fields_share : (around : Surroundings) (next : ℕ) (t : Tree) → AllShare around.tables (around_fields around next t)
fields_share around next (tree.function a id params body) = (refl, (refl, (refl, tt)))
fields_share around next (tree.arrow_function a params body) = (refl, (refl, tt))
fields_share around next (tree.function_body a directives statements) = (refl, (refl, tt))
fields_share around next (tree.class_body a members) = (refl, tt)
fields_share around next (tree.property_definition a key value) = (refl, (refl, tt))
fields_share around next (tree.static_block a statements) = (refl, tt)
fields_share around next t = tt

places_share : (around : Surroundings) (sets : List NodeSet) (inside : List Surroundings) → AllShare around.tables inside → Shares around.tables (places_of around sets inside)
places_share around [] inside h = tt
places_share around (s ∷ sets) [] h = (refl, places_share around sets [] tt)
places_share around (s ∷ sets) (within ∷ inside) h = (h.0, places_share around sets inside h.1)

pub children_share : (around : Surroundings) (next : ℕ) (type : NodeType) (a : Atoms) (slots : Slots) → Shares around.tables (child_places around next (node type a slots))
children_share around next type a slots = places_share around (asked_sets type) (around_fields around next (node type a slots)) (fields_share around next (node type a slots))

-- ---- faults

-- within the class with the one number stands what stands within that with the other
pub within_same : (tables : Tables) (m n : ℕ) (classes : List ℕ) → counted tables m ≡ counted tables n → classes_within tables m classes ≡ classes_within tables n classes
unfolding counted
within_same tables m n classes same = by tables.private refl
  where
    cases : (all : List (List (List ℕ × List ℕ))) → tables.private ≡ Some all → (m ≡ n) ⊎ (length all ≤ m) × (length all ≤ n) → classes_within tables m classes ≡ classes_within tables n classes
    cases all is (inl e) = ap (λ k. classes_within tables k classes) e
    cases all is (inr h) = rw (is, slice_get_past all m h.0, slice_get_past all n h.1) refl

    by : (o : Option (List (List (List ℕ × List ℕ)))) → tables.private ≡ o → classes_within tables m classes ≡ classes_within tables n classes
    by None is = rw is refl
    by (Some all) is = cases all is (one_or_past m n (length all) (rw is at same))

fields_same : (around : Surroundings) (m n : ℕ) → counted around.tables m ≡ counted around.tables n → (t : Tree) → around_fields around m t ≡ around_fields around n t
fields_same around m n same (tree.class_body a members) = ap (λ ks. record around { classes = ks } ∷ []) (within_same around.tables m n around.classes same)
fields_same around m n same t = refl

first_same : (tables : Tables) (m n : ℕ) → counted tables m ≡ counted tables n → (t : Tree) → counted tables (first_number t m) ≡ counted tables (first_number t n)
first_same tables m n same (tree.class_body a members) = next_same tables m n same
first_same tables m n same t = same

-- what surrounds the first of them has these tables too
first_shares : (around : Surroundings) (ps : List ChildPlace) → Shares around.tables ps → (around_first around ps).tables ≡ around.tables
first_shares around [] h = refl
first_shares around (p ∷ ps) h = h.0

others_share : (tables : Tables) (ps : List ChildPlace) → Shares tables ps → Shares tables (other_places ps)
others_share tables [] h = tt
others_share tables (p ∷ ps) h = h.1

same_within : (around : Surroundings) (ps : List ChildPlace) → Shares around.tables ps → (m n : ℕ) → counted around.tables m ≡ counted around.tables n → counted (around_first around ps).tables m ≡ counted (around_first around ps).tables n
same_within around ps h m n same = subst (λ tables. counted tables m ≡ counted tables n) (sym (first_shares around ps h)) same

mutual
  pub breaches_same : (around : Surroundings) (m n : ℕ) → counted around.tables m ≡ counted around.tables n → (t : Tree) → breaches around m t ≡ breaches around n t
  breaches_same around m n same (node type a slots) =
      let t = node type a slots in
      let front = span_faults around a.span ++ own_faults around t in
      let first = in_slots_same around (child_places around m t) (children_share around m type a slots) (first_number t m) (first_number t n) (first_same around.tables m n same t) slots in
      let second = ap (λ fields. in_slots around (places_of around (asked_sets type) fields) (first_number t n) slots) (fields_same around m n same t) in
      ap (λ fs. front ++ fs) (first ∙ second)

  pub in_slots_same : (around : Surroundings) (ps : List ChildPlace) → Shares around.tables ps → (m n : ℕ) → counted around.tables m ≡ counted around.tables n → (slots : Slots) → in_slots around ps m slots ≡ in_slots around ps n slots
  in_slots_same around ps h m n same no_slots = refl
  in_slots_same around ps h m n same (one t slots) =
      let first = breaches_same (around_first around ps) m n (same_within around ps h m n same) t in
      let rest = in_slots_same around (other_places ps) (others_share around.tables ps h) (after t m) (after t n) (after_same around.tables m n same t) slots in
      ap (λ fs. place_faults ps t ++ fs ++ in_slots around (other_places ps) (after t m) slots) first ∙ ap (λ fs. place_faults ps t ++ breaches (around_first around ps) n t ++ fs) rest
  in_slots_same around ps h m n same (maybe x slots) =
      let first = in_maybe_same around ps h m n same x in
      let rest = in_slots_same around (other_places ps) (others_share around.tables ps h) (after_maybe x m) (after_maybe x n) (after_same_maybe around.tables m n same x) slots in
      ap (λ fs. fs ++ in_slots around (other_places ps) (after_maybe x m) slots) first ∙ ap (λ fs. in_maybe around ps n x ++ fs) rest
  in_slots_same around ps h m n same (many ts slots) =
      let first = in_trees_same around ps h m n same ts in
      let rest = in_slots_same around (other_places ps) (others_share around.tables ps h) (after_trees ts m) (after_trees ts n) (after_same_trees around.tables m n same ts) slots in
      ap (λ fs. fs ++ in_slots around (other_places ps) (after_trees ts m) slots) first ∙ ap (λ fs. in_trees around ps n ts ++ fs) rest
  in_slots_same around ps h m n same (maybe_many ts slots) =
      let first = in_maybe_trees_same around ps h m n same ts in
      let rest = in_slots_same around (other_places ps) (others_share around.tables ps h) (after_maybe_trees ts m) (after_maybe_trees ts n) (after_same_maybe_trees around.tables m n same ts) slots in
      ap (λ fs. fs ++ in_slots around (other_places ps) (after_maybe_trees ts m) slots) first ∙ ap (λ fs. in_maybe_trees around ps n ts ++ fs) rest

  pub in_maybe_same : (around : Surroundings) (ps : List ChildPlace) → Shares around.tables ps → (m n : ℕ) → counted around.tables m ≡ counted around.tables n → (x : Maybe) → in_maybe around ps m x ≡ in_maybe around ps n x
  in_maybe_same around ps h m n same absent = refl
  in_maybe_same around ps h m n same (given t) = ap (λ fs. place_faults ps t ++ fs) (breaches_same (around_first around ps) m n (same_within around ps h m n same) t)

  pub in_trees_same : (around : Surroundings) (ps : List ChildPlace) → Shares around.tables ps → (m n : ℕ) → counted around.tables m ≡ counted around.tables n → (ts : Trees) → in_trees around ps m ts ≡ in_trees around ps n ts
  in_trees_same around ps h m n same no_trees = refl
  in_trees_same around ps h m n same (more t ts) =
      let first = breaches_same (around_first around ps) m n (same_within around ps h m n same) t in
      let rest = in_trees_same around ps h (after t m) (after t n) (after_same around.tables m n same t) ts in
      ap (λ fs. place_faults ps t ++ fs ++ in_trees around ps (after t m) ts) first ∙ ap (λ fs. place_faults ps t ++ breaches (around_first around ps) n t ++ fs) rest
  in_trees_same around ps h m n same (hole ts) = in_trees_same around ps h m n same ts

  pub in_maybe_trees_same : (around : Surroundings) (ps : List ChildPlace) → Shares around.tables ps → (m n : ℕ) → counted around.tables m ≡ counted around.tables n → (ts : MaybeTrees) → in_maybe_trees around ps m ts ≡ in_maybe_trees around ps n ts
  in_maybe_trees_same around ps h m n same no_list = refl
  in_maybe_trees_same around ps h m n same (listed ts) = in_trees_same around ps h m n same ts
