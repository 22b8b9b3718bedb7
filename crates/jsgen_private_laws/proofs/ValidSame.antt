-- A program breaks the same rules where its private names are written as they are printed, and then needs no table of them.
use Rattle.std.proofs.Common.{◌≡◌, ℕ, suc, List, [], ◌∷◌, ◌++◌, refl, sym, ap, ◌∙◌}
use Rattle.jsgen_syntax.specs.declared.span.Span.{Span}
use Rattle.jsgen_tree.specs.Job.{Tables}
use Rattle.jsgen_tree.specs.Tree.{Tree, node, Slots, no_slots, one, maybe, many, maybe_many, Maybe, absent, given, Trees, no_trees, more, hole, MaybeTrees, no_list, listed}
use Rattle.jsgen_tree.specs.Nodes as tree
use Rattle.jsgen_model.specs.Resolved.{after, after_maybe, after_trees, after_maybe_trees, resolved, resolved_slots, resolved_maybe, resolved_trees, resolved_maybe_trees}
use Rattle.jsgen_model.specs.declared.fault.TreeFault.{TreeFault}
use Rattle.jsgen_model.specs.declared.fault.TreeFault.TheVariants as faults
use Rattle.jsgen_model.specs.Valid.{Surroundings, ChildPlace, span_faults, child_places, first_number, place_faults, around_first, other_places, breaches, in_slots, in_maybe, in_trees, in_maybe_trees}
use Rattle.jsgen_private_laws.specs.Settled.{settled_within, settled_around}
use Rattle.jsgen_private_laws.proofs.Same.{span_same}
use Rattle.jsgen_private_laws.proofs.RulesSame.{set_same}
use Rattle.jsgen_private_laws.proofs.OwnSame.{own_same}
use Rattle.jsgen_private_laws.proofs.PlacesSame.{settled_places, places_same, first_same, others_same, PlacesShare, fields_share, first_shares, others_share}

module _ (classes : List ℕ) where
  place_same : (tables : Tables) (stack : List ℕ) (n : ℕ) (ps : List ChildPlace) (t : Tree) → place_faults (settled_places classes ps) (resolved tables stack n t) ≡ place_faults ps t
  place_same tables stack n [] t = ap (λ (s : Span). faults.Place s.start ∷ []) (span_same tables stack n t)
  place_same tables stack n (p ∷ ps) t = set_same tables stack n p.set t

  -- what is broken at the first place and below, by tables and classes
  abbrev found_first : Surroundings → List ChildPlace → ℕ → Tree → List TreeFault
  found_first around ps m t = place_faults (settled_places classes ps) t ++ breaches (around_first (settled_within classes around) (settled_places classes ps)) m t

  child_same : (around : Surroundings) (ps : List ChildPlace) (n m : ℕ) (t u : Tree) → u ≡ resolved (around_first around ps).tables (around_first around ps).classes n t
      → breaches (settled_within classes (around_first around ps)) m (resolved (around_first around ps).tables (around_first around ps).classes n t) ≡ breaches (around_first around ps) n t
      → found_first around ps m u ≡ place_faults ps t ++ breaches (around_first around ps) n t
  child_same around ps n m t u same e =
      let q : Surroundings = around_first around ps in
      let p = place_same q.tables q.classes n ps t in
      let f = (λ i. breaches (first_same classes around ps i) m (resolved q.tables q.classes n t)) ∙ e in
      ap (found_first around ps m) same ∙ (λ i. p i ++ f i)

  -- what is of the first place's tables and classes is of those round the node
  shared : (around : Surroundings) (ps : List ChildPlace) → PlacesShare around ps → {A : Type 0} (f : Tables → List ℕ → A) → f around.tables around.classes ≡ f (around_first around ps).tables (around_first around ps).classes
  shared around ps h f = let s = first_shares around ps h in sym (λ i. f (s.0 i) (s.1 i))

  -- the fields behind the first
  others_of : (around : Surroundings) (ps : List ChildPlace) (m : ℕ) (slots : Slots) (found : List TreeFault) → in_slots (settled_within classes around) (settled_places classes (other_places ps)) m slots ≡ found → in_slots (settled_within classes around) (other_places (settled_places classes ps)) m slots ≡ found
  others_of around ps m slots found e = (λ i. in_slots (settled_within classes around) (others_same classes ps i) m slots) ∙ e

  mutual
    -- without tables the number of a class says nothing, so that any will do
    pub breaches_within : (around : Surroundings) (n m : ℕ) (t : Tree) → breaches (settled_within classes around) m (resolved around.tables around.classes n t) ≡ breaches around n t
    breaches_within around n m (tree.private_identifier a) = refl
    breaches_within around n m (tree.class_body a body) =
        let e = breaches_in_trees around (child_places around n (tree.class_body a body)) (suc n) (suc m) body in
        λ i. span_faults around a.span ++ [] ++ (e i ++ [])
    breaches_within around n m (node type a slots) =
        let own = own_same classes around n (node type a slots) in
        let places = places_same classes around n m (node type a slots) in
        let next : ℕ = first_number (node type a (resolved_slots around.tables around.classes n slots)) m in
        let e = breaches_in_slots around (child_places around n (node type a slots)) (fields_share around n (node type a slots)) n next slots in
        let f = (λ i. in_slots (settled_within classes around) (places i) next (resolved_slots around.tables around.classes n slots)) ∙ e in
        λ i. span_faults around a.span ++ own i ++ f i

    -- each field at its place: what surrounds that has these tables and these classes
    breaches_in_slots : (around : Surroundings) (ps : List ChildPlace) → PlacesShare around ps → (n m : ℕ) (slots : Slots) → in_slots (settled_within classes around) (settled_places classes ps) m (resolved_slots around.tables around.classes n slots) ≡ in_slots around ps n slots
    breaches_in_slots around ps h n m no_slots = refl
    breaches_in_slots around ps h n m (one t slots) =
        let u : Tree = resolved around.tables around.classes n t in
        let e = child_same around ps n m t u (shared around ps h (λ tables stack. resolved tables stack n t)) (breaches_within (around_first around ps) n m t) in
        let f = others_of around ps (after u m) (resolved_slots around.tables around.classes (after t n) slots) (in_slots around (other_places ps) (after t n) slots) (breaches_in_slots around (other_places ps) (others_share around ps h) (after t n) (after u m) slots) in
        λ i. e i ++ f i
    breaches_in_slots around ps h n m (maybe o slots) =
        let u : Maybe = resolved_maybe around.tables around.classes n o in
        let e = ap (in_maybe (settled_within classes around) (settled_places classes ps) m) (shared around ps h (λ tables stack. resolved_maybe tables stack n o)) ∙ breaches_in_maybe around ps n m o in
        let f = others_of around ps (after_maybe u m) (resolved_slots around.tables around.classes (after_maybe o n) slots) (in_slots around (other_places ps) (after_maybe o n) slots) (breaches_in_slots around (other_places ps) (others_share around ps h) (after_maybe o n) (after_maybe u m) slots) in
        λ i. e i ++ f i
    breaches_in_slots around ps h n m (many ts slots) =
        let u : Trees = resolved_trees around.tables around.classes n ts in
        let e = ap (in_trees (settled_within classes around) (settled_places classes ps) m) (shared around ps h (λ tables stack. resolved_trees tables stack n ts)) ∙ breaches_in_trees around ps n m ts in
        let f = others_of around ps (after_trees u m) (resolved_slots around.tables around.classes (after_trees ts n) slots) (in_slots around (other_places ps) (after_trees ts n) slots) (breaches_in_slots around (other_places ps) (others_share around ps h) (after_trees ts n) (after_trees u m) slots) in
        λ i. e i ++ f i
    breaches_in_slots around ps h n m (maybe_many ts slots) =
        let u : MaybeTrees = resolved_maybe_trees around.tables around.classes n ts in
        let e = ap (in_maybe_trees (settled_within classes around) (settled_places classes ps) m) (shared around ps h (λ tables stack. resolved_maybe_trees tables stack n ts)) ∙ breaches_in_maybe_trees around ps n m ts in
        let f = others_of around ps (after_maybe_trees u m) (resolved_slots around.tables around.classes (after_maybe_trees ts n) slots) (in_slots around (other_places ps) (after_maybe_trees ts n) slots) (breaches_in_slots around (other_places ps) (others_share around ps h) (after_maybe_trees ts n) (after_maybe_trees u m) slots) in
        λ i. e i ++ f i

    breaches_in_maybe : (around : Surroundings) (ps : List ChildPlace) (n m : ℕ) (o : Maybe) → in_maybe (settled_within classes around) (settled_places classes ps) m (resolved_maybe (around_first around ps).tables (around_first around ps).classes n o) ≡ in_maybe around ps n o
    breaches_in_maybe around ps n m absent = refl
    breaches_in_maybe around ps n m (given t) = child_same around ps n m t (resolved (around_first around ps).tables (around_first around ps).classes n t) refl (breaches_within (around_first around ps) n m t)

    breaches_in_trees : (around : Surroundings) (ps : List ChildPlace) (n m : ℕ) (ts : Trees) → in_trees (settled_within classes around) (settled_places classes ps) m (resolved_trees (around_first around ps).tables (around_first around ps).classes n ts) ≡ in_trees around ps n ts
    breaches_in_trees around ps n m no_trees = refl
    breaches_in_trees around ps n m (more t ts) =
        let u : Tree = resolved (around_first around ps).tables (around_first around ps).classes n t in
        let e = child_same around ps n m t u refl (breaches_within (around_first around ps) n m t) in
        let f = breaches_in_trees around ps (after t n) (after u m) ts in
        λ i. e i ++ f i
    breaches_in_trees around ps n m (hole ts) = breaches_in_trees around ps n m ts

    breaches_in_maybe_trees : (around : Surroundings) (ps : List ChildPlace) (n m : ℕ) (ts : MaybeTrees) → in_maybe_trees (settled_within classes around) (settled_places classes ps) m (resolved_maybe_trees (around_first around ps).tables (around_first around ps).classes n ts) ≡ in_maybe_trees around ps n ts
    breaches_in_maybe_trees around ps n m no_list = refl
    breaches_in_maybe_trees around ps n m (listed ts) = breaches_in_trees around ps n m ts

pub breaches_same : (around : Surroundings) (n m : ℕ) (t : Tree) → breaches (settled_around around) m (resolved around.tables around.classes n t) ≡ breaches around n t
breaches_same around n m t = breaches_within around.classes around n m t
