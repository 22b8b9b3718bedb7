-- Why the patterns of a valid tree are of the families over which the induction goes, where the expressions below them are.
use Rattle.std.proofs.Common.{◌≡◌, ℕ, true, false, List, [], ◌∷◌, refl}
use Rattle.std.specs.Prelude.{⊤}
use Rattle.std.proofs.lemmas.Bool.{and_parts}
use Rattle.jsgen_tree.specs.Tree.{Tree, node, Slots, no_slots, one, maybe, many, maybe_many, Maybe, absent, given, Trees, no_trees, more, hole, MaybeTrees, no_list, listed, type_of, span_of}
use Rattle.jsgen_tree.specs.Nodes as tree
use Rattle.jsgen_tree.specs.Values.{binding_property_computed, assignment_target_property_property_computed}
use Rattle.jsgen_tree.specs.Inside.{has_optional_link, binding_named}
use Rattle.jsgen_tree.specs.Everywhere.{EverywhereIfGiven, EverywhereInTrees}
use Rattle.jsgen_tree.specs.Sets.{is_binding_rest_element, is_binding_property, is_assignment_target, is_assignment_target_maybe_default, is_assignment_target_property, is_assignment_target_rest}
use Rattle.jsgen_tree.specs.declared.types.NodeSet.TheVariants as sets
use Rattle.jsgen_model.specs.declared.fault.TreeFault.TheVariants as faults
use Rattle.jsgen_model.specs.Plain.{has_no_hole}
use Rattle.jsgen_row_laws.proofs.CoreIn.{IsCoreIn, is_core_row}
use Rattle.jsgen_model.specs.Valid.{Surroundings, ChildPlace, breaches, in_maybe, in_trees, set_faults, span_faults, name_faults, target_faults, may_stand, pattern_key_faults, rest_faults, object_rest_faults, shorthand_name_faults, has_place, fits_kind}
use Rattle.jsgen_row_laws.proofs.Families.{allowed_in, IsExpression, IsItem, IsValue, IsBinding, IsBindingElement, AreBindingElements, IsBindingRest, AreBindingProperties, IsBindingProperty, IsTarget, IsTargetElement, AreTargetElements, IsTargetRest, AreTargetProperties, IsTargetProperty}
use Rattle.jsgen_row_laws.proofs.Families as family
use Rattle.jsgen_row_laws.proofs.Faultless.{none_both, none_if, parts, stands_at, standing, placed, is_own_statement, no_truth, no_truth_behind, key_stands, key_valid, free_since, placed_if_given, StandsAt, place_of, as_element, as_alone, pattern_key, name_of_rest_valid, other_element, target_as_element, as_target, simple_rest, own_name_valid, none_but_property, none_but_bound_property, none_but_bound_rest, none_but_rest}

-- ---- of each tree below another

abbrev mutual
  pub Below : (Tree → Type 0) → Tree → Type 0
  Below P (node type a slots) = BelowSlots P slots

  pub BelowSlots : (Tree → Type 0) → Slots → Type 0
  BelowSlots P no_slots = ⊤
  BelowSlots P (one t slots) = (P t × Below P t) × BelowSlots P slots
  BelowSlots P (maybe m slots) = BelowIfGiven P m × BelowSlots P slots
  BelowSlots P (many ts slots) = EachBelow P ts × BelowSlots P slots
  BelowSlots P (maybe_many ts slots) = BelowIfListed P ts × BelowSlots P slots

  pub BelowIfGiven : (Tree → Type 0) → Maybe → Type 0
  BelowIfGiven P absent = ⊤
  BelowIfGiven P (given t) = P t × Below P t

  pub EachBelow : (Tree → Type 0) → Trees → Type 0
  EachBelow P no_trees = ⊤
  EachBelow P (more t ts) = (P t × Below P t) × EachBelow P ts
  EachBelow P (hole ts) = EachBelow P ts

  pub BelowIfListed : (Tree → Type 0) → MaybeTrees → Type 0
  BelowIfListed P no_list = ⊤
  BelowIfListed P (listed ts) = EachBelow P ts

-- wherever it may stand and keeps the rules, it is an expression of the families
abbrev pub ValidExpression : Tree → Type 0
ValidExpression t = (next : ℕ) (around : Surroundings) → IsCoreIn around.tables t → StandsAt sets.Expression t → breaches around next t ≡ [] → IsExpression around.tables (allowed_in around) t

-- and wherever it may stand among statements, it is one of these, or a declaration
abbrev pub ValidItem : Tree → Type 0
ValidItem t = (next : ℕ) (around : Surroundings) → IsCoreIn around.tables t → is_own_statement (type_of t) ≡ true → fits_kind sets.Statement t ≡ true → breaches around next t ≡ [] → IsItem around.tables (allowed_in around) t

-- ---- patterns

mutual
  element_of_pattern_valid : (next : ℕ) (around : Surroundings) (t : Tree) → Below ValidExpression t → IsCoreIn around.tables t → may_stand sets.BindingElement (type_of t) ≡ true → breaches around next t ≡ [] → IsBindingElement around.tables (allowed_in around) t
  element_of_pattern_valid next around (tree.binding_identifier a) q p s e = family.a_binding_alone (family.a_bound_name (free_since around a.span (binding_named a) (parts (span_faults around a.span) (name_faults around.tables a.span (binding_named a)) [] e).0))
  element_of_pattern_valid next around (tree.array_pattern a es rest) q p s e =
      let others : List ChildPlace = place_of sets.BindingRestElement around ∷ [] in
      let k = none_both (in_trees around (place_of sets.BindingElement around ∷ others) _ es) _ (parts (span_faults around a.span) [] _ e).1 in
      let j = none_both (in_maybe around others _ rest) [] k.1 in
      family.a_binding_alone (family.an_array_pattern (elements_of_pattern_valid _ around others es q.0 p.1.0 k.0) (rest_of_pattern_valid _ around rest q.1.0 p.1.1.0 j.0))
  element_of_pattern_valid next around (tree.object_pattern a ps rest) q p s e =
      let others : List ChildPlace = place_of sets.BindingRestElement around ∷ [] in
      let h = parts (span_faults around a.span) (rest_faults rest) _ e in
      let k = none_both (in_trees around (place_of sets.BindingProperty around ∷ others) _ ps) _ h.1 in
      let j = none_both (in_maybe around others _ rest) [] k.1 in
      family.a_binding_alone (family.an_object_pattern (properties_of_pattern_valid _ around others ps q.0 p.0 p.1.0 k.0) (name_of_rest_valid _ around rest p.1.1.0 h.0 j.0))
  element_of_pattern_valid next around (tree.assignment_pattern a b v) q p s e =
      let k = standing _ around sets.BindingPattern b _ (parts (span_faults around a.span) [] _ e).1 in
      let j = standing _ around sets.Expression v [] k.2 in
      family.a_binding_with_value (as_alone (element_of_pattern_valid _ around b q.0.1 p.1.0 (as_element (type_of b) k.0.0) k.1) k.0.0) (q.1.0.0 _ around p.1.1.0 j.0 j.1)
  element_of_pattern_valid next around t q p s e = absurd (search (no_truth, no_truth_behind))

  elements_of_pattern_valid : (next : ℕ) (around : Surroundings) (others : List ChildPlace) (es : Trees) → EachBelow ValidExpression es → EverywhereInTrees (is_core_row around.tables) es → in_trees around (place_of sets.BindingElement around ∷ others) next es ≡ [] → AreBindingElements around.tables (allowed_in around) es
  elements_of_pattern_valid next around others no_trees q p e = family.no_binding_element
  elements_of_pattern_valid next around others (more t ts) q p e = let k = standing _ around sets.BindingElement t _ e in family.first_binding_element (element_of_pattern_valid _ around t q.0.1 p.0 k.0.0 k.1) (elements_of_pattern_valid _ around others ts q.1 p.1 k.2)
  elements_of_pattern_valid next around others (hole ts) q p e = family.a_binding_elision (elements_of_pattern_valid _ around others ts q p e)

  rest_of_pattern_valid : (next : ℕ) (around : Surroundings) (m : Maybe) → BelowIfGiven ValidExpression m → EverywhereIfGiven (is_core_row around.tables) m → in_maybe around (place_of sets.BindingRestElement around ∷ []) next m ≡ [] → IsBindingRest around.tables (allowed_in around) m
  rest_of_pattern_valid next around absent q p e = family.no_binding_rest
  rest_of_pattern_valid next around (given t) q p e = let h = placed_if_given next around sets.BindingRestElement t e in some_rest_of_pattern_valid next around t q.1 p h.0 h.1

  some_rest_of_pattern_valid : (next : ℕ) (around : Surroundings) (t : Tree) → Below ValidExpression t → IsCoreIn around.tables t → is_binding_rest_element (type_of t) ≡ true → breaches around next t ≡ [] → IsBindingRest around.tables (allowed_in around) (given t)
  some_rest_of_pattern_valid next around (tree.binding_rest_element a b) q p s e =
      let k = standing _ around sets.BindingPattern b [] (parts (span_faults around a.span) [] _ e).1 in
      family.a_binding_rest (as_alone (element_of_pattern_valid _ around b q.0.1 p.1.0 (as_element (type_of b) k.0.0) k.1) k.0.0)
  some_rest_of_pattern_valid next around t q p s e = absurd (none_but_bound_rest around.tables t p.0 s refl)

  properties_of_pattern_valid : (next : ℕ) (around : Surroundings) (others : List ChildPlace) (ps : Trees) → EachBelow ValidExpression ps → has_no_hole ps ≡ true → EverywhereInTrees (is_core_row around.tables) ps → in_trees around (place_of sets.BindingProperty around ∷ others) next ps ≡ [] → AreBindingProperties around.tables (allowed_in around) ps
  properties_of_pattern_valid next around others no_trees q n p e = family.no_binding_property
  properties_of_pattern_valid next around others (more t ts) q n p e = let k = placed _ around sets.BindingProperty t _ e in family.first_binding_property (property_of_pattern_valid _ around t q.0.1 p.0 k.0 k.1) (properties_of_pattern_valid _ around others ts q.1 n p.1 k.2)
  properties_of_pattern_valid next around others (hole ts) q n p e = absurd (no_truth n)

  property_of_pattern_valid : (next : ℕ) (around : Surroundings) (t : Tree) → Below ValidExpression t → IsCoreIn around.tables t → is_binding_property (type_of t) ≡ true → breaches around next t ≡ [] → IsBindingProperty around.tables (allowed_in around) t
  property_of_pattern_valid next around (tree.binding_property a x v) q p s e =
      let h = parts (span_faults around a.span) (pattern_key_faults (binding_property_computed a) x) _ e in
      let f = pattern_key (binding_property_computed a) x h.0 in
      let j = standing _ around sets.PropertyKey x _ h.1 in
      let i = standing _ around sets.BindingElement v [] j.2 in
      family.a_binding_property f.1 (key_valid _ (allowed_in around) around (binding_property_computed a) x p.1.0 f.0 j.1 (λ y. q.0.0 _ around p.1.0 (key_stands x y j.0) j.1)) (element_of_pattern_valid _ around v q.1.0.1 p.1.1.0 i.0.0 i.1)
  property_of_pattern_valid next around t q p s e = absurd (none_but_bound_property around.tables t p.0 s refl)

pub binding_valid : (next : ℕ) (around : Surroundings) (t : Tree) → Below ValidExpression t → IsCoreIn around.tables t → may_stand sets.BindingPattern (type_of t) ≡ true → breaches around next t ≡ [] → IsBinding around.tables (allowed_in around) t
binding_valid next around t q p s e = as_alone (element_of_pattern_valid next around t q p (as_element (type_of t) s) e) s

-- ---- targets

-- behind its field others may stand
pub default_valid : (next : ℕ) (around : Surroundings) (others : List ChildPlace) (m : Maybe) → BelowIfGiven ValidExpression m → EverywhereIfGiven (is_core_row around.tables) m → in_maybe around (place_of sets.Expression around ∷ others) next m ≡ [] → IsValue around.tables (allowed_in around) m
default_valid next around others absent q p e = family.no_value
default_valid next around others (given t) q p e = let k = none_both (set_faults sets.Expression t) (breaches around next t) e in family.a_value (q.0 next around p (stands_at sets.Expression t k.0) k.1)

mutual
  -- what is given a value, with a default or without one; of a name or a member by itself it is known that it is an expression
  target_element_valid : (next : ℕ) (around : Surroundings) (t : Tree) → Below ValidExpression t → IsCoreIn around.tables t → is_assignment_target_maybe_default (type_of t) ≡ true → has_optional_link t ≡ false → breaches around next t ≡ [] → (StandsAt sets.Expression t → IsExpression around.tables (allowed_in around) t) → IsTargetElement around.tables (allowed_in around) t
  target_element_valid next around (tree.array_target a es rest) q p s n e g =
      let others : List ChildPlace = place_of sets.AssignmentTargetRest around ∷ [] in
      let k = none_both (in_trees around (place_of sets.AssignmentTargetMaybeDefault around ∷ others) _ es) _ (parts (span_faults around a.span) [] _ e).1 in
      let j = none_both (in_maybe around others _ rest) [] k.1 in
      family.a_target_alone (family.a_target_pattern (family.an_array_target (target_elements_valid _ around others es q.0 p.1.0 k.0) (rest_of_targets_valid _ around rest q.1.0 p.1.1.0 j.0)))
  target_element_valid next around (tree.object_target a ps rest) q p s n e g =
      let others : List ChildPlace = place_of sets.AssignmentTargetRest around ∷ [] in
      let h = parts (span_faults around a.span) (object_rest_faults rest) _ e in
      let k = none_both (in_trees around (place_of sets.AssignmentTargetProperty around ∷ others) _ ps) _ h.1 in
      let j = none_both (in_maybe around others _ rest) [] k.1 in
      family.a_target_alone (family.a_target_pattern (family.an_object_target (target_properties_valid _ around others ps q.0 p.0 p.1.0 k.0) (simple_rest (rest_of_targets_valid _ around rest q.1.0 p.1.1.0 j.0) h.0)))
  target_element_valid next around (tree.target_with_default a b v) q p s n e g =
      let h = parts (span_faults around a.span) (target_faults b) _ e in
      let k = placed _ around sets.AssignmentTarget b _ h.1 in
      let j = standing _ around sets.Expression v [] k.2 in
      family.a_target_with_default (as_target (target_element_valid _ around b q.0.1 p.1.0 (target_as_element (type_of b) k.0) (none_if (has_optional_link b) (faults.Place (span_of b).start) h.0) k.1 (λ y. q.0.0 _ around p.1.0 y k.1)) k.0) (q.1.0.0 _ around p.1.1.0 j.0 j.1)
  target_element_valid next around t q p s n e g = other_element t p.0 s refl n g

  target_elements_valid : (next : ℕ) (around : Surroundings) (others : List ChildPlace) (es : Trees) → EachBelow ValidExpression es → EverywhereInTrees (is_core_row around.tables) es → in_trees around (place_of sets.AssignmentTargetMaybeDefault around ∷ others) next es ≡ [] → AreTargetElements around.tables (allowed_in around) es
  target_elements_valid next around others no_trees q p e = family.no_target_element
  target_elements_valid next around others (more t ts) q p e =
      let k = standing _ around sets.AssignmentTargetMaybeDefault t _ e in
      family.first_target_element (target_element_valid _ around t q.0.1 p.0 (and_parts (is_assignment_target_maybe_default (type_of t)) (has_place sets.AssignmentTargetMaybeDefault (type_of t)) k.0.0).0 k.0.1 k.1 (λ y. q.0.0 _ around p.0 y k.1)) (target_elements_valid _ around others ts q.1 p.1 k.2)
  target_elements_valid next around others (hole ts) q p e = family.a_target_elision (target_elements_valid _ around others ts q p e)

  rest_of_targets_valid : (next : ℕ) (around : Surroundings) (m : Maybe) → BelowIfGiven ValidExpression m → EverywhereIfGiven (is_core_row around.tables) m → in_maybe around (place_of sets.AssignmentTargetRest around ∷ []) next m ≡ [] → IsTargetRest around.tables (allowed_in around) m
  rest_of_targets_valid next around absent q p e = family.no_target_rest
  rest_of_targets_valid next around (given t) q p e = let h = placed_if_given next around sets.AssignmentTargetRest t e in some_rest_of_targets_valid next around t q.1 p h.0 h.1

  some_rest_of_targets_valid : (next : ℕ) (around : Surroundings) (t : Tree) → Below ValidExpression t → IsCoreIn around.tables t → is_assignment_target_rest (type_of t) ≡ true → breaches around next t ≡ [] → IsTargetRest around.tables (allowed_in around) (given t)
  some_rest_of_targets_valid next around (tree.target_rest a t) q p s e =
      let h = parts (span_faults around a.span) (target_faults t) _ e in
      let k = placed _ around sets.AssignmentTarget t [] h.1 in
      family.a_target_rest (as_target (target_element_valid _ around t q.0.1 p.1.0 (target_as_element (type_of t) k.0) (none_if (has_optional_link t) (faults.Place (span_of t).start) h.0) k.1 (λ y. q.0.0 _ around p.1.0 y k.1)) k.0)
  some_rest_of_targets_valid next around t q p s e = absurd (none_but_rest around.tables t p.0 s refl)

  target_properties_valid : (next : ℕ) (around : Surroundings) (others : List ChildPlace) (ps : Trees) → EachBelow ValidExpression ps → has_no_hole ps ≡ true → EverywhereInTrees (is_core_row around.tables) ps → in_trees around (place_of sets.AssignmentTargetProperty around ∷ others) next ps ≡ [] → AreTargetProperties around.tables (allowed_in around) ps
  target_properties_valid next around others no_trees q n p e = family.no_target_property
  target_properties_valid next around others (more t ts) q n p e = let k = placed _ around sets.AssignmentTargetProperty t _ e in family.first_target_property (target_property_valid _ around t q.0.1 p.0 k.0 k.1) (target_properties_valid _ around others ts q.1 n p.1 k.2)
  target_properties_valid next around others (hole ts) q n p e = absurd (no_truth n)

  target_property_valid : (next : ℕ) (around : Surroundings) (t : Tree) → Below ValidExpression t → IsCoreIn around.tables t → is_assignment_target_property (type_of t) ≡ true → breaches around next t ≡ [] → IsTargetProperty around.tables (allowed_in around) t
  target_property_valid next around (tree.target_property_identifier a n m) q p s e =
      let h = parts (span_faults around a.span) (shorthand_name_faults n) _ e in
      let k = placed _ around sets.IdentifierReference n _ h.1 in
      let j = none_both (in_maybe around (place_of sets.Expression around ∷ []) _ m) [] k.2 in
      let v : IsValue around.tables (allowed_in around) m = default_valid _ around [] m q.1.0 p.1.1.0 j.0 in
      own_name_valid _ around n (λ x. IsTargetProperty around.tables (allowed_in around) (tree.target_property_identifier a x m)) p.1.0 k.0 h.0 k.1 (λ b x y. family.a_target_name x y v)
  target_property_valid next around (tree.target_property a x v) q p s e =
      let h = parts (span_faults around a.span) (pattern_key_faults (assignment_target_property_property_computed a) x) _ e in
      let f = pattern_key (assignment_target_property_property_computed a) x h.0 in
      let j = standing _ around sets.PropertyKey x _ h.1 in
      let i = standing _ around sets.AssignmentTargetMaybeDefault v [] j.2 in
      family.a_target_property f.1 (key_valid _ (allowed_in around) around (assignment_target_property_property_computed a) x p.1.0 f.0 j.1 (λ y. q.0.0 _ around p.1.0 (key_stands x y j.0) j.1)) (target_element_valid _ around v q.1.0.1 p.1.1.0 (and_parts (is_assignment_target_maybe_default (type_of v)) (has_place sets.AssignmentTargetMaybeDefault (type_of v)) i.0.0).0 i.0.1 i.1 (λ y. q.1.0.0 _ around p.1.1.0 y i.1))
  target_property_valid next around t q p s e = absurd (none_but_property around.tables t p.0 s refl)

pub target_valid : (next : ℕ) (around : Surroundings) (t : Tree) → Below ValidExpression t → IsCoreIn around.tables t → is_assignment_target (type_of t) ≡ true → has_optional_link t ≡ false → breaches around next t ≡ [] → (StandsAt sets.Expression t → IsExpression around.tables (allowed_in around) t) → IsTarget around.tables (allowed_in around) t
target_valid next around t q p s n e g = as_target (target_element_valid next around t q p (target_as_element (type_of t) s) n e g) s
