-- The places of a node's children where private names are resolved: of the same sets, and surrounded by the same but for tables of private names. A class's body aside, what surrounds a child has the tables and the classes of what surrounds the node.
use Rattle.std.proofs.Common.{◌≡◌, ℕ, List, [], ◌∷◌, refl, ap, ◌∙◌}
use Rattle.jsgen_tree.specs.declared.types.NodeSet.{NodeSet}
use Rattle.jsgen_tree.specs.Tree.{Tree, type_of}
use Rattle.jsgen_tree.specs.Nodes as tree
use Rattle.jsgen_model.specs.Resolved.{resolved}
use Rattle.jsgen_model.specs.Valid.{Surroundings, ChildPlace, asked_sets, around_fields, places_of, child_places, around_first, other_places}
use Rattle.jsgen_private_laws.specs.Settled.{settled_within}
use Rattle.jsgen_private_laws.proofs.Same.{type_same}

-- ---- settled places

abbrev pub settled_place : List ℕ → ChildPlace → ChildPlace
settled_place classes p = record { set = p.set; around = settled_within classes p.around }

abbrev pub settled_places : List ℕ → List ChildPlace → List ChildPlace
settled_places classes [] = []
settled_places classes (p ∷ ps) = settled_place classes p ∷ settled_places classes ps

abbrev pub settled_fields : List ℕ → List Surroundings → List Surroundings
settled_fields classes [] = []
settled_fields classes (around ∷ fields) = settled_within classes around ∷ settled_fields classes fields

module _ (classes : List ℕ) where
  fields_same : (around : Surroundings) (n m : ℕ) (t : Tree) → around_fields (settled_within classes around) m (resolved around.tables around.classes n t) ≡ settled_fields classes (around_fields around n t)
  fields_same around n m (tree.function a id params body) = refl
  fields_same around n m (tree.arrow_function a params body) = refl
  fields_same around n m (tree.function_body a directives statements) = refl
  fields_same around n m (tree.class_body a members) = refl
  fields_same around n m (tree.property_definition a key value) = refl
  fields_same around n m (tree.static_block a statements) = refl
  fields_same around n m (tree.private_identifier a) = refl
  fields_same around n m t = refl

  settled_sets : (around : Surroundings) (sets : List NodeSet) (fields : List Surroundings) → places_of (settled_within classes around) sets (settled_fields classes fields) ≡ settled_places classes (places_of around sets fields)
  settled_sets around [] fields = refl
  settled_sets around (s ∷ sets) [] = ap (λ ps. record { set = s; around = settled_within classes around } ∷ ps) (settled_sets around sets [])
  settled_sets around (s ∷ sets) (within ∷ fields) = ap (λ ps. record { set = s; around = settled_within classes within } ∷ ps) (settled_sets around sets fields)

  pub places_same : (around : Surroundings) (n m : ℕ) (t : Tree) → child_places (settled_within classes around) m (resolved around.tables around.classes n t) ≡ settled_places classes (child_places around n t)
  places_same around n m t =
      let e = type_same around.tables around.classes n t in
      let f = fields_same around n m t in
      (λ i. places_of (settled_within classes around) (asked_sets (e i)) (f i)) ∙ settled_sets around (asked_sets (type_of t)) (around_fields around n t)

  pub first_same : (around : Surroundings) (ps : List ChildPlace) → around_first (settled_within classes around) (settled_places classes ps) ≡ settled_within classes (around_first around ps)
  first_same around [] = refl
  first_same around (p ∷ ps) = refl

  pub others_same : (ps : List ChildPlace) → other_places (settled_places classes ps) ≡ settled_places classes (other_places ps)
  others_same [] = refl
  others_same (p ∷ ps) = refl

-- ---- the surroundings at a place have these tables and these classes

abbrev pub Shares : Surroundings → Surroundings → Type 0
Shares around within = (within.tables ≡ around.tables) × (within.classes ≡ around.classes)

abbrev pub AllShare : Surroundings → List Surroundings → Type 0
AllShare around [] = Unit {0}
AllShare around (within ∷ fields) = Shares around within × AllShare around fields

abbrev pub PlacesShare : Surroundings → List ChildPlace → Type 0
PlacesShare around [] = Unit {0}
PlacesShare around (p ∷ ps) = Shares around p.around × PlacesShare around ps

-- but of a class's body
abbrev pub FieldsShare : Surroundings → ℕ → Tree → Type 0
FieldsShare around n (tree.class_body a members) = Unit {0}
FieldsShare around n t = PlacesShare around (child_places around n t)

share_sets : (around : Surroundings) (sets : List NodeSet) (fields : List Surroundings) → AllShare around fields → PlacesShare around (places_of around sets fields)
share_sets around [] fields h = tt
share_sets around (s ∷ sets) [] h = ((refl, refl), share_sets around sets [] h)
share_sets around (s ∷ sets) (within ∷ fields) h = (h.0, share_sets around sets fields h.1)

pub fields_share : (around : Surroundings) (n : ℕ) (t : Tree) → FieldsShare around n t
fields_share around n (tree.function a id params body) = share_sets around (asked_sets (type_of (tree.function a id params body))) (around_fields around n (tree.function a id params body)) ((refl, refl), ((refl, refl), ((refl, refl), tt)))
fields_share around n (tree.arrow_function a params body) = share_sets around (asked_sets (type_of (tree.arrow_function a params body))) (around_fields around n (tree.arrow_function a params body)) ((refl, refl), ((refl, refl), tt))
fields_share around n (tree.function_body a directives statements) = share_sets around (asked_sets (type_of (tree.function_body a directives statements))) (around_fields around n (tree.function_body a directives statements)) ((refl, refl), ((refl, refl), tt))
fields_share around n (tree.class_body a members) = tt
fields_share around n (tree.property_definition a key value) = share_sets around (asked_sets (type_of (tree.property_definition a key value))) (around_fields around n (tree.property_definition a key value)) ((refl, refl), ((refl, refl), tt))
fields_share around n (tree.static_block a statements) = share_sets around (asked_sets (type_of (tree.static_block a statements))) (around_fields around n (tree.static_block a statements)) ((refl, refl), tt)
fields_share around n t = share_sets around (asked_sets (type_of t)) (around_fields around n t) tt

pub first_shares : (around : Surroundings) (ps : List ChildPlace) → PlacesShare around ps → Shares around (around_first around ps)
first_shares around [] h = (refl, refl)
first_shares around (p ∷ ps) h = h.0

pub others_share : (around : Surroundings) (ps : List ChildPlace) → PlacesShare around ps → PlacesShare around (other_places ps)
others_share around [] h = tt
others_share around (p ∷ ps) h = h.1
