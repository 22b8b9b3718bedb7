-- What isn't spelled has no class in it, so that classes are counted as they are printed: of trees that keep the rules, row by row.
use Rattle.std.proofs.Common.{◌≡◌, ℕ, Bool, true, false, not, ◌&&◌, ◌||◌, List, [], ◌∷◌, if◌then◌else◌, refl}
use Rattle.std.proofs.lemmas.Bool.{and_from, and_parts}
use Rattle.jsgen_tree.specs.Everywhere.{Everywhere, EverywhereInSlots, EverywhereIfGiven, EverywhereInTrees, EverywhereIfListed}
use Rattle.jsgen_tree.specs.Inside.{is_method, is_negative_number}
use Rattle.jsgen_model.specs.Plain.{is_core_by_type, is_core_row, is_formed, has_no_hole}
use Rattle.jsgen_tree.specs.Nodes as tree
use Rattle.jsgen_tree.specs.Sets.{is_module_export_name, is_binding_identifier, is_comment, is_template_element, is_import_declaration_specifier}
use Rattle.jsgen_tree.specs.Tree.{Tree, node, Slots, no_slots, one, maybe, many, maybe_many, Maybe, absent, given, Trees, no_trees, more, hole, MaybeTrees, no_list, listed, type_of, span_of}
use Rattle.jsgen_tree.specs.Values.{object_property_kind, object_property_method, object_property_computed, object_property_shorthand, method_definition_kind, method_definition_computed}
use Rattle.jsgen_tree.specs.declared.collections.PropertyKind.{PropertyKind}
use Rattle.jsgen_tree.specs.declared.types.NodeType.{NodeType}
use Rattle.jsgen_tree.specs.declared.types.NodeType.TheVariants as types
use Rattle.jsgen_tree.specs.declared.types.NodeSet.TheVariants as sets
use Rattle.jsgen_model.specs.declared.fault.TreeFault.{TreeFault}
use Rattle.jsgen_model.specs.declared.fault.TreeFault.TheVariants as faults
use Rattle.jsgen_model.specs.Resolved.{after, after_maybe, after_trees, after_maybe_trees}
use Rattle.jsgen_model.specs.Valid.{Surroundings, ChildPlace, breaches, in_slots, in_maybe, in_trees, in_maybe_trees, place_faults, around_first, other_places, child_places, first_number, span_faults, own_faults, fits_method, method_faults, class_method_faults, member_key_faults, key_faults, as_property, shorthand_faults, import_faults, fault_if}
use Rattle.jsgen_row_laws.proofs.Faultless.{none_both, none_three, none_unless, parts, placed, place_of, no_truth}

-- ---- what is asked of a node and its children

-- a child in which no class can be
abbrev pub is_leaf : NodeType → Bool
is_leaf types.Comment = true
is_leaf types.EmptyStatement = true
is_leaf types.BindingIdentifier = true
is_leaf types.IdentifierName = true
is_leaf types.IdentifierReference = true
is_leaf types.StringLiteral = true
is_leaf type = false

abbrev pub are_leaves : Trees → Bool
are_leaves no_trees = true
are_leaves (more t ts) = is_leaf (type_of t) && are_leaves ts
are_leaves (hole ts) = are_leaves ts

abbrev pub are_pieces : Trees → Bool
are_pieces no_trees = true
are_pieces (more t ts) = is_template_element (type_of t) && are_pieces ts
are_pieces (hole ts) = false

abbrev pub are_specifiers : Trees → Bool
are_specifiers no_trees = true
are_specifiers (more t ts) = is_import_declaration_specifier (type_of t) && are_specifiers ts
are_specifiers (hole ts) = are_specifiers ts

abbrev pub are_specifiers_if_listed : MaybeTrees → Bool
are_specifiers_if_listed no_list = true
are_specifiers_if_listed (listed ts) = are_specifiers ts

-- a function without a name, which a method's is
abbrev pub is_nameless : Tree → Bool
is_nameless (tree.function a absent params body) = true
is_nameless t = false

-- the children of which a row spells less than all are of types that hold no class, and a method's value is a function without a name
abbrev pub fits : Tree → Bool
fits (tree.program a comments hashbang directives body) = are_leaves comments
fits (tree.object_property a key value) = not (is_method (object_property_kind a) (object_property_method a)) || is_nameless value
fits (tree.method_definition a key value) = is_nameless value
fits (tree.template_literal a quasis expressions) = are_pieces quasis
fits (tree.import_declaration a specifiers source attributes) = are_specifiers_if_listed specifiers
fits (tree.import_default_specifier a local) = is_leaf (type_of local)
fits (tree.import_namespace_specifier a local) = is_leaf (type_of local)
fits (tree.import_specifier a imported local) = is_leaf (type_of imported) && is_leaf (type_of local)
fits (tree.export_specifier a local exported) = is_leaf (type_of exported)
fits t = true

abbrev pub is_fit : Tree → Bool
is_fit t = is_formed t && fits t

abbrev pub IsFit : Tree → Type 0
IsFit t = Everywhere is_fit t

-- ---- what each row says

method_is_nameless : (kind : PropertyKind) (t : Tree) → fits_method kind t ≡ true → is_nameless t ≡ true
method_is_nameless kind (tree.function a absent params body) h = refl
method_is_nameless kind t h = absurd (no_truth h)

comment_leaf : (type : NodeType) → is_comment type ≡ true → is_leaf type ≡ true
comment_leaf types.Comment h = refl
comment_leaf type h = absurd (no_truth h)

exported_leaf : (type : NodeType) → is_module_export_name type ≡ true → is_leaf type ≡ true
exported_leaf types.IdentifierName h = refl
exported_leaf types.IdentifierReference h = refl
exported_leaf types.StringLiteral h = refl
exported_leaf type h = absurd (no_truth h)

bound_leaf : (type : NodeType) → is_binding_identifier type ≡ true → is_leaf type ≡ true
bound_leaf types.BindingIdentifier h = refl
bound_leaf type h = absurd (no_truth h)

comments_placed : (around : Surroundings) (others : List ChildPlace) (n : ℕ) (ts : Trees) → in_trees around (place_of sets.Comment around ∷ others) n ts ≡ [] → are_leaves ts ≡ true
comments_placed around others n no_trees e = refl
comments_placed around others n (more t ts) e = let k = placed _ around sets.Comment t _ e in and_from (is_leaf (type_of t)) (are_leaves ts) (comment_leaf (type_of t) k.0) (comments_placed around others _ ts k.2)
comments_placed around others n (hole ts) e = comments_placed around others n ts e

pieces_placed : (around : Surroundings) (others : List ChildPlace) (n : ℕ) (ts : Trees) → has_no_hole ts ≡ true → in_trees around (place_of sets.TemplateElement around ∷ others) n ts ≡ [] → are_pieces ts ≡ true
pieces_placed around others n no_trees h e = refl
pieces_placed around others n (more t ts) h e = let k = placed _ around sets.TemplateElement t _ e in and_from (is_template_element (type_of t)) (are_pieces ts) k.0 (pieces_placed around others _ ts h k.2)
pieces_placed around others n (hole ts) h e = absurd (no_truth h)

specifiers_placed : (around : Surroundings) (others : List ChildPlace) (n : ℕ) (ts : Trees) → in_trees around (place_of sets.ImportDeclarationSpecifier around ∷ others) n ts ≡ [] → are_specifiers ts ≡ true
specifiers_placed around others n no_trees e = refl
specifiers_placed around others n (more t ts) e = let k = placed _ around sets.ImportDeclarationSpecifier t _ e in and_from (is_import_declaration_specifier (type_of t)) (are_specifiers ts) k.0 (specifiers_placed around others _ ts k.2)
specifiers_placed around others n (hole ts) e = specifiers_placed around others n ts e

listed_placed : (around : Surroundings) (others : List ChildPlace) (n : ℕ) (ts : MaybeTrees) → in_maybe_trees around (place_of sets.ImportDeclarationSpecifier around ∷ others) n ts ≡ [] → are_specifiers_if_listed ts ≡ true
listed_placed around others n no_list e = refl
listed_placed around others n (listed ts) e = specifiers_placed around others n ts e

-- a property that is a method has its function
method_placed : (kind : PropertyKind) (b computed : Bool) (key value : Tree) (others : List TreeFault) → (if b then method_faults kind computed key value else others) ≡ [] → (not b || is_nameless value) ≡ true
method_placed kind false computed key value others e = refl
method_placed kind true computed key value others e =
    let h = none_both (fault_if (not computed && is_negative_number key) (faults.Place (span_of key).start)) (fault_if (not (fits_method kind value)) (faults.Place (span_of value).start)) e in
    method_is_nameless kind value (none_unless (fits_method kind value) (faults.Place (span_of value).start) h.1)

-- ---- a node

row_fits : (around : Surroundings) (n : ℕ) (t : Tree) → is_formed t ≡ true → breaches around n t ≡ [] → fits t ≡ true
row_fits around n (tree.program a comments hashbang directives body) f e =
    let places : List ChildPlace = place_of sets.Hashbang around ∷ place_of sets.Directive around ∷ place_of sets.ModuleItem around ∷ [] in
    let h = parts (span_faults around a.span) (own_faults around (tree.program a comments hashbang directives body)) _ e in
    comments_placed around places n comments (none_both (in_trees around (place_of sets.Comment around ∷ places) n comments) _ h.1).0
row_fits around n (tree.template_literal a quasis expressions) f e =
    let places : List ChildPlace = place_of sets.Expression around ∷ [] in
    let h = parts (span_faults around a.span) (own_faults around (tree.template_literal a quasis expressions)) _ e in
    pieces_placed around places n quasis (and_parts (has_no_hole expressions) (has_no_hole quasis) f).1 (none_both (in_trees around (place_of sets.TemplateElement around ∷ places) n quasis) _ h.1).0
row_fits around n (tree.object_property a key value) f e =
    let is : Bool = is_method (object_property_kind a) (object_property_method a) in
    let computed : Bool = object_property_computed a in
    let others : List TreeFault = shorthand_faults around.tables (object_property_shorthand a) key value in
    let h = parts (span_faults around a.span) (own_faults around (tree.object_property a key value)) _ e in
    let k = none_both (key_faults computed key) (if is then method_faults (object_property_kind a) computed key value else others) h.0 in
    method_placed (object_property_kind a) is computed key value others k.1
row_fits around n (tree.method_definition a key value) f e =
    let kind : PropertyKind = as_property (method_definition_kind a) in
    let h = parts (span_faults around a.span) (own_faults around (tree.method_definition a key value)) _ e in
    let k = none_both (member_key_faults (method_definition_computed a) key) (class_method_faults (method_definition_kind a) value) h.0 in
    method_is_nameless kind value (none_unless (fits_method kind value) (faults.Place (span_of value).start) k.1)
row_fits around n (tree.import_declaration a specifiers source attributes) f e =
    let places : List ChildPlace = place_of sets.StringLiteral around ∷ place_of sets.WithClause around ∷ [] in
    let h = parts (span_faults around a.span) (import_faults specifiers) _ e in
    listed_placed around places n specifiers (none_both (in_maybe_trees around (place_of sets.ImportDeclarationSpecifier around ∷ places) n specifiers) _ h.1).0
row_fits around n (tree.import_default_specifier a local) f e = bound_leaf (type_of local) (placed _ around sets.BindingIdentifier local [] (parts (span_faults around a.span) [] _ e).1).0
row_fits around n (tree.import_namespace_specifier a local) f e = bound_leaf (type_of local) (placed _ around sets.BindingIdentifier local [] (parts (span_faults around a.span) [] _ e).1).0
row_fits around n (tree.import_specifier a imported local) f e =
    let k = placed _ around sets.ModuleExportName imported _ (parts (span_faults around a.span) [] _ e).1 in
    let j = placed _ around sets.BindingIdentifier local [] k.2 in
    and_from (is_leaf (type_of imported)) (is_leaf (type_of local)) (exported_leaf (type_of imported) k.0) (bound_leaf (type_of local) j.0)
row_fits around n (tree.export_specifier a local exported) f e =
    let k = placed _ around sets.ModuleExportName local _ (parts (span_faults around a.span) [] _ e).1 in
    exported_leaf (type_of exported) (placed _ around sets.ModuleExportName exported [] k.2).0
row_fits around n t f e = refl

-- ---- the whole: each node keeps its rules by itself

mutual
  pub fitting : (around : Surroundings) (n : ℕ) (t : Tree) → Everywhere is_core_row t → breaches around n t ≡ [] → IsFit t
  fitting around n (node type a slots) c e =
      let f = (and_parts (is_core_by_type (node type a slots)) (is_formed (node type a slots)) c.0).1 in
      let h = parts (span_faults around a.span) (own_faults around (node type a slots)) (in_slots around (child_places around n (node type a slots)) (first_number (node type a slots) n) slots) e in
      (and_from (is_formed (node type a slots)) (fits (node type a slots)) f (row_fits around n (node type a slots) f e), slots_fit around (child_places around n (node type a slots)) (first_number (node type a slots) n) slots c.1 h.1)

  slots_fit : (around : Surroundings) (places : List ChildPlace) (n : ℕ) (slots : Slots) → EverywhereInSlots is_core_row slots → in_slots around places n slots ≡ [] → EverywhereInSlots is_fit slots
  slots_fit around places n no_slots c e = tt
  slots_fit around places n (one t slots) c e =
      let h = none_three (place_faults places t) (breaches (around_first around places) n t) (in_slots around (other_places places) (after t n) slots) e in
      (fitting (around_first around places) n t c.0 h.1, slots_fit around (other_places places) (after t n) slots c.1 h.2)
  slots_fit around places n (maybe m slots) c e =
      let h = none_both (in_maybe around places n m) (in_slots around (other_places places) (after_maybe m n) slots) e in
      (given_fits around places n m c.0 h.0, slots_fit around (other_places places) (after_maybe m n) slots c.1 h.1)
  slots_fit around places n (many ts slots) c e =
      let h = none_both (in_trees around places n ts) (in_slots around (other_places places) (after_trees ts n) slots) e in
      (each_fits around places n ts c.0 h.0, slots_fit around (other_places places) (after_trees ts n) slots c.1 h.1)
  slots_fit around places n (maybe_many ts slots) c e =
      let h = none_both (in_maybe_trees around places n ts) (in_slots around (other_places places) (after_maybe_trees ts n) slots) e in
      (listed_fit around places n ts c.0 h.0, slots_fit around (other_places places) (after_maybe_trees ts n) slots c.1 h.1)

  given_fits : (around : Surroundings) (places : List ChildPlace) (n : ℕ) (m : Maybe) → EverywhereIfGiven is_core_row m → in_maybe around places n m ≡ [] → EverywhereIfGiven is_fit m
  given_fits around places n absent c e = tt
  given_fits around places n (given t) c e = fitting (around_first around places) n t c (none_both (place_faults places t) (breaches (around_first around places) n t) e).1

  each_fits : (around : Surroundings) (places : List ChildPlace) (n : ℕ) (ts : Trees) → EverywhereInTrees is_core_row ts → in_trees around places n ts ≡ [] → EverywhereInTrees is_fit ts
  each_fits around places n no_trees c e = tt
  each_fits around places n (more t ts) c e =
      let h = none_three (place_faults places t) (breaches (around_first around places) n t) (in_trees around places (after t n) ts) e in
      (fitting (around_first around places) n t c.0 h.1, each_fits around places (after t n) ts c.1 h.2)
  each_fits around places n (hole ts) c e = each_fits around places n ts c e

  listed_fit : (around : Surroundings) (places : List ChildPlace) (n : ℕ) (ts : MaybeTrees) → EverywhereIfListed is_core_row ts → in_maybe_trees around places n ts ≡ [] → EverywhereIfListed is_fit ts
  listed_fit around places n no_list c e = tt
  listed_fit around places n (listed ts) c e = each_fits around places n ts c e
