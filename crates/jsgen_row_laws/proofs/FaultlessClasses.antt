-- What a class and its members are where no rule is broken at them.
use Rattle.std.proofs.Common.{◌≡◌, ℕ, Bool, true, false, not, ◌&&◌, ◌||◌, List, [], ◌∷◌, refl, ap, subst}
use Rattle.std.proofs.lemmas.Bool.{and_parts, and_from, not-true}
use Rattle.jsgen_tree.specs.Tree.{Tree, node, Maybe, absent, given, Atoms, type_of, span_of}
use Rattle.jsgen_tree.specs.Nodes as tree
use Rattle.jsgen_tree.specs.Values.{class_kind, function_is_async, function_generator, method_definition_kind, method_definition_computed, method_definition_is_override, method_definition_is_abstract, method_definition_optional, property_definition_declare, property_definition_is_abstract, property_definition_is_override, property_definition_readonly, property_definition_optional, property_definition_definite}
use Rattle.jsgen_tree.specs.Job.{Tables}
use Rattle.jsgen_tree.specs.Inside.{has_name, is_negative_number}
use Rattle.jsgen_tree.specs.Sets.{in_set, is_expression, is_class_body, is_class_element}
use Rattle.jsgen_tree.specs.declared.types.NodeType.{NodeType}
use Rattle.jsgen_tree.specs.declared.types.NodeType.TheVariants as types
use Rattle.jsgen_tree.specs.declared.types.NodeSet.TheVariants as sets
use Rattle.jsgen_model.specs.declared.fault.TreeFault.TheVariants as faults
use Rattle.jsgen_model.specs.Grammar.{Allowed}
use Rattle.jsgen_model.specs.Plain.{has_core_flags}
use Rattle.jsgen_row_laws.proofs.CoreIn.{IsCoreIn}
use Rattle.jsgen_tree.specs.declared.functions.FunctionKind.TheVariants as kinds
use Rattle.jsgen_tree.specs.declared.classes.ClassKind.{ClassKind}
use Rattle.jsgen_tree.specs.declared.classes.ClassKind.TheVariants as class_kinds
use Rattle.jsgen_model.specs.Valid.{Surroundings, ChildPlace, has_place, breaches, in_maybe, fault_if, span_faults, key_faults, fits_accessor, fits_words, same_kind, fits_method, as_function_kind, may_be_pattern_key, is_private, may_be_member_key, member_key_faults, as_property}
use Rattle.jsgen_row_laws.proofs.Families.{IsExpression, IsMemberKey, IsMember, IsPlainMethod, IsPlainField}
use Rattle.jsgen_row_laws.proofs.Families as family
use Rattle.jsgen_row_laws.proofs.Faultless.{StandsAt, none_both, none_unless, parts, fits_expression, placed, place_of, no_truth, no_falsehood, no_truth_behind, pattern_key}

-- ---- classes

pub same_maybe : (next : ℕ) (a b : Surroundings) (p : ChildPlace) (ps : List ChildPlace) (m : Maybe) → in_maybe a (p ∷ ps) next m ≡ in_maybe b (p ∷ ps) next m
same_maybe next a b p ps absent = refl
same_maybe next a b p ps (given t) = refl

class_kind_is : (k l : ClassKind) → same_kind (as_function_kind k) (as_function_kind l) ≡ true → k ≡ l
class_kind_is class_kinds.Declaration class_kinds.Declaration h = refl
class_kind_is class_kinds.Expression class_kinds.Expression h = refl
class_kind_is class_kinds.Declaration class_kinds.Expression h = absurd (no_truth h)
class_kind_is class_kinds.Expression class_kinds.Declaration h = absurd (no_truth h)

-- a class's place asks for its kind, and for a name where it is declared
pub class_fits : (kind : ClassKind) (a : Atoms) (id : Maybe) → (same_kind (as_function_kind (class_kind a)) (as_function_kind kind) && (has_name id || same_kind (as_function_kind (class_kind a)) kinds.Expression)) ≡ true → (class_kind a ≡ kind) × ((has_name id || same_kind (as_function_kind kind) kinds.Expression) ≡ true)
class_fits kind a id f =
    let h = and_parts (same_kind (as_function_kind (class_kind a)) (as_function_kind kind)) (has_name id || same_kind (as_function_kind (class_kind a)) kinds.Expression) f in
    let k = class_kind_is (class_kind a) kind h.0 in
    (k, subst (λ x. (has_name id || same_kind (as_function_kind x) kinds.Expression) ≡ true) k h.1)

-- its members stand in a node of their own
abbrev pub is_class_body_node : Tree → Bool
is_class_body_node (tree.class_body a members) = true
is_class_body_node t = false

pub no_class_body : (names : Tables) (t : Tree) → IsCoreIn names t → is_class_body (type_of t) ≡ true → is_class_body_node t ≡ false → ⊥
no_class_body names (tree.class_body a members) p s n = no_falsehood n
no_class_body names (node types.ClassBody a slots) p s n = no_truth p.0
no_class_body names t p s n = no_truth s

pub class_body_placed : (next : ℕ) (around : Surroundings) (a : Atoms) (id heritage : Maybe) (u : Tree) → breaches around next (tree.class a id heritage u) ≡ [] → is_class_body (type_of u) ≡ true
class_body_placed next around a id heritage u e =
    let last : List ChildPlace = place_of sets.ClassBody around ∷ [] in
    let others : List ChildPlace = place_of sets.Expression around ∷ last in
    let i = none_both (in_maybe around (place_of sets.BindingIdentifier around ∷ others) _ id) _ (parts (span_faults around a.span) [] _ e).1 in
    let j = none_both (in_maybe around others _ heritage) _ i.1 in
    (placed _ around sets.ClassBody u [] j.1).0

-- a member is one of three nodes
abbrev pub is_member : Tree → Bool
is_member (tree.static_block a body) = true
is_member (tree.method_definition a key value) = true
is_member (tree.property_definition a key value) = true
is_member t = false

pub none_but_member : (names : Tables) (t : Tree) → IsCoreIn names t → is_class_element (type_of t) ≡ true → is_member t ≡ false → ⊥
none_but_member names (tree.static_block a body) p s n = no_falsehood n
none_but_member names (tree.method_definition a key value) p s n = no_falsehood n
none_but_member names (tree.property_definition a key value) p s n = no_falsehood n
none_but_member names (node types.StaticBlock a slots) p s n = no_truth p.0
none_but_member names (node types.MethodDefinition a slots) p s n = no_truth_behind (has_core_flags types.MethodDefinition a) p.0
none_but_member names (node types.PropertyDefinition a slots) p s n = no_truth_behind (has_core_flags types.PropertyDefinition a) p.0
none_but_member names t p s n = no_truth s

-- a key of a member that isn't a private name is one of a property, and no negative number
pub member_key : (computed : Bool) (k : Tree) → (computed ≡ false → is_private (type_of k) ≡ false) → member_key_faults computed k ≡ [] → (key_faults computed k ≡ []) × ((computed || is_negative_number k) ≡ computed)
member_key true k p f = (f, refl)
member_key false k p f =
    let h : may_be_pattern_key false k ≡ true = subst (λ b. (b || may_be_pattern_key false k) ≡ true) (p refl) (none_unless (may_be_member_key false k) (faults.Place (span_of k).start) f) in
    pattern_key false k (ap (λ b. fault_if (not b) (faults.Place (span_of k).start)) h)

function_type : (type : NodeType) → in_set sets.Function type ≡ true → is_expression type ≡ true
function_type types.Function h = refl
function_type type h = absurd (no_truth h)

-- the function of a method is an expression
pub function_stands : (t : Tree) → StandsAt sets.Function t → StandsAt sets.Expression t
function_stands t s =
    let h = and_parts (in_set sets.Function (type_of t)) (has_place sets.Expression (type_of t)) s.0 in
    (and_from (is_expression (type_of t)) (has_place sets.Expression (type_of t)) (function_type (type_of t) h.0) h.1, s.1, fits_expression sets.Function t refl refl refl s.2)

pub plain_method : (a : Atoms) → ((has_core_flags types.MethodDefinition a) && true) ≡ true → IsPlainMethod a
plain_method a p =
    let h = and_parts (not (method_definition_is_override a) && not (method_definition_is_abstract a)) (not (method_definition_optional a)) (and_parts (has_core_flags types.MethodDefinition a) true p).0 in
    let i = and_parts (not (method_definition_is_override a)) (not (method_definition_is_abstract a)) h.0 in
    (not-true (method_definition_is_override a) i.0, not-true (method_definition_is_abstract a) i.1, not-true (method_definition_optional a) h.1)

pub plain_field : (a : Atoms) → ((has_core_flags types.PropertyDefinition a) && true) ≡ true → IsPlainField a
plain_field a p =
    let d : Bool = not (property_definition_declare a) in
    let b : Bool = not (property_definition_is_abstract a) in
    let o : Bool = not (property_definition_is_override a) in
    let r : Bool = not (property_definition_readonly a) in
    let q : Bool = not (property_definition_optional a) in
    let h = and_parts ((((d && b) && o) && r) && q) (not (property_definition_definite a)) (and_parts (has_core_flags types.PropertyDefinition a) true p).0 in
    let i = and_parts (((d && b) && o) && r) q h.0 in
    let j = and_parts ((d && b) && o) r i.0 in
    let k = and_parts (d && b) o j.0 in
    let l = and_parts d b k.0 in
    (not-true (property_definition_declare a) l.0, not-true (property_definition_is_abstract a) l.1, not-true (property_definition_is_override a) k.1, not-true (property_definition_readonly a) j.1, not-true (property_definition_optional a) i.1, not-true (property_definition_definite a) h.1)

pub method_of_class : {names : Tables} {c : Allowed} (a : Atoms) (x : Tree) {v : Tree} → IsExpression names c v → IsPlainMethod a → IsMemberKey names c (method_definition_computed a) x → fits_method (as_property (method_definition_kind a)) v ≡ true → IsMember names c (tree.method_definition a x v)
method_of_class a x (family.a_function {a = b} {id = absent} {ps = ps} w) m key f = let h = and_parts (fits_accessor (as_property (method_definition_kind a)) ps) (fits_words (as_property (method_definition_kind a)) (function_is_async b) (function_generator b)) f in family.a_member_method m key h.0 h.1 w
method_of_class a x (family.a_function {id = given i} w) m key f = absurd (no_truth f)
method_of_class a x v m key f = absurd (search no_truth)
