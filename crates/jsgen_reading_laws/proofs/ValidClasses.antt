-- Why the classes of a valid tree are of the families over which the induction goes, where the expressions and the statements below them are.
use Rattle.std.proofs.Common.{◌≡◌, ℕ, Bool, true, ◌||◌, ◌++◌, List, [], ◌∷◌, refl, ◌∙◌, not}
use Rattle.std.proofs.lemmas.Bool.{and_parts, not-true}
use Rattle.jsgen_tree.specs.Tree.{Tree, Maybe, Trees, no_trees, more, hole, Atoms, span_of}
use Rattle.jsgen_tree.specs.Nodes as tree
use Rattle.jsgen_tree.specs.Values.{class_kind, class_declare, class_is_abstract, method_definition_kind, method_definition_computed, property_definition_computed}
use Rattle.jsgen_tree.specs.Inside.{has_name}
use Rattle.jsgen_tree.specs.Everywhere.{EverywhereInTrees}
use Rattle.jsgen_tree.specs.declared.classes.ClassKind.{ClassKind}
use Rattle.jsgen_tree.specs.declared.types.NodeType.TheVariants as types
use Rattle.jsgen_tree.specs.declared.types.NodeSet.TheVariants as sets
use Rattle.jsgen_model.specs.declared.fault.TreeFault.TheVariants as faults
use Rattle.jsgen_model.specs.Resolved.{after}
use Rattle.jsgen_model.specs.Plain.{has_core_flags, has_no_hole}
use Rattle.jsgen_row_laws.proofs.CoreIn.{IsCoreIn, is_core_row}
use Rattle.jsgen_model.specs.Valid.{Surroundings, ChildPlace, within_nothing, within_class, member_key_faults, class_method_faults, as_property, fits_method, breaches, in_maybe, in_trees, span_faults}
use Rattle.jsgen_row_laws.proofs.Families.{allowed_in, IsKey, AreStatements, IsClass, AreMembers}
use Rattle.jsgen_row_laws.proofs.Families as family
use Rattle.jsgen_reading_laws.proofs.ValidPatterns.{Below, BelowIfGiven, EachBelow, ValidExpression, ValidItem, default_valid}
use Rattle.jsgen_reading_laws.proofs.ValidPrivate.{member_key_valid}
use Rattle.jsgen_row_laws.proofs.Faultless.{none_both, none_unless, parts, standing, placed, placed_statement, no_truth, key_stands, place_of, named_validly, same_trees}
use Rattle.jsgen_row_laws.proofs.FaultlessClasses.{same_maybe, no_class_body, class_body_placed, method_of_class, plain_method, plain_field, function_stands, none_but_member}

block_items_valid : (next : ℕ) (around : Surroundings) (ss : Trees) → EachBelow ValidItem ss → has_no_hole ss ≡ true → EverywhereInTrees (is_core_row around.tables) ss → in_trees around (place_of sets.Statement around ∷ []) next ss ≡ [] → AreStatements around.tables (allowed_in around) ss
block_items_valid next around no_trees q n p e = family.no_statement
block_items_valid next around (more s ss) q n p e = let k = placed_statement _ around s _ e in family.first_statement (q.0.0 _ around p.0 k.0.0 k.0.1 k.1) (block_items_valid _ around ss q.1 n p.1 k.2)
block_items_valid next around (hole ss) q n p e = absurd (no_truth n)

members_valid : (next : ℕ) (around : Surroundings) (ms : Trees) → EachBelow ValidExpression ms → EachBelow ValidItem ms → has_no_hole ms ≡ true → EverywhereInTrees (is_core_row around.tables) ms → in_trees around (place_of sets.ClassElement around ∷ []) next ms ≡ [] → AreMembers around.tables (allowed_in around) ms
members_valid next around no_trees q r n p e = family.no_member
members_valid next around (more (tree.static_block a ss) ts) q r n p e =
    let within : Surroundings = within_nothing around in
    let k = placed _ around sets.ClassElement (tree.static_block a ss) _ e in
    let j = none_both (in_trees around (place_of sets.Statement within ∷ []) _ ss) [] (parts (span_faults around a.span) [] _ k.1).1 in
    family.first_member (family.a_static_block (block_items_valid _ within ss r.0.1.0 p.0.0 p.0.1.0 (same_trees _ within around (place_of sets.Statement within) [] ss ∙ j.0))) (members_valid _ around ts q.1 r.1 n p.1 k.2)
members_valid next around (more (tree.method_definition a x v) ts) q r n p e =
    let computed : Bool = method_definition_computed a in
    let k = placed _ around sets.ClassElement (tree.method_definition a x v) _ e in
    let h = parts (span_faults around a.span) (member_key_faults computed x ++ class_method_faults (method_definition_kind a) v) _ k.1 in
    let f = none_both (member_key_faults computed x) (class_method_faults (method_definition_kind a) v) h.0 in
    let j = standing _ around sets.PropertyKey x _ h.1 in
    let i = standing _ around sets.Function v [] j.2 in
    let key = member_key_valid _ around computed x p.0.1.0 f.0 j.1 (λ y. q.0.1.0.0 _ around p.0.1.0 (key_stands x y j.0) j.1) in
    family.first_member (method_of_class a x (q.0.1.1.0.0 _ around p.0.1.1.0 (function_stands v i.0) i.1) (plain_method a p.0.0) key (none_unless (fits_method (as_property (method_definition_kind a)) v) (faults.Place (span_of v).start) f.1)) (members_valid _ around ts q.1 r.1 n p.1 k.2)
members_valid next around (more (tree.property_definition a x m) ts) q r n p e =
    let computed : Bool = property_definition_computed a in
    let within : Surroundings = within_nothing around in
    let k = placed _ around sets.ClassElement (tree.property_definition a x m) _ e in
    let h = parts (span_faults around a.span) (member_key_faults computed x) _ k.1 in
    let j = standing _ around sets.PropertyKey x _ h.1 in
    let i = none_both (in_maybe around (place_of sets.Expression within ∷ []) _ m) [] j.2 in
    let key = member_key_valid _ around computed x p.0.1.0 h.0 j.1 (λ y. q.0.1.0.0 _ around p.0.1.0 (key_stands x y j.0) j.1) in
    family.first_member (family.a_field (plain_field a p.0.0) key (default_valid _ within [] m q.0.1.1.0 p.0.1.1.0 (same_maybe _ within around (place_of sets.Expression within) [] m ∙ i.0))) (members_valid _ around ts q.1 r.1 n p.1 k.2)
members_valid next around (more t ts) q r n p e = absurd (none_but_member around.tables t p.0 (placed next around sets.ClassElement t (in_trees around (place_of sets.ClassElement around ∷ []) (after t next) ts) e).0 refl)
members_valid next around (hole ts) q r n p e = absurd (no_truth n)

pub class_valid : (next : ℕ) (around : Surroundings) (kind : ClassKind) (nameless : Bool) (a : Atoms) (id heritage : Maybe) (u : Tree) → BelowIfGiven ValidExpression heritage → Below ValidExpression u → Below ValidItem u → class_kind a ≡ kind → (has_name id || nameless) ≡ true → IsCoreIn around.tables (tree.class a id heritage u) → breaches around next (tree.class a id heritage u) ≡ [] → IsClass around.tables (allowed_in around) kind nameless (tree.class a id heritage u)
class_valid next around kind nameless a id heritage (tree.class_body b ms) q x r k f p e =
    let last : List ChildPlace = place_of sets.ClassBody around ∷ [] in
    let others : List ChildPlace = place_of sets.Expression around ∷ last in
    let i = none_both (in_maybe around (place_of sets.BindingIdentifier around ∷ others) _ id) _ (parts (span_faults around a.span) [] _ e).1 in
    let j = none_both (in_maybe around others _ heritage) _ i.1 in
    let u = placed _ around sets.ClassBody (tree.class_body b ms) [] j.1 in
    let within : Surroundings = within_class _ around in
    let m = none_both (in_trees around (place_of sets.ClassElement within ∷ []) _ ms) [] (parts (span_faults around b.span) [] _ u.1).1 in
    let w = and_parts (not (class_declare a)) (not (class_is_abstract a)) (and_parts (has_core_flags types.Class a) true p.0).0 in
    family.some_class k (not-true (class_declare a) w.0) (not-true (class_is_abstract a) w.1) (named_validly _ around nameless others id f p.1.0 i.0) (default_valid _ around last heritage q p.1.1.0 j.0) (members_valid _ within ms x.0 r.0 p.1.1.1.0.0 p.1.1.1.0.1.0 (same_trees _ within around (place_of sets.ClassElement within) [] ms ∙ m.0))
class_valid next around kind nameless a id heritage u q x r k f p e = absurd (no_class_body around.tables u p.1.1.1.0 (class_body_placed next around a id heritage u e) refl)
