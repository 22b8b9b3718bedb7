-- Why the lists of a valid tree, of arguments, elements, properties and the parts of a sequence, are of the families over which the induction goes, where the expressions below them are.
use Rattle.std.proofs.Common.{◌≡◌, ℕ, Bool, true, [], ◌∷◌, refl}
use Rattle.jsgen_tree.specs.Tree.{Trees, no_trees, more, hole, Atoms}
use Rattle.jsgen_tree.specs.Nodes as tree
use Rattle.jsgen_tree.specs.Values.{object_property_kind, object_property_method, object_property_computed}
use Rattle.jsgen_tree.specs.Inside.{is_method}
use Rattle.jsgen_tree.specs.Everywhere.{EverywhereInTrees}
use Rattle.jsgen_tree.specs.declared.types.NodeSet.TheVariants as sets
use Rattle.jsgen_model.specs.Resolved.{after}
use Rattle.jsgen_model.specs.Plain.{has_no_hole}
use Rattle.jsgen_row_laws.proofs.CoreIn.{is_core_row}
use Rattle.jsgen_model.specs.Valid.{Surroundings, in_trees, span_faults, key_faults, sequence_faults}
use Rattle.jsgen_row_laws.proofs.Families.{allowed_in, IsExpression, AreParts, AreProperties, IsKey, AreArguments, AreElements}
use Rattle.jsgen_row_laws.proofs.Families as family
use Rattle.jsgen_reading_laws.proofs.ValidPatterns.{EachBelow, ValidExpression}
use Rattle.jsgen_row_laws.proofs.Faultless.{none_both, parts, standing, placed, no_truth, argument_parts, element_parts, none_among_properties, key_stands, key_valid, place_of, rest_of_property, property_faults, property_since}

pub parts_valid : (next : ℕ) (around : Surroundings) (ts : Trees) → EachBelow ValidExpression ts → has_no_hole ts ≡ true → EverywhereInTrees (is_core_row around.tables) ts → in_trees around (place_of sets.Expression around ∷ []) next ts ≡ [] → AreParts around.tables (allowed_in around) ts
parts_valid next around no_trees q n p e = family.no_part
parts_valid next around (more t ts) q n p e = let k = standing _ around sets.Expression t _ e in family.first_part (q.0.0 _ around p.0 k.0 k.1) (parts_valid _ around ts q.1 n p.1 k.2)
parts_valid next around (hole ts) q n p e = absurd (no_truth n)

pub sequence_valid : (next : ℕ) (around : Surroundings) (a : Atoms) (ts : Trees) → EachBelow ValidExpression ts → has_no_hole ts ≡ true → EverywhereInTrees (is_core_row around.tables) ts → sequence_faults a.span ts ≡ [] → in_trees around (place_of sets.Expression around ∷ []) next ts ≡ [] → IsExpression around.tables (allowed_in around) (tree.sequence a ts)
sequence_valid next around a (more t (more u ts)) q n p f e =
    let k = standing _ around sets.Expression t _ e in
    let j = standing _ around sets.Expression u _ k.2 in
    family.a_sequence (q.0.0 _ around p.0 k.0 k.1) (q.1.0.0 _ around p.1.0 j.0 j.1) (parts_valid _ around ts q.1.1 n p.1.1 j.2)
sequence_valid next around a no_trees q n p f e = absurd (cc)
sequence_valid next around a (more t no_trees) q n p f e = absurd (cc)
sequence_valid next around a (more t (hole ts)) q n p f e = absurd (no_truth n)
sequence_valid next around a (hole ts) q n p f e = absurd (no_truth n)

pub arguments_valid : (next : ℕ) (around : Surroundings) (es : Trees) → EachBelow ValidExpression es → has_no_hole es ≡ true → EverywhereInTrees (is_core_row around.tables) es → in_trees around (place_of sets.Argument around ∷ []) next es ≡ [] → AreArguments around.tables (allowed_in around) es
arguments_valid next around no_trees q n p e = family.no_argument
arguments_valid next around (more (tree.spread a t) ts) q n p e =
    let k = standing _ around sets.Argument (tree.spread a t) _ e in
    let j = standing _ around sets.Expression t [] (parts (span_faults around a.span) [] _ k.1).1 in
    family.first_argument (family.a_spread (q.0.1.0.0 _ around p.0.1.0 j.0 j.1)) (arguments_valid _ around ts q.1 n p.1 k.2)
arguments_valid next around (more t ts) q n p e = let k = argument_parts next around t ts p.0.0 refl e in family.first_argument (family.an_element (q.0.0 next around p.0 k.0 k.1)) (arguments_valid (after t next) around ts q.1 n p.1 k.2)
arguments_valid next around (hole ts) q n p e = absurd (no_truth n)

pub properties_valid : (next : ℕ) (around : Surroundings) (ps : Trees) → EachBelow ValidExpression ps → has_no_hole ps ≡ true → EverywhereInTrees (is_core_row around.tables) ps → in_trees around (place_of sets.ObjectPropertyKind around ∷ []) next ps ≡ [] → AreProperties around.tables (allowed_in around) ps
properties_valid next around no_trees q n p e = family.no_property
properties_valid next around (more (tree.spread a t) ts) q n p e =
    let k = standing _ around sets.ObjectPropertyKind (tree.spread a t) _ e in
    let j = standing _ around sets.Expression t [] (parts (span_faults around a.span) [] _ k.1).1 in
    family.first_property (family.a_spread_property (q.0.1.0.0 _ around p.0.1.0 j.0 j.1)) (properties_valid _ around ts q.1 n p.1 k.2)
properties_valid next around (more (tree.object_property a x v) ts) q n p e =
    let computed : Bool = object_property_computed a in
    let is_one : Bool = is_method (object_property_kind a) (object_property_method a) in
    let k = placed _ around sets.ObjectPropertyKind (tree.object_property a x v) _ e in
    let h = parts (span_faults around a.span) (property_faults around.tables a x v is_one) _ k.1 in
    let f = none_both (key_faults computed x) (rest_of_property around.tables a x v is_one) h.0 in
    let j = standing _ around sets.PropertyKey x _ h.1 in
    let i = standing _ around sets.Expression v [] j.2 in
    let key : IsKey around.tables (allowed_in around) computed x = key_valid _ (allowed_in around) around computed x p.0.1.0 f.0 j.1 (λ s. q.0.1.0.0 _ around p.0.1.0 (key_stands x s j.0) j.1) in
    family.first_property (property_since a x v is_one refl key f.1 (q.0.1.1.0.0 _ around p.0.1.1.0 i.0 i.1)) (properties_valid _ around ts q.1 n p.1 k.2)
properties_valid next around (more t ts) q n p e = absurd (none_among_properties next around t ts p.0.0 refl e)
properties_valid next around (hole ts) q n p e = absurd (no_truth n)

pub elements_valid : (next : ℕ) (around : Surroundings) (es : Trees) → EachBelow ValidExpression es → EverywhereInTrees (is_core_row around.tables) es → in_trees around (place_of sets.ArrayExpressionElement around ∷ []) next es ≡ [] → AreElements around.tables (allowed_in around) es
elements_valid next around no_trees q p e = family.no_element
elements_valid next around (more (tree.spread a t) ts) q p e =
    let k = standing _ around sets.ArrayExpressionElement (tree.spread a t) _ e in
    let j = standing _ around sets.Expression t [] (parts (span_faults around a.span) [] _ k.1).1 in
    family.first_element (family.a_spread (q.0.1.0.0 _ around p.0.1.0 j.0 j.1)) (elements_valid _ around ts q.1 p.1 k.2)
elements_valid next around (more t ts) q p e = let k = element_parts next around t ts p.0.0 refl e in family.first_element (family.an_element (q.0.0 next around p.0 k.0 k.1)) (elements_valid (after t next) around ts q.1 p.1 k.2)
elements_valid next around (hole ts) q p e = family.an_elision (elements_valid _ around ts q p e)
