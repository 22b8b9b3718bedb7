-- What follows where nothing is at fault: lemmas on the places and the own rules of nodes.
use Rattle.std.proofs.Common.{◌≡◌, nat_lt, ℕ, suc, Bool, true, false, not, ◌&&◌, ◌||◌, ◌++◌, List, [], ◌∷◌, Option, Some, None, is_some, if◌then◌else◌, refl, ap, subst, arith, ◌∙◌}
use Rattle.std.specs.Option.{option_map_or}
use Rattle.jsgen_syntax.specs.declared.span.Span.{Span}
use Rattle.std.proofs.lemmas.Bool.{both_ways, and_parts, and_from, or_parts, not-true, not-false, ltb-false, le-ltb}
use Rattle.jsgen_tree.specs.Atom.{Atom, text}
use Rattle.jsgen_tree.specs.Tree.{Tree, node, Maybe, absent, given, Trees, no_trees, more, hole, Atoms, type_of, span_of}
use Rattle.jsgen_tree.specs.Nodes as tree
use Rattle.jsgen_tree.specs.Values.{identifier_reference_name, assignment_expression_operator, as_text, directive_directive, identifier_name_name, numeric_literal_kind, numeric_literal_text, big_int_literal_value, variable_declaration_kind, variable_declaration_declare, variable_declarator_definite, label_identifier_name, object_property_kind, object_property_shorthand, object_property_computed, function_kind, class_kind, function_is_async, function_generator, function_declare, object_property_method, arrow_function_expression_is_async, yield_expression_delegate}
use Rattle.jsgen_tree.specs.Number.{NumericKind, Whole, Raw}
use Rattle.jsgen_tree.specs.Job.{Tables}
use Rattle.jsgen_tree.specs.Named.{Named, printed_name}
use Rattle.jsgen_tree.specs.Inside.{reference_named, binding_named, has_name, is_negative_big_integer, has_optional_link, is_method, is_negative_number}
use Rattle.jsgen_tree.specs.Everywhere.{EverywhereIfGiven, EverywhereInTrees}
use Rattle.jsgen_tree.specs.Sets.{in_set, is_expression, is_argument, is_statement, is_identifier_name, is_directive, is_simple_assignment_target, is_assignment_target, is_assignment_target_maybe_default, is_assignment_target_rest, is_assignment_target_property, is_variable_declarator, is_binding_property, is_identifier_reference, is_object_property_kind, is_for_statement_init, is_for_statement_left, is_label_identifier, is_switch_case, is_binding_identifier, is_formal_parameters, is_function_body, is_binding_rest_element}
use Rattle.jsgen_tree.specs.declared.types.NodeType.{NodeType}
use Rattle.jsgen_tree.specs.declared.types.NodeType.TheVariants as types
use Rattle.jsgen_tree.specs.declared.types.NodeSet.{NodeSet}
use Rattle.jsgen_tree.specs.declared.types.NodeSet.TheVariants as sets
use Rattle.jsgen_syntax.specs.declared.operator.AssignmentOperator.{AssignmentOperator}
use Rattle.jsgen_syntax.specs.declared.operator.AssignmentOperator.TheVariants as assignment_operators
use Rattle.jsgen_syntax.specs.Name.{spells_name, is_free_name}
use Rattle.jsgen_syntax.specs.Raw.{directive_value}
use Rattle.jsgen_model.specs.declared.fault.TreeFault.{TreeFault}
use Rattle.jsgen_model.specs.declared.fault.TreeFault.TheVariants as faults
use Rattle.jsgen_model.specs.Numbers.{is_raw_number, is_big_integer}
use Rattle.jsgen_model.specs.Grammar.{Allowed}
use Rattle.jsgen_model.specs.Plain.{is_number, is_raw_text, has_no_hole}
use Rattle.jsgen_row_laws.proofs.CoreIn.{IsCoreIn, is_core_row}
use Rattle.jsgen_model.specs.Normal.{or_none, directive_units}
use Rattle.jsgen_tree.specs.declared.functions.FunctionKind.{FunctionKind}
use Rattle.jsgen_tree.specs.declared.functions.FunctionKind.TheVariants as kinds
use Rattle.jsgen_model.specs.Resolved.{after}
use Rattle.jsgen_model.specs.Valid.{Surroundings, ChildPlace, shorthand_name_faults, object_rest_faults, assigns_alone, is_target_pattern, is_super, is_default, has_place, may_stand, breaches, in_maybe, in_trees, fault_if, fits_kind, misfit, set_faults, span_faults, body_faults, is_in_tables, name_faults, directive_faults, written_name_faults, number_faults, big_integer_faults, is_literal_key, may_be_key, key_faults, method_faults, fits_accessor, fits_words, within_nothing, within_function, within_arrow, within_braces, shorthand_faults, await_faults, yield_faults, takes_optional_link, link_faults, super_faults, is_one_name, is_lexical_word, label_faults, try_faults, stands_among, same_kind, function_faults, fits_method, declaration_faults, as_function_kind, uncooked_faults, is_module_item, is_default_export, fits_place, may_be_pattern_key, pattern_key_faults, rest_faults, is_binding_name, has_uncooked, takes_uncooked}
use Rattle.jsgen_row_laws.proofs.Families.{has_value, IsLink, IsExpression, IsChain, IsChainBase, IsKey, IsBinding, IsBindingElement, IsNameOfRest, IsTarget, IsTargetElement, IsTargetRest, IsSimpleRest, IsPattern, IsDeclarator, AreDeclarators, IsStatement, IsLeft, IsLabel, AreEndsOfTry, IsHandler, IsBlock, IsItem, AreDirectives, HasName, IsProperty, allowed_in}
use Rattle.jsgen_row_laws.proofs.Families as family

-- ---- no fault

pub none_both : (a b : List TreeFault) → a ++ b ≡ [] → (a ≡ []) × (b ≡ [])
none_both [] b e = (refl, e)
none_both (x ∷ a) b e = absurd (cc)

pub none_three : (a b c : List TreeFault) → (a ++ b) ++ c ≡ [] → (a ≡ []) × (b ≡ []) × (c ≡ [])
none_three a b c e = let h = none_both (a ++ b) c e in let k = none_both a b h.0 in (k.0, k.1, h.1)

pub none_if : (b : Bool) (f : TreeFault) → fault_if b f ≡ [] → b ≡ false
none_if true f e = absurd (cc)
none_if false f e = refl

pub none_unless : (b : Bool) (f : TreeFault) → fault_if (not b) f ≡ [] → b ≡ true
none_unless true f e = refl
none_unless false f e = absurd (cc)

-- a node's own rules, and its children, where nothing is at fault
pub parts : (span own slots : List TreeFault) → (span ++ own) ++ slots ≡ [] → (own ≡ []) × (slots ≡ [])
parts span own slots e = let h = none_three span own slots e in (h.1, h.2)

-- a template has a piece that stands for nothing only behind its tag, and the kind of a function or a class fits its place
abbrev pub fits_there : NodeSet → Tree → Bool
fits_there s t = not (not (takes_uncooked s) && has_uncooked t) && fits_kind s t

-- a child may stand at its place
abbrev pub StandsAt : NodeSet → Tree → Type 0
StandsAt s t = (may_stand s (type_of t) ≡ true) × ((not (takes_optional_link s) && has_optional_link t) ≡ false) × (fits_there s t ≡ true)

pub stands_at : (s : NodeSet) (t : Tree) → set_faults s t ≡ [] → StandsAt s t
stands_at s t e =
    let h = none_both (fault_if (not (may_stand s (type_of t) && fits_kind s t)) (faults.Place (misfit s t).start)) (link_faults s t ++ uncooked_faults s t) e in
    let l = none_both (link_faults s t) (uncooked_faults s t) h.1 in
    let k = and_parts (may_stand s (type_of t)) (fits_kind s t) (none_unless (may_stand s (type_of t) && fits_kind s t) (faults.Place (misfit s t).start) h.0) in
    (k.0, none_if (not (takes_optional_link s) && has_optional_link t) (faults.Place (span_of t).start) l.0, and_from (not (not (takes_uncooked s) && has_uncooked t)) (fits_kind s t) (ap not (none_if (not (takes_uncooked s) && has_uncooked t) (faults.Template (span_of t).start) l.1)) k.1)

fits_as_expression : (s : NodeSet) (kind : FunctionKind) (named : Bool) → stands_among s ≡ kinds.Expression → is_default_export s ≡ false → fits_place s kind named ≡ true → fits_place sets.Expression kind named ≡ true
fits_as_expression s kind named e d f = subst (λ b. (b || (same_kind kind kinds.Expression && (named || same_kind kind kinds.Expression))) ≡ true) d (subst (λ k. (is_default_export s || (same_kind kind k && (named || same_kind kind kinds.Expression))) ≡ true) e f)

-- a function or a class that may stand at the place is an expression there, if it may stand in an expression
fits_as_kind : (s : NodeSet) (t : Tree) → stands_among s ≡ kinds.Expression → is_default_export s ≡ false → fits_kind s t ≡ true → fits_kind sets.Expression t ≡ true
fits_as_kind s (tree.function a id ps body) e d f = fits_as_expression s (function_kind a) (has_name id) e d f
fits_as_kind s (tree.class a id heritage body) e d f = fits_as_expression s (as_function_kind (class_kind a)) (has_name id) e d f
fits_as_kind s (tree.variable_declaration a ds) e d f = refl
fits_as_kind s t e d f = refl

pub fits_expression : (s : NodeSet) (t : Tree) → stands_among s ≡ kinds.Expression → is_default_export s ≡ false → takes_uncooked s ≡ false → fits_there s t ≡ true → fits_there sets.Expression t ≡ true
fits_expression s t e d u f =
    let h = and_parts (not (not (takes_uncooked s) && has_uncooked t)) (fits_kind s t) f in
    and_from (not (has_uncooked t)) (fits_kind sets.Expression t) (subst (λ b. not (not b && has_uncooked t) ≡ true) u h.0) (fits_as_kind s t e d h.1)

-- and so may the others
pub standing : (next : ℕ) (around : Surroundings) (s : NodeSet) (t : Tree) (others : List TreeFault) → (set_faults s t ++ breaches around next t) ++ others ≡ [] → StandsAt s t × (breaches around next t ≡ []) × (others ≡ [])
standing next around s t others e = let h = none_three (set_faults s t) (breaches around _ t) others e in (stands_at s t h.0, h.1, h.2)

-- and so is of the set that its field asks for
pub placed : (next : ℕ) (around : Surroundings) (s : NodeSet) (t : Tree) (others : List TreeFault) → (set_faults s t ++ breaches around next t) ++ others ≡ [] → (in_set s (type_of t) ≡ true) × (breaches around next t ≡ []) × (others ≡ [])
placed next around s t others e = let h = standing _ around s t others e in ((and_parts (in_set s (type_of t)) (has_place s (type_of t)) h.0.0).0, h.1, h.2)

-- what stands among statements, and no import or export
abbrev pub is_own_statement : NodeType → Bool
is_own_statement type = is_statement type && not (is_module_item type)

own_statement : (type : NodeType) → may_stand sets.Statement type ≡ true → is_own_statement type ≡ true
own_statement type h =
    let k = and_parts (is_statement type) (has_place sets.Statement type) h in
    let j = and_parts (false || not (is_super type)) ((false || not (is_default type)) && (false || not (is_module_item type))) k.1 in
    and_from (is_statement type) (not (is_module_item type)) k.0 (and_parts (false || not (is_default type)) (false || not (is_module_item type)) j.1).1

-- a statement, or a function that is declared
pub placed_statement : (next : ℕ) (around : Surroundings) (t : Tree) (others : List TreeFault) → (set_faults sets.Statement t ++ breaches around next t) ++ others ≡ [] → ((is_own_statement (type_of t) ≡ true) × (fits_kind sets.Statement t ≡ true)) × (breaches around next t ≡ []) × (others ≡ [])
placed_statement next around t others e = let h = standing _ around sets.Statement t others e in ((own_statement (type_of t) h.0.0, (and_parts (not (has_uncooked t)) (fits_kind sets.Statement t) h.0.2).1), h.1, h.2)

-- what stands among the items of a module as it would among other statements
pub fits_statement : (t : Tree) → fits_kind sets.ModuleItem t ≡ true → fits_kind sets.Statement t ≡ true
fits_statement (tree.function a id ps body) f = f
fits_statement (tree.class a id heritage body) f = f
fits_statement (tree.variable_declaration a ds) f = f
fits_statement t f = refl

abbrev pub place_of : NodeSet → Surroundings → ChildPlace
place_of s around = record { set = s; around = around }

pub no_truth : false ≡ true → ⊥
no_truth e = both_ways false refl e

pub no_falsehood : true ≡ false → ⊥
no_falsehood e = both_ways true e refl

pub no_truth_behind : (b : Bool) → (b && false) ≡ true → ⊥
no_truth_behind true e = no_truth e
no_truth_behind false e = no_truth e

-- a flag that isn't set, in a node of which no more is asked
pub unset : (b : Bool) → (not b && true) ≡ true → b ≡ false
unset true e = absurd (no_truth e)
unset false e = refl

-- ---- the rows of expressions

-- the name of a member
pub member_valid : (next : ℕ) (around : Surroundings) (n : Tree) (P : Tree → Type 0) → IsCoreIn around.tables n → is_identifier_name (type_of n) ≡ true → breaches around next n ≡ [] → ((b : Atoms) → spells_name (identifier_name_name b) ≡ true → P (tree.identifier_name b)) → P n
member_valid next around (tree.identifier_name b) P p s e f = f b (none_unless (spells_name (identifier_name_name b)) (faults.Name b.span.start) (parts (span_faults around b.span) (written_name_faults b.span (identifier_name_name b)) [] e).0)
member_valid next around n P p s e f = absurd (search no_truth)

-- an argument that isn't spread is an expression
abbrev pub is_spread : Tree → Bool
is_spread (tree.spread a t) = true
is_spread t = false

pub none_other : (names : Tables) (t : Tree) → is_core_row names t ≡ true → is_argument (type_of t) ≡ true → is_spread t ≡ false → is_expression (type_of t) ≡ false → ⊥
none_other names (tree.spread a t) p s n e = no_falsehood n
none_other names t p s n e = search (no_truth, no_falsehood)

pub expression_type : (names : Tables) (t : Tree) → is_core_row names t ≡ true → is_argument (type_of t) ≡ true → is_spread t ≡ false → is_expression (type_of t) ≡ true
expression_type names t p s n = by (is_expression (type_of t)) refl
  where
    by : (b : Bool) → is_expression (type_of t) ≡ b → b ≡ true
    by true e = refl
    by false e = absurd (none_other names t p s n e)

-- and so it is no `super`, which no argument is
pub argument_stands : (names : Tables) (t : Tree) → is_core_row names t ≡ true → StandsAt sets.Argument t → is_spread t ≡ false → StandsAt sets.Expression t
argument_stands names t p s n = let h = and_parts (is_argument (type_of t)) (has_place sets.Expression (type_of t)) s.0 in (and_from (is_expression (type_of t)) (has_place sets.Expression (type_of t)) (expression_type names t p h.0 n) h.1, s.1, fits_expression sets.Argument t refl refl refl s.2)

-- of arguments, and of an array's elements, the first that isn't spread, and the others
pub argument_parts : (next : ℕ) (around : Surroundings) (t : Tree) (ts : Trees) → is_core_row around.tables t ≡ true → is_spread t ≡ false → in_trees around (place_of sets.Argument around ∷ []) next (more t ts) ≡ [] → StandsAt sets.Expression t × (breaches around next t ≡ []) × (in_trees around (place_of sets.Argument around ∷ []) (after t next) ts ≡ [])
argument_parts next around t ts p s e = let k = standing next around sets.Argument t (in_trees around (place_of sets.Argument around ∷ []) (after t next) ts) e in (argument_stands around.tables t p k.0 s, k.1, k.2)

element_type : (type : NodeType) → in_set sets.ArrayExpressionElement type ≡ true → is_argument type ≡ true
element_type types.SpreadElement h = refl
element_type type h = h

element_stands : (t : Tree) → StandsAt sets.ArrayExpressionElement t → StandsAt sets.Argument t
element_stands t s =
    let h = and_parts (in_set sets.ArrayExpressionElement (type_of t)) (has_place sets.Expression (type_of t)) s.0 in
    (and_from (is_argument (type_of t)) (has_place sets.Expression (type_of t)) (element_type (type_of t) h.0) h.1, s.1, fits_expression sets.ArrayExpressionElement t refl refl refl s.2)

pub element_parts : (next : ℕ) (around : Surroundings) (t : Tree) (ts : Trees) → is_core_row around.tables t ≡ true → is_spread t ≡ false → in_trees around (place_of sets.ArrayExpressionElement around ∷ []) next (more t ts) ≡ [] → StandsAt sets.Expression t × (breaches around next t ≡ []) × (in_trees around (place_of sets.ArrayExpressionElement around ∷ []) (after t next) ts ≡ [])
element_parts next around t ts p s e = let k = standing next around sets.ArrayExpressionElement t (in_trees around (place_of sets.ArrayExpressionElement around ∷ []) (after t next) ts) e in (argument_stands around.tables t p (element_stands t k.0) s, k.1, k.2)

-- what stands behind an arrow is an expression, or a body in braces
pub arrow_body_stands : (t : Tree) → is_function_body (type_of t) ≡ false → StandsAt sets.ArrowFunctionBody t → StandsAt sets.Expression t
arrow_body_stands (node types.FunctionBody a slots) n s = absurd (no_falsehood n)
arrow_body_stands t n s = (s.0, s.1, fits_expression sets.ArrowFunctionBody t refl refl refl s.2)

-- the parameters and the expression of an arrow function, where nothing is at fault
pub record ArrowParts (around : Surroundings) (a : Atoms) (ps t : Tree) : Type 0 where
  pub core_parameters : IsCoreIn around.tables ps
  pub are_parameters : is_formal_parameters (type_of ps) ≡ true
  pub parameters : (next : ℕ) × (breaches (within_nothing around) next ps ≡ [])
  pub core_body : IsCoreIn around.tables t
  pub stands : StandsAt sets.Expression t
  pub body : (next : ℕ) × (breaches (within_arrow (arrow_function_expression_is_async a) around) next t ≡ [])

pub arrow_parts : (next : ℕ) (around : Surroundings) (a : Atoms) (ps t : Tree) → IsCoreIn around.tables (tree.arrow_function a ps t) → is_function_body (type_of t) ≡ false → breaches around next (tree.arrow_function a ps t) ≡ [] → ArrowParts around a ps t
arrow_parts next around a ps t p n e =
    let outside : Surroundings = within_nothing around in
    let within : Surroundings = within_arrow (arrow_function_expression_is_async a) around in
    let k = placed _ outside sets.FormalParameters ps _ (parts (span_faults around a.span) [] _ e).1 in
    let j = standing _ within sets.ArrowFunctionBody t [] k.2 in
    record {
      core_parameters = p.1.0;
      are_parameters = k.0;
      parameters = (_, k.1);
      core_body = p.1.1.0;
      stands = arrow_body_stands t n j.0;
      body = (_, j.1);
    }

-- what may be changed is an expression, and isn't `super`
pub target_stands : (type : NodeType) → is_simple_assignment_target type ≡ true → may_stand sets.Expression type ≡ true
target_stands types.IdentifierReference h = refl
target_stands types.StaticMemberExpression h = refl
target_stands types.ComputedMemberExpression h = refl
target_stands types.PrivateFieldExpression h = refl
target_stands type h = absurd (no_truth h)

pub target_fits : (t : Tree) → is_simple_assignment_target (type_of t) ≡ true → fits_there sets.Expression t ≡ true
target_fits (tree.template_literal a qs es) h = absurd (no_truth h)
target_fits (tree.function a id ps body) h = absurd (no_truth h)
target_fits (tree.class a id heritage body) h = absurd (no_truth h)
target_fits (tree.variable_declaration a ds) h = absurd (no_truth h)
target_fits t h = refl

-- what is printed for a name is free
pub free_since : (around : Surroundings) (s : Span) (n : Named) → name_faults around.tables s n ≡ [] → is_free_name (printed_name around.tables n) ≡ true
free_since around s n e =
    let known : Bool = option_map_or (λ scoping. is_in_tables scoping n) around.tables.scoping true in
    (and_parts known (is_free_name (printed_name around.tables n)) (none_unless (known && is_free_name (printed_name around.tables n)) (faults.Name s.start) e)).1

-- ---- what is given a value

abbrev pub is_pattern_or_default : Tree → Bool
is_pattern_or_default (tree.array_target a elements rest) = true
is_pattern_or_default (tree.object_target a properties rest) = true
is_pattern_or_default (tree.target_with_default a binding init) = true
is_pattern_or_default t = false

none_other_target : (names : Tables) (t : Tree) → is_core_row names t ≡ true → is_assignment_target_maybe_default (type_of t) ≡ true → is_pattern_or_default t ≡ false → is_simple_assignment_target (type_of t) ≡ false → ⊥
none_other_target names (tree.array_target a elements rest) p s n e = no_falsehood n
none_other_target names (tree.object_target a properties rest) p s n e = no_falsehood n
none_other_target names (tree.target_with_default a binding init) p s n e = no_falsehood n
none_other_target names t p s n e = search (no_truth, no_falsehood, no_truth_behind)

-- what is no pattern and has no default is a name or a member
simple_otherwise : (names : Tables) (t : Tree) → is_core_row names t ≡ true → is_assignment_target_maybe_default (type_of t) ≡ true → is_pattern_or_default t ≡ false → is_simple_assignment_target (type_of t) ≡ true
simple_otherwise names t p s n = by (is_simple_assignment_target (type_of t)) refl
  where
    by : (b : Bool) → is_simple_assignment_target (type_of t) ≡ b → b ≡ true
    by true e = refl
    by false e = absurd (none_other_target names t p s n e)

pub other_element : {names : Tables} {c : Allowed} (t : Tree) → is_core_row names t ≡ true → is_assignment_target_maybe_default (type_of t) ≡ true → is_pattern_or_default t ≡ false → has_optional_link t ≡ false → (StandsAt sets.Expression t → IsExpression names c t) → IsTargetElement names c t
other_element {names} t p s o n g = let i = simple_otherwise names t p s o in family.a_target_alone (family.a_simple_target i (g (target_stands (type_of t) i, n, target_fits t i)))

-- a target is one that may have a default
pub target_as_element : (type : NodeType) → is_assignment_target type ≡ true → is_assignment_target_maybe_default type ≡ true
target_as_element types.AssignmentTargetWithDefault s = refl
target_as_element type s = s

pub as_target : {names : Tables} {c : Allowed} {t : Tree} → IsTargetElement names c t → is_assignment_target (type_of t) ≡ true → IsTarget names c t
as_target (family.a_target_alone v) s = v
as_target (family.a_target_with_default v w) s = absurd (no_truth s)

-- what takes the rest of an object is no pattern
pub simple_rest : {names : Tables} {c : Allowed} {m : Maybe} → IsTargetRest names c m → object_rest_faults m ≡ [] → IsSimpleRest names c m
simple_rest family.no_target_rest f = family.no_simple_rest
simple_rest (family.a_target_rest (family.a_simple_target i v)) f = family.a_simple_rest i v
simple_rest (family.a_target_rest (family.a_target_pattern (family.an_array_target {a} v w))) f = absurd (no_falsehood (none_if true (faults.Place a.span.start) f))
simple_rest (family.a_target_rest (family.a_target_pattern (family.an_object_target {a} v w))) f = absurd (no_falsehood (none_if true (faults.Place a.span.start) f))

pattern_type : {names : Tables} {c : Allowed} {t : Tree} → IsPattern names c t → is_target_pattern (type_of t) ≡ true
pattern_type (family.an_array_target v w) = refl
pattern_type (family.an_object_target v w) = refl

plainly_assigned : (o : AssignmentOperator) → not (assigns_alone o) ≡ false → o ≡ assignment_operators.Assign
plainly_assigned assignment_operators.Assign n = refl
plainly_assigned o n = absurd (no_falsehood n)

-- a value is given to a pattern by `=` alone
pub assignment_valid : {names : Tables} {c : Allowed} {a : Atoms} {t u : Tree} → IsTarget names c t → (not (assigns_alone (assignment_expression_operator a)) && is_target_pattern (type_of t)) ≡ false → IsExpression names c u → IsExpression names c (tree.assignment a t u)
assignment_valid (family.a_simple_target i v) n w = family.an_assignment i v w
assignment_valid {a = a} {t} (family.a_target_pattern v) n w = family.an_assignment_to_pattern (plainly_assigned (assignment_expression_operator a) (alone (not (assigns_alone (assignment_expression_operator a))) (is_target_pattern (type_of t)) n (pattern_type v))) v w
  where
    alone : (b d : Bool) → b && d ≡ false → d ≡ true → b ≡ false
    alone false d e f = refl
    alone true true e f = absurd (no_falsehood e)
    alone true false e f = absurd (no_truth f)

-- the reference of a property of its name
pub own_name_valid : (next : ℕ) (around : Surroundings) (n : Tree) (P : Tree → Type 0) → IsCoreIn around.tables n → is_identifier_reference (type_of n) ≡ true → shorthand_name_faults n ≡ [] → breaches around next n ≡ [] → ((b : Atoms) → spells_name (identifier_reference_name b) ≡ true → is_free_name (printed_name around.tables (reference_named b)) ≡ true → P (tree.identifier_reference b)) → P n
own_name_valid next around (tree.identifier_reference b) P p s w e f = f b (none_unless (spells_name (identifier_reference_name b)) (faults.Name b.span.start) w) (free_since around b.span (reference_named b) (parts (span_faults around b.span) (name_faults around.tables b.span (reference_named b)) [] e).0)
own_name_valid next around n P p s w e f = absurd (search no_truth)

-- what takes the rest is a node of its own
abbrev pub is_target_rest : Tree → Bool
is_target_rest (tree.target_rest a target) = true
is_target_rest t = false

pub none_but_rest : (names : Tables) (t : Tree) → is_core_row names t ≡ true → is_assignment_target_rest (type_of t) ≡ true → is_target_rest t ≡ false → ⊥
none_but_rest names (tree.target_rest a target) p s n = no_falsehood n
none_but_rest names t p s n = search (no_truth, no_truth_behind)

-- so is each property of a target
abbrev pub is_target_property : Tree → Bool
is_target_property (tree.target_property_identifier a binding init) = true
is_target_property (tree.target_property a key binding) = true
is_target_property t = false

pub none_but_property : (names : Tables) (t : Tree) → is_core_row names t ≡ true → is_assignment_target_property (type_of t) ≡ true → is_target_property t ≡ false → ⊥
none_but_property names (tree.target_property_identifier a binding init) p s n = no_falsehood n
none_but_property names (tree.target_property a key binding) p s n = no_falsehood n
none_but_property names t p s n = search (no_truth, no_truth_behind)

pub left_since : {names : Tables} {c : Allowed} {t : Tree} → IsTarget names c t → IsLeft names c t
left_since (family.a_simple_target i v) = family.a_target i v
left_since (family.a_target_pattern v) = family.a_left_pattern v

-- what a link goes on from is `super`, or may stand anywhere
pub link_valid : {names : Tables} (c : Allowed) (t : Tree) → IsCoreIn names t → StandsAt sets.Link t → has_optional_link t ≡ false → (StandsAt sets.Expression t → IsExpression names c t) → IsLink names c t
link_valid c (tree.super a) p s n f = family.a_super
link_valid c (node types.Super a slots) p s n f = absurd (no_truth p.0)
link_valid c t p s n f = family.an_operand (f (s.0, n, fits_expression sets.Link t refl refl refl s.2))

-- what an optional link goes on from is no `super`
pub base_stands : (t : Tree) → StandsAt sets.Link t → super_faults true t ≡ [] → has_optional_link t ≡ false → StandsAt sets.Expression t
base_stands t s e n =
    let h = and_parts (is_expression (type_of t)) (has_place sets.Link (type_of t)) s.0 in
    (and_from (is_expression (type_of t)) (has_place sets.Expression (type_of t)) h.0 (and_from (false || not (is_super (type_of t))) ((false || not (is_default (type_of t))) && (false || not (is_module_item (type_of t)))) (ap not (none_if (is_super (type_of t)) (faults.Place (span_of t).start) e)) h.1), n, fits_expression sets.Link t refl refl refl s.2)

pub base_valid : {names : Tables} (c : Allowed) (t : Tree) → StandsAt sets.Link t → super_faults true t ≡ [] → (has_optional_link t ≡ true → IsChain names c t) → (StandsAt sets.Expression t → IsExpression names c t) → IsChainBase names c t
base_valid {names} c t s e f g = by (has_optional_link t) refl
  where
    by : (b : Bool) → has_optional_link t ≡ b → IsChainBase names c t
    by true n = family.a_further_link (f n)
    by false n = family.a_first_link (g (base_stands t s e n))

-- what isn't spread in an object is a property
abbrev pub is_in_object : Tree → Bool
is_in_object (tree.spread a t) = true
is_in_object (tree.object_property a k v) = true
is_in_object t = false

pub none_in_object : (names : Tables) (t : Tree) → is_core_row names t ≡ true → is_object_property_kind (type_of t) ≡ true → is_in_object t ≡ false → ⊥
none_in_object names (tree.spread a t) p s n = no_falsehood n
none_in_object names (tree.object_property a k v) p s n = no_falsehood n
none_in_object names t p s n = search no_truth

pub none_among_properties : (next : ℕ) (around : Surroundings) (t : Tree) (ts : Trees) → is_core_row around.tables t ≡ true → is_in_object t ≡ false → in_trees around (place_of sets.ObjectPropertyKind around ∷ []) next (more t ts) ≡ [] → ⊥
none_among_properties next around t ts p n e = none_in_object around.tables t p (placed next around sets.ObjectPropertyKind t (in_trees around (place_of sets.ObjectPropertyKind around ∷ []) (after t next) ts) e).0 n

-- of a property that is a method or an accessor, or of another
abbrev pub rest_of_property : Tables → Atoms → Tree → Tree → Bool → List TreeFault
rest_of_property tables a x v b = if b then method_faults (object_property_kind a) (object_property_computed a) x v else shorthand_faults tables (object_property_shorthand a) x v

abbrev pub property_faults : Tables → Atoms → Tree → Tree → Bool → List TreeFault
property_faults tables a x v b = key_faults (object_property_computed a) x ++ rest_of_property tables a x v b

-- a key that is an expression is no `super`
pub key_stands : (t : Tree) → is_expression (type_of t) ≡ true → StandsAt sets.PropertyKey t → StandsAt sets.Expression t
key_stands t s m = (and_from (is_expression (type_of t)) (has_place sets.Expression (type_of t)) s (and_parts (in_set sets.PropertyKey (type_of t)) (has_place sets.Expression (type_of t)) m.0).1, m.1, fits_expression sets.PropertyKey t refl refl refl m.2)

pub big_valued : (next : ℕ) (around : Surroundings) (a : Atoms) → breaches around next (tree.big_int_literal a) ≡ [] → is_big_integer (big_int_literal_value a) ≡ true
big_valued next around a e = none_unless (is_big_integer (big_int_literal_value a)) (faults.Literal a.span.start) (parts (span_faults around a.span) (big_integer_faults a.span (big_int_literal_value a)) [] e).0

-- a number whose value is at no fault has one
pub number_valued : (kind : NumericKind) (a : Atoms) → is_number kind a ≡ true → number_faults a.span kind (numeric_literal_text a) ≡ [] → has_value kind a ≡ true
number_valued Whole a p e = p
number_valued Raw a p e = none_unless (is_raw_number (numeric_literal_text a)) (faults.Literal a.span.start) e

pub literal_key_valid : (next : ℕ) (c : Allowed) (around : Surroundings) (k : Tree) → IsCoreIn around.tables k → is_literal_key (type_of k) ≡ true → is_negative_big_integer k ≡ false → breaches around next k ≡ [] → IsKey around.tables c false k
literal_key_valid next c around (tree.identifier_name a) p s m e = family.a_name_key (none_unless (spells_name (identifier_name_name a)) (faults.Name a.span.start) (parts (span_faults around a.span) (written_name_faults a.span (identifier_name_name a)) [] e).0)
literal_key_valid next c around (tree.string_literal a) p s m e = family.a_string_key p.0
literal_key_valid next c around (tree.numeric_literal a) p s m e = family.a_number_key (number_valued (numeric_literal_kind a) a p.0 (parts (span_faults around a.span) (number_faults a.span (numeric_literal_kind a) (numeric_literal_text a)) [] e).0)
literal_key_valid next c around (tree.big_int_literal a) p s m e = family.a_big_integer_key (big_valued next around a e) m
literal_key_valid next c around k p s m e = absurd (search no_truth)

pub key_valid : (next : ℕ) (c : Allowed) (around : Surroundings) (computed : Bool) (k : Tree) → IsCoreIn around.tables k → key_faults computed k ≡ [] → breaches around next k ≡ [] → (is_expression (type_of k) ≡ true → IsExpression around.tables c k) → IsKey around.tables c computed k
key_valid next c around true k p f e h = family.a_computed_key (h (none_unless (is_expression (type_of k)) (faults.Place (span_of k).start) f))
key_valid next c around false k p f e h =
    let m = and_parts (is_literal_key (type_of k)) (not (is_negative_big_integer k)) (none_unless (may_be_key false k) (faults.Place (span_of k).start) f) in
    literal_key_valid _ c around k p m.0 (not-true (is_negative_big_integer k) m.1) e

-- a link of a chain is optional, or goes on from one
pub link_kind : {A : Type 0} (b : Bool) (o : Tree) → (b || has_optional_link o) ≡ true → super_faults b o ≡ [] → (b ≡ true → super_faults true o ≡ [] → A) → (b ≡ false → has_optional_link o ≡ true → A) → A
link_kind true o i e f g = f refl e
link_kind false o i e f g = g refl i

-- a child that is there, and is of the set that its field asks for
pub placed_if_given : (next : ℕ) (around : Surroundings) (s : NodeSet) (t : Tree) → set_faults s t ++ breaches around next t ≡ [] → (in_set s (type_of t) ≡ true) × (breaches around next t ≡ [])
placed_if_given next around s t e =
    let h = none_both (set_faults s t) (breaches around _ t) e in
    ((and_parts (in_set s (type_of t)) (has_place s (type_of t)) (stands_at s t h.0).0).0, h.1)

-- what may stand as a pattern may stand as an element of one, and any other than one with a value the other way round
pub as_element : (type : NodeType) → may_stand sets.BindingPattern type ≡ true → may_stand sets.BindingElement type ≡ true
as_element types.BindingIdentifier s = refl
as_element types.ObjectPattern s = refl
as_element types.ArrayPattern s = refl
as_element types.AssignmentPattern s = absurd (no_truth s)
as_element type s = absurd (no_truth s)

pub as_alone : {names : Tables} {c : Allowed} {t : Tree} → IsBindingElement names c t → may_stand sets.BindingPattern (type_of t) ≡ true → IsBinding names c t
as_alone (family.a_binding_alone v) s = v
as_alone (family.a_binding_with_value v w) s = absurd (no_truth s)

-- a key of a pattern is one of a property, and no negative number
pub pattern_key : (computed : Bool) (k : Tree) → pattern_key_faults computed k ≡ [] → (key_faults computed k ≡ []) × ((computed || is_negative_number k) ≡ computed)
pattern_key true k f = (f, refl)
pattern_key false k f =
    let h = and_parts (may_be_key false k) (not (is_negative_number k)) (none_unless (may_be_pattern_key false k) (faults.Place (span_of k).start) f) in
    (ap (λ b. fault_if (not b) (faults.Place (span_of k).start)) h.0, not-true (is_negative_number k) h.1)

-- what takes the rest of an object is a name
bound_name_valid : (next : ℕ) (around : Surroundings) (a : Atoms) (t : Tree) → IsCoreIn around.tables t → is_binding_name (type_of t) ≡ true → breaches around next t ≡ [] → IsNameOfRest around.tables (given (tree.binding_rest_element a t))
bound_name_valid next around a (tree.binding_identifier d) p s e = family.a_name_of_rest (free_since around d.span (binding_named d) (parts (span_faults around d.span) (name_faults around.tables d.span (binding_named d)) [] e).0)
bound_name_valid next around a t p s e = absurd (search no_truth)

some_name_of_rest : (next : ℕ) (around : Surroundings) (t : Tree) → IsCoreIn around.tables t → is_binding_rest_element (type_of t) ≡ true → rest_faults (given t) ≡ [] → breaches around next t ≡ [] → IsNameOfRest around.tables (given t)
some_name_of_rest next around (tree.binding_rest_element a b) p s f e =
    let k = placed _ around sets.BindingPattern b [] (parts (span_faults around a.span) [] _ e).1 in
    bound_name_valid _ around a b p.1.0 (none_unless (is_binding_name (type_of b)) (faults.Place (span_of b).start) f) k.1
some_name_of_rest next around t p s f e = absurd (search no_truth)

pub name_of_rest_valid : (next : ℕ) (around : Surroundings) (m : Maybe) → EverywhereIfGiven (is_core_row around.tables) m → rest_faults m ≡ [] → in_maybe around (place_of sets.BindingRestElement around ∷ []) next m ≡ [] → IsNameOfRest around.tables m
name_of_rest_valid next around absent p f e = family.no_name_of_rest
name_of_rest_valid next around (given t) p f e = let h = placed_if_given next around sets.BindingRestElement t e in some_name_of_rest next around t p h.0 f h.1

-- ---- directives

-- a directive stands for what its raw text spells
pub raw_directive : (v : Atom) → is_raw_text v ≡ true → is_some (directive_value (as_text v)) ≡ true → (us : List ℕ) × (directive_value (as_text v) ≡ Some us) × (directive_units v ≡ us)
raw_directive (text raw) p h = by (directive_value raw) refl h
  where
    by : (o : Option (List ℕ)) → directive_value raw ≡ o → is_some o ≡ true → (us : List ℕ) × (directive_value raw ≡ Some us) × (or_none (directive_value raw) ≡ us)
    by (Some us) e k = (us, e, ap or_none e)
    by None e k = absurd (no_truth k)
raw_directive v p h = absurd (no_truth p)

pub directive_valid : (next : ℕ) (around : Surroundings) (t : Tree) (ds : Trees) → IsCoreIn around.tables t → is_directive (type_of t) ≡ true → breaches around next t ≡ [] → AreDirectives ds → AreDirectives (more t ds)
directive_valid next around (tree.directive a) ds p s e v =
    let raw : List ℕ = as_text (directive_directive a) in
    let k = raw_directive (directive_directive a) p.0 (none_unless (is_some (directive_value raw)) (faults.Literal a.span.start) (parts (span_faults around a.span) (directive_faults a.span raw) [] e).0) in
    family.first_directive k.0 k.1 k.2 v
directive_valid next around t ds p s e v = absurd (search no_truth)

-- behind their field stand others
pub directives_valid : (next : ℕ) (around : Surroundings) (others : List ChildPlace) (ds : Trees) → has_no_hole ds ≡ true → EverywhereInTrees (is_core_row around.tables) ds → in_trees around (place_of sets.Directive around ∷ others) next ds ≡ [] → AreDirectives ds
directives_valid next around others no_trees n p e = family.no_directive
directives_valid next around others (more t ts) n p e = let k = placed _ around sets.Directive t _ e in directive_valid _ around t ts p.0 k.0 k.1 (directives_valid _ around others ts n p.1 k.2)
directives_valid next around others (hole ts) n p e = absurd (no_truth n)

-- ---- functions

-- what surrounds the node itself doesn't count where its children have places
pub same_trees : (next : ℕ) (a b : Surroundings) (p : ChildPlace) (ps : List ChildPlace) (ts : Trees) → in_trees a (p ∷ ps) next ts ≡ in_trees b (p ∷ ps) next ts
same_trees next a b p ps no_trees = refl
same_trees next a b p ps (more t ts) = ap (λ x. (set_faults p.set t ++ breaches p.around next t) ++ x) (same_trees _ a b p ps ts)
same_trees next a b p ps (hole ts) = same_trees _ a b p ps ts

-- a function is of the kind that its place asks for
pub kind_is : (kind : FunctionKind) (a : Atoms) → same_kind (function_kind a) kind ≡ true → function_kind a ≡ kind
kind_is kind a h = by (function_kind a) kind h
  where
    by : (k l : FunctionKind) → same_kind k l ≡ true → k ≡ l
    by kinds.Declaration kinds.Declaration h = refl
    by kinds.Expression kinds.Expression h = refl
    by kinds.Declaration kinds.Expression h = absurd (no_truth h)
    by kinds.Expression kinds.Declaration h = absurd (no_truth h)

-- and has a body
pub bodiless : (s : Span) → function_faults s absent ≡ [] → ⊥
bodiless s e = cc

-- its place asks for its kind, and for a name where it is declared
pub function_fits : (kind : FunctionKind) (a : Atoms) (id : Maybe) → (same_kind (function_kind a) kind && (has_name id || same_kind (function_kind a) kinds.Expression)) ≡ true → (function_kind a ≡ kind) × ((has_name id || same_kind kind kinds.Expression) ≡ true)
function_fits kind a id f =
    let h = and_parts (same_kind (function_kind a) kind) (has_name id || same_kind (function_kind a) kinds.Expression) f in
    let k = kind_is kind a h.0 in
    (k, subst (λ x. (has_name id || same_kind x kinds.Expression) ≡ true) k h.1)

pub function_name_valid : (next : ℕ) (around : Surroundings) (nameless : Bool) (t : Tree) → IsCoreIn around.tables t → is_binding_identifier (type_of t) ≡ true → breaches around next t ≡ [] → HasName around.tables nameless (given t)
function_name_valid next around nameless (tree.binding_identifier a) p s e = family.a_name (free_since around a.span (binding_named a) (parts (span_faults around a.span) (name_faults around.tables a.span (binding_named a)) [] e).0)
function_name_valid next around nameless t p s e = absurd (search no_truth)

-- behind its field stand others
pub named_validly : (next : ℕ) (around : Surroundings) (nameless : Bool) (others : List ChildPlace) (id : Maybe) → (has_name id || nameless) ≡ true → EverywhereIfGiven (is_core_row around.tables) id → in_maybe around (place_of sets.BindingIdentifier around ∷ others) next id ≡ [] → HasName around.tables nameless id
named_validly next around nameless others (given t) f p e = let k = placed_if_given _ around sets.BindingIdentifier t e in function_name_valid _ around nameless t p k.0 k.1
named_validly next around true others absent f p e = family.no_name
named_validly next around false others absent f p e = absurd (no_truth f)

-- its parameters and its body, where nothing is at fault
pub record FunctionParts (around : Surroundings) (nameless : Bool) (a : Atoms) (id : Maybe) (ps u : Tree) : Type 0 where
  pub undeclared : function_declare a ≡ false
  pub name : HasName around.tables nameless id
  pub core_parameters : IsCoreIn around.tables ps
  pub are_parameters : is_formal_parameters (type_of ps) ≡ true
  pub parameters : (next : ℕ) × (breaches (within_nothing around) next ps ≡ [])
  pub core_body : IsCoreIn around.tables u
  pub is_body : is_function_body (type_of u) ≡ true
  pub body : (next : ℕ) × (breaches (within_function (function_is_async a) (function_generator a) around) next u ≡ [])

pub function_parts : (next : ℕ) (around : Surroundings) (nameless : Bool) (a : Atoms) (id : Maybe) (ps u : Tree) → (has_name id || nameless) ≡ true → IsCoreIn around.tables (tree.function a id ps (given u)) → breaches around next (tree.function a id ps (given u)) ≡ [] → FunctionParts around nameless a id ps u
function_parts next around nameless a id ps u h p e =
    let outside : Surroundings = within_nothing around in
    let within : Surroundings = within_function (function_is_async a) (function_generator a) around in
    let last : List ChildPlace = place_of sets.FunctionBody within ∷ [] in
    let f = parts (span_faults around a.span) (function_faults a.span (given u)) _ e in
    let i = none_both (in_maybe around (place_of sets.BindingIdentifier around ∷ place_of sets.FormalParameters outside ∷ last) _ id) _ f.1 in
    let k = placed _ outside sets.FormalParameters ps _ i.1 in
    let j = placed_if_given _ within sets.FunctionBody u (none_both (in_maybe around last _ (given u)) [] k.2).0 in
    record {
      undeclared = unset (function_declare a) p.0;
      name = named_validly _ around nameless (place_of sets.FormalParameters outside ∷ last) id h p.1.0 i.0;
      core_parameters = p.1.1.0;
      are_parameters = k.0;
      parameters = (_, k.1);
      core_body = p.1.1.1.0;
      is_body = j.0;
      body = (_, j.1);
    }

pub braces_parts : (next : ℕ) (around : Surroundings) (a : Atoms) (ds ss : Trees) → IsCoreIn around.tables (tree.function_body a ds ss) → breaches around next (tree.function_body a ds ss) ≡ [] → AreDirectives ds × (has_no_hole ss ≡ true) × EverywhereInTrees (is_core_row around.tables) ss × ((last : ℕ) × (in_trees (within_braces around) (place_of sets.Statement (within_braces around) ∷ []) last ss ≡ []))
braces_parts next around a ds ss p e =
    let within : Surroundings = within_braces around in
    let last : List ChildPlace = place_of sets.Statement within ∷ [] in
    let d = none_both (in_trees around (place_of sets.Directive within ∷ last) _ ds) _ (parts (span_faults around a.span) [] _ e).1 in
    let k = none_both (in_trees around last _ ss) [] d.1 in
    let n = and_parts (has_no_hole ss) (has_no_hole ds) p.0 in
    (directives_valid _ within last ds n.1 p.1.0 (same_trees _ within around (place_of sets.Directive within) last ds ∙ d.0), n.0, p.1.1.0, (_, same_trees _ within around (place_of sets.Statement within) [] ss ∙ k.0))

-- ---- properties with their value

method_since : {names : Tables} {c : Allowed} (a : Atoms) (x : Tree) {v : Tree} → IsExpression names c v → is_method (object_property_kind a) (object_property_method a) ≡ true → IsKey names c (object_property_computed a) x → fits_method (object_property_kind a) v ≡ true → IsProperty names c (tree.object_property a x v)
method_since a x (family.a_function {a = b} {id = absent} {ps = ps} w) m key f = let h = and_parts (fits_accessor (object_property_kind a) ps) (fits_words (object_property_kind a) (function_is_async b) (function_generator b)) f in family.a_method m refl key h.0 h.1 w
method_since a x (family.a_function {id = given i} w) m key f = absurd (no_truth f)
method_since a x v m key f = absurd (search no_truth)

pub property_since : {names : Tables} {c : Allowed} (a : Atoms) (x v : Tree) (b : Bool) → is_method (object_property_kind a) (object_property_method a) ≡ b → IsKey names c (object_property_computed a) x → rest_of_property names a x v b ≡ [] → IsExpression names c v → IsProperty names c (tree.object_property a x v)
property_since a x v false m key f w = family.a_property m refl key f w
property_since a x v true m key f w =
    let h = none_both (fault_if (not (object_property_computed a) && is_negative_number x) (faults.Place (span_of x).start)) (fault_if (not (fits_method (object_property_kind a) v)) (faults.Place (span_of v).start)) f in
    method_since a x w m key (none_unless (fits_method (object_property_kind a) v) (faults.Place (span_of v).start) h.1)

-- ---- waiting and yielding

-- what waits stands where `await` may
pub awaited : (waits may : Bool) (s : Span) → await_faults waits may s ≡ [] → waits ≡ true → may ≡ true
awaited waits true s e h = refl
awaited true false s e h = absurd (cc)
awaited false false s e h = absurd (no_truth h)

-- without a value, `yield` hands on none
pub yielded_alone : (around : Surroundings) (a : Atoms) → yield_faults around.may_yield (yield_expression_delegate a) absent a.span ≡ [] → IsExpression around.tables (allowed_in around) (tree.yield_expression a absent)
yielded_alone around a e =
    let h = or_parts (yield_expression_delegate a) (not around.may_yield) (none_if (yield_expression_delegate a || not around.may_yield) (faults.Place a.span.start) e) in
    family.a_yield_alone (not-false around.may_yield h.1) h.0

-- ---- declarations

-- the declarators, and no word of TypeScript before them
pub variables_parts : (next : ℕ) (around : Surroundings) (a : Atoms) (ds : Trees) → IsCoreIn around.tables (tree.variable_declaration a ds) → breaches around next (tree.variable_declaration a ds) ≡ [] → (variable_declaration_declare a ≡ false) × (has_no_hole ds ≡ true) × EverywhereInTrees (is_core_row around.tables) ds × (declaration_faults a.span ds ≡ []) × (in_trees around (place_of sets.VariableDeclarator around ∷ []) next ds ≡ [])
variables_parts next around a ds p e =
    let h = parts (span_faults around a.span) (declaration_faults a.span ds) _ e in
    let k = none_both (in_trees around (place_of sets.VariableDeclarator around ∷ []) _ ds) [] h.1 in
    let m = and_parts (not (variable_declaration_declare a)) (has_no_hole ds) p.0 in
    (not-true (variable_declaration_declare a) m.0, m.1, p.1.0, h.0, k.0)

-- ---- heads of loops

-- what is no declaration in the head of a loop is an expression
abbrev pub is_declaration : Tree → Bool
is_declaration (tree.variable_declaration a ds) = true
is_declaration t = false

pub none_first : (names : Tables) (t : Tree) → is_core_row names t ≡ true → is_for_statement_init (type_of t) ≡ true → is_declaration t ≡ false → is_expression (type_of t) ≡ false → ⊥
none_first names (tree.variable_declaration a ds) p s n e = no_falsehood n
none_first names t p s n e = search (no_truth, no_falsehood, no_truth_behind)

pub init_stands : (names : Tables) (t : Tree) → is_core_row names t ≡ true → StandsAt sets.ForStatementInit t → is_declaration t ≡ false → StandsAt sets.Expression t
init_stands names t p s n =
    let h = and_parts (is_for_statement_init (type_of t)) (has_place sets.Expression (type_of t)) s.0 in
    (and_from (is_expression (type_of t)) (has_place sets.Expression (type_of t)) (by (is_expression (type_of t)) refl) h.1, s.1, fits_expression sets.ForStatementInit t refl refl refl s.2)
  where
    by : (b : Bool) → is_expression (type_of t) ≡ b → b ≡ true
    by true e = refl
    by false e = absurd (none_first names t p (and_parts (is_for_statement_init (type_of t)) (has_place sets.Expression (type_of t)) s.0).0 n e)

-- behind its field stand others
pub init_parts : (next : ℕ) (around : Surroundings) (others : List ChildPlace) (t : Tree) → is_core_row around.tables t ≡ true → is_declaration t ≡ false → in_maybe around (place_of sets.ForStatementInit around ∷ others) next (given t) ≡ [] → StandsAt sets.Expression t × (breaches around next t ≡ [])
init_parts next around others t p n e =
    let h = none_both (set_faults sets.ForStatementInit t) (breaches around next t) e in
    (init_stands around.tables t p (stands_at sets.ForStatementInit t h.0) n, h.1)

-- and what a loop gives its values is a target
pub left_as_element : (names : Tables) (t : Tree) → is_core_row names t ≡ true → is_for_statement_left (type_of t) ≡ true → is_declaration t ≡ false → is_assignment_target (type_of t) ≡ true
left_as_element names t p s n = by (is_assignment_target (type_of t)) refl
  where
    none : (names : Tables) (u : Tree) → is_core_row names u ≡ true → is_for_statement_left (type_of u) ≡ true → is_declaration u ≡ false → is_assignment_target (type_of u) ≡ false → ⊥
    none names (tree.variable_declaration a ds) p s n e = no_falsehood n
    none names u p s n e = search (no_truth, no_falsehood, no_truth_behind)

    by : (b : Bool) → is_assignment_target (type_of t) ≡ b → b ≡ true
    by true e = refl
    by false e = absurd (none names t p s n e)

-- ---- the rows of statements

pub label_valid : (next : ℕ) (around : Surroundings) (n : Tree) (P : Tree → Type 0) → IsCoreIn around.tables n → is_label_identifier (type_of n) ≡ true → breaches around next n ≡ [] → ((b : Atoms) → is_free_name (label_identifier_name b) ≡ true → P (tree.label_identifier b)) → P n
label_valid next around (tree.label_identifier b) P p s e f = f b (none_unless (is_free_name (label_identifier_name b)) (faults.Name b.span.start) (parts (span_faults around b.span) (label_faults b.span (label_identifier_name b)) [] e).0)
label_valid next around n P p s e f = absurd (search no_truth)

pub jump_valid : (next : ℕ) (around : Surroundings) (m : Maybe) → EverywhereIfGiven (is_core_row around.tables) m → in_maybe around (place_of sets.LabelIdentifier around ∷ []) next m ≡ [] → IsLabel m
jump_valid next around absent p e = family.no_label
jump_valid next around (given t) p e = let k = placed_if_given _ around sets.LabelIdentifier t e in label_valid _ around t (λ x. IsLabel (given x)) p k.0 k.1 (λ b h. family.a_label h)

-- a declarator, a property of a pattern and what takes its rest are nodes of their own
abbrev pub is_declarator : Tree → Bool
is_declarator (tree.variable_declarator a id init) = true
is_declarator t = false

pub none_but_declarator : (names : Tables) (t : Tree) → is_core_row names t ≡ true → is_variable_declarator (type_of t) ≡ true → is_declarator t ≡ false → ⊥
none_but_declarator names (tree.variable_declarator a id init) p s n = no_falsehood n
none_but_declarator names t p s n = search (no_truth, no_truth_behind)

abbrev pub is_bound_property : Tree → Bool
is_bound_property (tree.binding_property a key value) = true
is_bound_property t = false

pub none_but_bound_property : (names : Tables) (t : Tree) → is_core_row names t ≡ true → is_binding_property (type_of t) ≡ true → is_bound_property t ≡ false → ⊥
none_but_bound_property names (tree.binding_property a key value) p s n = no_falsehood n
none_but_bound_property names t p s n = search (no_truth, no_truth_behind)

abbrev pub is_bound_rest : Tree → Bool
is_bound_rest (tree.binding_rest_element a argument) = true
is_bound_rest t = false

pub none_but_bound_rest : (names : Tables) (t : Tree) → is_core_row names t ≡ true → is_binding_rest_element (type_of t) ≡ true → is_bound_rest t ≡ false → ⊥
none_but_bound_rest names (tree.binding_rest_element a argument) p s n = no_falsehood n
none_but_bound_rest names t p s n = search (no_truth, no_truth_behind)

-- one declarator without a value
abbrev pub is_one_declared : Trees → Bool
is_one_declared (more (tree.variable_declarator a id absent) no_trees) = true
is_one_declared ts = false

pub not_one_name : (ds : Trees) → is_one_name ds ≡ true → is_one_declared ds ≡ false → ⊥
not_one_name (more (tree.variable_declarator a id absent) no_trees) n m = no_falsehood m
not_one_name ds n m = no_truth n

-- what is declared without a value is a name
pub declared_alone : {names : Tables} {c : Allowed} {a : Atoms} {b : Tree} → variable_declarator_definite a ≡ false → IsBinding names c b → not (is_binding_name (type_of b)) ≡ false → IsDeclarator names c (tree.variable_declarator a b absent)
declared_alone h (family.a_bound_name e) n = family.a_declared_alone h (family.a_bound_name e)
declared_alone h (family.an_array_pattern v w) n = absurd (no_falsehood n)
declared_alone h (family.an_object_pattern v w) n = absurd (no_falsehood n)

-- of `var` a statement, and of another word a declaration
pub variables_are : {names : Tables} {c : Allowed} (a : Atoms) (ds : Trees) → variable_declaration_declare a ≡ false → AreDeclarators names c ds → IsItem names c (tree.variable_declaration a ds)
variables_are {names} {c} a ds m v = by (is_lexical_word (variable_declaration_kind a)) refl
  where
    by : (b : Bool) → is_lexical_word (variable_declaration_kind a) ≡ b → IsItem names c (tree.variable_declaration a ds)
    by true h = family.a_declaration h m v
    by false h = family.a_statement (family.a_variable_statement h m v)

-- where no declaration may stand
pub body_valid : {names : Tables} {c : Allowed} (t : Tree) → body_faults t ≡ [] → IsItem names c t → IsStatement names c t
body_valid t e (family.a_statement v) = v
body_valid t e (family.a_function_declaration {a} v) = absurd (no_falsehood (none_if true (faults.Place a.span.start) e))
body_valid t e (family.a_class_declaration {a} v) = absurd (no_falsehood (none_if true (faults.Place a.span.start) e))
body_valid t e (family.a_declaration {a} h m v) = absurd (both_ways (is_lexical_word (variable_declaration_kind a)) (none_if (is_lexical_word (variable_declaration_kind a)) (faults.Place a.span.start) e) h)

-- how many cases without a test may come
abbrev pub most : Bool → ℕ
most true = 1
most false = 0

pub one_less : (n : ℕ) → nat_lt 1 (suc n) ≡ false → nat_lt 0 n ≡ false
one_less n h = le-ltb 0 n (omega (arith, ltb-false 1 (suc n) h))

pub none_left_out : (n : ℕ) → nat_lt 0 (suc n) ≡ false → ⊥
none_left_out n h = omega (arith, ltb-false 0 (suc n) h)

abbrev pub is_case : Tree → Bool
is_case (tree.switch_case a test ss) = true
is_case t = false

pub none_case : (names : Tables) (t : Tree) → is_core_row names t ≡ true → is_switch_case (type_of t) ≡ true → is_case t ≡ false → ⊥
none_case names (tree.switch_case a test ss) p s n = no_falsehood n
none_case names t p s n = search no_truth

pub none_among_cases : (next : ℕ) (around : Surroundings) (t : Tree) (ts : Trees) → is_core_row around.tables t ≡ true → is_case t ≡ false → in_trees around (place_of sets.SwitchCase around ∷ []) next (more t ts) ≡ [] → ⊥
none_among_cases next around t ts p n e = none_case around.tables t p (placed next around sets.SwitchCase t (in_trees around (place_of sets.SwitchCase around ∷ []) (after t next) ts) e).0 n

-- a handler and a finalizer, where they are given
abbrev pub HandlerIfGiven : Tables → Allowed → Maybe → Type 0
HandlerIfGiven names c absent = Unit {0}
HandlerIfGiven names c (given t) = IsHandler names c t

abbrev pub FinalizerIfGiven : Tables → Allowed → Maybe → Type 0
FinalizerIfGiven names c absent = Unit {0}
FinalizerIfGiven names c (given t) = IsBlock names c t

pub ends_of_try : {names : Tables} {c : Allowed} (a : Atoms) (handler finalizer : Maybe) → try_faults a.span handler finalizer ≡ [] → HandlerIfGiven names c handler → FinalizerIfGiven names c finalizer → AreEndsOfTry names c handler finalizer
ends_of_try a absent absent e v w = absurd (cc)
ends_of_try a (given t) absent e v w = family.a_handler v
ends_of_try a absent (given u) e v w = family.a_finalizer w
ends_of_try a (given t) (given u) e v w = family.a_handler_and_a_finalizer v w
