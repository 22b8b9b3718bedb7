-- Each tree of the families is printed so that it is read: one induction over expressions and statements, which functions nest in one another.
use Rattle.std.proofs.Common.{◌≡◌, Bool, true, false, not, ◌&&◌, refl, sym, subst, Some, None, is_some, ap}
use Rattle.std.proofs.lemmas.Bool.{both_ways}
use Rattle.jsgen_tree.specs.Job.{Tables}
use Rattle.jsgen_tree.specs.Tree.{Tree, Atoms, Maybe, Trees, type_of, given, more}
use Rattle.jsgen_tree.specs.Sets.{is_simple_assignment_target}
use Rattle.jsgen_tree.specs.Values.{object_property_kind, method_definition_kind}
use Rattle.jsgen_tree.specs.Nodes as tree
use Rattle.jsgen_model.specs.Grammar.{Allowed, ReadsParameters, in_parameters, ReadsBindingElement, ReadsBindingProperty, with_in}
use Rattle.jsgen_model.specs.Grammar as grammar
use Rattle.jsgen_place.specs.declared.place.Place.{Place}
use Rattle.jsgen_syntax.specs.declared.precedence.Precedence.TheVariants as levels
use Rattle.jsgen_place.specs.Place.{among_statements, in_brackets}
use Rattle.jsgen_model.specs.Spell.{spell, spell_statements, spell_body, target_named}
use Rattle.jsgen_row_laws.proofs.Families.{IsTarget, IsTargetElement, AreTargetElements, IsTargetRest, IsSimpleRest, AreTargetProperties, IsTargetProperty, IsExpression, IsParameters, AreParameters, IsParameter, IsRest, IsValue, IsLink, IsElement, AreArguments, AreElements, IsProperty, AreProperties, IsKey, IsMemberKey, ArePieces, IsTemplate, AreParts, IsChain, IsChainBase, IsStatement, IsItem, AreStatements, AreCases, IsCase, AreEndsOfTry, IsHandler, IsBlock, IsBody, IsDeclarator, AreDeclarators, IsInit, IsLeft, IsBinding, AreBindingElements, IsBindingElement, IsBindingRest, IsNameOfRest, AreBindingProperties, IsBindingProperty, AreMembers, IsMember}
use Rattle.jsgen_row_laws.proofs.Families as family
use Rattle.std.proofs.lemmas.Option.{same_Some}
use Rattle.jsgen_syntax.specs.Name.{is_free_name}
use Rattle.jsgen_tree.specs.Inside.{reference_named, binding_named, bound_in}
use Rattle.jsgen_tree.specs.Named.{Named, printed_name}
use Rattle.jsgen_row_laws.proofs.Adds.{at_any}
use Rattle.jsgen_row_laws.proofs.Rests.{Each, Every}
use Rattle.jsgen_row_laws.proofs.BoundPatterns as patterns
use Rattle.jsgen_row_laws.proofs.Targets as targets
use Rattle.jsgen_row_laws.proofs.TargetProperties as by_key
use Rattle.jsgen_row_laws.proofs.Asked.{asked}
use Rattle.jsgen_row_laws.proofs.Literals.{good_number, good_big_integer}
use Rattle.jsgen_row_laws.proofs.Good.{Printed, TargetPrinted}
use Rattle.jsgen_row_laws.proofs.Operations.{good_operation}
use Rattle.jsgen_row_laws.proofs.Prefixes.{good_unary_operation}
use Rattle.jsgen_row_laws.proofs.Waiting.{good_await, good_yield_alone, good_yield}
use Rattle.jsgen_row_laws.proofs.Chains.{good_logical_operation}
use Rattle.jsgen_row_laws.proofs.Constructions.{good_construction}
use Rattle.jsgen_row_laws.proofs.Links.{ElementOf, ArgumentsAt, BehindFirstAt, LinkPrinted, link_expression, link_super, good_named_member, good_computed_member, good_call, good_element, good_spread, no_arguments, first_of_arguments, none_behind_first, one_more_argument, named_target, computed_target}
use Rattle.jsgen_row_laws.proofs.OptionalChains.{ChainPrinted, BasePrinted, base_expression, base_chain, optional_named_member, optional_computed_member, optional_call, further_named_member, further_computed_member, further_call, good_chain}
use Rattle.jsgen_row_laws.proofs.Collections.{ElementsOf, no_elements, first_of_elements, left_out_of_elements, good_array, PropertiesOf, no_properties, first_of_properties, good_object}
use Rattle.jsgen_row_laws.proofs.Updates.{good_update}
use Rattle.jsgen_row_laws.proofs.ImportCalls.{good_import_meta, good_import_call}
use Rattle.jsgen_row_laws.proofs.Properties.{KeyOf, PropertyOf, good_name_key, good_string_key, good_number_key, good_big_integer_key, good_computed_key, good_spread_property, good_property, MemberKeyAt}
use Rattle.jsgen_row_laws.proofs.Choices.{good_choice}
use Rattle.jsgen_row_laws.proofs.Assignments.{good_assignment}
use Rattle.jsgen_row_laws.proofs.Bindings.{PrintedIfGiven, Bound, good_bound_name}
use Rattle.jsgen_row_laws.proofs.Parameters.{ParameterOf, RestOf, MoreParametersOf, ParametersOf, ArrowParametersOf, good_parameter, good_rest, no_more_parameters, one_more_parameter, no_parameters, some_parameters, name_alone, good_arrow_parameters}
use Rattle.jsgen_row_laws.proofs.Arrows.{good_arrow_function, good_arrow_with_body}
use Rattle.jsgen_row_laws.proofs.Sequences.{MorePartsAt, good_sequence, no_more_parts, one_more_part}
use Rattle.jsgen_row_laws.proofs.RegularExpressions.{good_regular_expression}
use Rattle.jsgen_row_laws.proofs.TemplateParts.{PiecesPrinted, last_printed, printed_before}
use Rattle.jsgen_row_laws.proofs.Templates.{TemplateOf, fits, good_template_alone, good_template, whole_template, template_of_parts, good_tagged_template}
use Rattle.jsgen_row_laws.proofs.Expressions.{reference_target, good_reference, good_this, good_null, good_boolean, good_new_target, good_string, good_parenthesized}
use Rattle.jsgen_row_laws.proofs.Declarations.{listed_declaration, good_variable_statement, DeclaredAt, ListDeclaredAt, MoreDeclaredAt, good_declared_alone, good_declared_with_value, last_declared, first_declared, variables_from}
use Rattle.jsgen_row_laws.proofs.Stands.{Stated, Listed, listed_statement}
use Rattle.jsgen_row_laws.proofs.Rows.{RowAt, RestAt, statements_join, row_none, row_more, rest_none, rest_more}
use Rattle.jsgen_row_laws.proofs.Blocks.{good_block}
use Rattle.jsgen_row_laws.proofs.Bodies.{good_empty}
use Rattle.jsgen_row_laws.proofs.Branches.{good_if, good_if_with_else}
use Rattle.jsgen_row_laws.proofs.Whiles.{good_while, good_do_while}
use Rattle.jsgen_row_laws.proofs.Jumps.{good_labelled, good_continue, good_break, good_throw, good_debugger, good_return}
use Rattle.jsgen_row_laws.proofs.Loops.{good_for, good_for_in, good_for_of, InitOf, LeftOf, no_init, init_expression, init_variables, left_declared, left_target, left_array, left_object}
use Rattle.jsgen_row_laws.proofs.Switches.{CasesOf, CaseOf, ConsequentOf, OnlyOf, no_cases, more_cases, good_case, good_default, no_consequent, some_consequents, only_statement, only_declaration, good_switch}
use Rattle.jsgen_row_laws.proofs.Tries.{BlockOf, HandlerOf, EndsOf, some_block, good_catch, good_catch_by_name, good_finally, handler_alone, finalizer_alone, handler_and_finalizer, good_try}
use Rattle.jsgen_tree.specs.declared.collections.PropertyKind.{PropertyKind}
use Rattle.jsgen_tree.specs.declared.collections.PropertyKind.TheVariants as property_kinds
use Rattle.jsgen_model.specs.Valid.{fits_accessor, as_property}
use Rattle.jsgen_row_laws.proofs.Statements.{good_expression_statement, normal_open, empty_alone}
use Rattle.jsgen_row_laws.proofs.Functions.{GroupOf, BodyOf, good_group, empty_group, group_of_one, good_function_body, good_function, good_declaration}
use Rattle.jsgen_row_laws.proofs.Methods.{GroupsOf, good_method}
use Rattle.jsgen_row_laws.proofs.PrivateNames.{private_target, good_private_member, optional_private_member, further_private_member, good_private_test, private_key}
use Rattle.jsgen_row_laws.proofs.Members.{MemberOf, MembersOf, no_members, one_more_member, class_key, good_field, good_static_block, good_member_method}
use Rattle.jsgen_row_laws.proofs.Classes.{good_class, good_class_declaration}
use Rattle.jsgen_row_laws.proofs.Directives.{BodyAt, first_stated, no_body, some_body}
use Rattle.jsgen_row_laws.proofs.Prologue.{whole_body}

bound_name_of_rest : {names : Tables} {rest : Maybe} (c : Allowed) → IsNameOfRest names rest → patterns.RestName names c rest
bound_name_of_rest c family.no_name_of_rest place = tt
bound_name_of_rest c (family.a_name_of_rest {a} {d} h) place = patterns.rest_name c a d h place

no_name : {A : Type 0} (n : Named) → None ≡ Some n → A
no_name n e = absurd (both_ways false refl (ap is_some e))

no_truth : {A : Type 0} → false ≡ true → A
no_truth e = absurd (both_ways false refl e)

-- what is bound by a name alone, and given a value by a name alone; with a value or a default too
bound_alone : {names : Tables} {c : Allowed} {t : Tree} → IsBinding names c t → (n : Named) → bound_in t ≡ Some n → patterns.IsNamed names c n t × (is_free_name (printed_name names n) ≡ true)
bound_alone {names} (family.a_bound_name {a} h) n e = let s = same_Some (binding_named a) n e in (patterns.named_alone s, subst (λ m. is_free_name (printed_name names m) ≡ true) s h)
bound_alone (family.an_array_pattern v w) n e = no_name n e
bound_alone (family.an_object_pattern v w) n e = no_name n e

bound_with_value : {names : Tables} {c : Allowed} {t : Tree} (a : Atoms) (x : Tree) → Printed names c x → IsBinding names c t → (n : Named) → bound_in (tree.assignment_pattern a t x) ≡ Some n → patterns.IsNamed names c n (tree.assignment_pattern a t x) × (is_free_name (printed_name names n) ≡ true)
bound_with_value {names} a x f (family.a_bound_name {a = b} h) n e = let s = same_Some (binding_named b) n e in (patterns.named_with_value s f, subst (λ m. is_free_name (printed_name names m) ≡ true) s h)
bound_with_value a x f (family.an_array_pattern v w) n e = no_name n e
bound_with_value a x f (family.an_object_pattern v w) n e = no_name n e

target_alone : {names : Tables} {c : Allowed} {t : Tree} → IsTarget names c t → (n : Named) → target_named t ≡ Some n → by_key.IsNamed names c n t × (is_free_name (printed_name names n) ≡ true)
target_alone {names} (family.a_simple_target s (family.a_reference {a} h)) n e = let x = same_Some (reference_named a) n e in (by_key.named_alone x, subst (λ m. is_free_name (printed_name names m) ≡ true) x h)
target_alone (family.a_simple_target s (family.a_named_member m v h)) n e = no_name n e
target_alone (family.a_simple_target s (family.a_private_member i m v h)) n e = no_name n e
target_alone (family.a_simple_target s (family.a_computed_member m v w)) n e = no_name n e
target_alone (family.a_simple_target s v) n e = no_truth s
target_alone (family.a_target_pattern (family.an_array_target v w)) n e = no_name n e
target_alone (family.a_target_pattern (family.an_object_target v w)) n e = no_name n e

target_with_value : {names : Tables} {c : Allowed} {t : Tree} (a : Atoms) (x : Tree) → Printed names c x → IsTarget names c t → (n : Named) → target_named (tree.target_with_default a t x) ≡ Some n → by_key.IsNamed names c n (tree.target_with_default a t x) × (is_free_name (printed_name names n) ≡ true)
target_with_value {names} a x f (family.a_simple_target s (family.a_reference {a = b} h)) n e = let y = same_Some (reference_named b) n e in (by_key.named_with_default y f, subst (λ m. is_free_name (printed_name names m) ≡ true) y h)
target_with_value a x f (family.a_simple_target s (family.a_named_member m v h)) n e = no_name n e
target_with_value a x f (family.a_simple_target s (family.a_private_member i m v h)) n e = no_name n e
target_with_value a x f (family.a_simple_target s (family.a_computed_member m v w)) n e = no_name n e
target_with_value a x f (family.a_simple_target s v) n e = no_truth s
target_with_value a x f (family.a_target_pattern (family.an_array_target v w)) n e = no_name n e
target_with_value a x f (family.a_target_pattern (family.an_object_target v w)) n e = no_name n e

mutual
  pub printed_expression : {names : Tables} {c : Allowed} {t : Tree} → IsExpression names c t → Printed names c t
  printed_expression {names} {c} (family.a_reference {a} h) = good_reference c a h
  printed_expression {names} {c} (family.a_this {a}) = good_this c a
  printed_expression {names} {c} (family.a_null {a}) = good_null c a
  printed_expression {names} {c} (family.a_boolean {a}) = good_boolean c a
  printed_expression {names} {c} (family.a_number {a} h) = good_number c a h
  printed_expression {names} {c} (family.a_big_integer {a} h) = good_big_integer c a h
  printed_expression {names} {c} (family.a_string {a} h) = good_string c a h
  printed_expression {names} {c} (family.a_regular_expression {a} s h f) = good_regular_expression c a s h f
  printed_expression {names} {c} (family.in_parentheses {a} {t} v) = good_parenthesized c a t (printed_expression v)
  printed_expression {names} {c} (family.an_operation {a} {l} {r} v w) = good_operation c a l r (asked v).unary (printed_expression v) (printed_expression w)
  printed_expression {names} {c} (family.a_logical_operation {a} {l} {r} v w) = good_logical_operation c a l r (printed_expression v) (printed_expression w) (asked v).mixed (asked w).mixed
  printed_expression {names} {c} (family.a_unary_operation {a} {t} v) = good_unary_operation c a t (printed_expression v)
  printed_expression {names} {c} (family.an_update {a} {t} s v) = good_update c a t (printed_target v s)
  printed_expression {names} {c} (family.a_construction {a} {f} {es} v w) = good_construction c a f es (printed_expression v) (printed_arguments w)
  printed_expression {names} {c} (family.a_new_target {a}) = good_new_target c a
  printed_expression {names} {c} (family.an_import_meta {a}) = good_import_meta c a
  printed_expression {names} {c} (family.an_import_call {a} {t} {m} v w) = good_import_call c a t m (printed_expression v) (printed_value w)
  printed_expression {names} {c} (family.a_named_member {a} {b} {o} m v h) = good_named_member c a b o m h (printed_link v)
  printed_expression {names} {c} (family.a_private_member {a} {b} {o} e m v h) = good_private_member c a b o e m h (printed_expression v)
  printed_expression {names} {c} (family.a_private_test {a} {b} {t} e h v) = good_private_test c a b t e h (printed_expression v)
  printed_expression {names} {c} (family.a_template_alone {a} h) = good_template_alone c a h
  printed_expression {names} {c} (family.a_template {a} {q} {r} {qs} {es} h v) = good_template c a q r qs es (λ shown. fits h shown refl) (λ shown. printed_pieces v shown refl)
  printed_expression {names} {c} (family.a_tagged_template {a} {t} {q} v w) = good_tagged_template c a t q (printed_expression v) (template_of w)
  printed_expression {names} {c} (family.a_computed_member {a} {o} {e} m v w) = good_computed_member c a o e m (printed_link v) (printed_expression w)
  printed_expression {names} {c} (family.a_call {a} {f} {es} m v w) = good_call c a f es m (printed_link v) (printed_arguments w)
  printed_expression {names} {c} (family.a_choice {a} {x} {y} {z} u v w) = good_choice c a x y z (printed_expression u) (printed_expression v) (printed_expression w)
  printed_expression {names} {c} (family.a_sequence {a} {t} {u} {ts} v w x) = good_sequence c a t u ts (printed_expression v) (printed_expression w) (printed_parts x)
  printed_expression {names} {c} (family.an_assignment {a} {t} {u} s v w) = good_assignment c a t u s (printed_target v s) (printed_expression w)
  printed_expression {names} {c} (family.an_assignment_to_pattern {a} {u} o (family.an_array_target {a = b} {es} {rest} v w) x) = targets.good_array_assignment c a b es rest u o (targets.good_array_target c b es rest (target_elements v) (target_rest w)) (printed_expression x)
  printed_expression {names} {c} (family.an_assignment_to_pattern {a} {u} o (family.an_object_target {a = b} {ps} {rest} v w) x) = targets.good_object_assignment c a b ps rest u o (targets.good_object_target c b ps rest (target_properties v) (simple_rest w)) (printed_expression x)
  printed_expression {names} {c} (family.a_chain {a} {t} v) = good_chain c a t (printed_chain v)
  printed_expression {names} {c} (family.an_array {a} {es} v) = good_array c a es (printed_elements v)
  printed_expression {names} {c} (family.an_object {a} {ps} v) = good_object c a ps (printed_properties v)
  printed_expression {names} {c} (family.an_arrow_function {a} {ps} {e} v w) = good_arrow_function c a ps e refl (asked w).begins (printed_parameters v) (printed_expression w)
  printed_expression {names} {c} (family.a_function {a} (family.some_function {ps} {body} h m n v w)) = good_function c a ps body h (refl, refl, m) n (group_of v) (body_of w)
  printed_expression {names} {c} (family.an_arrow_with_body {a} {b} {ps} {ds} {ss} v w) = good_arrow_with_body c a b ps ds ss refl (printed_parameters v) (body_of w)
  printed_expression {names} {c} (family.a_class (family.some_class {a} {b} {heritage} {ms} h d s n v w)) = good_class c a b heritage ms (h, d, s) n (printed_value v) (printed_members w)
  printed_expression {names} {c} (family.an_await {a} {t} h v) = good_await c a t h (printed_expression v)
  printed_expression {names} {c} (family.a_yield_alone {a} h m) = good_yield_alone c a h m
  printed_expression {names} {c} (family.a_yield {a} {t} h v) = good_yield c a t h (printed_expression v)

  -- the pieces of a template and the expressions between them, and a template behind its tag
  printed_pieces : {names : Tables} {c : Allowed} {tagged : Bool} {qs es : Trees} → ArePieces names c tagged qs es → (shown : Bool) → (tagged && not shown) ≡ false → PiecesPrinted names c shown tagged qs es
  printed_pieces (family.last_piece h v) shown n = last_printed (fits h shown n) (printed_expression v)
  printed_pieces (family.piece_before h v w) shown n = printed_before (fits h shown n) (printed_expression v) (printed_pieces w shown n)

  template_of : {names : Tables} {c : Allowed} {t : Tree} → IsTemplate names c t → TemplateOf names c t
  template_of {c = c} (family.a_whole_template {a} {q} h) = whole_template c a q (fits h true refl)
  template_of {c = c} (family.a_template_of_parts {a} {q} {r} {qs} {es} h v) = template_of_parts c a q r qs es (fits h true refl) (printed_pieces v true refl)

  -- parameters in parentheses, and a body in braces
  pub group_of : {names : Tables} {t : Tree} → IsParameters names in_parameters t → GroupOf names (ReadsParameters in_parameters) t
  group_of (family.all_parameters {a} {ps} {rest} v w) = good_group a ps rest (parameters_of v rest (printed_rest w))

  pub body_of : {names : Tables} {c : Allowed} {t : Tree} → IsBody names c t → BodyOf names c t
  body_of {c = c} (family.some_body {a} {ds} {ss} v w) = good_function_body c a ds ss (whole_body ds ss v (body_stated w))

  printed_parameters : {names : Tables} {t : Tree} → IsParameters names in_parameters t → ArrowParametersOf names t
  printed_parameters (family.all_parameters {a} {ps} {rest} v w) = good_arrow_parameters a ps rest (name_alone (family.all_parameters v w)) (parameters_of v rest (printed_rest w))

  parameters_of : {names : Tables} {c : Allowed} {ps : Trees} → AreParameters names c ps → (rest : Maybe) → RestOf names c rest → ParametersOf names c ps rest
  parameters_of {names} {c} family.no_parameter rest f = no_parameters c rest f
  parameters_of {names} {c} (family.first_parameter {t} {ts} v w) rest f = some_parameters c t ts rest (printed_parameter v) (more_parameters w) f

  more_parameters : {names : Tables} {c : Allowed} {ps : Trees} → AreParameters names c ps → MoreParametersOf names c ps
  more_parameters {names} {c} family.no_parameter = no_more_parameters c
  more_parameters {names} {c} (family.first_parameter {t} {ts} v w) = one_more_parameter c t ts (printed_parameter v) (more_parameters w)

  printed_parameter : {names : Tables} {c : Allowed} {t : Tree} → IsParameter names c t → ParameterOf names c t
  printed_parameter {names} {c} (family.a_parameter {a} {b} {m} h i j v w) = good_parameter c a b m h i j (printed_binding v) (printed_value w)

  printed_rest : {names : Tables} {c : Allowed} {rest : Maybe} → IsRest names c rest → RestOf names c rest
  printed_rest {names} {c} family.no_rest = tt
  printed_rest {names} {c} (family.a_rest {a} {b} v) = good_rest c a b (printed_binding v)

  printed_binding : {names : Tables} {c : Allowed} {t : Tree} → IsBinding names c t → Bound names c t
  printed_binding {names} {c} (family.a_bound_name {a} h) = good_bound_name c a h
  printed_binding {names} {c} (family.an_array_pattern {a} {es} {rest} v w) = patterns.good_array_pattern c a es rest (λ place. bound_elements v place) (λ place. bound_rest w place)
  printed_binding {names} {c} (family.an_object_pattern {a} {ps} {rest} v w) = patterns.good_object_pattern c a ps rest (λ place. bound_properties v place) (λ place. bound_name_of_rest c w place)

  bound_elements : {names : Tables} {c : Allowed} {es : Trees} → AreBindingElements names c es → (place : Place) → Each names (ReadsBindingElement (with_in c)) place es
  bound_elements family.no_binding_element place = tt
  bound_elements (family.first_binding_element v w) place = (at_any refl (bound_element v place), bound_elements w place)
  bound_elements (family.a_binding_elision v) place = bound_elements v place

  bound_element : {names : Tables} {c : Allowed} {t : Tree} → IsBindingElement names c t → patterns.ElementOf names c t
  bound_element {names} {c} (family.a_binding_alone {t} v) = patterns.element_alone c t (printed_binding v)
  bound_element {names} {c} (family.a_binding_with_value {a} {b} {v = e} v w) = patterns.element_with_value c a b e (printed_binding v) (printed_expression w)

  bound_rest : {names : Tables} {c : Allowed} {rest : Maybe} → IsBindingRest names c rest → patterns.RestOf names c rest
  bound_rest family.no_binding_rest place = tt
  bound_rest {names} {c} (family.a_binding_rest {a} {b} v) place = patterns.rest_element c a b (printed_binding v) place

  bound_properties : {names : Tables} {c : Allowed} {ps : Trees} → AreBindingProperties names c ps → (place : Place) → Every names (ReadsBindingProperty (with_in c)) place ps
  bound_properties family.no_binding_property place = tt
  bound_properties (family.first_binding_property v w) place = (bound_property v place, bound_properties w place)

  bound_property : {names : Tables} {c : Allowed} {t : Tree} → IsBindingProperty names c t → patterns.BoundProperty names c t
  bound_property {names} {c} (family.a_binding_property {a} {k} {v = x} n key v) = patterns.good_bound_property a x refl n key (printed_key key) (λ m e. bound_named v m e) (bound_element v)

  -- what is bound by a name alone
  bound_named : {names : Tables} {c : Allowed} {t : Tree} → IsBindingElement names c t → (n : Named) → bound_in t ≡ Some n → patterns.IsNamed names c n t × (is_free_name (printed_name names n) ≡ true)
  bound_named (family.a_binding_alone v) n e = bound_alone v n e
  bound_named (family.a_binding_with_value {a} {v = x} v w) n e = bound_with_value a x (printed_expression w) v n e

  -- what is given a value
  target_of : {names : Tables} {c : Allowed} {t : Tree} → IsTarget names c t → targets.TargetOf names c t
  target_of {c = c} (family.a_simple_target s v) = targets.simple_target_of c (printed_target v s)
  target_of {c = c} (family.a_target_pattern (family.an_array_target {a} {es} {rest} v w)) = targets.pattern_of c (targets.good_array_target c a es rest (target_elements v) (target_rest w))
  target_of {c = c} (family.a_target_pattern (family.an_object_target {a} {ps} {rest} v w)) = targets.pattern_of c (targets.good_object_target c a ps rest (target_properties v) (simple_rest w))

  target_element : {names : Tables} {c : Allowed} {t : Tree} → IsTargetElement names c t → targets.ElementOf names c t
  target_element {c = c} (family.a_target_alone {t} v) = targets.element_alone c t (target_of v)
  target_element {c = c} (family.a_target_with_default {a} {t} {v = x} (family.a_simple_target s v) w) = targets.simple_with_default c a t x (printed_target v s) (printed_expression w)
  target_element {c = c} (family.a_target_with_default {a} {v = x} (family.a_target_pattern (family.an_array_target {a = b} {es} {rest} v w)) y) = targets.pattern_with_default c a (tree.array_target b es rest) x (targets.good_array_target c b es rest (target_elements v) (target_rest w)) (printed_expression y)
  target_element {c = c} (family.a_target_with_default {a} {v = x} (family.a_target_pattern (family.an_object_target {a = b} {ps} {rest} v w)) y) = targets.pattern_with_default c a (tree.object_target b ps rest) x (targets.good_object_target c b ps rest (target_properties v) (simple_rest w)) (printed_expression y)

  target_elements : {names : Tables} {c : Allowed} {es : Trees} → AreTargetElements names c es → targets.ElementsOf names c es
  target_elements family.no_target_element = tt
  target_elements (family.first_target_element v w) = (at_any refl (target_element v), target_elements w)
  target_elements (family.a_target_elision v) = target_elements v

  target_rest : {names : Tables} {c : Allowed} {rest : Maybe} → IsTargetRest names c rest → targets.RestOf names c rest
  target_rest family.no_target_rest = tt
  target_rest {c = c} (family.a_target_rest {a} {t} v) = targets.rest_of c a t (target_of v)

  simple_rest : {names : Tables} {c : Allowed} {rest : Maybe} → IsSimpleRest names c rest → targets.SimpleRestOf names c rest
  simple_rest family.no_simple_rest = tt
  simple_rest {c = c} (family.a_simple_rest {a} {t} s v) = targets.simple_rest_of c a t (printed_target v s)

  target_properties : {names : Tables} {c : Allowed} {ps : Trees} → AreTargetProperties names c ps → targets.PropertiesOf names c ps
  target_properties family.no_target_property = tt
  target_properties (family.first_target_property v w) = (target_property v (in_brackets levels.Comma), target_properties w)

  target_property : {names : Tables} {c : Allowed} {t : Tree} → IsTargetProperty names c t → by_key.TargetProperty names c t
  target_property {c = c} (family.a_target_name {a} {b} {m} h f v) = by_key.good_own_name c a b m h f (printed_value v)
  target_property {c = c} (family.a_target_property {a} {t = x} n key v) = by_key.good_target_property a x refl n key (printed_key key) (λ m e. named_target_of v m e) (target_element v)

  -- a name alone, with a default or without one
  named_target_of : {names : Tables} {c : Allowed} {t : Tree} → IsTargetElement names c t → (n : Named) → target_named t ≡ Some n → by_key.IsNamed names c n t × (is_free_name (printed_name names n) ≡ true)
  named_target_of (family.a_target_alone v) n e = target_alone v n e
  named_target_of (family.a_target_with_default {a} {v = x} v w) n e = target_with_value a x (printed_expression w) v n e

  pub printed_value : {names : Tables} {c : Allowed} {m : Maybe} → IsValue names c m → PrintedIfGiven names c m
  printed_value {names} {c} family.no_value = tt
  printed_value {names} {c} (family.a_value v) = printed_expression v

  printed_parts : {names : Tables} {c : Allowed} {ts : Trees} → AreParts names c ts → MorePartsAt names c ts
  printed_parts {names} {c} family.no_part = no_more_parts c
  printed_parts {names} {c} (family.first_part {t} {ts} v w) = one_more_part c t ts (printed_expression v) (printed_parts w)

  pub printed_target : {names : Tables} {c : Allowed} {t : Tree} → IsExpression names c t → is_simple_assignment_target (type_of t) ≡ true → TargetPrinted names c t
  printed_target {names} {c} (family.a_reference {a} h) s = reference_target c a h
  printed_target {names} {c} (family.a_named_member {a} {b} {o} m v h) s = named_target c a b o m h (printed_link v)
  printed_target {names} {c} (family.a_private_member {a} {b} {o} e m v h) s = private_target c a b o e m h (printed_expression v)
  printed_target {names} {c} (family.a_computed_member {a} {o} {e} m v w) s = computed_target c a o e m (printed_link v) (printed_expression w)
  printed_target v s = no_truth s

  printed_chain : {names : Tables} {c : Allowed} {t : Tree} → IsChain names c t → ChainPrinted names c t
  printed_chain {names} {c} (family.an_optional_named_member {a} {b} {o} m v h) = optional_named_member c a b o m h (printed_base v)
  printed_chain {names} {c} (family.an_optional_private_member {a} {b} {o} e m v h) = optional_private_member c a b o e m h (printed_base v)
  printed_chain {names} {c} (family.a_further_private_member {a} {b} {o} e m v h) = further_private_member c a b o e m h (printed_chain v)
  printed_chain {names} {c} (family.an_optional_computed_member {a} {o} {e} m v w) = optional_computed_member c a o e m (printed_base v) (printed_expression w)
  printed_chain {names} {c} (family.an_optional_call {a} {f} {es} m v w) = optional_call c a f es m (printed_base v) (printed_arguments w)
  printed_chain {names} {c} (family.a_further_named_member {a} {b} {o} m v h) = further_named_member c a b o m h (printed_chain v)
  printed_chain {names} {c} (family.a_further_computed_member {a} {o} {e} m v w) = further_computed_member c a o e m (printed_chain v) (printed_expression w)
  printed_chain {names} {c} (family.a_further_call {a} {f} {es} m v w) = further_call c a f es m (printed_chain v) (printed_arguments w)

  printed_base : {names : Tables} {c : Allowed} {t : Tree} → IsChainBase names c t → BasePrinted names c t
  printed_base {names} {c} (family.a_first_link {t} v) = base_expression c t (printed_expression v)
  printed_base {names} {c} (family.a_further_link {t} v) = base_chain c t (printed_chain v)

  printed_link : {names : Tables} {c : Allowed} {t : Tree} → IsLink names c t → LinkPrinted names c t
  printed_link {names} {c} (family.a_super {a}) = link_super c a
  printed_link {names} {c} (family.an_operand {t} v) = link_expression c t (printed_expression v)

  printed_arguments : {names : Tables} {c : Allowed} {es : Trees} → AreArguments names c es → ArgumentsAt names c es
  printed_arguments {names} {c} family.no_argument = no_arguments c
  printed_arguments {names} {c} (family.first_argument {e} {es} v w) = first_of_arguments c e es (printed_element v) (behind_first w)

  behind_first : {names : Tables} {c : Allowed} {es : Trees} → AreArguments names c es → BehindFirstAt names c es
  behind_first {names} {c} family.no_argument = none_behind_first c
  behind_first {names} {c} (family.first_argument {e} {es} v w) = one_more_argument c e es (printed_element v) (behind_first w)

  printed_properties : {names : Tables} {c : Allowed} {ps : Trees} → AreProperties names c ps → PropertiesOf names c ps
  printed_properties {names} {c} family.no_property = no_properties c
  printed_properties {names} {c} (family.first_property {t} {ts} v w) = first_of_properties c t ts (printed_property v) (printed_properties w)

  printed_property : {names : Tables} {c : Allowed} {t : Tree} → IsProperty names c t → PropertyOf names c t
  printed_property {names} {c} (family.a_spread_property {a} {e} v) = good_spread_property c a e (printed_expression v)
  printed_property {names} {c} (family.a_property {computed} {a} {k} {v = x} m d key f value) = good_property c a computed k x m d f key value (printed_key key) (printed_expression value)
  printed_property {names} {c} (family.a_method {computed} {a} {b} {k} {ps} {body} m d key f q (family.some_function h n x v w)) = good_method c a b k ps body m (subst (λ y. KeyOf names c y k) (sym d) (printed_key key)) h (refl, refl, n) q (groups_of v (object_property_kind a) f) (body_of w)

  pub printed_members : {names : Tables} {c : Allowed} {ms : Trees} → AreMembers names c ms → MembersOf names c ms
  printed_members {c = c} family.no_member = no_members c
  printed_members {c = c} (family.first_member {t} {ts} v w) = one_more_member c t ts (printed_member v) (printed_members w)

  printed_member : {names : Tables} {c : Allowed} {t : Tree} → IsMember names c t → MemberOf names c t
  printed_member {c = c} (family.a_member_method {a} {b} {k} {ps} {body} p key f q (family.some_function h m x v w)) = good_member_method c a b k ps body p (member_key key) h (refl, refl, m) q (groups_of v (as_property (method_definition_kind a)) f) (body_of w)
  printed_member {c = c} (family.a_field {a} {k} {m} p key v) = good_field c a k m p (member_key key) (printed_value v)
  printed_member {c = c} (family.a_static_block {a} {ss} v) = good_static_block c a ss (rows v).0

  member_key : {names : Tables} {c : Allowed} {computed : Bool} {t : Tree} → IsMemberKey names c computed t → MemberKeyAt names c true computed t
  member_key {c = c} (family.a_public_key {computed} {k} n v) = class_key c computed k n (printed_key v)
  member_key {c = c} (family.a_private_key {a} e h) = private_key c a e h

  -- a getter takes nothing, and a setter one parameter
  groups_of : {names : Tables} {t : Tree} → IsParameters names in_parameters t → (kind : PropertyKind) → fits_accessor kind t ≡ true → GroupsOf names kind t
  groups_of (family.all_parameters {a} {ps} {rest} v w) property_kinds.Init f = good_group a ps rest (parameters_of v rest (printed_rest w))
  groups_of (family.all_parameters {a} family.no_parameter family.no_rest) property_kinds.Get f = empty_group a
  groups_of (family.all_parameters family.no_parameter (family.a_rest v)) property_kinds.Get f = no_truth f
  groups_of (family.all_parameters (family.first_parameter v w) x) property_kinds.Get f = no_truth f
  groups_of (family.all_parameters family.no_parameter x) property_kinds.Set f = no_truth f
  groups_of (family.all_parameters {a} (family.first_parameter {t} v family.no_parameter) family.no_rest) property_kinds.Set f = group_of_one a t (printed_parameter v)
  groups_of (family.all_parameters (family.first_parameter v family.no_parameter) (family.a_rest w)) property_kinds.Set f = no_truth f
  groups_of (family.all_parameters (family.first_parameter v (family.first_parameter w x)) y) property_kinds.Set f = no_truth f

  printed_key : {names : Tables} {c : Allowed} {computed : Bool} {t : Tree} → IsKey names c computed t → KeyOf names c computed t
  printed_key {names} {c} (family.a_name_key {a} h) = good_name_key c a h
  printed_key {names} {c} (family.a_string_key {a} h) = good_string_key c a h
  printed_key {names} {c} (family.a_number_key {a} h) = good_number_key c a h
  printed_key {names} {c} (family.a_big_integer_key {a} h m) = good_big_integer_key c a h m
  printed_key {names} {c} (family.a_computed_key {t} v) = good_computed_key v (printed_expression v)

  printed_elements : {names : Tables} {c : Allowed} {es : Trees} → AreElements names c es → ElementsOf names c es
  printed_elements {names} {c} family.no_element = no_elements c
  printed_elements {names} {c} (family.first_element {e} {es} v w) = first_of_elements c e es (printed_element v) (printed_elements w)
  printed_elements {names} {c} (family.an_elision {es} v) = left_out_of_elements c es (printed_elements v)

  pub printed_element : {names : Tables} {c : Allowed} {e : Tree} → IsElement names c e → ElementOf names c e
  printed_element {names} {c} (family.an_element {e} v) = good_element c e (printed_expression v)
  printed_element {names} {c} (family.a_spread {a} {e} v) = good_spread c a e (printed_expression v)

  pub stated : {names : Tables} {c : Allowed} {t : Tree} → IsStatement names c t → Stated names c t
  stated {names} {c} (family.an_expression_statement {a} {e} v) = good_expression_statement c a e (printed_expression v)
  stated {names} {c} (family.an_empty_statement {a}) = good_empty c a
  stated {names} {c} (family.a_block {a} {ss} v) = good_block c a ss ((rows v).0)
  stated {names} {c} (family.an_if {a} {t} {s} v w) = good_if c a t s (printed_expression v) (normal_open w) (empty_alone w) (stated w)
  stated {names} {c} (family.an_if_with_else {a} {t} {s} {u} v w x) = good_if_with_else c a t s u (printed_expression v) (normal_open w) (empty_alone w) (stated w) (empty_alone x) (stated x)
  stated {names} {c} (family.a_variable_statement {a} {ds} h m v) = good_variable_statement c a ds h (variables_from c a ds m (list_declared v))
  stated {names} {c} (family.a_while {a} {t} {s} v w) = good_while c a t s (printed_expression v) (empty_alone w) (stated w)
  stated {names} {c} (family.a_do_while {a} {s} {t} v w) = good_do_while c a s t (empty_alone v) (stated v) (printed_expression w)
  stated {names} {c} (family.a_labelled_statement {a} {b} {s} h v) = good_labelled c a b s h (empty_alone v) (stated v)
  stated {names} {c} (family.a_continue {a} v) = good_continue c a v
  stated {names} {c} (family.a_break {a} v) = good_break c a v
  stated {names} {c} (family.a_throw {a} {e} v) = good_throw c a e (printed_expression v)
  stated {names} {c} (family.a_debugger {a}) = good_debugger c a
  stated {names} {c} (family.a_for {a} {init} {test} {update} {s} v w x y) = good_for c a init test update s (printed_init v) (printed_value w) (printed_value x) (empty_alone y) (stated y)
  stated {names} {c} (family.a_for_in {a} {l} {e} {s} v w x) = good_for_in c a l e s (printed_left v) (printed_expression w) (empty_alone x) (stated x)
  stated {names} {c} (family.a_for_of {a} {l} {e} {s} m v w x) = good_for_of c a l e s refl m (printed_left v) (printed_expression w) (empty_alone x) (stated x)
  stated {names} {c} (family.a_switch {a} {e} {cases} v w) = good_switch c a e cases (printed_expression v) (cases_of w)
  stated {names} {c} (family.a_try {a} {t} {handler} {finalizer} v w) = good_try c a t handler finalizer (block_of v) (ends_of w)
  stated {names} {c} (family.a_return {a} {m} h v) = good_return c a m h (printed_value v)

  -- declarators, as a list and as more of one
  declared : {names : Tables} {c : Allowed} {t : Tree} → IsDeclarator names c t → (place : Place) → DeclaredAt names c place t
  declared {names} {c} (family.a_declared_alone {a} {b} h v) place = good_declared_alone c a b h (printed_binding v) place
  declared {names} {c} (family.a_declared_with_value {a} {b} {v} h w x) place = good_declared_with_value c a b v h (printed_binding w) (printed_expression x) place

  pub list_declared : {names : Tables} {c : Allowed} {ds : Trees} → AreDeclarators names c ds → (place : Place) → ListDeclaredAt names c place ds × MoreDeclaredAt names c place ds
  list_declared {names} {c} (family.last_declarator {d} v) place = last_declared c d place (declared v place)
  list_declared {names} {c} (family.first_declarator {d} {e} {ds} v w) place = first_declared c d (more e ds) place (declared v place) (list_declared w place).1

  -- the heads of loops
  printed_init : {names : Tables} {c : Allowed} {m : Maybe} → IsInit names c m → InitOf names c m
  printed_init {c = c} family.no_init = no_init c
  printed_init {c = c} (family.first_variables {a} {ds} m v) = init_variables c a ds (variables_from c a ds m (list_declared v))
  printed_init {c = c} (family.first_expression {t} v) = init_expression c t (printed_expression v)

  printed_left : {names : Tables} {c : Allowed} {t : Tree} → IsLeft names c t → LeftOf names c t
  printed_left {c = c} (family.a_declared_name {a} {b} {t} m n v) = left_declared c a b t m n (printed_binding v)
  printed_left (family.a_target s v) = left_target v s (printed_target v s)
  printed_left {c = c} (family.a_left_pattern (family.an_array_target {a} {es} {rest} v w)) = left_array c a es rest (targets.good_array_target c a es rest (target_elements v) (target_rest w))
  printed_left {c = c} (family.a_left_pattern (family.an_object_target {a} {ps} {rest} v w)) = left_object c a ps rest (targets.good_object_target c a ps rest (target_properties v) (simple_rest w))

  cases_of : {names : Tables} {c : Allowed} {default : Bool} {ts : Trees} → AreCases names c default ts → CasesOf names c default ts
  cases_of {names} {c} (family.no_case {default}) = no_cases c default
  cases_of {names} {c} (family.first_case {default} {rest} {t} {ts} v w) = more_cases c default rest t ts (case_of v) (cases_of w)

  case_of : {names : Tables} {c : Allowed} {default rest : Bool} {t : Tree} → IsCase names c default rest t → CaseOf names c default rest t
  case_of {names} {c} (family.a_case {default} {a} {t} {ss} v w) = good_case c default a t ss (printed_expression v) (consequents w)
  case_of {names} {c} (family.a_default {a} {ss} v) = good_default c a ss (consequents v)

  consequents : {names : Tables} {c : Allowed} {ss : Trees} → AreStatements names c ss → ConsequentOf names c ss
  consequents {names} {c} family.no_statement = no_consequent c
  consequents {names} {c} (family.first_statement {s} {ss} v w) = some_consequents c s ss (only v) (row_more s ss (spell s among_statements) (spell_statements ss) (listed v) (rows w).1)

  only : {names : Tables} {c : Allowed} {t : Tree} → IsItem names c t → OnlyOf names c t
  only {names} {c} {t} (family.a_statement v) = only_statement c t (empty_alone v) (stated v)
  only {names} {c} (family.a_function_declaration {a} {id} (family.some_function {ps} {body} h m n v w)) = only_declaration c (tree.function a id ps (given body)) refl (good_declaration c a ps body h (refl, refl, m) n (group_of v) (body_of w))
  only {names} {c} (family.a_class_declaration {id} (family.some_class {a} {b} {heritage} {ms} h d s n v w)) = only_declaration c (tree.class a id heritage (tree.class_body b ms)) refl (good_class_declaration c a b heritage ms (h, d, s) n (printed_value v) (printed_members w))
  only {names} {c} (family.a_declaration {a} {ds} h m v) = only_declaration c (tree.variable_declaration a ds) refl (listed_declaration c a ds h (variables_from c a ds m (list_declared v)))

  ends_of : {names : Tables} {c : Allowed} {handler finalizer : Maybe} → AreEndsOfTry names c handler finalizer → EndsOf names c handler finalizer
  ends_of {names} {c} (family.a_handler {h} v) = handler_alone c h (handler_of v)
  ends_of {names} {c} (family.a_finalizer {f} v) = finalizer_alone c f (good_finally c f (block_of v))
  ends_of {names} {c} (family.a_handler_and_a_finalizer {h} {f} v w) = handler_and_finalizer c h f (handler_of v) (good_finally c f (block_of w))

  handler_of : {names : Tables} {c : Allowed} {t : Tree} → IsHandler names c t → HandlerOf names c t
  handler_of {names} {c} (family.a_catch {a} {t} v) = good_catch c a t (block_of v)
  handler_of {names} {c} (family.a_catch_by_name {a} {n} {t} v w) = good_catch_by_name c a n t (printed_binding v) (block_of w)

  block_of : {names : Tables} {c : Allowed} {t : Tree} → IsBlock names c t → BlockOf names c t
  block_of {names} {c} (family.some_block {a} {ss} v) = some_block c a ss ((rows v).0)

  pub listed : {names : Tables} {c : Allowed} {t : Tree} → IsItem names c t → Listed names c t
  listed {t = t} (family.a_statement v) = listed_statement t (stated v)
  listed {c = c} (family.a_function_declaration {a} (family.some_function {ps} {body} h m n v w)) = good_declaration c a ps body h (refl, refl, m) n (group_of v) (body_of w)
  listed {c = c} (family.a_class_declaration (family.some_class {a} {b} {heritage} {ms} h d s n v w)) = good_class_declaration c a b heritage ms (h, d, s) n (printed_value v) (printed_members w)
  listed {c = c} (family.a_declaration {a} {ds} h m v) = listed_declaration c a ds h (variables_from c a ds m (list_declared v))

  -- as a whole row, and as the rest of one
  pub rows : {names : Tables} {c : Allowed} {ss : Trees} → AreStatements names c ss → RowAt names c (spell_statements ss) ss × RestAt names c (spell_statements ss) ss
  rows {names} {c} family.no_statement = (row_none (λ e. grammar.no_statement), rest_none (statements_join c))
  rows {names} {c} (family.first_statement {s} {ss} v w) =
      let f = listed v in
      let r = (rows w).1 in
      (row_more s ss (spell s among_statements) (spell_statements ss) f r, rest_more (statements_join c) s ss (spell s among_statements) (spell_statements ss) f r)

  -- the statements of a body, of which the first is read as no directive
  pub body_stated : {names : Tables} {c : Allowed} {ss : Trees} → AreStatements names c ss → BodyAt names c (spell_body ss) ss
  body_stated {c = c} family.no_statement = no_body c
  body_stated {c = c} (family.first_statement {s} {ss} v w) = some_body c s ss (first_stated v (listed v)) (rows w).1
