-- Why a valid tree is of the families over which the induction goes: one lemma a row.
use Rattle.std.proofs.Common.{◌≡◌, ℕ, nat_lt, Bool, true, false, ◌&&◌, ◌||◌, ◌++◌, List, [], ◌∷◌, refl, not}
use Rattle.std.proofs.lemmas.Bool.{and_parts, or_parts, not-true}
use Rattle.jsgen_tree.specs.Tree.{Tree, node, Slots, no_slots, one, maybe, many, maybe_many, Maybe, absent, given, Trees, no_trees, more, hole, MaybeTrees, no_list, listed, Atoms, type_of, span_of}
use Rattle.jsgen_tree.specs.Nodes as tree
use Rattle.jsgen_tree.specs.Values.{numeric_literal_kind, numeric_literal_text, variable_declaration_declare, variable_declarator_definite, for_of_statement_is_await, static_member_expression_optional, computed_member_expression_optional, call_expression_optional, formal_parameter_is_override, formal_parameter_readonly, formal_parameter_optional, arrow_function_expression_is_async, assignment_expression_operator, function_is_async, function_generator, yield_expression_delegate, reg_exp_literal_pattern, reg_exp_literal_flags}
use Rattle.jsgen_model.specs.RegularExpressions.{is_body, are_flags}
use Rattle.jsgen_tree.specs.Inside.{reference_named, has_optional_link}
use Rattle.jsgen_tree.specs.Everywhere.{EverywhereIfGiven, EverywhereInTrees}
use Rattle.jsgen_tree.specs.Sets.{is_variable_declarator, is_formal_parameter, is_formal_parameters, is_for_statement_left, is_block_statement, is_catch_clause, is_function_body, is_formal_parameter_rest, is_assignment_target}
use Rattle.jsgen_tree.specs.declared.types.NodeType.TheVariants as types
use Rattle.jsgen_tree.specs.declared.types.NodeSet.TheVariants as sets
use Rattle.jsgen_model.specs.declared.fault.TreeFault.{TreeFault}
use Rattle.jsgen_model.specs.declared.fault.TreeFault.TheVariants as faults
use Rattle.jsgen_model.specs.Plain.{has_core_flags, has_no_hole}
use Rattle.jsgen_row_laws.proofs.CoreIn.{IsCoreIn, is_core_row}
use Rattle.jsgen_tree.specs.declared.functions.FunctionKind.TheVariants as kinds
use Rattle.jsgen_tree.specs.declared.classes.ClassKind.TheVariants as class_kinds
use Rattle.jsgen_model.specs.Valid.{Surroundings, ChildPlace, within_nothing, within_function, within_arrow, within_braces, await_faults, yield_faults, breaches, in_maybe, in_trees, fits_kind, set_faults, span_faults, body_faults, name_faults, number_faults, declaration_faults, sequence_faults, super_faults, chain_faults, target_faults, is_one_name, any_lacks_value, lacking, lacks_value, left_faults, init_faults, defaults, switch_faults, try_faults, function_faults, return_faults, assigned_faults, assigns_alone, is_target_pattern, regular_expression_faults}
use Rattle.jsgen_row_laws.proofs.Families.{allowed_in, IsExpression, AreParts, IsChain, AreProperties, IsKey, AreArguments, AreElements, IsParameters, AreParameters, IsParameter, IsValue, IsDeclarator, AreDeclarators, IsStatement, IsInit, IsLeft, AreCases, AreEndsOfTry, IsHandler, IsBlock, IsItem, AreStatements, IsBody, IsRest, IsBindingElement, AreBindingElements, IsBindingRest, AreBindingProperties, IsBindingProperty, IsTarget, IsTargetElement, AreTargetElements, IsTargetRest, AreTargetProperties, IsTargetProperty}
use Rattle.jsgen_row_laws.proofs.Families as family
use Rattle.jsgen_reading_laws.proofs.ValidPrivate.{private_member_valid, private_link_valid, private_test_valid}
use Rattle.jsgen_reading_laws.proofs.ValidPatterns.{ValidItem, Below, BelowSlots, BelowIfGiven, EachBelow, BelowIfListed, ValidExpression, binding_valid, target_valid}
use Rattle.jsgen_reading_laws.proofs.ValidClasses.{class_valid}
use Rattle.jsgen_row_laws.proofs.Faultless.{awaited, yielded_alone, none_both, none_if, none_unless, parts, stands_at, standing, placed, placed_statement, is_own_statement, no_truth, no_truth_behind, unset, member_valid, arrow_parts, target_stands, target_fits, declared_alone, none_but_declarator, not_one_name, assignment_valid, left_as_element, left_since, link_valid, base_valid, big_valued, number_valued, link_kind, free_since, placed_if_given, bodiless, init_parts, label_valid, jump_valid, variables_are, body_valid, one_less, none_left_out, none_among_cases, ends_of_try, StandsAt, place_of, most, HandlerIfGiven, FinalizerIfGiven, function_parts, braces_parts, variables_parts, unset, function_fits, is_own_statement}
use Rattle.jsgen_row_laws.proofs.FaultlessClasses.{class_fits}
use Rattle.jsgen_reading_laws.proofs.ValidTemplates.{template_valid, tagged_template_valid}
use Rattle.jsgen_reading_laws.proofs.ValidLists.{sequence_valid, arguments_valid, properties_valid, elements_valid}

mutual
  pub expression_valid : (next : ℕ) (around : Surroundings) (t : Tree) → IsCoreIn around.tables t → StandsAt sets.Expression t → breaches around next t ≡ [] → IsExpression around.tables (allowed_in around) t
  expression_valid next around (tree.identifier_reference a) p s e = family.a_reference (free_since around a.span (reference_named a) (parts (span_faults around a.span) (name_faults around.tables a.span (reference_named a)) [] e).0)
  expression_valid next around (tree.this_expression a) p s e = family.a_this
  expression_valid next around (tree.null_literal a) p s e = family.a_null
  expression_valid next around (tree.boolean_literal a) p s e = family.a_boolean
  expression_valid next around (tree.numeric_literal a) p s e = family.a_number (number_valued (numeric_literal_kind a) a p.0 (parts (span_faults around a.span) (number_faults a.span (numeric_literal_kind a) (numeric_literal_text a)) [] e).0)
  expression_valid next around (tree.big_int_literal a) p s e = family.a_big_integer (big_valued next around a e)
  expression_valid next around (tree.string_literal a) p s e = family.a_string p.0
  expression_valid next around (tree.reg_exp_literal a) p s e =
      let h = parts (span_faults around a.span) (regular_expression_faults a.span (reg_exp_literal_pattern a) (reg_exp_literal_flags a)) [] e in
      let k = and_parts (is_body (reg_exp_literal_pattern a)) (are_flags (reg_exp_literal_flags a)) (none_unless _ (faults.Literal a.span.start) h.0) in
      family.a_regular_expression p.0 k.0 k.1
  expression_valid next around (tree.parenthesized a t) p s e =
      let k = standing _ around sets.Expression t [] (parts (span_faults around a.span) [] _ e).1 in
      family.in_parentheses (expression_valid _ around t p.1.0 k.0 k.1)
  expression_valid next around (tree.binary a l r) p s e =
      let k = standing _ around sets.Expression l _ (parts (span_faults around a.span) [] _ e).1 in
      let j = standing _ around sets.Expression r [] k.2 in
      family.an_operation (expression_valid _ around l p.1.0 k.0 k.1) (expression_valid _ around r p.1.1.0 j.0 j.1)
  expression_valid next around (tree.logical a l r) p s e =
      let k = standing _ around sets.Expression l _ (parts (span_faults around a.span) [] _ e).1 in
      let j = standing _ around sets.Expression r [] k.2 in
      family.a_logical_operation (expression_valid _ around l p.1.0 k.0 k.1) (expression_valid _ around r p.1.1.0 j.0 j.1)
  expression_valid next around (tree.static_member a o n) p s e =
      let k = standing _ around sets.Link o _ (parts (span_faults around a.span) (super_faults (static_member_expression_optional a) o) _ e).1 in
      let j = placed _ around sets.IdentifierName n [] k.2 in
      let h = or_parts (static_member_expression_optional a) (has_optional_link o) s.1 in
      member_valid _ around n (λ x. IsExpression around.tables (allowed_in around) (tree.static_member a o x)) p.1.1.0 j.0 j.1 (λ b y. family.a_named_member h.0 (link_valid (allowed_in around) o p.1.0 k.0 h.1 (λ x. expression_valid _ around o p.1.0 x k.1)) y)
  expression_valid next around (tree.computed_member a o x) p s e =
      let k = standing _ around sets.Link o _ (parts (span_faults around a.span) (super_faults (computed_member_expression_optional a) o) _ e).1 in
      let j = standing _ around sets.Expression x [] k.2 in
      let h = or_parts (computed_member_expression_optional a) (has_optional_link o) s.1 in
      family.a_computed_member h.0 (link_valid (allowed_in around) o p.1.0 k.0 h.1 (λ x. expression_valid _ around o p.1.0 x k.1)) (expression_valid _ around x p.1.1.0 j.0 j.1)
  expression_valid next around (tree.call a f es) p s e =
      let k = standing _ around sets.Link f _ (parts (span_faults around a.span) (super_faults (call_expression_optional a) f) _ e).1 in
      let j = none_both (in_trees around (place_of sets.Argument around ∷ []) _ es) [] k.2 in
      let h = or_parts (call_expression_optional a) (has_optional_link f) s.1 in
      family.a_call h.0 (link_valid (allowed_in around) f p.1.0 k.0 h.1 (λ x. expression_valid _ around f p.1.0 x k.1)) (arguments_valid _ around es (expressions_in_trees es) p.0 p.1.1.0 j.0)
  expression_valid next around (tree.chain a t) p s e =
      let h = parts (span_faults around a.span) (chain_faults a.span t) _ e in
      let k = placed _ around sets.ChainElement t [] h.1 in
      family.a_chain (chain_valid _ around t p.1.0 k.1 (none_unless (has_optional_link t) (faults.Place a.span.start) h.0))
  expression_valid next around (tree.array a es) p s e =
      let j = none_both (in_trees around (place_of sets.ArrayExpressionElement around ∷ []) _ es) [] (parts (span_faults around a.span) [] _ e).1 in
      family.an_array (elements_valid _ around es (expressions_in_trees es) p.1.0 j.0)
  expression_valid next around (tree.unary a t) p s e =
      let k = standing _ around sets.Expression t [] (parts (span_faults around a.span) [] _ e).1 in
      family.a_unary_operation (expression_valid _ around t p.1.0 k.0 k.1)
  expression_valid next around (tree.update a t) p s e =
      let h = parts (span_faults around a.span) (target_faults t) _ e in
      let k = placed _ around sets.SimpleAssignmentTarget t [] h.1 in
      family.an_update k.0 (expression_valid _ around t p.1.0 (target_stands (type_of t) k.0, none_if (has_optional_link t) (faults.Place (span_of t).start) h.0, target_fits t k.0) k.1)
  expression_valid next around (tree.new_expression a f es) p s e =
      let k = standing _ around sets.Expression f _ (parts (span_faults around a.span) [] _ e).1 in
      let j = none_both (in_trees around (place_of sets.Argument around ∷ []) _ es) [] k.2 in
      family.a_construction (expression_valid _ around f p.1.0 k.0 k.1) (arguments_valid _ around es (expressions_in_trees es) p.0 p.1.1.0 j.0)
  expression_valid next around (tree.new_target a) p s e = family.a_new_target
  expression_valid next around (tree.import_meta a) p s e = family.an_import_meta
  expression_valid next around (tree.import_call a t m) p s e =
      let k = standing _ around sets.Expression t _ (parts (span_faults around a.span) [] _ e).1 in
      let j = none_both (in_maybe around (place_of sets.Expression around ∷ []) _ m) [] k.2 in
      family.an_import_call (expression_valid _ around t p.1.0 k.0 k.1) (value_valid _ around [] m p.1.1.0 j.0)
  expression_valid next around (tree.object_expression a ps) p s e =
      let j = none_both (in_trees around (place_of sets.ObjectPropertyKind around ∷ []) _ ps) [] (parts (span_faults around a.span) [] _ e).1 in
      family.an_object (properties_valid _ around ps (expressions_in_trees ps) p.0 p.1.0 j.0)
  expression_valid next around (tree.conditional a x y z) p s e =
      let k = standing _ around sets.Expression x _ (parts (span_faults around a.span) [] _ e).1 in
      let j = standing _ around sets.Expression y _ k.2 in
      let i = standing _ around sets.Expression z [] j.2 in
      family.a_choice (expression_valid _ around x p.1.0 k.0 k.1) (expression_valid _ around y p.1.1.0 j.0 j.1) (expression_valid _ around z p.1.1.1.0 i.0 i.1)
  expression_valid next around (tree.sequence a ts) p s e =
      let h = parts (span_faults around a.span) (sequence_faults a.span ts) _ e in
      let j = none_both (in_trees around (place_of sets.Expression around ∷ []) _ ts) [] h.1 in
      sequence_valid _ around a ts (expressions_in_trees ts) p.0 p.1.0 h.0 j.0
  expression_valid next around (tree.assignment a t u) p s e =
      let h = parts (span_faults around a.span) (assigned_faults (assignment_expression_operator a) t) _ e in
      let k = placed _ around sets.AssignmentTarget t _ h.1 in
      let j = standing _ around sets.Expression u [] k.2 in
      let barred : Bool = not (assigns_alone (assignment_expression_operator a)) && is_target_pattern (type_of t) in
      let unlinked = or_parts (has_optional_link t) barred (none_if (has_optional_link t || barred) (faults.Place (span_of t).start) h.0) in
      let target = target_valid _ around t (expressions_below t) p.1.0 k.0 unlinked.0 k.1 (λ y. expression_valid _ around t p.1.0 y k.1) in
      assignment_valid target unlinked.1 (expression_valid _ around u p.1.1.0 j.0 j.1)
  expression_valid next around (tree.arrow_function a ps (tree.function_body b ds ss)) p s e =
      let outside : Surroundings = within_nothing around in
      let within : Surroundings = within_arrow (arrow_function_expression_is_async a) around in
      let k = placed _ outside sets.FormalParameters ps _ (parts (span_faults around a.span) [] _ e).1 in
      let j = standing _ within sets.ArrowFunctionBody (tree.function_body b ds ss) [] k.2 in
      let i = braces_parts _ within b ds ss p.1.1.0 j.1 in
      family.an_arrow_with_body (parameters_valid _ outside ps p.1.0 k.0 k.1) (family.some_body i.0 (items_valid _ (within_braces within) ss i.1 i.2 i.3.1))
  expression_valid next around (tree.arrow_function a ps (node types.FunctionBody b slots)) p s e = absurd (no_truth p.1.1.0.0)
  expression_valid next around (tree.arrow_function a ps t) p s e =
      let k = arrow_parts next around a ps t p refl e in
      family.an_arrow_function (parameters_valid k.parameters.0 (within_nothing around) ps k.core_parameters k.are_parameters k.parameters.1) (expression_valid k.body.0 (within_arrow (arrow_function_expression_is_async a) around) t k.core_body k.stands k.body.1)
  expression_valid next around (tree.await_expression a t) p s e =
      let h = parts (span_faults around a.span) (await_faults true around.may_await a.span) _ e in
      let k = standing _ around sets.Expression t [] h.1 in
      family.an_await (none_unless around.may_await (faults.Place a.span.start) h.0) (expression_valid _ around t p.1.0 k.0 k.1)
  expression_valid next around (tree.yield_expression a absent) p s e = yielded_alone around a (parts (span_faults around a.span) (yield_faults around.may_yield (yield_expression_delegate a) absent a.span) _ e).0
  expression_valid next around (tree.yield_expression a (given t)) p s e =
      let h = parts (span_faults around a.span) (yield_faults around.may_yield (yield_expression_delegate a) (given t) a.span) _ e in
      let k = none_both (set_faults sets.Expression t) (breaches around _ t) (none_both (in_maybe around (place_of sets.Expression around ∷ []) _ (given t)) [] h.1).0 in
      family.a_yield (none_unless around.may_yield (faults.Place a.span.start) h.0) (expression_valid _ around t p.1.0 (stands_at sets.Expression t k.0) k.1)
  expression_valid next around (tree.function a id ps (given u)) p s e =
      let h = function_fits kinds.Expression a id s.2 in
      let k = function_parts _ around true a id ps u h.1 p e in
      family.a_function (family.some_function h.0 k.undeclared k.name (parameters_valid _ (within_nothing around) ps k.core_parameters k.are_parameters k.parameters.1) (function_body_valid _ (within_function (function_is_async a) (function_generator a) around) u k.core_body k.is_body k.body.1))
  expression_valid next around (tree.class a id heritage u) p s e =
      let h = class_fits class_kinds.Expression a id s.2 in
      family.a_class (class_valid next around class_kinds.Expression true a id heritage u (expressions_if_given heritage) (expressions_below u) (items_below u) h.0 h.1 p e)
  expression_valid next around (tree.function a id ps absent) p s e = absurd (bodiless a.span (parts (span_faults around a.span) (function_faults a.span absent) _ e).0)
  expression_valid next around (tree.template_literal a qs es) p s e = template_valid next around a qs es (expressions_in_trees es) p s.2 e
  expression_valid next around (tree.tagged_template a t u) p s e = tagged_template_valid next around a t u (λ n r q x y. expression_valid n r t q x y) (expressions_below u) p e
  expression_valid next around (tree.private_member a o n) p s e = private_member_valid next around a o n (λ m r q x y. expression_valid m r o q x y) p s e
  expression_valid next around (tree.private_in a n u) p s e = private_test_valid next around a n u (λ m r q x y. expression_valid m r u q x y) p e
  expression_valid next around t p s e = absurd (search (no_truth, no_truth_behind))

  pub function_body_valid : (next : ℕ) (around : Surroundings) (t : Tree) → IsCoreIn around.tables t → is_function_body (type_of t) ≡ true → breaches around next t ≡ [] → IsBody around.tables (allowed_in (within_braces around)) t
  function_body_valid next around (tree.function_body a ds ss) p s e =
      let k = braces_parts _ around a ds ss p e in
      family.some_body k.0 (items_valid _ (within_braces around) ss k.1 k.2 k.3.1)
  function_body_valid next around t p s e = absurd (search no_truth)

  pub parameters_valid : (next : ℕ) (around : Surroundings) (t : Tree) → IsCoreIn around.tables t → is_formal_parameters (type_of t) ≡ true → breaches around next t ≡ [] → IsParameters around.tables (allowed_in around) t
  parameters_valid next around (tree.formal_parameters a ps rest) p s e =
      let others : List ChildPlace = place_of sets.FormalParameterRest around ∷ [] in
      let k = none_both (in_trees around (place_of sets.FormalParameter around ∷ others) _ ps) _ (parts (span_faults around a.span) [] _ e).1 in
      let j = none_both (in_maybe around others _ rest) [] k.1 in
      family.all_parameters (each_parameter_valid _ around others ps p.0 p.1.0 k.0) (rest_valid _ around rest p.1.1.0 j.0)
  parameters_valid next around t p s e = absurd (search no_truth)

  rest_parameter_valid : (next : ℕ) (around : Surroundings) (t : Tree) → IsCoreIn around.tables t → is_formal_parameter_rest (type_of t) ≡ true → breaches around next t ≡ [] → IsRest around.tables (allowed_in around) (given t)
  rest_parameter_valid next around (tree.formal_parameter_rest a b) p s e =
      let k = standing _ around sets.BindingPattern b [] (parts (span_faults around a.span) [] _ e).1 in
      family.a_rest (binding_valid _ around b (expressions_below b) p.1.0 k.0.0 k.1)
  rest_parameter_valid next around t p s e = absurd (search no_truth)

  rest_valid : (next : ℕ) (around : Surroundings) (m : Maybe) → EverywhereIfGiven (is_core_row around.tables) m → in_maybe around (place_of sets.FormalParameterRest around ∷ []) next m ≡ [] → IsRest around.tables (allowed_in around) m
  rest_valid next around absent p e = family.no_rest
  rest_valid next around (given t) p e = let h = placed_if_given next around sets.FormalParameterRest t e in rest_parameter_valid next around t p h.0 h.1

  -- ---- the expressions below a tree

  pub expressions_below : (t : Tree) → Below ValidExpression t
  expressions_below (node type a slots) = expressions_in_slots slots

  expressions_in_slots : (slots : Slots) → BelowSlots ValidExpression slots
  expressions_in_slots no_slots = tt
  expressions_in_slots (one t slots) = ((λ next around p s e. expression_valid next around t p s e, expressions_below t), expressions_in_slots slots)
  expressions_in_slots (maybe m slots) = (expressions_if_given m, expressions_in_slots slots)
  expressions_in_slots (many ts slots) = (expressions_in_trees ts, expressions_in_slots slots)
  expressions_in_slots (maybe_many ts slots) = (expressions_if_listed ts, expressions_in_slots slots)

  pub expressions_if_given : (m : Maybe) → BelowIfGiven ValidExpression m
  expressions_if_given absent = tt
  expressions_if_given (given t) = (λ next around p s e. expression_valid next around t p s e, expressions_below t)

  expressions_in_trees : (ts : Trees) → EachBelow ValidExpression ts
  expressions_in_trees no_trees = tt
  expressions_in_trees (more t ts) = ((λ next around p s e. expression_valid next around t p s e, expressions_below t), expressions_in_trees ts)
  expressions_in_trees (hole ts) = expressions_in_trees ts

  expressions_if_listed : (ts : MaybeTrees) → BelowIfListed ValidExpression ts
  expressions_if_listed no_list = tt
  expressions_if_listed (listed ts) = expressions_in_trees ts

  -- ---- the statements below a tree

  pub items_below : (t : Tree) → Below ValidItem t
  items_below (node type a slots) = items_in_slots slots

  items_in_slots : (slots : Slots) → BelowSlots ValidItem slots
  items_in_slots no_slots = tt
  items_in_slots (one t slots) = ((λ next around p s f e. item_valid next around t p s f e, items_below t), items_in_slots slots)
  items_in_slots (maybe m slots) = (items_if_given m, items_in_slots slots)
  items_in_slots (many ts slots) = (items_in_trees ts, items_in_slots slots)
  items_in_slots (maybe_many ts slots) = (items_if_listed ts, items_in_slots slots)

  items_if_given : (m : Maybe) → BelowIfGiven ValidItem m
  items_if_given absent = tt
  items_if_given (given t) = (λ next around p s f e. item_valid next around t p s f e, items_below t)

  items_in_trees : (ts : Trees) → EachBelow ValidItem ts
  items_in_trees no_trees = tt
  items_in_trees (more t ts) = ((λ next around p s f e. item_valid next around t p s f e, items_below t), items_in_trees ts)
  items_in_trees (hole ts) = items_in_trees ts

  items_if_listed : (ts : MaybeTrees) → BelowIfListed ValidItem ts
  items_if_listed no_list = tt
  items_if_listed (listed ts) = items_in_trees ts

  -- ---- parameters and their values

  -- behind their field stand others
  each_parameter_valid : (next : ℕ) (around : Surroundings) (others : List ChildPlace) (ps : Trees) → has_no_hole ps ≡ true → EverywhereInTrees (is_core_row around.tables) ps → in_trees around (place_of sets.FormalParameter around ∷ others) next ps ≡ [] → AreParameters around.tables (allowed_in around) ps
  each_parameter_valid next around others no_trees n p e = family.no_parameter
  each_parameter_valid next around others (more t ts) n p e = let k = placed _ around sets.FormalParameter t _ e in family.first_parameter (parameter_valid _ around t p.0 k.0 k.1) (each_parameter_valid _ around others ts n p.1 k.2)
  each_parameter_valid next around others (hole ts) n p e = absurd (no_truth n)

  parameter_valid : (next : ℕ) (around : Surroundings) (t : Tree) → IsCoreIn around.tables t → is_formal_parameter (type_of t) ≡ true → breaches around next t ≡ [] → IsParameter around.tables (allowed_in around) t
  parameter_valid next around (tree.formal_parameter a b m) p s e =
      let k = standing _ around sets.BindingPattern b _ (parts (span_faults around a.span) [] _ e).1 in
      let j = none_both (in_maybe around (place_of sets.Expression around ∷ []) _ m) [] k.2 in
      let h = and_parts (not (formal_parameter_is_override a) && not (formal_parameter_readonly a)) (not (formal_parameter_optional a)) (and_parts (has_core_flags types.FormalParameter a) true p.0).0 in
      let i = and_parts (not (formal_parameter_is_override a)) (not (formal_parameter_readonly a)) h.0 in
      family.a_parameter (not-true (formal_parameter_is_override a) i.0) (not-true (formal_parameter_readonly a) i.1) (not-true (formal_parameter_optional a) h.1) (binding_valid _ around b (expressions_below b) p.1.0 k.0.0 k.1) (value_valid _ around [] m p.1.1.0 j.0)
  parameter_valid next around t p s e = absurd (search (no_truth, no_truth_behind))

  -- behind its field others may stand
  value_valid : (next : ℕ) (around : Surroundings) (others : List ChildPlace) (m : Maybe) → EverywhereIfGiven (is_core_row around.tables) m → in_maybe around (place_of sets.Expression around ∷ others) next m ≡ [] → IsValue around.tables (allowed_in around) m
  value_valid next around others absent p e = family.no_value
  value_valid next around others (given t) p e =
      let h = none_both (set_faults sets.Expression t) (breaches around _ t) e in
      family.a_value (expression_valid _ around t p (stands_at sets.Expression t h.0) h.1)

  chain_valid : (next : ℕ) (around : Surroundings) (t : Tree) → IsCoreIn around.tables t → breaches around next t ≡ [] → has_optional_link t ≡ true → IsChain around.tables (allowed_in around) t
  chain_valid next around (tree.static_member a o n) p e i =
      let h = parts (span_faults around a.span) (super_faults (static_member_expression_optional a) o) _ e in
      let k = standing _ around sets.Link o _ h.1 in
      let j = placed _ around sets.IdentifierName n [] k.2 in
      let f : has_optional_link o ≡ true → IsChain around.tables (allowed_in around) o = λ x. chain_valid _ around o p.1.0 k.1 x in
      let g : StandsAt sets.Expression o → IsExpression around.tables (allowed_in around) o = λ x. expression_valid _ around o p.1.0 x k.1 in
      member_valid _ around n (λ x. IsChain around.tables (allowed_in around) (tree.static_member a o x)) p.1.1.0 j.0 j.1
      (λ b y. link_kind (static_member_expression_optional a) o i h.0 (λ q r. family.an_optional_named_member q (base_valid (allowed_in around) o k.0 r f g) y) (λ q r. family.a_further_named_member q (f r) y))
  chain_valid next around (tree.computed_member a o x) p e i =
      let h = parts (span_faults around a.span) (super_faults (computed_member_expression_optional a) o) _ e in
      let k = standing _ around sets.Link o _ h.1 in
      let j = standing _ around sets.Expression x [] k.2 in
      let f : has_optional_link o ≡ true → IsChain around.tables (allowed_in around) o = λ y. chain_valid _ around o p.1.0 k.1 y in
      let g : StandsAt sets.Expression o → IsExpression around.tables (allowed_in around) o = λ y. expression_valid _ around o p.1.0 y k.1 in
      let v : IsExpression around.tables (allowed_in around) x = expression_valid _ around x p.1.1.0 j.0 j.1 in
      link_kind (computed_member_expression_optional a) o i h.0 (λ q r. family.an_optional_computed_member q (base_valid (allowed_in around) o k.0 r f g) v) (λ q r. family.a_further_computed_member q (f r) v)
  chain_valid next around (tree.call a o es) p e i =
      let h = parts (span_faults around a.span) (super_faults (call_expression_optional a) o) _ e in
      let k = standing _ around sets.Link o _ h.1 in
      let j = none_both (in_trees around (place_of sets.Argument around ∷ []) _ es) [] k.2 in
      let f : has_optional_link o ≡ true → IsChain around.tables (allowed_in around) o = λ y. chain_valid _ around o p.1.0 k.1 y in
      let g : StandsAt sets.Expression o → IsExpression around.tables (allowed_in around) o = λ y. expression_valid _ around o p.1.0 y k.1 in
      let v : AreArguments around.tables (allowed_in around) es = arguments_valid _ around es (expressions_in_trees es) p.0 p.1.1.0 j.0 in
      link_kind (call_expression_optional a) o i h.0 (λ q r. family.an_optional_call q (base_valid (allowed_in around) o k.0 r f g) v) (λ q r. family.a_further_call q (f r) v)
  chain_valid next around (tree.private_member a o n) p e i = private_link_valid next around a o n (λ m r q x y. chain_valid m r o q x y) (λ m r q x y. expression_valid m r o q x y) p e i
  chain_valid next around t p e i = absurd (no_truth i)

  -- ---- declarations, and heads of loops

  declarator_valid : (next : ℕ) (around : Surroundings) (t : Tree) → IsCoreIn around.tables t → is_variable_declarator (type_of t) ≡ true → lacks_value t ≡ false → breaches around next t ≡ [] → IsDeclarator around.tables (allowed_in around) t
  declarator_valid next around (tree.variable_declarator a b absent) p s n e =
      let k = standing _ around sets.BindingPattern b _ (parts (span_faults around a.span) [] _ e).1 in
      declared_alone (unset (variable_declarator_definite a) p.0) (binding_valid _ around b (expressions_below b) p.1.0 k.0.0 k.1) n
  declarator_valid next around (tree.variable_declarator a b (given v)) p s n e =
      let k = standing _ around sets.BindingPattern b _ (parts (span_faults around a.span) [] _ e).1 in
      let j = standing _ around sets.Expression v [] k.2 in
      family.a_declared_with_value (unset (variable_declarator_definite a) p.0) (binding_valid _ around b (expressions_below b) p.1.0 k.0.0 k.1) (expression_valid _ around v p.1.1.0 j.0 j.1)
  declarator_valid next around t p s n e = absurd (none_but_declarator around.tables t p.0 s refl)

  -- a declaration has a declarator, and each pattern a value
  pub declarators_valid : (next : ℕ) (around : Surroundings) (a : Atoms) (ds : Trees) → has_no_hole ds ≡ true → any_lacks_value ds ≡ false → EverywhereInTrees (is_core_row around.tables) ds → declaration_faults a.span ds ≡ [] → in_trees around (place_of sets.VariableDeclarator around ∷ []) next ds ≡ [] → AreDeclarators around.tables (allowed_in around) ds
  declarators_valid next around a no_trees n w p f e = absurd (cc)
  declarators_valid next around a (more d no_trees) n w p f e =
      let k = placed _ around sets.VariableDeclarator d [] e in
      family.last_declarator (declarator_valid _ around d p.0 k.0 (or_parts (lacks_value d) false w).0 k.1)
  declarators_valid next around a (more d (more x xs)) n w p f e =
      let k = placed _ around sets.VariableDeclarator d _ e in
      let v = or_parts (lacks_value d) (any_lacks_value (more x xs)) w in
      family.first_declarator (declarator_valid _ around d p.0 k.0 v.0 k.1) (declarators_valid _ around a (more x xs) n v.1 p.1 refl k.2)
  declarators_valid next around a (more d (hole xs)) n w p f e = absurd (no_truth n)
  declarators_valid next around a (hole ds) n w p f e = absurd (no_truth n)

  init_valid : (next : ℕ) (around : Surroundings) (others : List ChildPlace) (m : Maybe) → EverywhereIfGiven (is_core_row around.tables) m → init_faults m ≡ [] → in_maybe around (place_of sets.ForStatementInit around ∷ others) next m ≡ [] → IsInit around.tables (allowed_in around) m
  init_valid next around others absent p f e = family.no_init
  init_valid next around others (given (tree.variable_declaration a ds)) p f e =
      let k = variables_parts _ around a ds p (none_both (set_faults sets.ForStatementInit (tree.variable_declaration a ds)) (breaches around _ (tree.variable_declaration a ds)) e).1 in
      family.first_variables k.0 (declarators_valid _ around a ds k.1 (none_if (any_lacks_value ds) (faults.Place (lacking a.span ds).start) f) k.2 k.3 k.4)
  init_valid next around others (given t) p f e = let k = init_parts next around others t p.0 refl e in family.first_expression (expression_valid next around t p k.0 k.1)

  -- one declarator without a value
  one_name_valid : (next : ℕ) (around : Surroundings) (a : Atoms) (ds : Trees) → is_one_name ds ≡ true → variable_declaration_declare a ≡ false → EverywhereInTrees (is_core_row around.tables) ds → in_trees around (place_of sets.VariableDeclarator around ∷ []) next ds ≡ [] → IsLeft around.tables (allowed_in around) (tree.variable_declaration a ds)
  one_name_valid next around a (more (tree.variable_declarator b t absent) no_trees) n m p e =
      let h = placed _ around sets.VariableDeclarator (tree.variable_declarator b t absent) [] e in
      let k = standing _ around sets.BindingPattern t _ (parts (span_faults around b.span) [] _ h.1).1 in
      family.a_declared_name m (unset (variable_declarator_definite b) p.0.0) (binding_valid _ around t (expressions_below t) p.0.1.0 k.0.0 k.1)
  one_name_valid next around a ds n m p e = absurd (not_one_name ds n refl)

  left_valid : (next : ℕ) (around : Surroundings) (t : Tree) → IsCoreIn around.tables t → is_for_statement_left (type_of t) ≡ true → left_faults t ≡ [] → breaches around next t ≡ [] → (is_assignment_target (type_of t) ≡ true → has_optional_link t ≡ false → IsTarget around.tables (allowed_in around) t) → IsLeft around.tables (allowed_in around) t
  left_valid next around (tree.variable_declaration a ds) p s f e g = let k = variables_parts _ around a ds p e in one_name_valid _ around a ds (none_unless (is_one_name ds) (faults.Place a.span.start) f) k.0 k.2 k.4
  left_valid next around t p s f e g = left_since (g (left_as_element around.tables t p.0 s refl) (none_if (has_optional_link t) (faults.Place (span_of t).start) f))

  -- ---- statements

  pub item_valid : (next : ℕ) (around : Surroundings) (t : Tree) → IsCoreIn around.tables t → is_own_statement (type_of t) ≡ true → fits_kind sets.Statement t ≡ true → breaches around next t ≡ [] → IsItem around.tables (allowed_in around) t
  item_valid next around (tree.variable_declaration a ds) p s fits e = let k = variables_parts _ around a ds p e in variables_are a ds k.0 (declarators_valid _ around a ds k.1 (not-true (any_lacks_value ds) fits) k.2 k.3 k.4)
  item_valid next around (tree.expression_statement a t) p s fits e =
      let k = standing _ around sets.Expression t [] (parts (span_faults around a.span) [] _ e).1 in
      family.a_statement (family.an_expression_statement (expression_valid _ around t p.1.0 k.0 k.1))
  item_valid next around (tree.empty_statement a) p s fits e = family.a_statement family.an_empty_statement
  item_valid next around (tree.block a ss) p s fits e =
      let k = none_both (in_trees around (place_of sets.Statement around ∷ []) _ ss) [] (parts (span_faults around a.span) [] _ e).1 in
      family.a_statement (family.a_block (items_valid _ around ss p.0 p.1.0 k.0))
  item_valid next around (tree.if_statement a t u absent) p s fits e =
      let h = parts (span_faults around a.span) (body_faults u ++ []) _ e in
      let b = none_both (body_faults u) [] h.0 in
      let k = standing _ around sets.Expression t _ h.1 in
      let j = placed_statement _ around u [] k.2 in
      family.a_statement (family.an_if (expression_valid _ around t p.1.0 k.0 k.1) (body_valid u b.0 (item_valid _ around u p.1.1.0 j.0.0 j.0.1 j.1)))
  item_valid next around (tree.if_statement a t u (given v)) p s fits e =
      let h = parts (span_faults around a.span) (body_faults u ++ body_faults v) _ e in
      let b = none_both (body_faults u) (body_faults v) h.0 in
      let k = standing _ around sets.Expression t _ h.1 in
      let j = placed_statement _ around u _ k.2 in
      let i = placed_statement _ around v [] j.2 in
      family.a_statement (family.an_if_with_else (expression_valid _ around t p.1.0 k.0 k.1) (body_valid u b.0 (item_valid _ around u p.1.1.0 j.0.0 j.0.1 j.1)) (body_valid v b.1 (item_valid _ around v p.1.1.1.0 i.0.0 i.0.1 i.1)))
  item_valid next around (tree.for_statement a init test update_child u) p s fits e =
      let h = parts (span_faults around a.span) (init_faults init ++ body_faults u) _ e in
      let f = none_both (init_faults init) (body_faults u) h.0 in
      let last : List ChildPlace = place_of sets.Statement around ∷ [] in
      let behind : List ChildPlace = place_of sets.Expression around ∷ last in
      let i = none_both (in_maybe around (place_of sets.ForStatementInit around ∷ place_of sets.Expression around ∷ behind) _ init) _ h.1 in
      let j = none_both (in_maybe around (place_of sets.Expression around ∷ behind) _ test) _ i.1 in
      let k = none_both (in_maybe around (place_of sets.Expression around ∷ last) _ update_child) _ j.1 in
      let b = placed_statement _ around u [] k.1 in
      family.a_statement (family.a_for (init_valid _ around (place_of sets.Expression around ∷ behind) init p.1.0 f.0 i.0) (value_valid _ around behind test p.1.1.0 j.0) (value_valid _ around last update_child p.1.1.1.0 k.0) (body_valid u f.1 (item_valid _ around u p.1.1.1.1.0 b.0.0 b.0.1 b.1)))
  item_valid next around (tree.for_in_statement a l x u) p s fits e =
      let h = parts (span_faults around a.span) (left_faults l ++ body_faults u) _ e in
      let b = none_both (left_faults l) (body_faults u) h.0 in
      let i = placed _ around sets.ForStatementLeft l _ h.1 in
      let j = standing _ around sets.Expression x _ i.2 in
      let k = placed_statement _ around u [] j.2 in
      family.a_statement (family.a_for_in (left_valid _ around l p.1.0 i.0 b.0 i.1 (λ y n. target_valid _ around l (expressions_below l) p.1.0 y n i.1 (λ z. expression_valid _ around l p.1.0 z i.1))) (expression_valid _ around x p.1.1.0 j.0 j.1) (body_valid u b.1 (item_valid _ around u p.1.1.1.0 k.0.0 k.0.1 k.1)))
  item_valid next around (tree.for_of_statement a l x u) p s fits e =
      let waiting : List TreeFault = await_faults (for_of_statement_is_await a) around.may_await a.span in
      let h = parts (span_faults around a.span) (waiting ++ (left_faults l ++ body_faults u)) _ e in
      let f = none_both waiting (left_faults l ++ body_faults u) h.0 in
      let b = none_both (left_faults l) (body_faults u) f.1 in
      let i = placed _ around sets.ForStatementLeft l _ h.1 in
      let j = standing _ around sets.Expression x _ i.2 in
      let k = placed_statement _ around u [] j.2 in
      family.a_statement (family.a_for_of (awaited (for_of_statement_is_await a) around.may_await a.span f.0) (left_valid _ around l p.1.0 i.0 b.0 i.1 (λ y n. target_valid _ around l (expressions_below l) p.1.0 y n i.1 (λ z. expression_valid _ around l p.1.0 z i.1))) (expression_valid _ around x p.1.1.0 j.0 j.1) (body_valid u b.1 (item_valid _ around u p.1.1.1.0 k.0.0 k.0.1 k.1)))
  item_valid next around (tree.while_statement a t u) p s fits e =
      let h = parts (span_faults around a.span) (body_faults u) _ e in
      let k = standing _ around sets.Expression t _ h.1 in
      let j = placed_statement _ around u [] k.2 in
      family.a_statement (family.a_while (expression_valid _ around t p.1.0 k.0 k.1) (body_valid u h.0 (item_valid _ around u p.1.1.0 j.0.0 j.0.1 j.1)))
  item_valid next around (tree.do_while_statement a u t) p s fits e =
      let h = parts (span_faults around a.span) (body_faults u) _ e in
      let j = placed_statement _ around u _ h.1 in
      let k = standing _ around sets.Expression t [] j.2 in
      family.a_statement (family.a_do_while (body_valid u h.0 (item_valid _ around u p.1.0 j.0.0 j.0.1 j.1)) (expression_valid _ around t p.1.1.0 k.0 k.1))
  item_valid next around (tree.labeled_statement a l u) p s fits e =
      let h = parts (span_faults around a.span) (body_faults u) _ e in
      let k = placed _ around sets.LabelIdentifier l _ h.1 in
      let j = placed_statement _ around u [] k.2 in
      let v : IsStatement around.tables (allowed_in around) u = body_valid u h.0 (item_valid _ around u p.1.1.0 j.0.0 j.0.1 j.1) in
      label_valid _ around l (λ x. IsItem around.tables (allowed_in around) (tree.labeled_statement a x u)) p.1.0 k.0 k.1 (λ b y. family.a_statement (family.a_labelled_statement y v))
  item_valid next around (tree.continue_statement a m) p s fits e =
      let k = none_both (in_maybe around (place_of sets.LabelIdentifier around ∷ []) _ m) [] (parts (span_faults around a.span) [] _ e).1 in
      family.a_statement (family.a_continue (jump_valid _ around m p.1.0 k.0))
  item_valid next around (tree.break_statement a m) p s fits e =
      let k = none_both (in_maybe around (place_of sets.LabelIdentifier around ∷ []) _ m) [] (parts (span_faults around a.span) [] _ e).1 in
      family.a_statement (family.a_break (jump_valid _ around m p.1.0 k.0))
  item_valid next around (tree.throw_statement a t) p s fits e =
      let k = standing _ around sets.Expression t [] (parts (span_faults around a.span) [] _ e).1 in
      family.a_statement (family.a_throw (expression_valid _ around t p.1.0 k.0 k.1))
  item_valid next around (tree.debugger_statement a) p s fits e = family.a_statement family.a_debugger
  item_valid next around (tree.switch_statement a t cases) p s fits e =
      let h = parts (span_faults around a.span) (switch_faults a.span cases) _ e in
      let k = standing _ around sets.Expression t _ h.1 in
      let j = none_both (in_trees around (place_of sets.SwitchCase around ∷ []) _ cases) [] k.2 in
      family.a_statement (family.a_switch (expression_valid _ around t p.1.0 k.0 k.1) (cases_valid _ around true cases p.0 p.1.1.0 (none_if (nat_lt 1 (defaults cases)) (faults.Place a.span.start) h.0) j.0))
  item_valid next around (tree.try_statement a t handler finalizer) p s fits e =
      let h = parts (span_faults around a.span) (try_faults a.span handler finalizer) _ e in
      let k = placed _ around sets.BlockStatement t _ h.1 in
      let others : List ChildPlace = place_of sets.BlockStatement around ∷ [] in
      let j = none_both (in_maybe around (place_of sets.CatchClause around ∷ others) _ handler) _ k.2 in
      let i = none_both (in_maybe around others _ finalizer) [] j.1 in
      let v : AreEndsOfTry around.tables (allowed_in around) handler finalizer = ends_of_try a handler finalizer h.0 (given_handler_valid _ around others handler p.1.1.0 j.0) (given_finalizer_valid _ around finalizer p.1.1.1.0 i.0) in
      family.a_statement (family.a_try (block_valid _ around t p.1.0 k.0 k.1) v)
  item_valid next around (tree.return_statement a m) p s fits e =
      let h = parts (span_faults around a.span) (return_faults around.in_function a.span) _ e in
      let k = none_both (in_maybe around (place_of sets.Expression around ∷ []) _ m) [] h.1 in
      family.a_statement (family.a_return (none_unless around.in_function (faults.Place a.span.start) h.0) (value_valid _ around [] m p.1.0 k.0))
  item_valid next around (tree.function a id ps (given u)) p s fits e =
      let h = function_fits kinds.Declaration a id fits in
      let k = function_parts _ around false a id ps u h.1 p e in
      family.a_function_declaration (family.some_function h.0 k.undeclared k.name (parameters_valid _ (within_nothing around) ps k.core_parameters k.are_parameters k.parameters.1) (function_body_valid _ (within_function (function_is_async a) (function_generator a) around) u k.core_body k.is_body k.body.1))
  item_valid next around (tree.class a id heritage u) p s fits e =
      let h = class_fits class_kinds.Declaration a id fits in
      family.a_class_declaration (class_valid next around class_kinds.Declaration false a id heritage u (expressions_if_given heritage) (expressions_below u) (items_below u) h.0 h.1 p e)
  item_valid next around (tree.function a id ps absent) p s fits e = absurd (bodiless a.span (parts (span_faults around a.span) (function_faults a.span absent) _ e).0)
  item_valid next around t p s fits e = absurd (search (no_truth, no_truth_behind))

  items_valid : (next : ℕ) (around : Surroundings) (ss : Trees) → has_no_hole ss ≡ true → EverywhereInTrees (is_core_row around.tables) ss → in_trees around (place_of sets.Statement around ∷ []) next ss ≡ [] → AreStatements around.tables (allowed_in around) ss
  items_valid next around no_trees n p e = family.no_statement
  items_valid next around (more s ss) n p e = let k = placed_statement _ around s _ e in family.first_statement (item_valid _ around s p.0 k.0.0 k.0.1 k.1) (items_valid _ around ss n p.1 k.2)
  items_valid next around (hole ss) n p e = absurd (no_truth n)

  block_valid : (next : ℕ) (around : Surroundings) (t : Tree) → IsCoreIn around.tables t → is_block_statement (type_of t) ≡ true → breaches around next t ≡ [] → IsBlock around.tables (allowed_in around) t
  block_valid next around (tree.block a ss) p s e =
      let k = none_both (in_trees around (place_of sets.Statement around ∷ []) _ ss) [] (parts (span_faults around a.span) [] _ e).1 in
      family.some_block (items_valid _ around ss p.0 p.1.0 k.0)
  block_valid next around t p s e = absurd (search no_truth)

  cases_valid : (next : ℕ) (around : Surroundings) (default : Bool) (ts : Trees) → has_no_hole ts ≡ true → EverywhereInTrees (is_core_row around.tables) ts → nat_lt (most default) (defaults ts) ≡ false → in_trees around (place_of sets.SwitchCase around ∷ []) next ts ≡ [] → AreCases around.tables (allowed_in around) default ts
  cases_valid next around default no_trees n p f e = family.no_case
  cases_valid next around true (more (tree.switch_case a absent ss) ts) n p f e =
      let k = placed _ around sets.SwitchCase (tree.switch_case a absent ss) _ e in
      let j = none_both (in_trees around (place_of sets.Statement around ∷ []) _ ss) [] (parts (span_faults around a.span) [] _ k.1).1 in
      family.first_case (family.a_default (items_valid _ around ss p.0.0 p.0.1.1.0 j.0)) (cases_valid _ around false ts n p.1 (one_less (defaults ts) f) k.2)
  cases_valid next around false (more (tree.switch_case a absent ss) ts) n p f e = absurd (none_left_out (defaults ts) f)
  cases_valid next around default (more (tree.switch_case a (given t) ss) ts) n p f e =
      let k = placed _ around sets.SwitchCase (tree.switch_case a (given t) ss) _ e in
      let i = standing _ around sets.Expression t _ (parts (span_faults around a.span) [] _ k.1).1 in
      let j = none_both (in_trees around (place_of sets.Statement around ∷ []) _ ss) [] i.2 in
      family.first_case (family.a_case (expression_valid _ around t p.0.1.0 i.0 i.1) (items_valid _ around ss p.0.0 p.0.1.1.0 j.0)) (cases_valid _ around default ts n p.1 f k.2)
  cases_valid next around default (more t ts) n p f e = absurd (none_among_cases next around t ts p.0.0 refl e)
  cases_valid next around default (hole ts) n p f e = absurd (no_truth n)

  -- behind its field others stand
  given_handler_valid : (next : ℕ) (around : Surroundings) (others : List ChildPlace) (m : Maybe) → EverywhereIfGiven (is_core_row around.tables) m → in_maybe around (place_of sets.CatchClause around ∷ others) next m ≡ [] → HandlerIfGiven around.tables (allowed_in around) m
  given_handler_valid next around others absent p e = tt
  given_handler_valid next around others (given t) p e = let k = placed_if_given _ around sets.CatchClause t e in handler_valid _ around t p k.0 k.1

  given_finalizer_valid : (next : ℕ) (around : Surroundings) (m : Maybe) → EverywhereIfGiven (is_core_row around.tables) m → in_maybe around (place_of sets.BlockStatement around ∷ []) next m ≡ [] → FinalizerIfGiven around.tables (allowed_in around) m
  given_finalizer_valid next around absent p e = tt
  given_finalizer_valid next around (given t) p e = let k = placed_if_given _ around sets.BlockStatement t e in block_valid _ around t p k.0 k.1

  handler_valid : (next : ℕ) (around : Surroundings) (t : Tree) → IsCoreIn around.tables t → is_catch_clause (type_of t) ≡ true → breaches around next t ≡ [] → IsHandler around.tables (allowed_in around) t
  handler_valid next around (tree.catch_clause a absent t) p s e =
      let k = placed _ around sets.BlockStatement t [] (parts (span_faults around a.span) [] _ e).1 in
      family.a_catch (block_valid _ around t p.1.1.0 k.0 k.1)
  handler_valid next around (tree.catch_clause a (given n) t) p s e =
      let i = standing _ around sets.BindingPattern n _ (parts (span_faults around a.span) [] _ e).1 in
      let k = placed _ around sets.BlockStatement t [] i.2 in
      family.a_catch_by_name (binding_valid _ around n (expressions_below n) p.1.0 i.0.0 i.1) (block_valid _ around t p.1.1.0 k.0 k.1)
  handler_valid next around t p s e = absurd (search no_truth)
