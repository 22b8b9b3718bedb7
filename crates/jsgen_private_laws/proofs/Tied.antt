-- Each tree that is formed, and whose children are of the types that its fields ask for, is spelled by items that settle to those of the resolved tree: one induction. What is laid out by the tables of private names is so what is laid out without them of the resolved tree.
use Rattle.std.proofs.Common.{◌≡◌, ℕ, List, Bool, true, false, not, ◌&&◌, ◌||◌, refl, ap, ◌∙◌}
use Rattle.std.proofs.lemmas.Bool.{both_ways, and_parts, and_from}
use Rattle.jsgen_tree.specs.Tree.{Tree, node, Maybe, absent, given, Trees, no_trees, more, hole, MaybeTrees, no_list, listed, type_of}
use Rattle.jsgen_tree.specs.Nodes as tree
use Rattle.jsgen_tree.specs.Job.{Tables}
use Rattle.jsgen_tree.specs.Sets.{is_template_element, is_import_declaration_specifier}
use Rattle.jsgen_tree.specs.Everywhere.{EverywhereIfGiven, EverywhereInTrees, EverywhereIfListed}
use Rattle.jsgen_place.specs.declared.place.Place.{Place}
use Rattle.jsgen_place.specs.declared.shape.Shape.{Shape}
use Rattle.jsgen_place.specs.declared.shape.Shape.TheVariants as shapes
use Rattle.jsgen_model.specs.Plain.{is_formed}
use Rattle.jsgen_model.specs.Resolved.{resolved, after, after_trees}
use Rattle.jsgen_model.specs.Spellings.{shape}
use Rattle.jsgen_model.specs.Spell.{spell}
use Rattle.jsgen_model.specs.Layout.{Pen, layout}
use Rattle.jsgen_private_laws.specs.Settled.{without_private}
use Rattle.jsgen_private_laws.proofs.Settled.{tied, scope}
use Rattle.jsgen_private_laws.proofs.Laid.{laid_out}
use Rattle.jsgen_private_laws.proofs.Fitting.{is_leaf, are_leaves, are_pieces, are_specifiers, are_specifiers_if_listed, is_nameless, fits, is_fit, IsFit}
use Rattle.jsgen_private_laws.proofs.Settles.{plain}
use Rattle.jsgen_private_laws.proofs.Ties.{Tie, TieIfGiven, TieEach, TieMethod, IsEmptyAlone, IsEmptyAloneIfGiven, IsEmptyAloneInOne}
use Rattle.jsgen_private_laws.proofs.ExpressionTies.{ArePieces, private_tie, binding_tie, reference_tie, name_tie, boolean_tie, number_tie, big_integer_tie, string_tie, regular_expression_tie, this_tie, null_tie, super_tie, new_target_tie, import_meta_tie, parenthesized_tie, binary_tie, logical_tie, unary_tie, update_tie, await_tie, yield_tie, conditional_tie, sequence_tie, spread_tie, assignment_tie, static_member_tie, computed_member_tie, private_member_tie, private_in_tie, chain_tie, call_tie, new_tie, import_call_tie, array_tie, object_tie, template_tie, tagged_template_tie}
use Rattle.jsgen_private_laws.proofs.FunctionTies.{method_tie, formal_parameter_tie, formal_parameter_rest_tie, formal_parameters_tie, arrow_function_tie, function_tie, function_body_tie, class_tie, class_body_tie, static_block_tie, method_definition_tie, property_definition_tie, object_property_tie, binding_rest_tie, assignment_pattern_tie, array_pattern_tie, object_pattern_tie, binding_property_tie, target_with_default_tie, target_rest_tie, array_target_tie, object_target_tie, target_identifier_tie, target_property_tie}
use Rattle.jsgen_private_laws.proofs.StatementTies.{program_tie, directive_tie, hashbang_tie, variable_declaration_tie, variable_declarator_tie, expression_statement_tie, empty_statement_tie, debugger_tie, throw_tie, return_tie, label_tie, break_tie, continue_tie, block_tie, if_tie, for_tie, for_in_tie, for_of_tie, while_tie, do_while_tie, labeled_tie, switch_tie, switch_case_tie, try_tie, catch_tie}
use Rattle.jsgen_private_laws.proofs.ModuleTies.{AllEnds, AllEndsIfListed, TieEachIfListed, import_declaration_tie, import_default_tie, import_namespace_tie, import_specifier_tie, with_clause_tie, import_attribute_tie, export_declaration_tie, export_named_tie, export_from_tie, export_specifier_tie, export_all_tie, export_default_tie}

-- ---- what holds no class

formed : (t : Tree) → IsFit t → is_formed t ≡ true
formed (node type a slots) v = (and_parts (is_formed (node type a slots)) (fits (node type a slots)) v.0).0

fitting : (t : Tree) → IsFit t → fits t ≡ true
fitting (node type a slots) v = (and_parts (is_formed (node type a slots)) (fits (node type a slots)) v.0).1

leaf_of_after : (n : ℕ) (t : Tree) → (is_leaf (type_of t) && is_formed t) ≡ true → after t n ≡ n
leaf_of_after n (tree.comment a) e = refl
leaf_of_after n (tree.empty_statement a) e = refl
leaf_of_after n (tree.binding_identifier a) e = refl
leaf_of_after n (tree.identifier_name a) e = refl
leaf_of_after n (tree.identifier_reference a) e = refl
leaf_of_after n (tree.string_literal a) e = refl
leaf_of_after n t e = absurd (both_ways false refl e)

leaf_after : (t : Tree) → is_leaf (type_of t) ≡ true → IsFit t → (n : ℕ) → after t n ≡ n
leaf_after t e v n = leaf_of_after n t (and_from _ _ e (formed t v))

leaves_after : (ts : Trees) → are_leaves ts ≡ true → EverywhereInTrees is_fit ts → (n : ℕ) → after_trees ts n ≡ n
leaves_after no_trees e v n = refl
leaves_after (more t ts) e v n = let p = and_parts (is_leaf (type_of t)) (are_leaves ts) e in ap (after_trees ts) (leaf_after t p.0 v.0 n) ∙ leaves_after ts p.1 v.1 n
leaves_after (hole ts) e v n = leaves_after ts e v n

specifier_after : (t : Tree) → is_import_declaration_specifier (type_of t) ≡ true → IsFit t → (n : ℕ) → after t n ≡ n
specifier_after (tree.import_default_specifier a local) e v n = leaf_after local (fitting (tree.import_default_specifier a local) v) v.1.0 n
specifier_after (tree.import_namespace_specifier a local) e v n = leaf_after local (fitting (tree.import_namespace_specifier a local) v) v.1.0 n
specifier_after (tree.import_specifier a t local) e v n = let p = and_parts (is_leaf (type_of t)) (is_leaf (type_of local)) (fitting (tree.import_specifier a t local) v) in ap (after local) (leaf_after t p.0 v.1.0 n) ∙ leaf_after local p.1 v.1.1.0 n
specifier_after t e v n = absurd (both_ways false refl (and_from (is_import_declaration_specifier (type_of t)) (is_formed t) e (formed t v)))

specifiers_after : (ts : Trees) → are_specifiers ts ≡ true → EverywhereInTrees is_fit ts → (n : ℕ) → after_trees ts n ≡ n
specifiers_after no_trees e v n = refl
specifiers_after (more t ts) e v n = let p = and_parts (is_import_declaration_specifier (type_of t)) (are_specifiers ts) e in ap (after_trees ts) (specifier_after t p.0 v.0 n) ∙ specifiers_after ts p.1 v.1 n
specifiers_after (hole ts) e v n = specifiers_after ts e v n

all_ends : (ts : Trees) → are_specifiers ts ≡ true → EverywhereInTrees is_fit ts → AllEnds ts
all_ends no_trees e v = tt
all_ends (more t ts) e v = let p = and_parts (is_import_declaration_specifier (type_of t)) (are_specifiers ts) e in ((λ x. specifiers_after ts p.1 v.1), all_ends ts p.1 v.1)
all_ends (hole ts) e v = all_ends ts e v

all_ends_if_listed : (ts : MaybeTrees) → are_specifiers_if_listed ts ≡ true → EverywhereIfListed is_fit ts → AllEndsIfListed ts
all_ends_if_listed no_list e v = tt
all_ends_if_listed (listed ts) e v = all_ends ts e v

one_piece : (t : Tree) (ts : Trees) → (is_template_element (type_of t) && is_formed t) ≡ true → ArePieces ts → ArePieces (more t ts)
one_piece (tree.template_element a) ts e h = h
one_piece t ts e h = absurd (both_ways false refl e)

pieces : (ts : Trees) → are_pieces ts ≡ true → EverywhereInTrees is_fit ts → ArePieces ts
pieces no_trees e v = tt
pieces (more t ts) e v = let p = and_parts (is_template_element (type_of t)) (are_pieces ts) e in one_piece t ts (and_from _ _ p.0 (formed t v.0)) (pieces ts p.1 v.1)
pieces (hole ts) e v = absurd (both_ways false refl e)

-- ---- bodies that are empty statements

abbrev is_empty : Shape → Bool
is_empty shapes.Empty = true
is_empty of = false

empty_of : (n : ℕ) (t : Tree) → (is_empty (shape t) && is_formed t) ≡ true → after t n ≡ n
empty_of n (tree.empty_statement a) e = refl
empty_of n t e = absurd (both_ways false refl e)

empty_alone : (t : Tree) → IsFit t → IsEmptyAlone t
empty_alone t v e n = empty_of n t (and_from _ _ (ap is_empty e) (formed t v))

empty_alone_if_given : (m : Maybe) → EverywhereIfGiven is_fit m → IsEmptyAloneIfGiven m
empty_alone_if_given absent v = tt
empty_alone_if_given (given t) v = empty_alone t v

empty_alone_in_one : (ts : Trees) → EverywhereInTrees is_fit ts → IsEmptyAloneInOne ts
empty_alone_in_one (more t no_trees) v = empty_alone t v.0
empty_alone_in_one ts v = tt

where_true : (b c : Bool) → b ≡ true → (not b || c) ≡ true → c ≡ true
where_true true c e f = f
where_true false c e f = absurd (both_ways false refl e)

-- ---- the induction

mutual
  pub tie : (t : Tree) → IsFit t → Tie t
  tie (tree.comment a) v = λ s n place. plain refl
  tie (tree.template_element a) v = λ s n place. plain refl
  tie (tree.private_identifier a) v = private_tie a
  tie (tree.binding_identifier a) v = binding_tie a
  tie (tree.identifier_reference a) v = reference_tie a
  tie (tree.identifier_name a) v = name_tie a
  tie (tree.boolean_literal a) v = boolean_tie a
  tie (tree.numeric_literal a) v = number_tie a
  tie (tree.big_int_literal a) v = big_integer_tie a
  tie (tree.string_literal a) v = string_tie a
  tie (tree.reg_exp_literal a) v = regular_expression_tie a
  tie (tree.this_expression a) v = this_tie a
  tie (tree.null_literal a) v = null_tie a
  tie (tree.super a) v = super_tie a
  tie (tree.new_target a) v = new_target_tie a
  tie (tree.import_meta a) v = import_meta_tie a
  tie (tree.parenthesized a t) v = parenthesized_tie a t (tie t v.1.0)
  tie (tree.binary a l r) v = binary_tie a l r (tie l v.1.0) (tie r v.1.1.0)
  tie (tree.logical a l r) v = logical_tie a l r (tie l v.1.0) (tie r v.1.1.0)
  tie (tree.unary a t) v = unary_tie a t (tie t v.1.0)
  tie (tree.update a t) v = update_tie a t (tie t v.1.0)
  tie (tree.await_expression a t) v = await_tie a t (tie t v.1.0)
  tie (tree.yield_expression a m) v = yield_tie a m (tie_if_given m v.1.0)
  tie (tree.conditional a t c u) v = conditional_tie a t c u (tie t v.1.0) (tie c v.1.1.0) (tie u v.1.1.1.0)
  tie (tree.sequence a ts) v = sequence_tie a ts (tie_each ts v.1.0)
  tie (tree.spread a t) v = spread_tie a t (tie t v.1.0)
  tie (tree.assignment a l r) v = assignment_tie a l r (tie l v.1.0) (tie r v.1.1.0)
  tie (tree.static_member a o p) v = static_member_tie a o p (tie o v.1.0) (tie p v.1.1.0)
  tie (tree.computed_member a o p) v = computed_member_tie a o p (tie o v.1.0) (tie p v.1.1.0)
  tie (tree.private_member a o p) v = private_member_tie a o p (tie o v.1.0) (tie p v.1.1.0)
  tie (tree.private_in a l r) v = private_in_tie a l r (tie l v.1.0) (tie r v.1.1.0)
  tie (tree.chain a t) v = chain_tie a t (tie t v.1.0)
  tie (tree.call a f ts) v = call_tie a f ts (tie f v.1.0) (tie_each ts v.1.1.0)
  tie (tree.new_expression a f ts) v = new_tie a f ts (tie f v.1.0) (tie_each ts v.1.1.0)
  tie (tree.import_call a t m) v = import_call_tie a t m (tie t v.1.0) (tie_if_given m v.1.1.0)
  tie (tree.array a ts) v = array_tie a ts (tie_each ts v.1.0)
  tie (tree.object_expression a ts) v = object_tie a ts (tie_each ts v.1.0)
  tie (tree.template_literal a qs ts) v = template_tie a qs ts (pieces qs (fitting (tree.template_literal a qs ts) v) v.1.0) (tie_each ts v.1.1.0)
  tie (tree.tagged_template a t q) v = tagged_template_tie a t q (tie t v.1.0) (tie q v.1.1.0)
  tie (tree.formal_parameter a t m) v = formal_parameter_tie a t m (tie t v.1.0) (tie_if_given m v.1.1.0)
  tie (tree.formal_parameter_rest a t) v = formal_parameter_rest_tie a t (tie t v.1.0)
  tie (tree.formal_parameters a ts m) v = formal_parameters_tie a ts m (tie_each ts v.1.0) (tie_if_given m v.1.1.0)
  tie (tree.arrow_function a p b) v = arrow_function_tie a p b (tie p v.1.0) (tie b v.1.1.0)
  tie (tree.function a id p b) v = function_tie a id p b (tie_if_given id v.1.0) (tie p v.1.1.0) (tie_if_given b v.1.1.1.0)
  tie (tree.function_body a ds ts) v = function_body_tie a ds ts (tie_each ds v.1.0) (tie_each ts v.1.1.0)
  tie (tree.class a id heritage b) v = class_tie a id heritage b (tie_if_given id v.1.0) (tie_if_given heritage v.1.1.0) (tie b v.1.1.1.0)
  tie (tree.class_body a ts) v = class_body_tie a ts (tie_each ts v.1.0)
  tie (tree.static_block a ts) v = static_block_tie a ts (tie_each ts v.1.0)
  tie (tree.method_definition a key value) v = method_definition_tie a key value (tie key v.1.0) (tie_method value (fitting (tree.method_definition a key value) v) v.1.1.0)
  tie (tree.property_definition a key value) v = property_definition_tie a key value (tie key v.1.0) (tie_if_given value v.1.1.0)
  tie (tree.object_property a key value) v = object_property_tie a key value (tie key v.1.0) (λ e. tie_method value (where_true _ _ e (fitting (tree.object_property a key value) v)) v.1.1.0) (λ e. tie value v.1.1.0)
  tie (tree.binding_rest_element a t) v = binding_rest_tie a t (tie t v.1.0)
  tie (tree.assignment_pattern a l r) v = assignment_pattern_tie a l r (tie l v.1.0) (tie r v.1.1.0)
  tie (tree.array_pattern a ts m) v = array_pattern_tie a ts m (tie_each ts v.1.0) (tie_if_given m v.1.1.0)
  tie (tree.object_pattern a ts m) v = object_pattern_tie a ts m (tie_each ts v.1.0) (tie_if_given m v.1.1.0)
  tie (tree.binding_property a key value) v = binding_property_tie a key value (tie key v.1.0) (tie value v.1.1.0)
  tie (tree.target_with_default a l r) v = target_with_default_tie a l r (tie l v.1.0) (tie r v.1.1.0)
  tie (tree.target_rest a t) v = target_rest_tie a t (tie t v.1.0)
  tie (tree.array_target a ts m) v = array_target_tie a ts m (tie_each ts v.1.0) (tie_if_given m v.1.1.0)
  tie (tree.object_target a ts m) v = object_target_tie a ts m (tie_each ts v.1.0) (tie_if_given m v.1.1.0)
  tie (tree.target_property_identifier a t m) v = target_identifier_tie a t m (tie t v.1.0) (tie_if_given m v.1.1.0)
  tie (tree.target_property a key value) v = target_property_tie a key value (tie key v.1.0) (tie value v.1.1.0)
  tie (tree.program a comments hashbang ds ts) v = program_tie a comments hashbang ds ts (leaves_after comments (fitting (tree.program a comments hashbang ds ts) v) v.1.0) (tie_if_given hashbang v.1.1.0) (tie_each ds v.1.1.1.0) (tie_each ts v.1.1.1.1.0)
  tie (tree.directive a) v = directive_tie a
  tie (tree.hashbang a) v = hashbang_tie a
  tie (tree.variable_declaration a ts) v = variable_declaration_tie a ts (tie_each ts v.1.0)
  tie (tree.variable_declarator a t m) v = variable_declarator_tie a t m (tie t v.1.0) (tie_if_given m v.1.1.0)
  tie (tree.expression_statement a t) v = expression_statement_tie a t (tie t v.1.0)
  tie (tree.empty_statement a) v = empty_statement_tie a
  tie (tree.debugger_statement a) v = debugger_tie a
  tie (tree.throw_statement a t) v = throw_tie a t (tie t v.1.0)
  tie (tree.return_statement a m) v = return_tie a m (tie_if_given m v.1.0)
  tie (tree.label_identifier a) v = label_tie a
  tie (tree.break_statement a m) v = break_tie a m (tie_if_given m v.1.0)
  tie (tree.continue_statement a m) v = continue_tie a m (tie_if_given m v.1.0)
  tie (tree.block a ts) v = block_tie a ts (tie_each ts v.1.0)
  tie (tree.if_statement a t c m) v = if_tie a t c m (empty_alone c v.1.1.0) (empty_alone_if_given m v.1.1.1.0) (tie t v.1.0) (tie c v.1.1.0) (tie_if_given m v.1.1.1.0)
  tie (tree.for_statement a init test update b) v = for_tie a init test update b (empty_alone b v.1.1.1.1.0) (tie_if_given init v.1.0) (tie_if_given test v.1.1.0) (tie_if_given update v.1.1.1.0) (tie b v.1.1.1.1.0)
  tie (tree.for_in_statement a l r b) v = for_in_tie a l r b (empty_alone b v.1.1.1.0) (tie l v.1.0) (tie r v.1.1.0) (tie b v.1.1.1.0)
  tie (tree.for_of_statement a l r b) v = for_of_tie a l r b (empty_alone b v.1.1.1.0) (tie l v.1.0) (tie r v.1.1.0) (tie b v.1.1.1.0)
  tie (tree.while_statement a t b) v = while_tie a t b (empty_alone b v.1.1.0) (tie t v.1.0) (tie b v.1.1.0)
  tie (tree.do_while_statement a b t) v = do_while_tie a b t (empty_alone b v.1.0) (tie b v.1.0) (tie t v.1.1.0)
  tie (tree.labeled_statement a l b) v = labeled_tie a l b (empty_alone b v.1.1.0) (tie l v.1.0) (tie b v.1.1.0)
  tie (tree.switch_statement a t ts) v = switch_tie a t ts (tie t v.1.0) (tie_each ts v.1.1.0)
  tie (tree.switch_case a m ts) v = switch_case_tie a m ts (empty_alone_in_one ts v.1.1.0) (tie_if_given m v.1.0) (tie_each ts v.1.1.0)
  tie (tree.try_statement a b h f) v = try_tie a b h f (tie b v.1.0) (tie_if_given h v.1.1.0) (tie_if_given f v.1.1.1.0)
  tie (tree.catch_clause a p b) v = catch_tie a p b (tie_if_given p v.1.0) (tie b v.1.1.0)
  tie (tree.import_declaration a ts source m) v = import_declaration_tie a ts source m (all_ends_if_listed ts (fitting (tree.import_declaration a ts source m) v) v.1.0) (tie_each_if_listed ts v.1.0) (tie source v.1.1.0) (tie_if_given m v.1.1.1.0)
  tie (tree.import_default_specifier a t) v = import_default_tie a t (tie t v.1.0)
  tie (tree.import_namespace_specifier a t) v = import_namespace_tie a t (tie t v.1.0)
  tie (tree.import_specifier a t local) v = let f = and_parts (is_leaf (type_of t)) (is_leaf (type_of local)) (fitting (tree.import_specifier a t local) v) in import_specifier_tie a t local (leaf_after t f.0 v.1.0) (leaf_after local f.1 v.1.1.0) (tie t v.1.0) (tie local v.1.1.0)
  tie (tree.with_clause a ts) v = with_clause_tie a ts (tie_each ts v.1.0)
  tie (tree.import_attribute a key value) v = import_attribute_tie a key value (tie key v.1.0) (tie value v.1.1.0)
  tie (tree.export_declaration a t) v = export_declaration_tie a t (tie t v.1.0)
  tie (tree.export_named_declaration a ts) v = export_named_tie a ts (tie_each ts v.1.0)
  tie (tree.export_from_declaration a ts source m) v = export_from_tie a ts source m (tie_each ts v.1.0) (tie source v.1.1.0) (tie_if_given m v.1.1.1.0)
  tie (tree.export_specifier a local exported) v = export_specifier_tie a local exported (leaf_after exported (fitting (tree.export_specifier a local exported) v) v.1.1.0) (tie local v.1.0) (tie exported v.1.1.0)
  tie (tree.export_all_declaration a m source w) v = export_all_tie a m source w (tie_if_given m v.1.0) (tie source v.1.1.0) (tie_if_given w v.1.1.1.0)
  tie (tree.export_default_declaration a t) v = export_default_tie a t (tie t v.1.0)
  tie t v = absurd (both_ways false refl v.0)

  tie_method : (t : Tree) → is_nameless t ≡ true → IsFit t → TieMethod t
  tie_method (tree.function a absent params body) e v = method_tie a absent params body (λ n. refl) (tie params v.1.1.0) (tie_if_given body v.1.1.1.0)
  tie_method t e v = absurd (both_ways false refl e)

  tie_if_given : (m : Maybe) → EverywhereIfGiven is_fit m → TieIfGiven m
  tie_if_given absent v = tt
  tie_if_given (given t) v = tie t v

  tie_each : (ts : Trees) → EverywhereInTrees is_fit ts → TieEach ts
  tie_each no_trees v = tt
  tie_each (more t ts) v = (tie t v.0, tie_each ts v.1)
  tie_each (hole ts) v = tie_each ts v

  tie_each_if_listed : (ts : MaybeTrees) → EverywhereIfListed is_fit ts → TieEachIfListed ts
  tie_each_if_listed no_list v = tt
  tie_each_if_listed (listed ts) v = tie_each ts v

-- ---- the text

-- what is laid out of a tree by the tables of private names is what is laid out without them of the resolved tree
pub laid_out_resolved : (tables : Tables) (classes : List ℕ) (n : ℕ) (t : Tree) (place : Place) (p : Pen) → IsFit t → p.style.tables ≡ without_private tables → layout (spell t place) (tied tables classes n p) ≡ tied tables classes (after t n) (layout (spell (resolved tables classes n t) place) p)
laid_out_resolved tables classes n t place p v e = let x = tie t v (scope tables classes p) n place in laid_out tables classes n (spell t place) p e ∙ (λ i. tied tables classes (x.next i) (layout (x.is i) p))
