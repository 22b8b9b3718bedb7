-- Where no node is marked as pure, no annotation is printed; and where annotations aren't printed, none is, whatever is marked.
use Rattle.std.proofs.Common.{◌≡◌, ℕ, Bool, true, false, not, ◌&&◌, ◌||◌, inl, inr, refl}
use Rattle.std.proofs.lemmas.Bool.{and_parts, both_ways}
use Rattle.std.proofs.Math.Bool.{and-false}
use Rattle.jsgen_syntax.specs.declared.precedence.Precedence.TheVariants.{Comma, Postfix}
use Rattle.jsgen_place.specs.declared.place.Place.{Place}
use Rattle.jsgen_place.specs.Place.{in_brackets, among_statements, within_statement, wraps}
use Rattle.jsgen_tree.specs.Inside.{inside_parentheses, ends_open, looked_up_in, bound_in, written_name_in, is_method, behind_minus}
use Rattle.jsgen_tree.specs.Tree.{Tree, Maybe, absent, given, Trees, no_trees, more, hole, type_of, MaybeTrees, no_list, listed}
use Rattle.jsgen_tree.specs.Values.{numeric_literal_kind, big_int_literal_value, binary_expression_operator, logical_expression_operator, unary_expression_operator, update_expression_operator, update_expression_prefix, object_property_kind, object_property_method, object_property_shorthand, object_property_computed, function_kind, function_is_async, function_generator, function_pure, assignment_expression_operator, static_member_expression_optional, computed_member_expression_optional, call_expression_optional, call_expression_pure, new_expression_pure, for_of_statement_is_await, arrow_function_expression_is_async, arrow_function_expression_pure, binding_property_computed, private_field_expression_optional, class_kind, method_definition_kind, method_definition_computed, method_definition_is_static, property_definition_computed, property_definition_is_static, assignment_target_property_property_computed, yield_expression_delegate}
use Rattle.jsgen_model.specs.Operators.{unary_sign}
use Rattle.jsgen_tree.specs.Everywhere.{Everywhere, EverywhereInTrees, EverywhereIfGiven, EverywhereIfListed}
use Rattle.jsgen_tree.specs.Job.{JobData}
use Rattle.jsgen_tree.specs.Nodes as tree
use Rattle.jsgen_tree.specs.Options.{Comments, is_none}
use Rattle.jsgen_model.specs.Items.{Items, ◌⊕◌, deeper, in_class, brackets, wrapped, wrapped_at_start, parentheses_unless_minified, unless_minified, where_same, held, lined_case, caught, annotation, annotation_line, annotated, commented, in_lines}
use Rattle.jsgen_model.specs.Plain.{is_quiet_row, are_off, IsQuiet}
use Rattle.jsgen_model.specs.Spell.{any_given, shape, are_more, ends_in_hole, needs_brackets, is_name_alone, is_function, target_named, is_one, is_declared, spell, spell_method, spell_directives, spell_body, spell_statements, spell_cases, spell_elements_of_class, spell_substitutions, spell_behind_comma, spell_heritage, spell_behind_word, spell_specifiers, spell_clause, spell_behind_default, spell_attributes, spell_exported, spell_list, spell_arguments, spell_behind_first, spell_more, spell_elements, spell_more_elements, spell_properties, spell_more_properties, spell_alternate, spell_only, spell_test, spell_caught, spell_finalizer, spell_apart, spell_if_given, spell_value, first_pen}
use Rattle.jsgen_mark_laws.specs.Law.{PrintsNone}
use Rattle.jsgen_reading_laws.proofs.Unmarked.{Unannotated, unmarked_none, declared_none, operator_item_none, logical_item_none, unary_sign_none, behind_unary_none, update_item_none, assignment_item_none, marked_none, update_items_none, name_link_none, bracket_link_none, new_arguments_none, items_if_none, first_statement_none, braces_none, block_braces_none, consequent_items_none, body_items_none, alternate_items_none, do_items_none, led_items_none, case_items_none, before_of_none, line_or_space_none, on_lines_none, comma_if_none, object_inside_none, before_member_none, before_expression_none, key_items_none, before_value_none, before_bound_none, pattern_braces_none, behind_elements_none, accessor_word_none, method_or_property_none, number_items_none, big_integer_items_none, parameter_items_none, function_items_none, function_words_none, method_words_none, body_braces_none, body_begins_none, comma_between_none, class_items_none, method_kind_word_none, own_or_renamed_none, before_target_none, assignment_items_none, first_piece_none, unless_same_none, import_items_none, others_items_none, clause_items_none, spaced_braces_none, attribute_key_none, space_by_none, exported_end_none, default_items_none}

-- ---- where none are printed

pub never : (items : Items) → PrintsNone false items
never (annotation test kind offset) = and-false test
never (annotation_line indented test offset) = and-false test
never (annotated call items) = (and-false call.pure, never items)
never (a ⊕ b) = (never a, never b)
never (deeper items) = never items
never (in_class items) = never items
never (brackets b items) = never items
never (wrapped test items) = never items
never (wrapped_at_start test opener items) = never items
never (parentheses_unless_minified items) = never items
never (unless_minified items) = never items
never (where_same m n a b) = (never a, never b)
never (held offset items) = never items
never (lined_case only items) = never items
never (caught start body items) = never items
never (commented offset items) = never items
never (in_lines lines starts end items) = never items
never item = tt

-- ---- where no node is marked

-- by rows: `tree_none` is of `spell`, `method_none` of `spell_method`, and so on
mutual
  tree_none : (t : Tree) (place : Place) → Everywhere is_quiet_row t → Unannotated (spell t place)
  tree_none (tree.program a _ hashbang directives body) place h =
      (tt, (if_given_none hashbang _ h.1.1.0, (directives_none directives h.1.1.1.0, (body_none body h.1.1.1.1.0, (tt, (tt, tt))))))
  tree_none (tree.directive a) place h = (tt, (tt, (tt, (tt, (tt, tt)))))
  tree_none (tree.binding_identifier a) place h = tt
  tree_none (tree.identifier_reference a) place h = tt
  tree_none (tree.boolean_literal a) place h = (tt, tt)
  tree_none (tree.numeric_literal a) place h = (tt, number_items_none (numeric_literal_kind a) a place)
  tree_none (tree.big_int_literal a) place h = big_integer_items_none a.span (big_int_literal_value a) (behind_minus (big_int_literal_value a)) place
  tree_none (tree.string_literal a) place h = (tt, (tt, tt))
  tree_none (tree.binary a left right) place h =
      (tree_none left _ h.1.0, (tt, (operator_item_none (binary_expression_operator a), (tt, tree_none right _ h.1.1.0))))
  tree_none (tree.logical a left right) place h =
      (tree_none left _ h.1.0, (tt, (logical_item_none (logical_expression_operator a), (tt, (before_expression_none _ right, tree_none right _ h.1.1.0)))))
  tree_none (tree.block a body) place h =
      (items_if_none place.in_list _ tt, (items_if_none place.in_list _ tt, (block_braces_none _ body _ (statements_none body h.1.0), items_if_none place.in_list _ tt)))
  tree_none (tree.if_statement a test consequent alternate) place h =
      let inner = tree_none consequent within_statement h.1.1.0 in
      let whole = tree_none consequent among_statements h.1.1.0 in
      (items_if_none place.in_list _ (tt, tt), (tt, (tt, (tree_none test _ h.1.0, (consequent_items_none (shape consequent) (ends_open consequent) _ inner whole, alternate_none alternate h.1.1.1.0)))))
  tree_none (tree.for_statement a init test update body) place h =
      let inner = tree_none body within_statement h.1.1.1.1.0 in
      let whole = tree_none body among_statements h.1.1.1.1.0 in
      (tt, (tt, (tt, (tt, ((if_given_none init _ h.1.0, (tt, (apart_none test _ h.1.1.0, (tt, apart_none update _ h.1.1.1.0)))), body_items_none (shape body) _ _ inner whole)))))
  tree_none (tree.for_in_statement a left right body) place h =
      let inner = tree_none body within_statement h.1.1.1.0 in
      let whole = tree_none body among_statements h.1.1.1.0 in
      (tt, (tt, (tt, (tt, ((tree_none left _ h.1.0, (tt, (tt, (tt, tree_none right _ h.1.1.0)))), body_items_none (shape body) _ _ inner whole)))))
  tree_none (tree.for_of_statement a left right body) place h =
      let inner = tree_none body within_statement h.1.1.1.0 in
      let whole = tree_none body among_statements h.1.1.1.0 in
      (tt, (tt, (tt, (items_if_none (for_of_statement_is_await a) _ (tt, tt), (tt, ((before_of_none (for_of_statement_is_await a) (looked_up_in left) _ (tree_none left _ h.1.0), (tt, (tt, (tt, tree_none right _ h.1.1.0)))), body_items_none (shape body) _ _ inner whole))))))
  tree_none (tree.do_while_statement a body test) place h =
      let inner = tree_none body within_statement h.1.0 in
      let whole = tree_none body among_statements h.1.0 in
      (tt, (tt, (tt, (do_items_none _ (shape body) _ _ inner whole, (tt, (tt, (tree_none test _ h.1.1.0, tt)))))))
  tree_none (tree.switch_statement a discriminant cases) place h =
      (tt, (tt, (tt, (tt, (tree_none discriminant _ h.1.0, (tt, (braces_none _ cases _ (cases_none cases h.1.1.0), tt)))))))
  tree_none (tree.switch_case a test consequent) place h =
      (tt, (tt, (tt, (test_none test _ h.1.0, (tt, case_items_none consequent _ _ (only_none _ consequent h.1.1.0) (statements_none consequent h.1.1.0, tt))))))
  tree_none (tree.try_statement a block handler finalizer) place h =
      (tt, (tt, (tt, (tt, (tree_none block _ h.1.0, (if_given_none handler _ h.1.1.0, (finalizer_none finalizer h.1.1.1.0, tt)))))))
  tree_none (tree.catch_clause a param body) place h = (tt, ((tt, (caught_none param _ h.1.0, tt)), tree_none body _ h.1.1.0))
  tree_none (tree.static_member a object property) place h =
      ((tree_none object _ h.1.0, tt), (name_link_none (static_member_expression_optional a), tree_none property _ h.1.1.0))
  tree_none (tree.computed_member a object expression) place h =
      ((tree_none object _ h.1.0, tt), (bracket_link_none (computed_member_expression_optional a), tree_none expression _ h.1.1.0))
  tree_none (tree.call a callee arguments) place h =
      (unmarked_none (call_expression_pure a) h.0, ((tree_none callee _ h.1.0, tt), (bracket_link_none (call_expression_optional a), (arguments_none _ _ arguments _ h.1.1.0, tt))))
  tree_none (tree.chain a element) place h = tree_none element _ h.1.0
  tree_none (tree.array a elements) place h =
      (tt, (on_lines_none (are_more 2 elements) _ (elements_none _ elements _ h.1.0, comma_if_none (ends_in_hole elements)), tt))
  tree_none (tree.update a argument) place h =
      update_items_none _ (update_expression_prefix a) _ _ _ (update_item_none (update_expression_operator a)) (tree_none argument _ h.1.0, tt) (tree_none argument _ h.1.0)
  tree_none (tree.new_expression a callee arguments) place h =
      (unmarked_none (new_expression_pure a) h.0, (tt, (tt, (tree_none callee _ h.1.0, new_arguments_none (any_given arguments || wraps Postfix place) _ (arguments_none _ _ arguments _ h.1.1.0, tt)))))
  tree_none (tree.object_expression a properties) place h =
      (tt, (object_inside_none properties _ (properties_none _ properties _ h.1.0, comma_if_none (ends_in_hole properties)), tt))
  tree_none (tree.object_property a key value) place h =
      let said = key_items_none (needs_brackets (object_property_computed a) key) key (spell key (in_brackets Comma)) (tree_none key _ h.1.0) in
      (items_if_none (is_function (type_of value)) _ tt, method_or_property_none (is_method (object_property_kind a) (object_property_method a)) _ _ (accessor_word_none (object_property_kind a), (method_words_none value, (said, method_none value _ h.1.1.0))) (before_value_none (object_property_shorthand a) (written_name_in key) (looked_up_in (inside_parentheses value)) _ said, (before_expression_none _ value, tree_none value _ h.1.1.0)))
  tree_none (tree.assignment a left right) place h =
      assignment_items_none (type_of left) _ _ (tt, (tree_none left _ h.1.0, (tt, (assignment_item_none (assignment_expression_operator a), (tt, tree_none right _ h.1.1.0)))))
  tree_none (tree.array_target a elements rest) place h =
      (tt, (elements_none _ elements _ h.1.0, behind_elements_none elements rest _ (if_given_none rest _ h.1.1.0)))
  tree_none (tree.object_target a properties rest) place h =
      (tt, (list_none properties _ h.1.0, (comma_between_none properties rest, if_given_none rest _ h.1.1.0)))
  tree_none (tree.target_property_identifier a binding init) place h =
      (own_or_renamed_none (looked_up_in binding) _ (tree_none binding _ h.1.0), value_none init _ h.1.1.0)
  tree_none (tree.target_property a key binding) place h =
      let said = key_items_none (needs_brackets (assignment_target_property_property_computed a) key) key (spell key (in_brackets Comma)) (tree_none key _ h.1.0) in
      (before_target_none (written_name_in key) (target_named binding) _ (said, (tt, tt)), tree_none binding _ h.1.1.0)
  tree_none (tree.formal_parameters a items rest) place h = (list_none items _ h.1.0, (comma_between_none items rest, if_given_none rest _ h.1.1.0))
  tree_none (tree.arrow_function a params body) place h =
      (unmarked_none (arrow_function_expression_pure a) h.0, (tt, (items_if_none (arrow_function_expression_is_async a) _ (tt, tt), (parameter_items_none (is_name_alone params) _ (tree_none params _ h.1.0), (tt, (tt, (tt, (body_begins_none (type_of body), tree_none body _ h.1.1.0))))))))
  tree_none (tree.function a id params body) place h =
      function_items_none (function_kind a) _ _ (unmarked_none (function_pure a) h.0) (function_words_none a.span (function_is_async a) (function_generator a), (if_given_none id _ h.1.0, (tree_none params _ h.1.1.0, apart_none body _ h.1.1.1.0)))
  tree_none (tree.function_body a directives statements) place h =
      body_braces_none _ directives statements _ (directives_none directives h.1.0, body_none statements h.1.1.0)
  tree_none (tree.object_pattern a properties rest) place h =
      (tt, pattern_braces_none properties rest _ (list_none properties _ h.1.0, (comma_between_none properties rest, if_given_none rest _ h.1.1.0)))
  tree_none (tree.binding_property a key value) place h =
      let said = key_items_none (needs_brackets (binding_property_computed a) key) key (spell key (in_brackets Comma)) (tree_none key _ h.1.0) in
      (before_bound_none (written_name_in key) (bound_in value) _ said, tree_none value _ h.1.1.0)
  tree_none (tree.array_pattern a elements rest) place h =
      (tt, (elements_none _ elements _ h.1.0, behind_elements_none elements rest _ (if_given_none rest _ h.1.1.0)))
  tree_none (tree.private_identifier a) place h = tt
  tree_none (tree.private_member a object field) place h =
      ((tree_none object _ h.1.0, tt), (name_link_none (private_field_expression_optional a), tree_none field _ h.1.1.0))
  tree_none (tree.private_in a left right) place h = (tt, (tree_none left _ h.1.0, (tt, (tt, (tt, tree_none right _ h.1.1.0)))))
  tree_none (tree.class a id heritage body) place h =
      class_items_none (class_kind a) _ _ _ (tt, (behind_word_none id _ h.1.0, (heritage_none heritage h.1.1.0, (tt, tree_none body _ h.1.1.1.0))))
  tree_none (tree.class_body a body) place h = braces_none _ body _ (elements_of_class_none body _ h.1.0)
  tree_none (tree.static_block a body) place h =
      (items_if_none place.in_list _ (tt, tt), ((tt, ((tt, tt), block_braces_none _ body _ (statements_none body h.1.0))), items_if_none place.in_list _ tt))
  tree_none (tree.method_definition a key value) place h =
      let said = key_items_none (method_definition_computed a) key (spell key (in_brackets Comma)) (tree_none key _ h.1.0) in
      (items_if_none place.in_list _ (tt, tt), ((tt, (items_if_none (method_definition_is_static a) _ (tt, tt), (method_kind_word_none (method_definition_kind a), (method_words_none value, (said, method_none value _ h.1.1.0))))), items_if_none place.in_list _ tt))
  tree_none (tree.property_definition a key value) place h =
      let said = key_items_none (property_definition_computed a) key (spell key (in_brackets Comma)) (tree_none key _ h.1.0) in
      (items_if_none place.in_list _ (tt, tt), ((tt, (items_if_none (property_definition_is_static a) _ (tt, tt), (said, value_none value _ h.1.1.0))), items_if_none place.in_list _ tt))
  tree_none (tree.template_literal a quasis expressions) place h =
      (items_if_none (is_one quasis) _ tt, (tt, (first_piece_none _ _ quasis, substitutions_none _ expressions _ h.1.1.0)))
  tree_none (tree.tagged_template a callee quasi) place h = (tt, ((tree_none callee _ h.1.0, tt), tree_none quasi _ h.1.1.0))
  tree_none (tree.import_call a source options) place h = (tt, (tt, (tree_none source _ h.1.0, behind_comma_none options _ h.1.1.0)))
  tree_none (tree.hashbang a) place h = (tt, (tt, tt))
  tree_none (tree.import_declaration a specifiers source with_attributes) place h =
      ((tt, (tt, (tt, tt))), (specifiers_none specifiers h.1.0, (tree_none source _ h.1.1.0, (attributes_none _ with_attributes h.1.1.1.0, tt))))
  tree_none (tree.import_default_specifier a local) place h = tree_none local _ h.1.0
  tree_none (tree.import_namespace_specifier a local) place h = (tt, (tt, (tt, (tt, tree_none local _ h.1.0))))
  tree_none (tree.import_specifier a imported local) place h =
      import_items_none imported local _ _ (tree_none imported _ h.1.0) (tree_none local _ h.1.1.0)
  tree_none (tree.with_clause a entries) place h = (tt, (tt, (tt, (tt, spaced_braces_none entries _ (list_none entries _ h.1.0)))))
  tree_none (tree.import_attribute a key value) place h = (attribute_key_none key _ (tree_none key _ h.1.0), (tt, (tt, tree_none value _ h.1.1.0)))
  tree_none (tree.export_declaration a declaration) place h =
      ((tt, (declared_none declaration h.1.0, (tt, (tt, tt)))), (tt, (tree_none declaration _ h.1.0, exported_end_none (type_of declaration))))
  tree_none (tree.export_named_declaration a specifiers) place h =
      ((tt, (tt, (tt, tt))), (tt, (spaced_braces_none specifiers _ (list_none specifiers _ h.1.0), tt)))
  tree_none (tree.export_from_declaration a specifiers source with_attributes) place h =
      ((tt, (tt, (tt, tt))), (tt, (spaced_braces_none specifiers _ (list_none specifiers _ h.1.0), (tt, (tt, (tt, (tree_none source _ h.1.1.0, (attributes_none _ with_attributes h.1.1.1.0, tt))))))))
  tree_none (tree.export_specifier a local exported) place h =
      (tt, (tree_none local _ h.1.0, unless_same_none local exported _ (tt, (tt, (tt, (tt, tree_none exported _ h.1.1.0))))))
  tree_none (tree.export_all_declaration a exported source with_attributes) place h =
      ((tt, (tt, (tt, tt))), (tt, (tt, (exported_none exported h.1.0, (tt, (tt, (tree_none source _ h.1.1.0, (attributes_none _ with_attributes h.1.1.1.0, tt))))))))
  tree_none (tree.export_default_declaration a declaration) place h =
      ((tt, (declared_none declaration h.1.0, (tt, (tt, tt)))), (tt, (tt, (tt, default_items_none (is_declared declaration) _ _ (tree_none declaration _ h.1.0) (tree_none declaration _ h.1.0)))))
  tree_none (tree.variable_declaration a declarations) place h =
      (items_if_none place.in_list _ (tt, tt), ((tt, (tt, (tt, list_none declarations _ h.1.0))), items_if_none place.in_list _ tt))
  tree_none (tree.variable_declarator a id init) place h = (tree_none id _ h.1.0, value_none init _ h.1.1.0)
  tree_none (tree.expression_statement a expression) place h = (tt, (tt, (tt, (tree_none expression _ h.1.0, tt))))
  tree_none (tree.empty_statement a) place h = (tt, (tt, (tt, (tt, tt))))
  tree_none (tree.this_expression a) place h = tt
  tree_none (tree.null_literal a) place h = tt
  tree_none (tree.reg_exp_literal a) place h = (tt, tt)
  tree_none (tree.parenthesized a expression) place h = (tree_none expression _ h.1.0, tt)
  tree_none (tree.identifier_name a) place h = tt
  tree_none (tree.spread a argument) place h = (tt, (tt, tree_none argument _ h.1.0))
  tree_none (tree.unary a argument) place h =
      (marked_none a.span (unary_sign (unary_expression_operator a)) (unary_sign_none (unary_expression_operator a)), (behind_unary_none (unary_expression_operator a), tree_none argument _ h.1.0))
  tree_none (tree.new_target a) place h = (tt, (tt, tt))
  tree_none (tree.super a) place h = tt
  tree_none (tree.import_meta a) place h = tt
  tree_none (tree.conditional a test consequent alternate) place h =
      (tree_none test _ h.1.0, (tt, (tt, (tt, (before_expression_none _ consequent, (tree_none consequent _ h.1.1.0, (tt, (tt, (tt, (before_expression_none _ alternate, tree_none alternate _ h.1.1.1.0))))))))))
  tree_none (tree.sequence a expressions) place h = list_none expressions _ h.1.0
  tree_none (tree.formal_parameter a pattern initializer) place h = (tt, (tree_none pattern _ h.1.0, value_none initializer _ h.1.1.0))
  tree_none (tree.formal_parameter_rest a argument) place h = (tt, (tt, tree_none argument _ h.1.0))
  tree_none (tree.await_expression a argument) place h = (tt, (tt, tree_none argument _ h.1.0))
  tree_none (tree.yield_expression a argument) place h = (tt, (items_if_none (yield_expression_delegate a) _ tt, apart_none argument _ h.1.0))
  tree_none (tree.while_statement a test body) place h =
      let inner = tree_none body within_statement h.1.1.0 in
      let whole = tree_none body among_statements h.1.1.0 in
      (tt, (tt, (tt, (tt, (tree_none test _ h.1.0, body_items_none (shape body) _ _ inner whole)))))
  tree_none (tree.label_identifier a) place h = tt
  tree_none (tree.labeled_statement a label body) place h =
      let inner = tree_none body within_statement h.1.1.0 in
      let whole = tree_none body among_statements h.1.1.0 in
      (tt, (tt, (tt, (tt, (tree_none label _ h.1.0, (tt, body_items_none (shape body) _ _ inner whole))))))
  tree_none (tree.continue_statement a label) place h = (tt, (tt, (tt, (apart_none label _ h.1.0, tt))))
  tree_none (tree.break_statement a label) place h = (tt, (tt, (tt, (apart_none label _ h.1.0, tt))))
  tree_none (tree.return_statement a argument) place h = (tt, (tt, (tt, (apart_none argument _ h.1.0, tt))))
  tree_none (tree.throw_statement a argument) place h = (tt, (tt, (tt, (tt, (tree_none argument _ h.1.0, tt)))))
  tree_none (tree.debugger_statement a) place h = (tt, (tt, (tt, tt)))
  tree_none (tree.binding_rest_element a argument) place h = (tt, (tt, tree_none argument _ h.1.0))
  tree_none (tree.assignment_pattern a left right) place h = (tree_none left _ h.1.0, (tt, (tt, (tt, tree_none right _ h.1.1.0))))
  tree_none (tree.target_with_default a binding init) place h = (tree_none binding _ h.1.0, (tt, (tt, (tt, tree_none init _ h.1.1.0))))
  tree_none (tree.target_rest a target) place h = (tt, (tt, tree_none target _ h.1.0))
  tree_none t place h = tt

  method_none : (t : Tree) (place : Place) → Everywhere is_quiet_row t → Unannotated (spell_method t place)
  method_none (tree.function a id params body) place h = (tree_none params _ h.1.1.0, apart_none body _ h.1.1.1.0)
  method_none t place h = tt

  directives_none : (ts : Trees) → EverywhereInTrees is_quiet_row ts → Unannotated (spell_directives ts)
  directives_none no_trees h = tt
  directives_none (more t ts) h = (tree_none t _ h.0, directives_none ts h.1)
  directives_none (hole ts) h = directives_none ts h

  body_none : (ts : Trees) → EverywhereInTrees is_quiet_row ts → Unannotated (spell_body ts)
  body_none no_trees h = tt
  body_none (more t ts) h = (tt, (tt, (first_statement_none t _ (tree_none t _ h.0), statements_none ts h.1)))
  body_none (hole ts) h = body_none ts h

  statements_none : (ts : Trees) → EverywhereInTrees is_quiet_row ts → Unannotated (spell_statements ts)
  statements_none no_trees h = tt
  statements_none (more t ts) h = (tt, (tt, (tree_none t _ h.0, statements_none ts h.1)))
  statements_none (hole ts) h = statements_none ts h

  cases_none : (ts : Trees) → EverywhereInTrees is_quiet_row ts → Unannotated (spell_cases ts)
  cases_none no_trees h = tt
  cases_none (more t ts) h = (tt, (tree_none t _ h.0, cases_none ts h.1))
  cases_none (hole ts) h = cases_none ts h

  elements_of_class_none : (ts : Trees) (place : Place) → EverywhereInTrees is_quiet_row ts → Unannotated (spell_elements_of_class ts place)
  elements_of_class_none no_trees place h = tt
  elements_of_class_none (more t ts) place h = (tt, (tree_none t _ h.0, elements_of_class_none ts _ h.1))
  elements_of_class_none (hole ts) place h = elements_of_class_none ts _ h

  substitutions_none : (is_tagged : Bool) (ts pieces : Trees) → EverywhereInTrees is_quiet_row ts → Unannotated (spell_substitutions is_tagged ts pieces)
  substitutions_none is_tagged no_trees pieces h = tt
  substitutions_none is_tagged (more t ts) pieces h =
      (before_expression_none _ t, (tree_none t _ h.0, (first_piece_none _ _ pieces, substitutions_none _ ts _ h.1)))
  substitutions_none is_tagged (hole ts) pieces h = substitutions_none _ ts _ h

  behind_comma_none : (m : Maybe) (place : Place) → EverywhereIfGiven is_quiet_row m → Unannotated (spell_behind_comma m place)
  behind_comma_none absent place h = tt
  behind_comma_none (given t) place h = (tt, (tt, tree_none t _ h))

  heritage_none : (m : Maybe) → EverywhereIfGiven is_quiet_row m → Unannotated (spell_heritage m)
  heritage_none absent h = tt
  heritage_none (given t) h = (tt, (tt, (tt, (tree_none t _ h, tt))))

  behind_word_none : (m : Maybe) (place : Place) → EverywhereIfGiven is_quiet_row m → Unannotated (spell_behind_word m place)
  behind_word_none absent place h = tt
  behind_word_none (given t) place h = (tt, tree_none t _ h)

  specifiers_none : (ts : MaybeTrees) → EverywhereIfListed is_quiet_row ts → Unannotated (spell_specifiers ts)
  specifiers_none no_list h = tt
  specifiers_none (listed ts) h = (clause_none ts h, (tt, tt))

  clause_none : (ts : Trees) → EverywhereInTrees is_quiet_row ts → Unannotated (spell_clause ts)
  clause_none no_trees h = (tt, (tt, tt))
  clause_none (more t ts) h =
      clause_items_none (type_of t) _ _ _ (tree_none t _ h.0) (behind_default_none ts h.1) (others_items_none (type_of t) _ _ (tree_none t _ h.0) (tree_none t _ h.0, more_none ts _ h.1))
  clause_none (hole ts) h = clause_none ts h

  behind_default_none : (ts : Trees) → EverywhereInTrees is_quiet_row ts → Unannotated (spell_behind_default ts)
  behind_default_none no_trees h = tt
  behind_default_none (more t ts) h = (tt, (tt, others_items_none (type_of t) _ _ (tree_none t _ h.0) (tree_none t _ h.0, more_none ts _ h.1)))
  behind_default_none (hole ts) h = behind_default_none ts h

  attributes_none : (test : Bool) (m : Maybe) → EverywhereIfGiven is_quiet_row m → Unannotated (spell_attributes test m)
  attributes_none test absent h = tt
  attributes_none test (given t) h = (space_by_none test, tree_none t _ h)

  exported_none : (m : Maybe) → EverywhereIfGiven is_quiet_row m → Unannotated (spell_exported m)
  exported_none absent h = tt
  exported_none (given t) h = (tt, (tt, (tt, (tree_none t _ h, tt))))

  list_none : (ts : Trees) (place : Place) → EverywhereInTrees is_quiet_row ts → Unannotated (spell_list ts place)
  list_none no_trees place h = tt
  list_none (more t ts) place h = (tree_none t _ h.0, more_none ts _ h.1)
  list_none (hole ts) place h = list_none ts _ h

  arguments_none : (first second : Bool) (ts : Trees) (place : Place) → EverywhereInTrees is_quiet_row ts → Unannotated (spell_arguments first second ts place)
  arguments_none first second no_trees place h = tt
  arguments_none first second (more t ts) place h = (tt, (tree_none t _ h.0, behind_first_none _ ts _ h.1))
  arguments_none first second (hole ts) place h = arguments_none _ _ ts _ h

  behind_first_none : (second : Bool) (ts : Trees) (place : Place) → EverywhereInTrees is_quiet_row ts → Unannotated (spell_behind_first second ts place)
  behind_first_none second no_trees place h = tt
  behind_first_none second (more t ts) place h = (tt, (tt, (tree_none t _ h.0, behind_first_none _ ts _ h.1)))
  behind_first_none second (hole ts) place h = behind_first_none _ ts _ h

  more_none : (ts : Trees) (place : Place) → EverywhereInTrees is_quiet_row ts → Unannotated (spell_more ts place)
  more_none no_trees place h = tt
  more_none (more t ts) place h = (tt, (tt, (tree_none t _ h.0, more_none ts _ h.1)))
  more_none (hole ts) place h = more_none ts _ h

  elements_none : (lines : Bool) (ts : Trees) (place : Place) → EverywhereInTrees is_quiet_row ts → Unannotated (spell_elements lines ts place)
  elements_none lines no_trees place h = tt
  elements_none lines (more t ts) place h = (tree_none t _ h.0, more_elements_none _ ts _ h.1)
  elements_none lines (hole ts) place h = more_elements_none _ ts _ h

  more_elements_none : (lines : Bool) (ts : Trees) (place : Place) → EverywhereInTrees is_quiet_row ts → Unannotated (spell_more_elements lines ts place)
  more_elements_none lines no_trees place h = tt
  more_elements_none lines (more t ts) place h = (tt, (line_or_space_none lines, (tree_none t _ h.0, more_elements_none _ ts _ h.1)))
  more_elements_none lines (hole ts) place h = (tt, (line_or_space_none lines, more_elements_none _ ts _ h))

  properties_none : (lines : Bool) (ts : Trees) (place : Place) → EverywhereInTrees is_quiet_row ts → Unannotated (spell_properties lines ts place)
  properties_none lines no_trees place h = tt
  properties_none lines (more t ts) place h = (before_member_none lines _, (tree_none t _ h.0, more_properties_none _ ts _ h.1))
  properties_none lines (hole ts) place h = (line_or_space_none lines, more_properties_none _ ts _ h)

  more_properties_none : (lines : Bool) (ts : Trees) (place : Place) → EverywhereInTrees is_quiet_row ts → Unannotated (spell_more_properties lines ts place)
  more_properties_none lines no_trees place h = tt
  more_properties_none lines (more t ts) place h = (tt, (before_member_none lines _, (tree_none t _ h.0, more_properties_none _ ts _ h.1)))
  more_properties_none lines (hole ts) place h = (tt, (line_or_space_none lines, more_properties_none _ ts _ h))

  alternate_none : (m : Maybe) → EverywhereIfGiven is_quiet_row m → Unannotated (spell_alternate m)
  alternate_none absent h = tt
  alternate_none (given t) h =
      let inner = tree_none t within_statement h in
      let whole = tree_none t among_statements h in
      (tt, (tt, alternate_items_none (shape t) _ _ inner whole))

  only_none : (end : ℕ) (ts : Trees) → EverywhereInTrees is_quiet_row ts → Unannotated (spell_only end ts)
  only_none end no_trees h = tt
  only_none end (more t ts) h =
      let inner = tree_none t within_statement h.0 in
      let whole = tree_none t among_statements h.0 in
      led_items_none (shape t) _ _ inner whole
  only_none end (hole ts) h = tt

  test_none : (m : Maybe) (place : Place) → EverywhereIfGiven is_quiet_row m → Unannotated (spell_test m place)
  test_none absent place h = tt
  test_none (given t) place h = (tt, (tt, tree_none t _ h))

  caught_none : (m : Maybe) (place : Place) → EverywhereIfGiven is_quiet_row m → Unannotated (spell_caught m place)
  caught_none absent place h = tt
  caught_none (given t) place h = (tt, tree_none t _ h)

  finalizer_none : (m : Maybe) → EverywhereIfGiven is_quiet_row m → Unannotated (spell_finalizer m)
  finalizer_none absent h = tt
  finalizer_none (given t) h = (tt, (tt, (tt, tree_none t _ h)))

  apart_none : (m : Maybe) (place : Place) → EverywhereIfGiven is_quiet_row m → Unannotated (spell_apart m place)
  apart_none absent place h = tt
  apart_none (given t) place h = (tt, tree_none t _ h)

  if_given_none : (m : Maybe) (place : Place) → EverywhereIfGiven is_quiet_row m → Unannotated (spell_if_given m place)
  if_given_none absent place h = tt
  if_given_none (given t) place h = tree_none t _ h

  value_none : (m : Maybe) (place : Place) → EverywhereIfGiven is_quiet_row m → Unannotated (spell_value m place)
  value_none absent place h = tt
  value_none (given t) place h = (tt, (tt, (tt, tree_none t _ h)))

pub unannotated : (t : Tree) (place : Place) (printed : Bool) → Everywhere is_quiet_row t → PrintsNone printed (spell t place)
unannotated t place true h = tree_none t place h
unannotated t place false h = never (spell t place)

-- ---- quiet jobs

-- where the options let no comment be printed, they let no annotation be
unset : (c : Comments) → are_off c ≡ true → not c.annotation ≡ true
unset c off = (and_parts (not c.normal && not c.jsdoc) (not c.annotation) (and_parts (not c.normal && not c.jsdoc && not c.annotation) (is_none c.legal) off).0).1

unless_printed : (printed : Bool) (items : Items) → not printed ≡ true → PrintsNone printed items
unless_printed true items h = absurd (both_ways false refl h)
unless_printed false items h = never items

pub quiet_annotations : (job : JobData) → IsQuiet job → PrintsNone (first_pen job).style.annotated (spell job.program among_statements)
quiet_annotations job (inl h) = unannotated job.program among_statements job.options.comments.annotation h
quiet_annotations job (inr off) = unless_printed job.options.comments.annotation (spell job.program among_statements) (unset job.options.comments off)
