-- How each node is spelled: one row, one clause.
use Rattle.std.specs.Prelude.{ℕ, List, ◌∷◌, Bool, true, false, not, ◌||◌, codes}
use Rattle.std.specs.Str.{encode_utf8_all}
use Rattle.jsgen_syntax.specs.Operator.{logical_level, logical_lower_level}
use Rattle.jsgen_syntax.specs.declared.precedence.Precedence.TheVariants.{Lowest, Comma, Yield, Assign, Conditional, Exponentiation, Prefix, Postfix, New}
use Rattle.jsgen_place.specs.declared.place.Place.{Place}
use Rattle.jsgen_place.specs.Place.{child, left_operand, in_brackets, loop_head, among_statements, within_statement, member, behind_private, with_calls, quoted_plainly, linked, is_at_link, called, tag, tagged, constructed, within, wraps, binary_wraps, logical_wraps, call_wraps, chain_wraps, chain_place, arrow_wraps, update_level, plainly}
use Rattle.jsgen_syntax.specs.declared.operator.BinaryOperator.TheVariants as operators
use Rattle.jsgen_tree.specs.Named.{as_written}
use Rattle.jsgen_tree.specs.Inside.{inside_parentheses, ends_open, reference_named, binding_named, looked_up_in, bound_in, written_name_in, is_method, behind_minus}
use Rattle.jsgen_tree.specs.Words.{declaration_word, with_word}
use Rattle.jsgen_tree.specs.Tree.{Tree, Maybe, absent, given, Trees, no_trees, more, hole, type_of, span_of, MaybeTrees, no_list, listed}
use Rattle.jsgen_tree.specs.Values.{as_text, directive_directive, variable_declaration_kind, identifier_name_name, label_identifier_name, boolean_literal_value, numeric_literal_kind, big_int_literal_value, string_literal_value, binary_expression_operator, logical_expression_operator, unary_expression_operator, update_expression_operator, update_expression_prefix, object_property_kind, object_property_method, object_property_shorthand, object_property_computed, function_kind, function_is_async, function_generator, function_pure, function_pife, assignment_expression_operator, static_member_expression_optional, computed_member_expression_optional, call_expression_optional, call_expression_pure, new_expression_pure, for_of_statement_is_await, arrow_function_expression_is_async, arrow_function_expression_pure, arrow_function_expression_pife, binding_property_computed, private_identifier_name, private_field_expression_optional, class_kind, method_definition_kind, method_definition_computed, method_definition_is_static, property_definition_computed, property_definition_is_static, assignment_target_property_property_computed, hashbang_value, with_clause_keyword}
use Rattle.jsgen_tree.specs.Job.{JobData}
use Rattle.jsgen_tree.specs.Nodes as tree
use Rattle.jsgen_model.specs.Punctuator.{ellipsis, comma, semicolon, equal, Round, Square, Brace, colon, question, arrow, star}
use Rattle.jsgen_model.specs.Quotes.{is_require_call, is_definition_call, is_key_of_exports, is_export_mark}
use Rattle.jsgen_model.specs.Items.{Items, nothing, ◌⊕◌, word, name, private_name, with_key_annotation, string, directive, punctuator, member_dot, brackets, soft_space, soft_line, hard_space, in_class, indentation, wrapped, statement_end, due_semicolon, statement_begins, literal, end_mark, link_mark, marked_indentation, orphans, lined_case, caught, then_space, before_it, annotation_before_it, commented, annotation, annotated, no_side_effects, in_lines, of_import, line_break, first_argument, other_argument, import_source, import_options}
use Rattle.jsgen_model.specs.Lay.{lay}
use Rattle.jsgen_model.specs.Comments.{kept, kept_annotations}
use Rattle.jsgen_model.specs.Ends.{ended}
use Rattle.jsgen_model.specs.Valid.{source_of}
use Rattle.jsgen_model.specs.Layout.{Pen, empty_pen, style_of}
use Rattle.jsgen_model.specs.Operators.{operator_item, logical_item, unary_sign, behind_unary, update_item, assignment_item, marked}
pub use Rattle.jsgen_model.specs.Spellings.{unmarked, left_place, update_items, operation, is_prefixed, is_or_or_and, mixes, left_level, right_level, unmixed, name_link, bracket_link, linked_items, span_if, any_given, starts_of, argument_items, new_arguments, items_if, as_statement, string_in, string_statement, unless_string, span_inside, first_statement, filled_braces, empty_braces, braces, block_braces, block_items, shape_of_type, shape, braces_end, body_end, consequent_items, body_items, alternate_items, do_items, lead_to, led_items, case_items, apart_from_of, before_of, is_given, count, are_more, next_line, line_or_space, on_lines, ends_in_hole, comma_if, comma_if_any, object_inside, before_member, is_marked_as_called, before_expression, before_called, key_text, needs_brackets, key_items, items_unless, unless_said, unless_short, before_value, before_bound, pattern_braces, behind_elements, accessor_word, method_or_property, truth_word, negative, signed, number_items, big_text, big_integer_items, key_word, is_name_alone, parameter_items, function_items, function_words, is_function, method_words, body_braces, body_begins, comma_between, class_items, element_end, element_items, method_kind_word, renamed_items, own_or_renamed, target_named, before_target, assignment_items, first_piece, other_pieces, opening_part, further_part, is_one, string_named, export_named, unless_named, unless_same, as_name, import_items, others_items, clause_items, spaced_braces, attribute_key, space_by, is_empty_list, starts_if, module_word, export_word, exported_end, is_declared_function, is_declared_class, is_declared, is_pure_declaration, default_items}
-- generated from tools/nodes/table.txt: names
use Rattle.jsgen_tree.specs.Values.{reg_exp_literal_pattern, reg_exp_literal_flags, yield_expression_delegate}
use Rattle.jsgen_model.specs.Items.{marked_word, apart, comments, all_of_them, mark, regular_expression}

-- end of what is generated: names

-- ---- the whole

abbrev mutual
  pub spell : Tree → Place → Items
  spell (tree.program a _ hashbang directives body) place =
      comments all_of_them 0 ⊕ spell_if_given hashbang place ⊕ spell_directives directives ⊕ spell_body body ⊕ orphans a.span.end ⊕ due_semicolon ⊕ comments all_of_them a.span.end
  spell (tree.directive a) place =
      comments all_of_them a.span.start ⊕ indentation ⊕ mark a.span ⊕ directive (as_text (directive_directive a)) ⊕ punctuator semicolon ⊕ soft_line
  spell (tree.binding_identifier a) place = name a.span (binding_named a)
  spell (tree.identifier_reference a) place = name a.span (reference_named a)
  spell (tree.boolean_literal a) place = mark a.span ⊕ word (truth_word (boolean_literal_value a))
  spell (tree.numeric_literal a) place = mark a.span ⊕ number_items (numeric_literal_kind a) a place
  spell (tree.big_int_literal a) place = big_integer_items a.span (big_int_literal_value a) (behind_minus (big_int_literal_value a)) place
  spell (tree.string_literal a) place = comments with_key_annotation a.span.start ⊕ mark a.span ⊕ string (not place.plain_quotes) (string_literal_value a)
  spell (tree.binary a left right) place =
      operation (binary_wraps (binary_expression_operator a) place) (operator_item (binary_expression_operator a))
      (spell left (quoted_plainly (is_export_mark (binary_expression_operator a) left) (left_operand (left_level (binary_expression_operator a) left) (within (binary_wraps (binary_expression_operator a) place) place))))
      (spell right (quoted_plainly (is_export_mark (binary_expression_operator a) right) (child (right_level (binary_expression_operator a)) (within (binary_wraps (binary_expression_operator a) place) place))))
  spell (tree.logical a left right) place =
      operation (logical_wraps (logical_expression_operator a) place) (logical_item (logical_expression_operator a))
      (spell left (left_operand (unmixed (logical_expression_operator a) left (logical_lower_level (logical_expression_operator a))) (within (logical_wraps (logical_expression_operator a) place) place)))
      (before_expression annotation_before_it right ⊕ spell right (child (unmixed (logical_expression_operator a) right (logical_level (logical_expression_operator a))) (within (logical_wraps (logical_expression_operator a) place) place)))
  spell (tree.block a body) place =
      items_if place.in_list (comments all_of_them a.span.start) ⊕ block_items place.in_list (block_braces a.span body (spell_statements body))
  spell (tree.if_statement a test consequent alternate) place =
      items_if place.in_list (comments all_of_them a.span.start ⊕ indentation) ⊕ marked_word a.span (codes "if") ⊕ soft_space ⊕ brackets Round (spell test (in_brackets Lowest))
      ⊕ consequent_items (shape consequent) (ends_open consequent)
      (record { span = span_of consequent; inner = spell consequent within_statement; whole = spell consequent among_statements; else_follows = is_given alternate })
      ⊕ spell_alternate alternate
  spell (tree.for_statement a init test update body) place =
      comments all_of_them a.span.start ⊕ indentation ⊕ marked_word a.span (codes "for") ⊕ soft_space ⊕ brackets Round (spell_if_given init loop_head
      ⊕ punctuator semicolon ⊕ spell_apart test (in_brackets Lowest) ⊕ punctuator semicolon ⊕ spell_apart update (in_brackets Lowest))
      ⊕ body_items (shape body) (spell body within_statement) (spell body among_statements)
  spell (tree.for_in_statement a left right body) place =
      comments all_of_them a.span.start ⊕ indentation ⊕ marked_word a.span (codes "for") ⊕ soft_space ⊕ brackets Round (spell left (left_place (type_of left))
      ⊕ soft_space ⊕ word (codes "in") ⊕ soft_space ⊕ spell right (in_brackets Lowest))
      ⊕ body_items (shape body) (spell body within_statement) (spell body among_statements)
  spell (tree.for_of_statement a left right body) place =
      comments all_of_them a.span.start ⊕ indentation ⊕ marked_word a.span (codes "for") ⊕ items_if (for_of_statement_is_await a) (hard_space ⊕ word (codes "await")) ⊕ soft_space
      ⊕ brackets Round (before_of (for_of_statement_is_await a) (looked_up_in left) (spell left (left_place (type_of left)))
      ⊕ soft_space ⊕ word (codes "of") ⊕ soft_space ⊕ spell right (in_brackets Comma))
      ⊕ body_items (shape body) (spell body within_statement) (spell body among_statements)
  spell (tree.do_while_statement a body test) place =
      comments all_of_them a.span.start ⊕ indentation ⊕ marked_word a.span (codes "do") ⊕ do_items (span_of body) (shape body) (spell body within_statement) (spell body among_statements)
      ⊕ word (codes "while") ⊕ soft_space ⊕ brackets Round (spell test (in_brackets Lowest)) ⊕ statement_end
  spell (tree.switch_statement a discriminant cases) place =
      comments all_of_them a.span.start ⊕ indentation ⊕ marked_word a.span (codes "switch") ⊕ soft_space ⊕ brackets Round (spell discriminant (in_brackets Lowest))
      ⊕ soft_space ⊕ braces a.span cases (spell_cases cases) ⊕ soft_line
  spell (tree.switch_case a test consequent) place =
      comments all_of_them a.span.start ⊕ indentation ⊕ mark a.span ⊕ spell_test test (in_brackets Lowest) ⊕ punctuator colon ⊕ case_items consequent (spell_only a.span.end consequent) (spell_statements consequent ⊕ orphans a.span.end)
  spell (tree.try_statement a block handler finalizer) place =
      comments all_of_them a.span.start ⊕ indentation ⊕ marked_word a.span (codes "try") ⊕ soft_space ⊕ spell block within_statement ⊕ spell_if_given handler within_statement ⊕ spell_finalizer finalizer ⊕ soft_line
  spell (tree.catch_clause a param body) place =
      soft_space ⊕ caught a.span.start (span_of body).start (word (codes "catch") ⊕ spell_caught param (child Lowest place) ⊕ soft_space) ⊕ spell body within_statement
  spell (tree.static_member a object property) place = linked_items object (spell object (linked place)) ⊕ name_link (static_member_expression_optional a) ⊕ spell property (child Lowest place)
  spell (tree.computed_member a object expression) place = linked_items object (spell object (linked place)) ⊕ bracket_link (computed_member_expression_optional a) ⊕ brackets Square (spell expression (quoted_plainly place.plain_quotes (in_brackets Lowest)))
  spell (tree.call a callee arguments) place =
      annotated (record { wrapped = call_wraps place; lifted = wraps Postfix place; pure = call_expression_pure a; span = a.span; start = a.span.start })
      (linked_items callee (spell callee (called (within (call_wraps place) place))) ⊕ bracket_link (call_expression_optional a)
      ⊕ brackets Round (argument_items (is_require_call callee arguments || is_definition_call callee arguments) arguments a.span
      (spell_arguments (is_require_call callee arguments) (is_definition_call callee arguments) arguments (in_brackets Comma))))
  spell (tree.chain a element) place = wrapped (chain_wraps place) (spell element (chain_place (chain_wraps place) place))
  -- up to two elements stand on one line
  spell (tree.array a elements) place = mark a.span ⊕ brackets Square (on_lines (are_more 2 elements) (spell_elements (are_more 2 elements) elements (in_brackets Comma) ⊕ comma_if (ends_in_hole elements)) ⊕ end_mark a.span)
  spell (tree.update a argument) place =
      wrapped (wraps (update_level (update_expression_prefix a)) place) (update_items a.span (update_expression_prefix a) (update_item (update_expression_operator a))
      (linked_items argument (spell argument (child Postfix (within (wraps (update_level (update_expression_prefix a)) place) place))))
      (spell argument (child Prefix (within (wraps (update_level (update_expression_prefix a)) place) place))))
  spell (tree.new_expression a callee arguments) place =
      annotated (record { wrapped = wraps New place; lifted = wraps Postfix place; pure = new_expression_pure a; span = unmarked; start = a.span.start })
      (marked_word a.span (codes "new") ⊕ soft_space ⊕ spell callee (constructed (within (wraps New place) place))
      ⊕ new_arguments (any_given arguments || wraps Postfix place) (argument_items false arguments a.span (spell_arguments false false arguments (in_brackets Comma))))
  -- up to one property stands on one line; as in an array, a comma would stand behind a last one that is left out, but none is
  spell (tree.object_expression a properties) place = commented a.span.start (mark a.span ⊕ brackets Brace (object_inside properties (spell_properties (are_more 1 properties) properties (in_brackets Comma) ⊕ comma_if (ends_in_hole properties)) ⊕ end_mark a.span))
  spell (tree.object_property a key value) place =
      items_if (is_function (type_of value)) (mark a.span) ⊕ method_or_property (is_method (object_property_kind a) (object_property_method a))
      (accessor_word (object_property_kind a) ⊕ method_words value ⊕ key_items (needs_brackets (object_property_computed a) key) key (spell key (in_brackets Comma)) ⊕ spell_method value place)
      (before_value (object_property_shorthand a) (written_name_in key) (looked_up_in (inside_parentheses value)) (key_items (needs_brackets (object_property_computed a) key) key (spell key (in_brackets Comma)))
      ⊕ before_expression before_it value ⊕ spell value (in_brackets Comma))
  -- an assignment binds to the right, and hands on what is forbidden
  spell (tree.assignment a left right) place =
      assignment_items (type_of left) (wraps Assign place) (mark a.span ⊕ spell left (quoted_plainly (is_key_of_exports left) (in_brackets Comma)) ⊕ soft_space
      ⊕ assignment_item (assignment_expression_operator a) ⊕ soft_space ⊕ spell right (child Comma place))
  spell (tree.array_target a elements rest) place =
      mark a.span ⊕ brackets Square (spell_elements false elements (in_brackets Comma) ⊕ behind_elements elements rest (spell_if_given rest (in_brackets Comma)))
  spell (tree.object_target a properties rest) place =
      mark a.span ⊕ brackets Brace (spell_list properties (in_brackets Comma) ⊕ comma_between properties rest ⊕ spell_if_given rest (in_brackets Comma))
  spell (tree.target_property_identifier a binding init) place = own_or_renamed (looked_up_in binding) (spell binding (in_brackets Comma)) ⊕ spell_value init (in_brackets Comma)
  spell (tree.target_property a key binding) place =
      before_target (written_name_in key) (target_named binding) (key_items (needs_brackets (assignment_target_property_property_computed a) key) key (spell key (in_brackets Comma)) ⊕ punctuator colon ⊕ soft_space)
      ⊕ spell binding (in_brackets Comma)
  spell (tree.formal_parameters a items rest) place = spell_list items place ⊕ comma_between items rest ⊕ spell_if_given rest place
  -- no line end stands before the arrow (ECMA-262, 15.3)
  spell (tree.arrow_function a params body) place =
      annotation (arrow_function_expression_pure a) no_side_effects a.span.start ⊕ wrapped (arrow_wraps (arrow_function_expression_pife a) place) (comments (before_called (arrow_function_expression_pife a)) a.span.start
      ⊕ items_if (arrow_function_expression_is_async a) (marked_word a.span (codes "async") ⊕ soft_space) ⊕ parameter_items (is_name_alone params) (spell params (child Comma (within true place)))
      ⊕ soft_space ⊕ punctuator arrow ⊕ soft_space ⊕ body_begins (type_of body) ⊕ spell body (child Comma (within (arrow_wraps (arrow_function_expression_pife a) place) place)))
  spell (tree.function a id params body) place =
      function_items (function_kind a) (record { pure = function_pure a; pife = function_pife a; place = place; start = a.span.start })
      (function_words a.span (function_is_async a) (function_generator a) ⊕ spell_if_given id (child Lowest place)
      ⊕ brackets Round (spell params (with_calls (child Comma place))) ⊕ spell_apart body within_statement)
  spell (tree.function_body a directives statements) place =
      body_braces a.span directives statements (spell_directives directives ⊕ spell_body statements)
  spell (tree.object_pattern a properties rest) place =
      mark a.span ⊕ pattern_braces properties rest (spell_list properties (child Lowest place) ⊕ comma_between properties rest ⊕ spell_if_given rest (child Lowest place))
  spell (tree.binding_property a key value) place =
      before_bound (written_name_in key) (bound_in value) (key_items (needs_brackets (binding_property_computed a) key) key (spell key (in_brackets Comma)))
      ⊕ spell value (child Lowest place)
  spell (tree.array_pattern a elements rest) place =
      mark a.span ⊕ brackets Square (spell_elements false elements (child Lowest place) ⊕ behind_elements elements rest (spell_if_given rest (child Lowest place)))
  spell (tree.private_identifier a) place = private_name a.span (private_identifier_name a)
  spell (tree.private_member a object field) place = linked_items object (spell object (linked place)) ⊕ name_link (private_field_expression_optional a) ⊕ spell field (child Lowest place)
  spell (tree.private_in a left right) place =
      wrapped (binary_wraps operators.In place) (mark a.span ⊕ spell left (child Lowest place) ⊕ hard_space ⊕ word (codes "in") ⊕ hard_space ⊕ spell right behind_private)
  spell (tree.class a id heritage body) place =
      class_items (class_kind a) place a.span.start (marked_word a.span (codes "class") ⊕ spell_behind_word id (child Lowest place)
      ⊕ spell_heritage heritage ⊕ soft_space ⊕ spell body (with_calls (child Lowest place)))
  -- what a class is made of has its private names; what it extends hasn't (ECMA-262, 15.7)
  spell (tree.class_body a body) place = in_class (braces a.span body (spell_elements_of_class body (member place)))
  spell (tree.static_block a body) place =
      element_items place.in_list a.span.start (mark a.span ⊕ key_word (codes "static") ⊕ block_braces a.span body (spell_statements body)) soft_line
  spell (tree.method_definition a key value) place =
      element_items place.in_list a.span.start (mark a.span ⊕ items_if (method_definition_is_static a) (key_word (codes "static")) ⊕ method_kind_word (method_definition_kind a)
      ⊕ method_words value ⊕ key_items (method_definition_computed a) key (spell key (in_brackets Comma)) ⊕ spell_method value place) soft_line
  spell (tree.property_definition a key value) place =
      element_items place.in_list a.span.start (mark a.span ⊕ items_if (property_definition_is_static a) (key_word (codes "static"))
      ⊕ key_items (property_definition_computed a) key (spell key (in_brackets Comma)) ⊕ spell_value value (in_brackets Comma)) statement_end
  spell (tree.template_literal a quasis expressions) place =
      items_if (is_one quasis) (comments with_key_annotation a.span.start) ⊕ mark a.span
      ⊕ first_piece place.context.is_tagged opening_part quasis ⊕ spell_substitutions place.context.is_tagged expressions (other_pieces quasis)
  spell (tree.tagged_template a callee quasi) place = mark a.span ⊕ linked_items callee (spell callee (tag place)) ⊕ spell quasi (tagged place)
  spell (tree.import_call a source options) place =
      wrapped (call_wraps place) (marked_word a.span (codes "import") ⊕ brackets Round (in_lines of_import ((span_of source).start ∷ starts_if options) a.span.end
      (line_break (import_source (span_of source).start) ⊕ spell source (in_brackets Comma) ⊕ spell_behind_comma options (in_brackets Comma))))
  -- the line end stays in minified text (ECMA-262, 12.5)
  spell (tree.hashbang a) place = literal (codes "#!") ⊕ literal (hashbang_value a) ⊕ literal (codes "\n")
  spell (tree.import_declaration a specifiers source with_attributes) place =
      module_word a.span (codes "import") ⊕ spell_specifiers specifiers ⊕ spell source plainly ⊕ spell_attributes (is_empty_list specifiers) with_attributes ⊕ statement_end
  spell (tree.import_default_specifier a local) place = spell local plainly
  spell (tree.import_namespace_specifier a local) place = punctuator star ⊕ soft_space ⊕ word (codes "as") ⊕ hard_space ⊕ spell local plainly
  spell (tree.import_specifier a imported local) place = import_items imported local (spell imported plainly) (spell local plainly)
  spell (tree.with_clause a entries) place =
      mark a.span ⊕ word (with_word (with_clause_keyword a)) ⊕ soft_space ⊕ mark a.span ⊕ spaced_braces entries (spell_list entries plainly)
  spell (tree.import_attribute a key value) place = attribute_key key (spell key plainly) ⊕ punctuator colon ⊕ soft_space ⊕ spell value plainly
  spell (tree.export_declaration a declaration) place =
      export_word (is_pure_declaration declaration) a.span ⊕ hard_space ⊕ spell declaration within_statement ⊕ exported_end (type_of declaration)
  spell (tree.export_named_declaration a specifiers) place =
      module_word a.span (codes "export") ⊕ soft_space ⊕ spaced_braces specifiers (spell_list specifiers plainly) ⊕ statement_end
  spell (tree.export_from_declaration a specifiers source with_attributes) place =
      module_word a.span (codes "export") ⊕ soft_space ⊕ spaced_braces specifiers (spell_list specifiers plainly) ⊕ soft_space ⊕ word (codes "from")
      ⊕ soft_space ⊕ spell source plainly ⊕ spell_attributes false with_attributes ⊕ statement_end
  spell (tree.export_specifier a local exported) place =
      comments then_space (span_of local).start ⊕ spell local plainly ⊕ unless_same local exported (as_name (comments then_space (span_of exported).start ⊕ spell exported plainly))
  spell (tree.export_all_declaration a exported source with_attributes) place =
      module_word a.span (codes "export") ⊕ soft_space ⊕ punctuator star ⊕ spell_exported exported ⊕ word (codes "from")
      ⊕ soft_space ⊕ spell source plainly ⊕ spell_attributes true with_attributes ⊕ statement_end
  spell (tree.export_default_declaration a declaration) place =
      export_word (is_pure_declaration declaration) a.span ⊕ hard_space ⊕ word (codes "default") ⊕ soft_space
      ⊕ default_items (is_declared declaration) (spell declaration within_statement) (spell declaration (in_brackets Comma))
  -- generated from tools/nodes/table.txt: clauses
  spell (tree.variable_declaration a declarations) place =
      as_statement place.in_list a.span.start (mark a.span ⊕ word (declaration_word (variable_declaration_kind a)) ⊕ soft_space
      ⊕ spell_list declarations (child Lowest place))
  spell (tree.variable_declarator a id init) place = spell id (child Lowest place) ⊕ spell_value init (child Comma place)
  spell (tree.expression_statement a expression) place =
      comments all_of_them a.span.start ⊕ marked_indentation false a.span ⊕ statement_begins ⊕ spell expression (in_brackets Lowest) ⊕ statement_end
  spell (tree.empty_statement a) place = comments all_of_them a.span.start ⊕ indentation ⊕ mark a.span ⊕ punctuator semicolon ⊕ soft_line
  spell (tree.this_expression a) place = marked_word a.span (codes "this")
  spell (tree.null_literal a) place = marked_word a.span (codes "null")
  spell (tree.reg_exp_literal a) place = mark a.span ⊕ regular_expression (reg_exp_literal_pattern a) (reg_exp_literal_flags a)
  spell (tree.parenthesized a expression) place = (spell expression place ⊕ link_mark (span_if (is_at_link place) (span_of expression)))
  spell (tree.identifier_name a) place = name a.span (as_written (identifier_name_name a))
  spell (tree.spread a argument) place = mark a.span ⊕ punctuator ellipsis ⊕ spell argument (in_brackets Comma)
  spell (tree.unary a argument) place =
      wrapped (wraps Prefix place) (marked a.span (unary_sign (unary_expression_operator a)) ⊕ behind_unary (unary_expression_operator a)
      ⊕ spell argument (child Exponentiation (within (wraps Prefix place) place)))
  spell (tree.new_target a) place = marked_word a.span (codes "new") ⊕ member_dot ⊕ word (codes "target")
  spell (tree.super a) place = marked_word a.span (codes "super")
  spell (tree.import_meta a) place = marked_word a.span (codes "import.meta")
  spell (tree.conditional a test consequent alternate) place =
      wrapped (wraps Conditional place) (spell test (with_calls (child Conditional (within (wraps Conditional place) place))) ⊕ soft_space
      ⊕ punctuator question ⊕ soft_space ⊕ before_expression annotation_before_it consequent ⊕ spell consequent (in_brackets Yield) ⊕ soft_space
      ⊕ punctuator colon ⊕ soft_space ⊕ before_expression before_it alternate
      ⊕ spell alternate (with_calls (child Yield (within (wraps Conditional place) place))))
  spell (tree.sequence a expressions) place = wrapped (wraps Comma place) (spell_list expressions (with_calls (child Lowest place)))
  spell (tree.formal_parameter a pattern initializer) place =
      mark a.span ⊕ spell pattern (child Lowest place) ⊕ spell_value initializer (child Comma place)
  spell (tree.formal_parameter_rest a argument) place = mark a.span ⊕ punctuator ellipsis ⊕ spell argument (child Lowest place)
  spell (tree.await_expression a argument) place =
      wrapped (wraps Prefix place) (marked_word a.span (codes "await") ⊕ soft_space
      ⊕ spell argument (child Exponentiation (within (wraps Prefix place) place)))
  spell (tree.yield_expression a argument) place =
      wrapped (wraps Assign place) (marked_word a.span (codes "yield") ⊕ items_if (yield_expression_delegate a) (punctuator star)
      ⊕ spell_apart argument (with_calls (child Yield (within (wraps Assign place) place))))
  spell (tree.while_statement a test body) place =
      comments all_of_them a.span.start ⊕ indentation ⊕ marked_word a.span (codes "while") ⊕ soft_space
      ⊕ brackets Round (spell test (in_brackets Lowest)) ⊕ body_items (shape body) (spell body within_statement) (spell body among_statements)
  spell (tree.label_identifier a) place = name a.span (as_written (label_identifier_name a))
  spell (tree.labeled_statement a label body) place =
      comments all_of_them a.span.start ⊕ indentation ⊕ apart ⊕ mark a.span ⊕ spell label (child Lowest place) ⊕ punctuator colon
      ⊕ body_items (shape body) (spell body within_statement) (spell body among_statements)
  spell (tree.continue_statement a label) place =
      comments all_of_them a.span.start ⊕ indentation ⊕ marked_word a.span (codes "continue") ⊕ spell_apart label (child Lowest place) ⊕ statement_end
  spell (tree.break_statement a label) place =
      comments all_of_them a.span.start ⊕ indentation ⊕ marked_word a.span (codes "break") ⊕ spell_apart label (child Lowest place) ⊕ statement_end
  spell (tree.return_statement a argument) place =
      comments all_of_them a.span.start ⊕ indentation ⊕ marked_word a.span (codes "return") ⊕ spell_apart argument (in_brackets Lowest)
      ⊕ statement_end
  spell (tree.throw_statement a argument) place =
      comments all_of_them a.span.start ⊕ indentation ⊕ marked_word a.span (codes "throw") ⊕ soft_space ⊕ spell argument (in_brackets Lowest)
      ⊕ statement_end
  spell (tree.debugger_statement a) place = comments all_of_them a.span.start ⊕ indentation ⊕ marked_word a.span (codes "debugger") ⊕ statement_end
  spell (tree.binding_rest_element a argument) place = mark a.span ⊕ punctuator ellipsis ⊕ spell argument (child Lowest place)
  spell (tree.assignment_pattern a left right) place =
      spell left (child Lowest place) ⊕ soft_space ⊕ punctuator equal ⊕ soft_space ⊕ spell right (in_brackets Comma)
  spell (tree.target_with_default a binding init) place =
      spell binding (in_brackets Comma) ⊕ soft_space ⊕ punctuator equal ⊕ soft_space ⊕ spell init (in_brackets Comma)
  spell (tree.target_rest a target) place = mark a.span ⊕ punctuator ellipsis ⊕ spell target (in_brackets Comma)
  -- end of what is generated: clauses
  spell t place = nothing

  -- the function of a method or an accessor, behind its key
  pub spell_method : Tree → Place → Items
  spell_method (tree.function a id params body) place = brackets Round (spell params (with_calls (child Comma place))) ⊕ spell_apart body within_statement
  spell_method t place = nothing

  -- the directives of a body, each with a semicolon of its own
  pub spell_directives : Trees → Items
  spell_directives no_trees = nothing
  spell_directives (more t ts) = spell t among_statements ⊕ spell_directives ts
  spell_directives (hole ts) = spell_directives ts

  -- the statements of a body
  pub spell_body : Trees → Items
  spell_body no_trees = nothing
  spell_body (more t ts) = orphans (span_of t).start ⊕ due_semicolon ⊕ first_statement t (spell t among_statements) ⊕ spell_statements ts
  spell_body (hole ts) = spell_body ts

  -- a list of statements, each after orphans and the semicolon that the one before may have left
  pub spell_statements : Trees → Items
  spell_statements no_trees = nothing
  spell_statements (more t ts) = orphans (span_of t).start ⊕ due_semicolon ⊕ spell t among_statements ⊕ spell_statements ts
  spell_statements (hole ts) = spell_statements ts

  -- a list of cases, each after the semicolon that the one before may have left
  pub spell_cases : Trees → Items
  spell_cases no_trees = nothing
  spell_cases (more t ts) = due_semicolon ⊕ spell t among_statements ⊕ spell_cases ts
  spell_cases (hole ts) = spell_cases ts

  -- the members of a class, each after the semicolon that the one before may have left
  pub spell_elements_of_class : Trees → Place → Items
  spell_elements_of_class no_trees place = nothing
  spell_elements_of_class (more t ts) place = due_semicolon ⊕ spell t place ⊕ spell_elements_of_class ts place
  spell_elements_of_class (hole ts) place = spell_elements_of_class ts place

  -- the expressions of a template, each with the piece behind it
  pub spell_substitutions : Bool → Trees → Trees → Items
  spell_substitutions is_tagged no_trees pieces = nothing
  spell_substitutions is_tagged (more t ts) pieces = before_expression before_it t ⊕ spell t (in_brackets Lowest) ⊕ first_piece is_tagged further_part pieces ⊕ spell_substitutions is_tagged ts (other_pieces pieces)
  spell_substitutions is_tagged (hole ts) pieces = spell_substitutions is_tagged ts pieces

  -- a second argument
  pub spell_behind_comma : Maybe → Place → Items
  spell_behind_comma absent place = nothing
  spell_behind_comma (given t) place = punctuator comma ⊕ line_break import_options ⊕ spell t place

  -- what a class extends
  pub spell_heritage : Maybe → Items
  spell_heritage absent = nothing
  spell_heritage (given t) = soft_space ⊕ word (codes "extends") ⊕ hard_space ⊕ linked_items t (spell t (in_brackets Postfix))

  -- behind a space that minified text keeps
  pub spell_behind_word : Maybe → Place → Items
  spell_behind_word absent place = nothing
  spell_behind_word (given t) place = hard_space ⊕ spell t place

  -- what an import takes, up to its source
  pub spell_specifiers : MaybeTrees → Items
  spell_specifiers no_list = soft_space
  spell_specifiers (listed ts) = spell_clause ts ⊕ word (codes "from") ⊕ soft_space

  pub spell_clause : Trees → Items
  spell_clause no_trees = soft_space ⊕ brackets Brace nothing ⊕ soft_space
  spell_clause (more t ts) = clause_items (type_of t) (spell t plainly) (spell_behind_default ts) (others_items (type_of t) (spell t plainly) (spell t plainly ⊕ spell_more ts plainly))
  spell_clause (hole ts) = spell_clause ts

  pub spell_behind_default : Trees → Items
  spell_behind_default no_trees = hard_space
  spell_behind_default (more t ts) = punctuator comma ⊕ soft_space ⊕ others_items (type_of t) (spell t plainly) (spell t plainly ⊕ spell_more ts plainly)
  spell_behind_default (hole ts) = spell_behind_default ts

  -- attributes, behind a space that minified text keeps where the test holds
  pub spell_attributes : Bool → Maybe → Items
  spell_attributes test absent = nothing
  spell_attributes test (given t) = space_by test ⊕ spell t plainly

  -- the name of all exports of a module, up to its source
  pub spell_exported : Maybe → Items
  spell_exported absent = soft_space
  spell_exported (given t) = soft_space ⊕ word (codes "as") ⊕ soft_space ⊕ spell t plainly ⊕ hard_space

  -- a list with commas
  pub spell_list : Trees → Place → Items
  spell_list no_trees place = nothing
  spell_list (more t ts) place = spell t place ⊕ spell_more ts place
  spell_list (hole ts) place = spell_list ts place

  -- arguments, of which the first or the second is a string that is never in backticks, where the tests hold
  pub spell_arguments : Bool → Bool → Trees → Place → Items
  spell_arguments first second no_trees place = nothing
  spell_arguments first second (more t ts) place = line_break (first_argument (span_of t).start) ⊕ spell t (quoted_plainly first place) ⊕ spell_behind_first second ts place
  spell_arguments first second (hole ts) place = spell_arguments first second ts place

  pub spell_behind_first : Bool → Trees → Place → Items
  spell_behind_first second no_trees place = nothing
  spell_behind_first second (more t ts) place = punctuator comma ⊕ line_break (other_argument (span_of t).start) ⊕ spell t (quoted_plainly second place) ⊕ spell_behind_first false ts place
  spell_behind_first second (hole ts) place = spell_behind_first second ts place

  pub spell_more : Trees → Place → Items
  spell_more no_trees place = nothing
  spell_more (more t ts) place = punctuator comma ⊕ soft_space ⊕ spell t place ⊕ spell_more ts place
  spell_more (hole ts) place = spell_more ts place

  -- members on lines of their own, or on one; nothing stands in the place of one that is left out
  pub spell_elements : Bool → Trees → Place → Items
  spell_elements lines no_trees place = nothing
  spell_elements lines (more t ts) place = spell t place ⊕ spell_more_elements lines ts place
  spell_elements lines (hole ts) place = spell_more_elements lines ts place

  pub spell_more_elements : Bool → Trees → Place → Items
  spell_more_elements lines no_trees place = nothing
  spell_more_elements lines (more t ts) place = punctuator comma ⊕ line_or_space lines ⊕ spell t place ⊕ spell_more_elements lines ts place
  spell_more_elements lines (hole ts) place = punctuator comma ⊕ line_or_space lines ⊕ spell_more_elements lines ts place

  -- the members of an object, on lines of their own or on one
  pub spell_properties : Bool → Trees → Place → Items
  spell_properties lines no_trees place = nothing
  spell_properties lines (more t ts) place = before_member lines (span_of t).start ⊕ spell t place ⊕ spell_more_properties lines ts place
  spell_properties lines (hole ts) place = line_or_space lines ⊕ spell_more_properties lines ts place

  pub spell_more_properties : Bool → Trees → Place → Items
  spell_more_properties lines no_trees place = nothing
  spell_more_properties lines (more t ts) place = punctuator comma ⊕ before_member lines (span_of t).start ⊕ spell t place ⊕ spell_more_properties lines ts place
  spell_more_properties lines (hole ts) place = punctuator comma ⊕ line_or_space lines ⊕ spell_more_properties lines ts place

  -- `else`, behind the semicolon that the consequent may have left
  pub spell_alternate : Maybe → Items
  spell_alternate absent = nothing
  spell_alternate (given t) = due_semicolon ⊕ word (codes "else") ⊕ alternate_items (shape t) (spell t within_statement) (spell t among_statements)

  -- the first statement of a case that has no other; the number is where the case ends
  pub spell_only : ℕ → Trees → Items
  spell_only end no_trees = nothing
  spell_only end (more t ts) =
      lined_case (record { start = (span_of t).start; end = end; lead = lead_to (shape t) (span_of t) }) (led_items (shape t) (spell t within_statement) (spell t among_statements))
  spell_only end (hole ts) = nothing

  -- what a case begins with
  pub spell_test : Maybe → Place → Items
  spell_test absent place = word (codes "default")
  spell_test (given t) place = word (codes "case") ⊕ soft_space ⊕ spell t place

  -- the name that what is caught has
  pub spell_caught : Maybe → Place → Items
  spell_caught absent place = nothing
  spell_caught (given t) place = soft_space ⊕ brackets Round (spell t place)

  pub spell_finalizer : Maybe → Items
  spell_finalizer absent = nothing
  spell_finalizer (given t) = soft_space ⊕ word (codes "finally") ⊕ soft_space ⊕ spell t within_statement

  -- behind a space
  pub spell_apart : Maybe → Place → Items
  spell_apart absent place = nothing
  spell_apart (given t) place = soft_space ⊕ spell t place

  pub spell_if_given : Maybe → Place → Items
  spell_if_given absent place = nothing
  spell_if_given (given t) place = spell t place

  -- the value of a declarator, or of a parameter
  pub spell_value : Maybe → Place → Items
  spell_value absent place = nothing
  spell_value (given t) place = soft_space ⊕ punctuator equal ⊕ soft_space ⊕ spell t place

-- ---- the text of a program

abbrev pub comments_in : Tree → Trees
comments_in (tree.program a comment_rows hashbang directives body) = comment_rows
comments_in t = no_trees

-- the bytes of the source of a job's program
abbrev pub source_bytes : JobData → List ℕ
source_bytes job = encode_utf8_all (source_of job.program)

-- before anything is printed of a job's program, whose first line is at the level that the options ask for
abbrev pub first_pen : JobData → Pen
first_pen job = record (empty_pen (style_of job.options job.tables) job.options.initial_indent) {
  store = kept job.options.comments (source_bytes job) (comments_in job.program);
  annotations = kept_annotations job.options.comments (source_bytes job) (comments_in job.program);
}

-- behind the program, up to its end
abbrev pub whole_from : JobData → Pen → Pen
whole_from job pen = ended job.options.comments.legal (source_bytes job) (comments_in job.program) (lay (spell job.program among_statements) pen)

-- the characters of the text of a job's program
abbrev pub printed : JobData → List ℕ
printed job = (whole_from job (first_pen job)).code

-- and its bytes in UTF-8
abbrev pub text_bytes : JobData → List ℕ
text_bytes job = encode_utf8_all (printed job)
