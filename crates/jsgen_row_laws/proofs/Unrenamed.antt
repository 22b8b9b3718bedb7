-- What stays as it is where names are printed by tables; and without tables all does.
use Rattle.std.specs.Option.{option_map_or}
use Rattle.std.proofs.Common.{◌≡◌, None, false, not, ◌&&◌, ◌||◌, [], ◌∷◌, refl, ap}
use Rattle.jsgen_tree.specs.Atom.{no_value, text, units, declaration_kind, binary_operator, logical_operator, unary_operator, update_operator, assignment_operator, flag, class_form, kind_of_import, with_keyword}
use Rattle.jsgen_tree.specs.Tree.{Tree, node, Slots, no_slots, one, maybe, many, maybe_many, Maybe, absent, given, Trees, no_trees, more, hole, MaybeTrees, no_list, listed, Atoms}
use Rattle.jsgen_tree.specs.Places.{bare}
use Rattle.jsgen_tree.specs.Values.{import_specifier_import_kind, export_specifier_export_kind, export_all_declaration_export_kind, variable_declaration_kind, variable_declaration_declare, variable_declarator_definite, for_of_statement_is_await, static_member_expression_optional, computed_member_expression_optional, call_expression_optional, binary_expression_operator, logical_expression_operator, unary_expression_operator, update_expression_operator, update_expression_prefix, object_property_kind, object_property_method, object_property_shorthand, object_property_computed, assignment_expression_operator, function_kind, function_is_async, function_generator, function_declare, formal_parameter_is_override, formal_parameter_readonly, formal_parameter_optional, arrow_function_expression_is_async, method_definition_kind, method_definition_computed, method_definition_is_static, method_definition_is_override, method_definition_is_abstract, method_definition_optional, assignment_target_property_property_computed, binding_property_computed, class_declare, class_is_abstract, class_kind, export_from_declaration_export_kind, export_named_declaration_export_kind, import_declaration_import_kind, private_field_expression_optional, property_definition_computed, property_definition_declare, property_definition_definite, property_definition_is_abstract, property_definition_is_override, property_definition_is_static, property_definition_optional, property_definition_readonly, with_clause_keyword, yield_expression_delegate}
use Rattle.jsgen_tree.specs.Inside.{written_name_in, is_proto, is_method, is_negative_number}
use Rattle.jsgen_tree.specs.Job.{Tables, no_tables}
use Rattle.jsgen_tree.specs.Nodes as tree
use Rattle.jsgen_model.specs.Normal.{normal, normal_slots, normal_maybe, normal_trees, normal_maybe_trees, unbraced, nothing_of, chain, joined, links, flattened, link_values, call_values, property_values, is_written_as_method, function_values, if_set, method_values, as_method, normal_quasi, untagged, piece_value, raw_of_piece, by_values, by_raw_texts, by_its_text, maybe_by_its_text}
use Rattle.jsgen_model.specs.Renamed.{written_out, renamed, renamed_slots, renamed_maybe, renamed_trees, renamed_maybe_trees}

-- ---- by any tables

-- a property that is written out is no name, and no number
written_out_unwritten : (a : Atoms) (binding t : Tree) (init : Maybe) → written_name_in (written_out a binding t init) ≡ None
written_out_unwritten a (tree.identifier_reference b) t init = refl
written_out_unwritten a binding t init = refl

written_out_unsigned : (a : Atoms) (binding t : Tree) (init : Maybe) → is_negative_number (written_out a binding t init) ≡ false
written_out_unsigned a (tree.identifier_reference b) t init = refl
written_out_unsigned a binding t init = refl

-- no key gets another name, or another sign
pub written_as_it_was : (names : Tables) (t : Tree) → written_name_in (renamed names t) ≡ written_name_in t
written_as_it_was names (tree.identifier_reference a) = refl
written_as_it_was names (tree.binding_identifier a) = refl
written_as_it_was names (tree.identifier_name a) = refl
written_as_it_was names (tree.target_property_identifier a binding init) = written_out_unwritten a binding (renamed names binding) (renamed_maybe names init)
written_as_it_was names t = refl

pub signed_as_it_was : (names : Tables) (t : Tree) → is_negative_number (renamed names t) ≡ is_negative_number t
signed_as_it_was names (tree.identifier_reference a) = refl
signed_as_it_was names (tree.binding_identifier a) = refl
signed_as_it_was names (tree.numeric_literal a) = refl
signed_as_it_was names (tree.target_property_identifier a binding init) = written_out_unsigned a binding (renamed names binding) (renamed_maybe names init)
signed_as_it_was names t = refl

-- ---- without tables

-- a property that a reference alone says is written out by the printed name or by its own, which are one
written_out_again : (a : Atoms) (t : Tree) (init : Maybe) → normal (renamed no_tables t) ≡ normal t → normal_maybe (renamed_maybe no_tables init) ≡ normal_maybe init → normal (written_out a t (renamed no_tables t) (renamed_maybe no_tables init)) ≡ written_out (nothing_of 0) (normal t) (normal t) (normal_maybe init)
written_out_again a (tree.identifier_reference b) absent e f = refl
written_out_again a (tree.identifier_reference b) (given v) e f = ap (λ m. written_out (nothing_of 0) (normal (tree.identifier_reference b)) (normal (tree.identifier_reference b)) m) f
written_out_again a t init e f = λ i. written_out (nothing_of 0) (e i) (e i) (f i)

-- what a piece of a template says stays, whatever the tree
written_out_valueless : (a : Atoms) (binding t : Tree) (init : Maybe) → piece_value (written_out a binding t init) ≡ []
written_out_valueless a (tree.identifier_reference b) t init = refl
written_out_valueless a binding t init = refl

same_value : (t : Tree) → piece_value (renamed no_tables t) ≡ piece_value t
same_value (tree.template_element a) = refl
same_value (tree.identifier_reference a) = refl
same_value (tree.binding_identifier a) = refl
same_value (tree.target_property_identifier a binding init) = written_out_valueless a binding (renamed no_tables binding) (renamed_maybe no_tables init)
same_value t = refl

same_values : (ts : Trees) → by_values (renamed_trees no_tables ts) ≡ by_values ts
same_values no_trees = refl
same_values (more t ts) = let e = same_value t in let f = same_values ts in λ i. more (tree.template_element (bare (no_value ∷ units (e i) ∷ []))) (f i)
same_values (hole ts) = ap (λ us. hole us) (same_values ts)

written_out_textless : (a : Atoms) (binding t : Tree) (init : Maybe) → raw_of_piece (written_out a binding t init) ≡ []
written_out_textless a (tree.identifier_reference b) t init = refl
written_out_textless a binding t init = refl

same_raw_text : (t : Tree) → raw_of_piece (renamed no_tables t) ≡ raw_of_piece t
same_raw_text (tree.template_element a) = refl
same_raw_text (tree.identifier_reference a) = refl
same_raw_text (tree.binding_identifier a) = refl
same_raw_text (tree.target_property_identifier a binding init) = written_out_textless a binding (renamed no_tables binding) (renamed_maybe no_tables init)
same_raw_text t = refl

same_raw_texts : (ts : Trees) → by_raw_texts (renamed_trees no_tables ts) ≡ by_raw_texts ts
same_raw_texts no_trees = refl
same_raw_texts (more t ts) = let e = same_raw_text t in let f = same_raw_texts ts in λ i. more (tree.template_element (bare (text (e i) ∷ no_value ∷ []))) (f i)
same_raw_texts (hole ts) = ap (λ us. hole us) (same_raw_texts ts)

written_out_quasiless : (a : Atoms) (binding t : Tree) (init : Maybe) → normal_quasi (written_out a binding t init) ≡ tree.template_literal (nothing_of 0) no_trees no_trees
written_out_quasiless a (tree.identifier_reference b) t init = refl
written_out_quasiless a binding t init = refl

mutual
  pub unrenamed : (t : Tree) → normal (renamed no_tables t) ≡ normal t
  unrenamed (tree.program a comments hashbang directives body) = let h = unrenamed_maybe hashbang in let e = unrenamed_trees directives in let f = unrenamed_trees body in λ i. tree.program (nothing_of 4) no_trees (h i) (e i) (f i)
  unrenamed (tree.comment a) = refl
  unrenamed (tree.template_element a) = refl
  unrenamed (tree.directive a) = refl
  unrenamed (tree.binding_identifier a) = refl
  unrenamed (tree.identifier_reference a) = refl
  unrenamed (tree.numeric_literal a) = refl
  unrenamed (tree.big_int_literal a) = refl
  unrenamed (tree.parenthesized a expression) = unrenamed expression
  unrenamed (tree.logical a left right) = let e = unrenamed left in let f = unrenamed right in λ i. chain (bare (logical_operator (logical_expression_operator a) ∷ [])) (joined (links (logical_expression_operator a) (e i)) (links (logical_expression_operator a) (f i)))
  unrenamed (tree.if_statement a test consequent alternate) = let e = unrenamed test in let f = ap unbraced (unrenamed consequent) in let g = unrenamed_maybe alternate in λ i. tree.if_statement (nothing_of 0) (e i) (f i) (g i)
  unrenamed (tree.label_identifier a) = refl
  unrenamed (tree.identifier_name a) = refl
  unrenamed (tree.static_member a object property) = let e = unrenamed object in let f = unrenamed property in λ i. tree.static_member (link_values (static_member_expression_optional a)) (e i) (f i)
  unrenamed (tree.computed_member a object expression) = let e = unrenamed object in let f = unrenamed expression in λ i. tree.computed_member (link_values (computed_member_expression_optional a)) (e i) (f i)
  unrenamed (tree.call a callee arguments) = let e = unrenamed callee in let f = unrenamed_trees arguments in λ i. tree.call (call_values (call_expression_optional a)) (e i) (f i)
  unrenamed (tree.object_property a key value) =
      let e = unrenamed key in
      let f = unrenamed value in
      let g = ap (λ o. not (is_method (object_property_kind a) (object_property_method a)) && option_map_or is_proto o false && object_property_shorthand a) (written_as_it_was no_tables key) in
      let h = ap (λ b. object_property_computed a || b) (signed_as_it_was no_tables key) in
      λ i. tree.object_property (property_values (object_property_kind a) (is_written_as_method (object_property_kind a) (object_property_method a)) (g i) (h i)) (e i) (f i)
  unrenamed (tree.sequence a expressions) = ap (λ ts. tree.sequence (nothing_of 0) (flattened ts)) (unrenamed_trees expressions)
  unrenamed (tree.function a id params body) = let e = unrenamed_maybe id in let f = unrenamed params in let g = unrenamed_maybe body in λ i. tree.function (function_values (function_kind a) (if_set (function_is_async a)) (if_set (function_generator a)) (if_set (function_declare a))) (e i) (f i) (g i)
  unrenamed (tree.reg_exp_literal a) = refl
  unrenamed (tree.method_definition a key value) = let e = unrenamed key in let f = unrenamed value in λ i. tree.method_definition (method_values (as_method (method_definition_kind a)) (method_definition_computed a) (method_definition_is_static a) (if_set (method_definition_is_override a)) (if_set (method_definition_is_abstract a)) (if_set (method_definition_optional a))) (e i) (f i)
  unrenamed (tree.target_property_identifier a binding init) = written_out_again a binding init (unrenamed binding) (unrenamed_maybe init)
  unrenamed (tree.template_literal a quasis expressions) = let e = same_values quasis in let f = unrenamed_trees expressions in λ i. untagged (e i) (f i)
  unrenamed (tree.tagged_template a tag quasi) = let e = unrenamed tag in let f = unrenamed_quasi quasi in λ i. tree.tagged_template (nothing_of 0) (e i) (f i)
  unrenamed (tree.import_specifier a imported local) = let e = unrenamed imported in let f = unrenamed local in λ i. tree.import_specifier (bare (kind_of_import (import_specifier_import_kind a) ∷ [])) (by_its_text (e i)) (f i)
  unrenamed (tree.export_specifier a local exported) = let e = unrenamed local in let f = unrenamed exported in λ i. tree.export_specifier (bare (kind_of_import (export_specifier_export_kind a) ∷ [])) (by_its_text (e i)) (by_its_text (f i))
  unrenamed (tree.export_all_declaration a exported source with_clause_child) =
      let e = unrenamed_maybe exported in
      let f = unrenamed source in
      let g = unrenamed_maybe with_clause_child in
      λ i. tree.export_all_declaration (bare (kind_of_import (export_all_declaration_export_kind a) ∷ [])) (maybe_by_its_text (e i)) (f i) (g i)
  -- generated from tools/nodes/table.txt: rows
  unrenamed (tree.variable_declaration a declarations) = let e0 = unrenamed_trees declarations in λ i. tree.variable_declaration (bare (declaration_kind (variable_declaration_kind a) ∷ if_set (variable_declaration_declare a) ∷ [])) (e0 i)
  unrenamed (tree.variable_declarator a id init) = let e0 = unrenamed id in let e1 = unrenamed_maybe init in λ i. tree.variable_declarator (bare (if_set (variable_declarator_definite a) ∷ [])) (e0 i) (e1 i)
  unrenamed (tree.expression_statement a expression) = let e0 = unrenamed expression in λ i. tree.expression_statement (nothing_of 0) (e0 i)
  unrenamed (tree.block a body) = let e0 = unrenamed_trees body in λ i. tree.block (nothing_of 0) (e0 i)
  unrenamed (tree.empty_statement a) = refl
  unrenamed (tree.this_expression a) = refl
  unrenamed (tree.null_literal a) = refl
  unrenamed (tree.boolean_literal a) = refl
  unrenamed (tree.string_literal a) = refl
  unrenamed (tree.binary a left right) = let e0 = unrenamed left in let e1 = unrenamed right in λ i. tree.binary (bare (binary_operator (binary_expression_operator a) ∷ [])) (e0 i) (e1 i)
  unrenamed (tree.chain a expression) = let e0 = unrenamed expression in λ i. tree.chain (nothing_of 0) (e0 i)
  unrenamed (tree.spread a argument) = let e0 = unrenamed argument in λ i. tree.spread (nothing_of 0) (e0 i)
  unrenamed (tree.array a elements) = let e0 = unrenamed_trees elements in λ i. tree.array (nothing_of 0) (e0 i)
  unrenamed (tree.object_expression a properties) = let e0 = unrenamed_trees properties in λ i. tree.object_expression (nothing_of 0) (e0 i)
  unrenamed (tree.unary a argument) = let e0 = unrenamed argument in λ i. tree.unary (bare (unary_operator (unary_expression_operator a) ∷ [])) (e0 i)
  unrenamed (tree.new_target a) = refl
  unrenamed (tree.update a argument) = let e0 = unrenamed argument in λ i. tree.update (bare (update_operator (update_expression_operator a) ∷ flag (update_expression_prefix a) ∷ [])) (e0 i)
  unrenamed (tree.new_expression a callee arguments) = let e0 = unrenamed callee in let e1 = unrenamed_trees arguments in λ i. tree.new_expression (nothing_of 1) (e0 i) (e1 i)
  unrenamed (tree.super a) = refl
  unrenamed (tree.import_meta a) = refl
  unrenamed (tree.conditional a test consequent alternate) = let e0 = unrenamed test in let e1 = unrenamed consequent in let e2 = unrenamed alternate in λ i. tree.conditional (nothing_of 0) (e0 i) (e1 i) (e2 i)
  unrenamed (tree.assignment a left right) = let e0 = unrenamed left in let e1 = unrenamed right in λ i. tree.assignment (bare (assignment_operator (assignment_expression_operator a) ∷ [])) (e0 i) (e1 i)
  unrenamed (tree.formal_parameter a pattern initializer) = let e0 = unrenamed pattern in let e1 = unrenamed_maybe initializer in λ i. tree.formal_parameter (bare (if_set (formal_parameter_is_override a) ∷ if_set (formal_parameter_readonly a) ∷ if_set (formal_parameter_optional a) ∷ [])) (e0 i) (e1 i)
  unrenamed (tree.formal_parameter_rest a argument) = let e0 = unrenamed argument in λ i. tree.formal_parameter_rest (nothing_of 0) (e0 i)
  unrenamed (tree.formal_parameters a items rest) = let e0 = unrenamed_trees items in let e1 = unrenamed_maybe rest in λ i. tree.formal_parameters (nothing_of 0) (e0 i) (e1 i)
  unrenamed (tree.function_body a directives statements) = let e0 = unrenamed_trees directives in let e1 = unrenamed_trees statements in λ i. tree.function_body (nothing_of 0) (e0 i) (e1 i)
  unrenamed (tree.arrow_function a params body) = let e0 = unrenamed params in let e1 = unrenamed body in λ i. tree.arrow_function (bare (if_set (arrow_function_expression_is_async a) ∷ no_value ∷ no_value ∷ [])) (e0 i) (e1 i)
  unrenamed (tree.await_expression a argument) = let e0 = unrenamed argument in λ i. tree.await_expression (nothing_of 0) (e0 i)
  unrenamed (tree.yield_expression a argument) = let e0 = unrenamed_maybe argument in λ i. tree.yield_expression (bare (flag (yield_expression_delegate a) ∷ [])) (e0 i)
  unrenamed (tree.import_call a source options) = let e0 = unrenamed source in let e1 = unrenamed_maybe options in λ i. tree.import_call (nothing_of 0) (e0 i) (e1 i)
  unrenamed (tree.for_statement a init test update body) = let e0 = unrenamed_maybe init in let e1 = unrenamed_maybe test in let e2 = unrenamed_maybe update in let e3 = unrenamed body in λ i. tree.for_statement (nothing_of 0) (e0 i) (e1 i) (e2 i) (e3 i)
  unrenamed (tree.for_in_statement a left right body) = let e0 = unrenamed left in let e1 = unrenamed right in let e2 = unrenamed body in λ i. tree.for_in_statement (nothing_of 0) (e0 i) (e1 i) (e2 i)
  unrenamed (tree.for_of_statement a left right body) = let e0 = unrenamed left in let e1 = unrenamed right in let e2 = unrenamed body in λ i. tree.for_of_statement (bare (if_set (for_of_statement_is_await a) ∷ [])) (e0 i) (e1 i) (e2 i)
  unrenamed (tree.while_statement a test body) = let e0 = unrenamed test in let e1 = unrenamed body in λ i. tree.while_statement (nothing_of 0) (e0 i) (e1 i)
  unrenamed (tree.do_while_statement a body test) = let e0 = unrenamed body in let e1 = unrenamed test in λ i. tree.do_while_statement (nothing_of 0) (e0 i) (e1 i)
  unrenamed (tree.labeled_statement a label body) = let e0 = unrenamed label in let e1 = unrenamed body in λ i. tree.labeled_statement (nothing_of 0) (e0 i) (e1 i)
  unrenamed (tree.continue_statement a label) = let e0 = unrenamed_maybe label in λ i. tree.continue_statement (nothing_of 0) (e0 i)
  unrenamed (tree.break_statement a label) = let e0 = unrenamed_maybe label in λ i. tree.break_statement (nothing_of 0) (e0 i)
  unrenamed (tree.return_statement a argument) = let e0 = unrenamed_maybe argument in λ i. tree.return_statement (nothing_of 0) (e0 i)
  unrenamed (tree.throw_statement a argument) = let e0 = unrenamed argument in λ i. tree.throw_statement (nothing_of 0) (e0 i)
  unrenamed (tree.debugger_statement a) = refl
  unrenamed (tree.switch_statement a discriminant cases) = let e0 = unrenamed discriminant in let e1 = unrenamed_trees cases in λ i. tree.switch_statement (nothing_of 0) (e0 i) (e1 i)
  unrenamed (tree.switch_case a test consequent) = let e0 = unrenamed_maybe test in let e1 = unrenamed_trees consequent in λ i. tree.switch_case (nothing_of 0) (e0 i) (e1 i)
  unrenamed (tree.try_statement a block handler finalizer) = let e0 = unrenamed block in let e1 = unrenamed_maybe handler in let e2 = unrenamed_maybe finalizer in λ i. tree.try_statement (nothing_of 0) (e0 i) (e1 i) (e2 i)
  unrenamed (tree.catch_clause a param body) = let e0 = unrenamed_maybe param in let e1 = unrenamed body in λ i. tree.catch_clause (nothing_of 0) (e0 i) (e1 i)
  unrenamed (tree.object_pattern a properties rest) = let e0 = unrenamed_trees properties in let e1 = unrenamed_maybe rest in λ i. tree.object_pattern (nothing_of 0) (e0 i) (e1 i)
  unrenamed (tree.binding_property a key value) = let e0 = unrenamed key in let e1 = unrenamed value in λ i. tree.binding_property (bare (flag (binding_property_computed a) ∷ [])) (e0 i) (e1 i)
  unrenamed (tree.binding_rest_element a argument) = let e0 = unrenamed argument in λ i. tree.binding_rest_element (nothing_of 0) (e0 i)
  unrenamed (tree.array_pattern a elements rest) = let e0 = unrenamed_trees elements in let e1 = unrenamed_maybe rest in λ i. tree.array_pattern (nothing_of 0) (e0 i) (e1 i)
  unrenamed (tree.assignment_pattern a left right) = let e0 = unrenamed left in let e1 = unrenamed right in λ i. tree.assignment_pattern (nothing_of 0) (e0 i) (e1 i)
  unrenamed (tree.array_target a elements rest) = let e0 = unrenamed_trees elements in let e1 = unrenamed_maybe rest in λ i. tree.array_target (nothing_of 0) (e0 i) (e1 i)
  unrenamed (tree.object_target a properties rest) = let e0 = unrenamed_trees properties in let e1 = unrenamed_maybe rest in λ i. tree.object_target (nothing_of 0) (e0 i) (e1 i)
  unrenamed (tree.target_with_default a binding init) = let e0 = unrenamed binding in let e1 = unrenamed init in λ i. tree.target_with_default (nothing_of 0) (e0 i) (e1 i)
  unrenamed (tree.target_property a the_name binding) = let e0 = unrenamed the_name in let e1 = unrenamed binding in λ i. tree.target_property (bare (flag (assignment_target_property_property_computed a) ∷ [])) (e0 i) (e1 i)
  unrenamed (tree.target_rest a target) = let e0 = unrenamed target in λ i. tree.target_rest (nothing_of 0) (e0 i)
  unrenamed (tree.private_identifier a) = refl
  unrenamed (tree.private_member a object field) = let e0 = unrenamed object in let e1 = unrenamed field in λ i. tree.private_member (bare (flag (private_field_expression_optional a) ∷ [])) (e0 i) (e1 i)
  unrenamed (tree.private_in a left right) = let e0 = unrenamed left in let e1 = unrenamed right in λ i. tree.private_in (nothing_of 0) (e0 i) (e1 i)
  unrenamed (tree.class a id heritage body) = let e0 = unrenamed_maybe id in let e1 = unrenamed_maybe heritage in let e2 = unrenamed body in λ i. tree.class (bare (class_form (class_kind a) ∷ if_set (class_declare a) ∷ if_set (class_is_abstract a) ∷ [])) (e0 i) (e1 i) (e2 i)
  unrenamed (tree.class_body a body) = let e0 = unrenamed_trees body in λ i. tree.class_body (nothing_of 0) (e0 i)
  unrenamed (tree.static_block a body) = let e0 = unrenamed_trees body in λ i. tree.static_block (nothing_of 0) (e0 i)
  unrenamed (tree.property_definition a key value) = let e0 = unrenamed key in let e1 = unrenamed_maybe value in λ i. tree.property_definition (bare (flag (property_definition_computed a) ∷ if_set (property_definition_declare a) ∷ if_set (property_definition_is_abstract a) ∷ flag (property_definition_is_static a) ∷ if_set (property_definition_is_override a) ∷ if_set (property_definition_readonly a) ∷ if_set (property_definition_optional a) ∷ if_set (property_definition_definite a) ∷ [])) (e0 i) (e1 i)
  unrenamed (tree.hashbang a) = refl
  unrenamed (tree.import_declaration a specifiers source with_clause) = let e0 = unrenamed_maybe_trees specifiers in let e1 = unrenamed source in let e2 = unrenamed_maybe with_clause in λ i. tree.import_declaration (bare (kind_of_import (import_declaration_import_kind a) ∷ [])) (e0 i) (e1 i) (e2 i)
  unrenamed (tree.import_default_specifier a local) = let e0 = unrenamed local in λ i. tree.import_default_specifier (nothing_of 0) (e0 i)
  unrenamed (tree.import_namespace_specifier a local) = let e0 = unrenamed local in λ i. tree.import_namespace_specifier (nothing_of 0) (e0 i)
  unrenamed (tree.with_clause a entries) = let e0 = unrenamed_trees entries in λ i. tree.with_clause (bare (with_keyword (with_clause_keyword a) ∷ [])) (e0 i)
  unrenamed (tree.import_attribute a key value) = let e0 = unrenamed key in let e1 = unrenamed value in λ i. tree.import_attribute (nothing_of 0) (e0 i) (e1 i)
  unrenamed (tree.export_declaration a declaration) = let e0 = unrenamed declaration in λ i. tree.export_declaration (nothing_of 0) (e0 i)
  unrenamed (tree.export_named_declaration a specifiers) = let e0 = unrenamed_trees specifiers in λ i. tree.export_named_declaration (bare (kind_of_import (export_named_declaration_export_kind a) ∷ [])) (e0 i)
  unrenamed (tree.export_from_declaration a specifiers source with_clause) = let e0 = unrenamed_trees specifiers in let e1 = unrenamed source in let e2 = unrenamed_maybe with_clause in λ i. tree.export_from_declaration (bare (kind_of_import (export_from_declaration_export_kind a) ∷ [])) (e0 i) (e1 i) (e2 i)
  unrenamed (tree.export_default_declaration a declaration) = let e0 = unrenamed declaration in λ i. tree.export_default_declaration (nothing_of 0) (e0 i)
  -- end of what is generated: rows
  unrenamed (node type a slots) = ap (λ s. node type (bare a.values) s) (unrenamed_slots slots)

  unrenamed_quasi : (t : Tree) → normal_quasi (renamed no_tables t) ≡ normal_quasi t
  unrenamed_quasi (tree.template_literal a quasis expressions) = let e = same_raw_texts quasis in let f = unrenamed_trees expressions in λ i. tree.template_literal (nothing_of 0) (e i) (f i)
  unrenamed_quasi (tree.identifier_reference a) = refl
  unrenamed_quasi (tree.binding_identifier a) = refl
  unrenamed_quasi (tree.target_property_identifier a binding init) = written_out_quasiless a binding (renamed no_tables binding) (renamed_maybe no_tables init)
  unrenamed_quasi t = refl

  unrenamed_slots : (s : Slots) → normal_slots (renamed_slots no_tables s) ≡ normal_slots s
  unrenamed_slots no_slots = refl
  unrenamed_slots (one t s) = let e = unrenamed t in let f = unrenamed_slots s in λ i. one (e i) (f i)
  unrenamed_slots (maybe m s) = let e = unrenamed_maybe m in let f = unrenamed_slots s in λ i. maybe (e i) (f i)
  unrenamed_slots (many ts s) = let e = unrenamed_trees ts in let f = unrenamed_slots s in λ i. many (e i) (f i)
  unrenamed_slots (maybe_many ts s) = let e = unrenamed_maybe_trees ts in let f = unrenamed_slots s in λ i. maybe_many (e i) (f i)

  unrenamed_maybe : (m : Maybe) → normal_maybe (renamed_maybe no_tables m) ≡ normal_maybe m
  unrenamed_maybe absent = refl
  unrenamed_maybe (given t) = ap (λ u. given u) (unrenamed t)

  unrenamed_trees : (ts : Trees) → normal_trees (renamed_trees no_tables ts) ≡ normal_trees ts
  unrenamed_trees no_trees = refl
  unrenamed_trees (more t ts) = let e = unrenamed t in let f = unrenamed_trees ts in λ i. more (e i) (f i)
  unrenamed_trees (hole ts) = ap (λ us. hole us) (unrenamed_trees ts)

  unrenamed_maybe_trees : (ts : MaybeTrees) → normal_maybe_trees (renamed_maybe_trees no_tables ts) ≡ normal_maybe_trees ts
  unrenamed_maybe_trees no_list = refl
  unrenamed_maybe_trees (listed ts) = ap (λ us. listed us) (unrenamed_trees ts)
