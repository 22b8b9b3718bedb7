-- A normal form is its own.
use Rattle.std.specs.Option.{option_map_or}
use Rattle.std.proofs.Common.{◌≡◌, ℕ, List, [], Bool, true, false, ◌&&◌, ◌||◌, cond, ◌∷◌, Option, Some, None, is_some, option_and_then, if◌then◌else◌, refl, sym, ap, subst, ◌∙◌}
use Rattle.jsgen_syntax.specs.declared.operator.LogicalOperator.{LogicalOperator}
use Rattle.jsgen_tree.specs.Atom.{text, no_value, declaration_kind, binary_operator, logical_operator, unary_operator, update_operator, assignment_operator, flag, class_form, kind_of_import, with_keyword}
use Rattle.jsgen_tree.specs.Tree.{Tree, node, Slots, no_slots, one, maybe, many, maybe_many, Maybe, absent, given, Trees, no_trees, more, hole, MaybeTrees, no_list, listed}
use Rattle.jsgen_tree.specs.Places.{bare}
use Rattle.jsgen_tree.specs.Values.{import_specifier_import_kind, export_specifier_export_kind, export_all_declaration_export_kind, variable_declaration_kind, variable_declaration_declare, variable_declarator_definite, for_of_statement_is_await, static_member_expression_optional, computed_member_expression_optional, call_expression_optional, binary_expression_operator, logical_expression_operator, unary_expression_operator, update_expression_operator, update_expression_prefix, identifier_name_name, numeric_literal_kind, numeric_literal_negative, big_int_literal_value, object_property_kind, object_property_method, object_property_shorthand, object_property_computed, assignment_expression_operator, function_kind, function_is_async, function_generator, function_declare, formal_parameter_is_override, formal_parameter_readonly, formal_parameter_optional, arrow_function_expression_is_async, reg_exp_literal_pattern, reg_exp_literal_flags, method_definition_kind, method_definition_computed, method_definition_is_static, method_definition_is_override, method_definition_is_abstract, method_definition_optional, as_flag, assignment_target_property_property_computed, binding_property_computed, class_declare, class_is_abstract, class_kind, export_from_declaration_export_kind, export_named_declaration_export_kind, import_declaration_import_kind, private_field_expression_optional, property_definition_computed, property_definition_declare, property_definition_definite, property_definition_is_abstract, property_definition_is_override, property_definition_is_static, property_definition_optional, property_definition_readonly, with_clause_keyword, yield_expression_delegate}
use Rattle.jsgen_tree.specs.Inside.{ends_open, written_name_in, is_proto, is_method, after_minus, unless_minus, behind_minus, is_negative_number}
use Rattle.jsgen_tree.specs.declared.collections.PropertyKind.{PropertyKind}
use Rattle.jsgen_tree.specs.declared.collections.PropertyKind.TheVariants as property_kinds
use Rattle.jsgen_tree.specs.Nodes as tree
use Rattle.std.proofs.lemmas.Bool.{both_ways}
use Rattle.std.proofs.lemmas.Option.{same_Some}
use Rattle.jsgen_model.specs.Normal.{normal, normal_slots, normal_maybe, normal_trees, normal_maybe_trees, unbraced, nothing_of, by_text, number_text, minus_before, big_integer, is_computed, property_values, is_written_as_method, is_proto_shorthand, chain, same_operator, joined, links, parts_of, flattened, link_values, call_values, function_values, if_set, method_values, as_method, normal_quasi, untagged, by_value, by_values, by_raw_text, by_raw_texts, by_its_text, maybe_by_its_text}
use Rattle.jsgen_model.specs.Renamed.{written_out}
use Rattle.jsgen_tree.specs.declared.classes.MethodDefinitionKind.{MethodDefinitionKind}
use Rattle.jsgen_tree.specs.declared.classes.MethodDefinitionKind.TheVariants as method_kinds
use Rattle.jsgen_row_laws.proofs.Patterns.{pattern_again}
use Rattle.jsgen_row_laws.proofs.Joined.{joined_normal, joined_nothing, flattened_joined}

-- ---- chains

-- the operands of a chain, and none of other trees
abbrev operands_of : Tree → Trees
operands_of (chain a operands) = operands
operands_of t = no_trees

-- what an operand in normal form adds is in normal form
links_again : (o : LogicalOperator) (t : Tree) → normal t ≡ t → normal_trees (links o t) ≡ links o t
links_again o (chain a operands) e = go (same_operator o (logical_expression_operator a))
  where
    go : (b : Bool) → normal_trees (cond b operands (more (chain a operands) no_trees)) ≡ cond b operands (more (chain a operands) no_trees)
    go true = ap operands_of e
    go false = ap (λ u. more u no_trees) e
links_again o t e = ap (λ u. more u no_trees) e

normal_chain_again : (o : LogicalOperator) (t u : Tree) → normal t ≡ t → normal u ≡ u → chain (bare (logical_operator o ∷ [])) (normal_trees (joined (links o t) (links o u))) ≡ chain (bare (logical_operator o ∷ [])) (joined (links o t) (links o u))
normal_chain_again o t u e f =
    let g = links_again o t e in
    let h = links_again o u f in
    ap (λ ts. chain (bare (logical_operator o ∷ [])) ts) (joined_normal (links o t) (links o u) ∙ (λ i. joined (g i) (h i)))

-- ---- sequences

-- what a part in normal form adds is flat already
parts_again : (t : Tree) → normal t ≡ t → flattened (normal_trees (parts_of t)) ≡ parts_of t
parts_again (tree.sequence a ts) e = ap parts_of e
parts_again t e = joined_nothing (parts_of (normal t)) ∙ ap parts_of e

both_again : (us vs : Trees) → flattened (normal_trees us) ≡ us → flattened (normal_trees vs) ≡ vs → flattened (normal_trees (joined us vs)) ≡ joined us vs
both_again us vs e f = ap flattened (joined_normal us vs) ∙ (flattened_joined (normal_trees us) (normal_trees vs) ∙ (λ i. joined (e i) (f i)))

-- ---- consequents

-- the one statement of a block
abbrev only_statement : Tree → Tree
only_statement (tree.block a (more s no_trees)) = s
only_statement t = t

unbraced_open : (t : Tree) → ends_open t ≡ true → unbraced t ≡ t
unbraced_open (tree.block a (more s no_trees)) h = absurd (both_ways false refl h)
unbraced_open t h = refl

-- of a normal form, what is left of the braces is one too
unbraced_again : (t : Tree) → normal t ≡ t → unbraced (normal (unbraced t)) ≡ unbraced t
unbraced_again (tree.block a (more s no_trees)) e = go (ends_open s) refl
  where
    go : (b : Bool) → ends_open s ≡ b → unbraced (normal (cond b s (tree.block a (more s no_trees)))) ≡ cond b s (tree.block a (more s no_trees))
    go true o = ap unbraced (ap only_statement e) ∙ unbraced_open s o
    go false o = ap unbraced e ∙ ap (λ b. cond b s (tree.block a (more s no_trees))) o
unbraced_again t e = ap unbraced e

-- ---- properties

and_again : (a b : Bool) → (a && (a && b)) ≡ (a && b)
and_again true b = refl
and_again false b = refl

and_false : (b : Bool) → (b && false) ≡ false
and_false true = refl
and_false false = refl

-- what is no shorthand of `__proto__` stays none
proto_again : (method s : Bool) (key : Tree) → is_proto_shorthand method (is_proto_shorthand method s key) (normal key) ≡ is_proto_shorthand method s key
proto_again true s key = refl
proto_again false s (tree.identifier_name a) = and_again (is_proto (identifier_name_name a)) s
proto_again false s key = and_false (option_map_or is_proto (written_name_in (normal key)) false)

-- what is a method stays one, and what is an accessor
method_again : (kind : PropertyKind) (method : Bool) → is_method kind (is_written_as_method kind method) ≡ is_method kind method
method_again property_kinds.Init method = refl
method_again property_kinds.Get method = refl
method_again property_kinds.Set method = refl

written_again : (kind : PropertyKind) (method : Bool) → is_written_as_method kind (is_written_as_method kind method) ≡ is_written_as_method kind method
written_again property_kinds.Init method = refl
written_again property_kinds.Get method = refl
written_again property_kinds.Set method = refl

-- ---- numbers

number_again : (negative : Bool) (w : List ℕ) → normal (minus_before negative (tree.numeric_literal (by_text w))) ≡ minus_before negative (tree.numeric_literal (by_text w))
number_again true w = refl
number_again false w = refl

-- behind the one minus stands none
no_minus_behind : (v w : List ℕ) → behind_minus v ≡ Some w → behind_minus w ≡ None
no_minus_behind v w e = from (after_minus v) e
  where
    once : (u : List ℕ) (b : Bool) → is_some (after_minus u) ≡ b → (if b then None else Some u) ≡ Some w → behind_minus w ≡ None
    once u true f e = absurd (both_ways false refl (ap is_some e))
    once u false f e = subst (λ x. behind_minus x ≡ None) (same_Some u w e) (unsigned (after_minus u) f)
      where
        unsigned : (o : Option (List ℕ)) → is_some o ≡ false → option_and_then unless_minus o ≡ None
        unsigned None f = refl
        unsigned (Some x) f = absurd (both_ways true f refl)

    from : (o : Option (List ℕ)) → option_and_then unless_minus o ≡ Some w → behind_minus w ≡ None
    from None e = absurd (both_ways false refl (ap is_some e))
    from (Some u) e = once u (is_some (after_minus u)) refl e

big_integer_again : (v : List ℕ) (o : Option (List ℕ)) → behind_minus v ≡ o → normal (big_integer v o) ≡ big_integer v o
big_integer_again v (Some w) e = ap (λ t. minus_before true t) (ap (big_integer w) (no_minus_behind v w e))
big_integer_again v None e = ap (big_integer v) e

-- what stands in brackets does so in the normal form, where no key is a negative number
or_again : (a b : Bool) → ((a || b) || false) ≡ (a || b)
or_again true b = refl
or_again false true = refl
or_again false false = refl

abbrev is_unary : Tree → Bool
is_unary (tree.unary a argument) = true
is_unary t = false

no_negative_number : (t : Tree) → normal t ≡ t → is_negative_number t ≡ false
no_negative_number (tree.numeric_literal a) e = by (numeric_literal_negative a) refl
  where
    by : (b : Bool) → numeric_literal_negative a ≡ b → b ≡ false
    by true n = absurd (both_ways true (ap is_unary (sym (ap (λ x. minus_before x (tree.numeric_literal (by_text (number_text (numeric_literal_kind a) a)))) n) ∙ e)) refl)
    by false n = refl
no_negative_number t e = refl

computed_again : (computed : Bool) (key : Tree) → normal (normal key) ≡ normal key → is_computed (is_computed computed key) (normal key) ≡ is_computed computed key
computed_again computed key e = ap (λ b. (computed || is_negative_number key) || b) (no_negative_number (normal key) e) ∙ or_again computed (is_negative_number key)

-- a flag stays one that is set, or one that is not
pub flag_again : (b : Bool) → as_flag (if_set b) ≡ b
flag_again true = refl
flag_again false = refl

-- a constructor is a method once and for all
method_kind_again : (k : MethodDefinitionKind) → as_method (as_method k) ≡ as_method k
method_kind_again method_kinds.Constructor = refl
method_kind_again k = refl

-- a property that is written out stays so
written_out_again : (t : Tree) (m : Maybe) → normal t ≡ t → normal_maybe m ≡ m → normal (written_out (nothing_of 0) t t m) ≡ written_out (nothing_of 0) t t m
written_out_again (tree.identifier_reference b) absent e f = ap (λ u. written_out (nothing_of 0) (tree.identifier_reference b) u absent) e
written_out_again (tree.identifier_reference b) (given v) e f = λ i. written_out (nothing_of 0) (tree.identifier_reference b) (e i) (f i)
written_out_again t m e f = λ i. written_out (nothing_of 0) (e i) (e i) (f i)

-- ---- templates

values_again : (ts : Trees) → by_values (by_values ts) ≡ by_values ts
values_again no_trees = refl
values_again (more t ts) = ap (λ us. more (by_value t) us) (values_again ts)
values_again (hole ts) = ap (λ us. hole us) (values_again ts)

raw_texts_again : (ts : Trees) → by_raw_texts (by_raw_texts ts) ≡ by_raw_texts ts
raw_texts_again no_trees = refl
raw_texts_again (more t ts) = ap (λ us. more (by_raw_text t) us) (raw_texts_again ts)
raw_texts_again (hole ts) = ap (λ us. hole us) (raw_texts_again ts)

untagged_again : (pieces expressions : Trees) → by_values pieces ≡ pieces → normal_trees expressions ≡ expressions → normal (untagged pieces expressions) ≡ untagged pieces expressions
untagged_again (more t no_trees) no_trees e f = refl
untagged_again pieces expressions e f = λ i. untagged (e i) (f i)

-- ---- names of imports and exports

text_again : (t : Tree) → normal t ≡ t → by_its_text (normal (by_its_text t)) ≡ by_its_text t
text_again (tree.identifier_name a) e = refl
text_again (tree.identifier_reference a) e = refl
text_again t e = ap by_its_text e

maybe_text_again : (m : Maybe) → normal_maybe m ≡ m → maybe_by_its_text (normal_maybe (maybe_by_its_text m)) ≡ maybe_by_its_text m
maybe_text_again absent e = refl
maybe_text_again (given (tree.identifier_name a)) e = refl
maybe_text_again (given (tree.identifier_reference a)) e = refl
maybe_text_again (given t) e = ap maybe_by_its_text e

-- ---- the whole

mutual
  pub normal_again : (t : Tree) → normal (normal t) ≡ normal t
  normal_again (tree.program a comments hashbang directives body) = let h = normal_maybe_again hashbang in let e = normal_trees_again directives in let f = normal_trees_again body in λ i. tree.program (nothing_of 4) no_trees (h i) (e i) (f i)
  normal_again (tree.comment a) = refl
  normal_again (tree.template_element a) = refl
  normal_again (tree.directive a) = refl
  normal_again (tree.binding_identifier a) = refl
  normal_again (tree.identifier_reference a) = refl
  normal_again (tree.numeric_literal a) = number_again (numeric_literal_negative a) (number_text (numeric_literal_kind a) a)
  normal_again (tree.big_int_literal a) = big_integer_again (big_int_literal_value a) (behind_minus (big_int_literal_value a)) refl
  normal_again (tree.parenthesized a expression) = normal_again expression
  normal_again (tree.logical a left right) = normal_chain_again (logical_expression_operator a) (normal left) (normal right) (normal_again left) (normal_again right)
  normal_again (tree.if_statement a test consequent alternate) = let e = normal_again test in let f = unbraced_again (normal consequent) (normal_again consequent) in let g = normal_maybe_again alternate in λ i. tree.if_statement (nothing_of 0) (e i) (f i) (g i)
  normal_again (tree.label_identifier a) = refl
  normal_again (tree.identifier_name a) = refl
  normal_again (tree.static_member a object property) = let e = normal_again object in let f = normal_again property in λ i. tree.static_member (link_values (static_member_expression_optional a)) (e i) (f i)
  normal_again (tree.computed_member a object expression) = let e = normal_again object in let f = normal_again expression in λ i. tree.computed_member (link_values (computed_member_expression_optional a)) (e i) (f i)
  normal_again (tree.call a callee arguments) = let e = normal_again callee in let f = normal_trees_again arguments in λ i. tree.call (call_values (call_expression_optional a)) (e i) (f i)
  normal_again (tree.object_property a key value) =
      let e = normal_again key in
      let f = normal_again value in
      let kind : PropertyKind = object_property_kind a in
      let method : Bool = object_property_method a in
      let alone : Bool = is_proto_shorthand (is_method kind method) (object_property_shorthand a) key in
      let g = ap (λ b. is_proto_shorthand b alone (normal key)) (method_again kind method) ∙ proto_again (is_method kind method) (object_property_shorthand a) key in
      let h = computed_again (object_property_computed a) key e in
      let w = written_again kind method in
      λ i. tree.object_property (property_values kind (w i) (g i) (h i)) (e i) (f i)
  normal_again (tree.sequence a expressions) = ap (λ ts. tree.sequence (nothing_of 0) ts) (flattened_again expressions)
  normal_again (tree.function a id params body) = let s = flag_again (function_is_async a) in let u = flag_again (function_generator a) in let v = flag_again (function_declare a) in let e = normal_maybe_again id in let f = normal_again params in let g = normal_maybe_again body in λ i. tree.function (function_values (function_kind a) (if_set (s i)) (if_set (u i)) (if_set (v i))) (e i) (f i) (g i)
  normal_again (tree.reg_exp_literal a) = ap (λ w. tree.reg_exp_literal (bare (text w ∷ text (reg_exp_literal_flags a) ∷ []))) (pattern_again (reg_exp_literal_pattern a))
  normal_again (tree.method_definition a key value) =
      let k = method_kind_again (method_definition_kind a) in
      let s = flag_again (method_definition_is_override a) in
      let u = flag_again (method_definition_is_abstract a) in
      let v = flag_again (method_definition_optional a) in
      let e = normal_again key in
      let f = normal_again value in
      λ i. tree.method_definition (method_values (k i) (method_definition_computed a) (method_definition_is_static a) (if_set (s i)) (if_set (u i)) (if_set (v i))) (e i) (f i)
  normal_again (tree.target_property_identifier a binding init) = written_out_again (normal binding) (normal_maybe init) (normal_again binding) (normal_maybe_again init)
  normal_again (tree.template_literal a quasis expressions) = untagged_again (by_values quasis) (normal_trees expressions) (values_again quasis) (normal_trees_again expressions)
  normal_again (tree.tagged_template a tag quasi) = let e = normal_again tag in let f = normal_quasi_again quasi in λ i. tree.tagged_template (nothing_of 0) (e i) (f i)
  normal_again (tree.import_specifier a imported local) = let e = text_again (normal imported) (normal_again imported) in let f = normal_again local in λ i. tree.import_specifier (bare (kind_of_import (import_specifier_import_kind a) ∷ [])) (e i) (f i)
  normal_again (tree.export_specifier a local exported) =
      let e = text_again (normal local) (normal_again local) in
      let f = text_again (normal exported) (normal_again exported) in
      λ i. tree.export_specifier (bare (kind_of_import (export_specifier_export_kind a) ∷ [])) (e i) (f i)
  normal_again (tree.export_all_declaration a exported source with_clause_child) =
      let e = maybe_text_again (normal_maybe exported) (normal_maybe_again exported) in
      let f = normal_again source in
      let g = normal_maybe_again with_clause_child in
      λ i. tree.export_all_declaration (bare (kind_of_import (export_all_declaration_export_kind a) ∷ [])) (e i) (f i) (g i)
  -- generated from tools/nodes/table.txt: rows
  normal_again (tree.variable_declaration a declarations) = let s0 = flag_again (variable_declaration_declare a) in let e0 = normal_trees_again declarations in λ i. tree.variable_declaration (bare (declaration_kind (variable_declaration_kind a) ∷ if_set (s0 i) ∷ [])) (e0 i)
  normal_again (tree.variable_declarator a id init) = let s0 = flag_again (variable_declarator_definite a) in let e0 = normal_again id in let e1 = normal_maybe_again init in λ i. tree.variable_declarator (bare (if_set (s0 i) ∷ [])) (e0 i) (e1 i)
  normal_again (tree.expression_statement a expression) = let e0 = normal_again expression in λ i. tree.expression_statement (nothing_of 0) (e0 i)
  normal_again (tree.block a body) = let e0 = normal_trees_again body in λ i. tree.block (nothing_of 0) (e0 i)
  normal_again (tree.empty_statement a) = refl
  normal_again (tree.this_expression a) = refl
  normal_again (tree.null_literal a) = refl
  normal_again (tree.boolean_literal a) = refl
  normal_again (tree.string_literal a) = refl
  normal_again (tree.binary a left right) = let e0 = normal_again left in let e1 = normal_again right in λ i. tree.binary (bare (binary_operator (binary_expression_operator a) ∷ [])) (e0 i) (e1 i)
  normal_again (tree.chain a expression) = let e0 = normal_again expression in λ i. tree.chain (nothing_of 0) (e0 i)
  normal_again (tree.spread a argument) = let e0 = normal_again argument in λ i. tree.spread (nothing_of 0) (e0 i)
  normal_again (tree.array a elements) = let e0 = normal_trees_again elements in λ i. tree.array (nothing_of 0) (e0 i)
  normal_again (tree.object_expression a properties) = let e0 = normal_trees_again properties in λ i. tree.object_expression (nothing_of 0) (e0 i)
  normal_again (tree.unary a argument) = let e0 = normal_again argument in λ i. tree.unary (bare (unary_operator (unary_expression_operator a) ∷ [])) (e0 i)
  normal_again (tree.new_target a) = refl
  normal_again (tree.update a argument) = let e0 = normal_again argument in λ i. tree.update (bare (update_operator (update_expression_operator a) ∷ flag (update_expression_prefix a) ∷ [])) (e0 i)
  normal_again (tree.new_expression a callee arguments) = let e0 = normal_again callee in let e1 = normal_trees_again arguments in λ i. tree.new_expression (nothing_of 1) (e0 i) (e1 i)
  normal_again (tree.super a) = refl
  normal_again (tree.import_meta a) = refl
  normal_again (tree.conditional a test consequent alternate) = let e0 = normal_again test in let e1 = normal_again consequent in let e2 = normal_again alternate in λ i. tree.conditional (nothing_of 0) (e0 i) (e1 i) (e2 i)
  normal_again (tree.assignment a left right) = let e0 = normal_again left in let e1 = normal_again right in λ i. tree.assignment (bare (assignment_operator (assignment_expression_operator a) ∷ [])) (e0 i) (e1 i)
  normal_again (tree.formal_parameter a pattern initializer) = let s0 = flag_again (formal_parameter_is_override a) in let s1 = flag_again (formal_parameter_readonly a) in let s2 = flag_again (formal_parameter_optional a) in let e0 = normal_again pattern in let e1 = normal_maybe_again initializer in λ i. tree.formal_parameter (bare (if_set (s0 i) ∷ if_set (s1 i) ∷ if_set (s2 i) ∷ [])) (e0 i) (e1 i)
  normal_again (tree.formal_parameter_rest a argument) = let e0 = normal_again argument in λ i. tree.formal_parameter_rest (nothing_of 0) (e0 i)
  normal_again (tree.formal_parameters a items rest) = let e0 = normal_trees_again items in let e1 = normal_maybe_again rest in λ i. tree.formal_parameters (nothing_of 0) (e0 i) (e1 i)
  normal_again (tree.function_body a directives statements) = let e0 = normal_trees_again directives in let e1 = normal_trees_again statements in λ i. tree.function_body (nothing_of 0) (e0 i) (e1 i)
  normal_again (tree.arrow_function a params body) = let s0 = flag_again (arrow_function_expression_is_async a) in let e0 = normal_again params in let e1 = normal_again body in λ i. tree.arrow_function (bare (if_set (s0 i) ∷ no_value ∷ no_value ∷ [])) (e0 i) (e1 i)
  normal_again (tree.await_expression a argument) = let e0 = normal_again argument in λ i. tree.await_expression (nothing_of 0) (e0 i)
  normal_again (tree.yield_expression a argument) = let e0 = normal_maybe_again argument in λ i. tree.yield_expression (bare (flag (yield_expression_delegate a) ∷ [])) (e0 i)
  normal_again (tree.import_call a source options) = let e0 = normal_again source in let e1 = normal_maybe_again options in λ i. tree.import_call (nothing_of 0) (e0 i) (e1 i)
  normal_again (tree.for_statement a init test update body) = let e0 = normal_maybe_again init in let e1 = normal_maybe_again test in let e2 = normal_maybe_again update in let e3 = normal_again body in λ i. tree.for_statement (nothing_of 0) (e0 i) (e1 i) (e2 i) (e3 i)
  normal_again (tree.for_in_statement a left right body) = let e0 = normal_again left in let e1 = normal_again right in let e2 = normal_again body in λ i. tree.for_in_statement (nothing_of 0) (e0 i) (e1 i) (e2 i)
  normal_again (tree.for_of_statement a left right body) = let s0 = flag_again (for_of_statement_is_await a) in let e0 = normal_again left in let e1 = normal_again right in let e2 = normal_again body in λ i. tree.for_of_statement (bare (if_set (s0 i) ∷ [])) (e0 i) (e1 i) (e2 i)
  normal_again (tree.while_statement a test body) = let e0 = normal_again test in let e1 = normal_again body in λ i. tree.while_statement (nothing_of 0) (e0 i) (e1 i)
  normal_again (tree.do_while_statement a body test) = let e0 = normal_again body in let e1 = normal_again test in λ i. tree.do_while_statement (nothing_of 0) (e0 i) (e1 i)
  normal_again (tree.labeled_statement a label body) = let e0 = normal_again label in let e1 = normal_again body in λ i. tree.labeled_statement (nothing_of 0) (e0 i) (e1 i)
  normal_again (tree.continue_statement a label) = let e0 = normal_maybe_again label in λ i. tree.continue_statement (nothing_of 0) (e0 i)
  normal_again (tree.break_statement a label) = let e0 = normal_maybe_again label in λ i. tree.break_statement (nothing_of 0) (e0 i)
  normal_again (tree.return_statement a argument) = let e0 = normal_maybe_again argument in λ i. tree.return_statement (nothing_of 0) (e0 i)
  normal_again (tree.throw_statement a argument) = let e0 = normal_again argument in λ i. tree.throw_statement (nothing_of 0) (e0 i)
  normal_again (tree.debugger_statement a) = refl
  normal_again (tree.switch_statement a discriminant cases) = let e0 = normal_again discriminant in let e1 = normal_trees_again cases in λ i. tree.switch_statement (nothing_of 0) (e0 i) (e1 i)
  normal_again (tree.switch_case a test consequent) = let e0 = normal_maybe_again test in let e1 = normal_trees_again consequent in λ i. tree.switch_case (nothing_of 0) (e0 i) (e1 i)
  normal_again (tree.try_statement a block handler finalizer) = let e0 = normal_again block in let e1 = normal_maybe_again handler in let e2 = normal_maybe_again finalizer in λ i. tree.try_statement (nothing_of 0) (e0 i) (e1 i) (e2 i)
  normal_again (tree.catch_clause a param body) = let e0 = normal_maybe_again param in let e1 = normal_again body in λ i. tree.catch_clause (nothing_of 0) (e0 i) (e1 i)
  normal_again (tree.object_pattern a properties rest) = let e0 = normal_trees_again properties in let e1 = normal_maybe_again rest in λ i. tree.object_pattern (nothing_of 0) (e0 i) (e1 i)
  normal_again (tree.binding_property a key value) = let e0 = normal_again key in let e1 = normal_again value in λ i. tree.binding_property (bare (flag (binding_property_computed a) ∷ [])) (e0 i) (e1 i)
  normal_again (tree.binding_rest_element a argument) = let e0 = normal_again argument in λ i. tree.binding_rest_element (nothing_of 0) (e0 i)
  normal_again (tree.array_pattern a elements rest) = let e0 = normal_trees_again elements in let e1 = normal_maybe_again rest in λ i. tree.array_pattern (nothing_of 0) (e0 i) (e1 i)
  normal_again (tree.assignment_pattern a left right) = let e0 = normal_again left in let e1 = normal_again right in λ i. tree.assignment_pattern (nothing_of 0) (e0 i) (e1 i)
  normal_again (tree.array_target a elements rest) = let e0 = normal_trees_again elements in let e1 = normal_maybe_again rest in λ i. tree.array_target (nothing_of 0) (e0 i) (e1 i)
  normal_again (tree.object_target a properties rest) = let e0 = normal_trees_again properties in let e1 = normal_maybe_again rest in λ i. tree.object_target (nothing_of 0) (e0 i) (e1 i)
  normal_again (tree.target_with_default a binding init) = let e0 = normal_again binding in let e1 = normal_again init in λ i. tree.target_with_default (nothing_of 0) (e0 i) (e1 i)
  normal_again (tree.target_property a the_name binding) = let e0 = normal_again the_name in let e1 = normal_again binding in λ i. tree.target_property (bare (flag (assignment_target_property_property_computed a) ∷ [])) (e0 i) (e1 i)
  normal_again (tree.target_rest a target) = let e0 = normal_again target in λ i. tree.target_rest (nothing_of 0) (e0 i)
  normal_again (tree.private_identifier a) = refl
  normal_again (tree.private_member a object field) = let e0 = normal_again object in let e1 = normal_again field in λ i. tree.private_member (bare (flag (private_field_expression_optional a) ∷ [])) (e0 i) (e1 i)
  normal_again (tree.private_in a left right) = let e0 = normal_again left in let e1 = normal_again right in λ i. tree.private_in (nothing_of 0) (e0 i) (e1 i)
  normal_again (tree.class a id heritage body) = let s0 = flag_again (class_declare a) in let s1 = flag_again (class_is_abstract a) in let e0 = normal_maybe_again id in let e1 = normal_maybe_again heritage in let e2 = normal_again body in λ i. tree.class (bare (class_form (class_kind a) ∷ if_set (s0 i) ∷ if_set (s1 i) ∷ [])) (e0 i) (e1 i) (e2 i)
  normal_again (tree.class_body a body) = let e0 = normal_trees_again body in λ i. tree.class_body (nothing_of 0) (e0 i)
  normal_again (tree.static_block a body) = let e0 = normal_trees_again body in λ i. tree.static_block (nothing_of 0) (e0 i)
  normal_again (tree.property_definition a key value) = let s0 = flag_again (property_definition_declare a) in let s1 = flag_again (property_definition_is_abstract a) in let s2 = flag_again (property_definition_is_override a) in let s3 = flag_again (property_definition_readonly a) in let s4 = flag_again (property_definition_optional a) in let s5 = flag_again (property_definition_definite a) in let e0 = normal_again key in let e1 = normal_maybe_again value in λ i. tree.property_definition (bare (flag (property_definition_computed a) ∷ if_set (s0 i) ∷ if_set (s1 i) ∷ flag (property_definition_is_static a) ∷ if_set (s2 i) ∷ if_set (s3 i) ∷ if_set (s4 i) ∷ if_set (s5 i) ∷ [])) (e0 i) (e1 i)
  normal_again (tree.hashbang a) = refl
  normal_again (tree.import_declaration a specifiers source with_clause) = let e0 = normal_maybe_trees_again specifiers in let e1 = normal_again source in let e2 = normal_maybe_again with_clause in λ i. tree.import_declaration (bare (kind_of_import (import_declaration_import_kind a) ∷ [])) (e0 i) (e1 i) (e2 i)
  normal_again (tree.import_default_specifier a local) = let e0 = normal_again local in λ i. tree.import_default_specifier (nothing_of 0) (e0 i)
  normal_again (tree.import_namespace_specifier a local) = let e0 = normal_again local in λ i. tree.import_namespace_specifier (nothing_of 0) (e0 i)
  normal_again (tree.with_clause a entries) = let e0 = normal_trees_again entries in λ i. tree.with_clause (bare (with_keyword (with_clause_keyword a) ∷ [])) (e0 i)
  normal_again (tree.import_attribute a key value) = let e0 = normal_again key in let e1 = normal_again value in λ i. tree.import_attribute (nothing_of 0) (e0 i) (e1 i)
  normal_again (tree.export_declaration a declaration) = let e0 = normal_again declaration in λ i. tree.export_declaration (nothing_of 0) (e0 i)
  normal_again (tree.export_named_declaration a specifiers) = let e0 = normal_trees_again specifiers in λ i. tree.export_named_declaration (bare (kind_of_import (export_named_declaration_export_kind a) ∷ [])) (e0 i)
  normal_again (tree.export_from_declaration a specifiers source with_clause) = let e0 = normal_trees_again specifiers in let e1 = normal_again source in let e2 = normal_maybe_again with_clause in λ i. tree.export_from_declaration (bare (kind_of_import (export_from_declaration_export_kind a) ∷ [])) (e0 i) (e1 i) (e2 i)
  normal_again (tree.export_default_declaration a declaration) = let e0 = normal_again declaration in λ i. tree.export_default_declaration (nothing_of 0) (e0 i)
  -- end of what is generated: rows
  normal_again (node type a slots) = ap (λ s. node type (bare a.values) s) (normal_slots_again slots)

  normal_quasi_again : (t : Tree) → normal_quasi (normal_quasi t) ≡ normal_quasi t
  normal_quasi_again (tree.template_literal a quasis expressions) = let e = raw_texts_again quasis in let f = normal_trees_again expressions in λ i. tree.template_literal (nothing_of 0) (e i) (f i)
  normal_quasi_again t = refl

  flattened_again : (ts : Trees) → flattened (normal_trees (flattened (normal_trees ts))) ≡ flattened (normal_trees ts)
  flattened_again no_trees = refl
  flattened_again (more t ts) = both_again (parts_of (normal t)) (flattened (normal_trees ts)) (parts_again (normal t) (normal_again t)) (flattened_again ts)
  flattened_again (hole ts) = ap (λ us. hole us) (flattened_again ts)

  normal_slots_again : (s : Slots) → normal_slots (normal_slots s) ≡ normal_slots s
  normal_slots_again no_slots = refl
  normal_slots_again (one t s) = let e = normal_again t in let f = normal_slots_again s in λ i. one (e i) (f i)
  normal_slots_again (maybe m s) = let e = normal_maybe_again m in let f = normal_slots_again s in λ i. maybe (e i) (f i)
  normal_slots_again (many ts s) = let e = normal_trees_again ts in let f = normal_slots_again s in λ i. many (e i) (f i)
  normal_slots_again (maybe_many ts s) = let e = normal_maybe_trees_again ts in let f = normal_slots_again s in λ i. maybe_many (e i) (f i)

  normal_maybe_again : (m : Maybe) → normal_maybe (normal_maybe m) ≡ normal_maybe m
  normal_maybe_again absent = refl
  normal_maybe_again (given t) = ap (λ u. given u) (normal_again t)

  normal_trees_again : (ts : Trees) → normal_trees (normal_trees ts) ≡ normal_trees ts
  normal_trees_again no_trees = refl
  normal_trees_again (more t ts) = let e = normal_again t in let f = normal_trees_again ts in λ i. more (e i) (f i)
  normal_trees_again (hole ts) = ap (λ us. hole us) (normal_trees_again ts)

  normal_maybe_trees_again : (ts : MaybeTrees) → normal_maybe_trees (normal_maybe_trees ts) ≡ normal_maybe_trees ts
  normal_maybe_trees_again no_list = refl
  normal_maybe_trees_again (listed ts) = ap (λ us. listed us) (normal_trees_again ts)
