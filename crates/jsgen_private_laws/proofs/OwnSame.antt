-- A row breaks the same rules of its own where private names are resolved.
use Rattle.std.proofs.Common.{◌≡◌, ℕ, List, ◌++◌, true, false, if◌then◌else◌, refl, ap}
use Rattle.jsgen_tree.specs.Tree.{Tree, node, no_slots}
use Rattle.jsgen_tree.specs.Nodes as tree
use Rattle.jsgen_tree.specs.Inside.{is_method}
use Rattle.jsgen_tree.specs.Values.{static_member_expression_optional, computed_member_expression_optional, call_expression_optional, assignment_expression_operator, object_property_kind, object_property_method, object_property_computed, object_property_shorthand, method_definition_kind, method_definition_computed, property_definition_computed, yield_expression_delegate, binding_property_computed, assignment_target_property_property_computed, for_of_statement_is_await}
use Rattle.jsgen_model.specs.Resolved.{after, after_maybe, after_trees, resolved}
use Rattle.jsgen_model.specs.Valid.{Surroundings, own_faults, program_faults, await_faults}
use Rattle.jsgen_private_laws.specs.Settled.{settled_within}
use Rattle.jsgen_private_laws.proofs.ListsSame.{export_same}
use Rattle.jsgen_private_laws.proofs.RulesSame.{declaration_same, sequence_same, body_same, alternate_same, switch_same, try_same, function_same, yield_same, method_same, class_method_same, key_same, pattern_key_same, member_key_same, shorthand_same, super_same, chain_same, target_same, assigned_same, object_rest_same, shorthand_name_same, left_same, rest_same, init_same, template_same, import_same, indent_same}

module _ (classes : List ℕ) (around : Surroundings) where
  pub own_same : (n : ℕ) (t : Tree) → own_faults (settled_within classes around) (resolved around.tables around.classes n t) ≡ own_faults around t
  own_same n (tree.program a comments hashbang directives body) = ap (λ fs. program_faults a.span around.source around.options ++ fs) (indent_same around.tables around.classes n around.options (tree.program a comments hashbang directives body))
  own_same n (tree.variable_declaration a declarations) = declaration_same around.tables around.classes n a.span declarations
  own_same n (tree.if_statement a test consequent alternate) = let e = body_same around.tables around.classes (after test n) consequent in let f = alternate_same around.tables around.classes (after consequent (after test n)) alternate in λ i. e i ++ f i
  own_same n (tree.for_statement a init test update body) = let e = init_same around.tables around.classes n init in let f = body_same around.tables around.classes (after_maybe update (after_maybe test (after_maybe init n))) body in λ i. e i ++ f i
  own_same n (tree.for_in_statement a left right body) = let e = left_same around.tables around.classes n left in let f = body_same around.tables around.classes (after right (after left n)) body in λ i. e i ++ f i
  own_same n (tree.for_of_statement a left right body) = let e = left_same around.tables around.classes n left in let f = body_same around.tables around.classes (after right (after left n)) body in λ i. await_faults (for_of_statement_is_await a) around.may_await a.span ++ (e i ++ f i)
  own_same n (tree.while_statement a test body) = body_same around.tables around.classes (after test n) body
  own_same n (tree.do_while_statement a body test) = body_same around.tables around.classes n body
  own_same n (tree.labeled_statement a label body) = body_same around.tables around.classes (after label n) body
  own_same n (tree.switch_statement a discriminant cases) = switch_same around.tables around.classes (after discriminant n) a.span cases
  own_same n (tree.try_statement a block handler finalizer) = try_same around.tables around.classes (after block n) (after_maybe handler (after block n)) a.span handler finalizer
  own_same n (tree.static_member a object property) = super_same around.tables around.classes n (static_member_expression_optional a) object
  own_same n (tree.computed_member a object expression) = super_same around.tables around.classes n (computed_member_expression_optional a) object
  own_same n (tree.call a callee arguments) = super_same around.tables around.classes n (call_expression_optional a) callee
  own_same n (tree.chain a element) = chain_same around.tables around.classes n a.span element
  own_same n (tree.update a argument) = target_same around.tables around.classes n argument
  own_same n (tree.assignment a left right) = assigned_same around.tables around.classes n (assignment_expression_operator a) left
  own_same n (tree.object_property a key value) =
      let k = key_same around.tables around.classes n (object_property_computed a) key in
      let m = method_same around.tables around.classes n (after key n) (object_property_kind a) (object_property_computed a) key value in
      let s = shorthand_same around.tables around.classes n (after key n) around.tables (object_property_shorthand a) key value in
      λ i. k i ++ (if is_method (object_property_kind a) (object_property_method a) then m i else s i)
  own_same n (tree.function a id params body) = function_same around.tables around.classes (after params (after_maybe id n)) a.span body
  own_same n (tree.private_identifier a) = refl
  own_same n (tree.private_member a object field) = super_same around.tables around.classes n true object
  own_same n (tree.class_body a body) = refl
  own_same n (tree.method_definition a key value) = let e = member_key_same around.tables around.classes n (method_definition_computed a) key in let f = class_method_same around.tables around.classes (after key n) (method_definition_kind a) value in λ i. e i ++ f i
  own_same n (tree.property_definition a key value) = member_key_same around.tables around.classes n (property_definition_computed a) key
  own_same n (tree.yield_expression a argument) = yield_same around.tables around.classes n around.may_yield (yield_expression_delegate a) argument a.span
  own_same n (tree.sequence a expressions) = sequence_same around.tables around.classes n a.span expressions
  own_same n (tree.object_pattern a properties rest) = rest_same around.tables around.classes (after_trees properties n) rest
  own_same n (tree.binding_property a key value) = pattern_key_same around.tables around.classes n (binding_property_computed a) key
  own_same n (tree.object_target a properties rest) = object_rest_same around.tables around.classes (after_trees properties n) rest
  own_same n (tree.target_with_default a binding init) = target_same around.tables around.classes n binding
  own_same n (tree.target_property_identifier a binding init) = shorthand_name_same around.tables around.classes n binding
  own_same n (tree.target_property a key binding) = pattern_key_same around.tables around.classes n (assignment_target_property_property_computed a) key
  own_same n (tree.target_rest a target) = target_same around.tables around.classes n target
  own_same n (tree.template_literal a quasis expressions) = template_same around.tables around.classes n (after_trees quasis n) a.span quasis expressions
  own_same n (tree.import_declaration a specifiers source attributes) = import_same around.tables around.classes n specifiers
  own_same n (tree.export_named_declaration a specifiers) = export_same around.tables around.classes false n specifiers
  own_same n (tree.export_from_declaration a specifiers source attributes) = export_same around.tables around.classes true n specifiers
  -- nothing is asked of the children of others
  own_same n (node type a no_slots) = refl
  own_same n (tree.await_expression a argument) = refl
  own_same n (tree.return_statement a argument) = refl
  own_same n t = refl
