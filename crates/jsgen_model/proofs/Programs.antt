-- Generated from tools/nodes/table.txt; edit that and run tools/nodes/generate.
-- A node of Rust is formed where its children are.
use Rattle.std.proofs.Common.{refl}
use Rattle.std.proofs.lemmas.Bool.{and_from}
use Rattle.jsgen_tree.specs.Plain.{node_plain, layer}
use Rattle.jsgen_tree.proofs.Cases.{with_argument, with_array_expression_element, with_assignment_target_maybe_default, with_assignment_target_property, with_object_property_kind, variable_declarator_by_init, if_statement_by_alternate, chain_expression_by_expression, boxed_object_property_by_key, update_expression_by_argument, formal_parameter_by_initializer, boxed_formal_parameters_by_rest, function_by_params, boxed_function_by_params, function_by_body, boxed_function_by_body, arrow_function_expression_by_params, arrow_function_expression_by_body, yield_expression_by_argument, import_expression_by_options, for_statement_by_init, for_statement_by_test, for_statement_by_update, for_in_statement_by_left, for_of_statement_by_left, return_statement_by_argument, switch_case_by_test, try_statement_by_handler, try_statement_by_finalizer, boxed_catch_clause_by_param, object_pattern_by_rest, binding_property_by_key, array_pattern_by_rest, array_assignment_target_by_rest, object_assignment_target_by_rest, boxed_assignment_target_property_identifier_by_init, boxed_assignment_target_property_property_by_name, boxed_assignment_target_property_property_by_binding, class_by_heritage, boxed_class_by_heritage, method_definition_by_key, method_definition_by_value, property_definition_by_key, property_definition_by_value, export_default_declaration_by_declaration}
use Rattle.jsgen_tree.specs.declared.nodes.Node.{Node, Node-F, map-Node}
use Rattle.jsgen_tree.specs.Tree.{Tree}
use Rattle.jsgen_tree.specs.Rows.{in_module_export_name, in_import_declaration_specifier, in_import_attribute_key}
use Rattle.jsgen_tree.specs.declared.sets.Expression.{Expression}
use Rattle.jsgen_tree.specs.declared.sets.AssignmentTarget.{AssignmentTarget}
use Rattle.jsgen_tree.specs.declared.sets.Declaration.{Declaration}
use Rattle.jsgen_tree.specs.declared.sets.Statement.{Statement}
use Rattle.jsgen_tree.specs.declared.sets.BindingPattern.{BindingPattern}
use Rattle.jsgen_tree.specs.declared.sets.ClassElement.{ClassElement}
use Rattle.jsgen_tree.specs.declared.sets.ModuleExportName.{ModuleExportName}
use Rattle.jsgen_tree.specs.declared.sets.ImportDeclarationSpecifier.{ImportDeclarationSpecifier}
use Rattle.jsgen_tree.specs.declared.sets.ImportAttributeKey.{ImportAttributeKey}
use Rattle.jsgen_tree.proofs.Layers.{with_hole}
use Rattle.jsgen_model.proofs.FormedRows.{IsFormed, no_hole, all_formed, no_hole_changed, all_changed, all_changed_or_holes, if_given_formed, no_hole_if_listed, all_formed_if_listed, number_is_formed, string_is_formed, text_is_formed}
use Rattle.jsgen_tree.specs.declared.nodes.Node.TheOpen as opened
use Rattle.jsgen_tree.specs.declared.sets.Expression.TheVariants as expressions
use Rattle.jsgen_tree.specs.declared.sets.AssignmentTarget.TheVariants as assignment_targets
use Rattle.jsgen_tree.specs.declared.sets.Declaration.TheVariants as declarations
use Rattle.jsgen_tree.specs.declared.sets.Statement.TheVariants as statements
use Rattle.jsgen_tree.specs.declared.sets.BindingPattern.TheVariants as binding_patterns
use Rattle.jsgen_tree.specs.declared.sets.ClassElement.TheVariants as class_elements
use Rattle.jsgen_tree.specs.declared.sets.ModuleExportName.TheVariants as module_export_names
use Rattle.jsgen_tree.specs.declared.sets.ImportDeclarationSpecifier.TheVariants as import_declaration_specifiers
use Rattle.jsgen_tree.specs.declared.sets.ImportAttributeKey.TheVariants as import_attribute_keys

module_export_name_is_formed : (n : ModuleExportName) → IsFormed (in_module_export_name n)
module_export_name_is_formed (module_export_names.IdentifierName b) = (refl, tt)
module_export_name_is_formed (module_export_names.IdentifierReference b) = (refl, tt)
module_export_name_is_formed (module_export_names.StringLiteral b) = (string_is_formed b.value.value, tt)

import_declaration_specifier_is_formed : (n : ImportDeclarationSpecifier) → IsFormed (in_import_declaration_specifier n)
import_declaration_specifier_is_formed (import_declaration_specifiers.ImportDefaultSpecifier b) = (refl, ((refl, tt), tt))
import_declaration_specifier_is_formed (import_declaration_specifiers.ImportNamespaceSpecifier b) = (refl, ((refl, tt), tt))
import_declaration_specifier_is_formed (import_declaration_specifiers.ImportSpecifier b) = (refl, (module_export_name_is_formed b.value.imported, ((refl, tt), tt)))

import_attribute_key_is_formed : (n : ImportAttributeKey) → IsFormed (in_import_attribute_key n)
import_attribute_key_is_formed (import_attribute_keys.IdentifierName b) = (refl, tt)
import_attribute_key_is_formed (import_attribute_keys.StringLiteral b) = (string_is_formed b.value.value, tt)

module _ {A : Type 0} (f : A → Node) (h : (a : A) → IsFormed (node_plain (f a))) where
  expression_is_formed : (n : Expression A) → IsFormed (layer (map-Node Node Tree node_plain (map-Node A Node f (opened.Expression n))))
  expression_is_formed (expressions.IdentifierReference b) = (refl, tt)
  expression_is_formed (expressions.ThisExpression b) = (refl, tt)
  expression_is_formed (expressions.NullLiteral b) = (refl, tt)
  expression_is_formed (expressions.BooleanLiteral b) = (refl, tt)
  expression_is_formed (expressions.NumericLiteral b) = (number_is_formed b.value.span b.value.value b.value.fits, tt)
  expression_is_formed (expressions.BigIntLiteral b) = (refl, tt)
  expression_is_formed (expressions.StringLiteral b) = (string_is_formed b.value.value, tt)
  expression_is_formed (expressions.RegExpLiteral b) = (text_is_formed b.value.pattern, tt)
  expression_is_formed (expressions.BinaryExpression b) = (refl, (h b.value.left.node, (h b.value.right.node, tt)))
  expression_is_formed (expressions.LogicalExpression b) = (refl, (h b.value.left.node, (h b.value.right.node, tt)))
  expression_is_formed (expressions.ParenthesizedExpression b) = (refl, (h b.value.expression.node, tt))
  expression_is_formed (expressions.StaticMemberExpression b) = (refl, (h b.value.object.node, ((refl, tt), tt)))
  expression_is_formed (expressions.ComputedMemberExpression b) = (refl, (h b.value.object.node, (h b.value.expression.node, tt)))
  expression_is_formed (expressions.CallExpression b) = (no_hole_changed _ _ _ b.value.arguments.items, (h b.value.callee.node, (all_changed _ _ _ (with_argument _ (λ b. (refl, (h b.value.argument.node, tt))) (λ b. h b.value.node)) b.value.arguments.items, tt)))
  expression_is_formed (expressions.ChainExpression b) = (chain_expression_by_expression (λ n. IsFormed (layer (map-Node Node Tree node_plain (map-Node A Node f (opened.Expression (expressions.ChainExpression (record b { value = n }))))))) (λ n_expression. (λ n. (refl, ((refl, (h n_expression.value.object.node, ((refl, tt), tt))), tt)))) (λ n_expression. (λ n. (refl, ((refl, (h n_expression.value.object.node, (h n_expression.value.expression.node, tt))), tt)))) (λ n_expression. (λ n. (refl, ((refl, (h n_expression.value.object.node, ((refl, tt), tt))), tt)))) (λ n_expression. (λ n. (refl, ((no_hole_changed _ _ _ n_expression.value.arguments.items, (h n_expression.value.callee.node, (all_changed _ _ _ (with_argument _ (λ b. (refl, (h b.value.argument.node, tt))) (λ b. h b.value.node)) n_expression.value.arguments.items, tt))), tt))))) b.value
  expression_is_formed (expressions.ArrayExpression b) = (refl, (all_changed_or_holes _ _ _ (with_hole _ tt (with_array_expression_element _ (λ b. (refl, (h b.value.argument.node, tt))) (λ b. h b.value.node))) b.value.elements.items, tt))
  expression_is_formed (expressions.ObjectExpression b) = (no_hole_changed _ _ _ b.value.properties.items, (all_changed _ _ _ (with_object_property_kind _ (boxed_object_property_by_key _ (λ n_key. (λ n. (refl, ((refl, tt), (h n.value.value.node, tt))))) (λ n_key. (λ n. (refl, ((refl, tt), (h n.value.value.node, tt))))) (λ n_key. (λ n. (refl, (h n_key.value.node, (h n.value.value.node, tt)))))) (λ b. (refl, (h b.value.argument.node, tt)))) b.value.properties.items, tt))
  expression_is_formed (expressions.UnaryExpression b) = (refl, (h b.value.argument.node, tt))
  expression_is_formed (expressions.UpdateExpression b) = (update_expression_by_argument (λ n. IsFormed (layer (map-Node Node Tree node_plain (map-Node A Node f (opened.Expression (expressions.UpdateExpression (record b { value = n }))))))) (λ n_argument. (λ n. (refl, ((refl, tt), tt)))) (λ n_argument. (λ n. (refl, ((refl, (h n_argument.value.object.node, ((refl, tt), tt))), tt)))) (λ n_argument. (λ n. (refl, ((refl, (h n_argument.value.object.node, (h n_argument.value.expression.node, tt))), tt)))) (λ n_argument. (λ n. (refl, ((refl, (h n_argument.value.object.node, ((refl, tt), tt))), tt))))) b.value
  expression_is_formed (expressions.NewExpression b) = (no_hole_changed _ _ _ b.value.arguments.items, (h b.value.callee.node, (all_changed _ _ _ (with_argument _ (λ b. (refl, (h b.value.argument.node, tt))) (λ b. h b.value.node)) b.value.arguments.items, tt)))
  expression_is_formed (expressions.NewTarget b) = (refl, tt)
  expression_is_formed (expressions.Super b) = (refl, tt)
  expression_is_formed (expressions.ImportMeta b) = (refl, tt)
  expression_is_formed (expressions.ConditionalExpression b) = (refl, (h b.value.test.node, (h b.value.consequent.node, (h b.value.alternate.node, tt))))
  expression_is_formed (expressions.SequenceExpression b) = (no_hole_changed _ _ _ b.value.expressions.items, (all_changed _ _ _ (λ n. h n.node) b.value.expressions.items, tt))
  expression_is_formed (expressions.AssignmentExpression b) = (refl, (h b.value.left.node, (h b.value.right.node, tt)))
  expression_is_formed (expressions.Function b) = (function_by_params (λ n. IsFormed (layer (map-Node Node Tree node_plain (map-Node A Node f (opened.Expression (expressions.Function (record b { value = n }))))))) (boxed_formal_parameters_by_rest _ (λ n_params. (function_by_body _ (λ n. (refl, (if_given_formed _ (λ b. (refl, tt)) n.id, ((no_hole_changed _ _ _ n_params.value.items.items, (all_changed _ _ _ (formal_parameter_by_initializer _ (λ n. (refl, (h n.pattern.node, (tt, tt)))) (λ n_initializer. (λ n. (refl, (h n.pattern.node, (h n_initializer.node, tt)))))) n_params.value.items.items, (tt, tt))), (tt, tt))))) (λ n_body. (λ n. (refl, (if_given_formed _ (λ b. (refl, tt)) n.id, ((no_hole_changed _ _ _ n_params.value.items.items, (all_changed _ _ _ (formal_parameter_by_initializer _ (λ n. (refl, (h n.pattern.node, (tt, tt)))) (λ n_initializer. (λ n. (refl, (h n.pattern.node, (h n_initializer.node, tt)))))) n_params.value.items.items, (tt, tt))), ((and_from _ _ (no_hole_changed _ _ _ n_body.value.statements.items) (no_hole _ n_body.value.directives.items), (all_formed _ (λ d. (refl, tt)) n_body.value.directives.items, (all_changed _ _ _ (λ n. h n.node) n_body.value.statements.items, tt))), tt)))))))) (λ n_params_rest. (λ n_params. (function_by_body _ (λ n. (refl, (if_given_formed _ (λ b. (refl, tt)) n.id, ((no_hole_changed _ _ _ n_params.value.items.items, (all_changed _ _ _ (formal_parameter_by_initializer _ (λ n. (refl, (h n.pattern.node, (tt, tt)))) (λ n_initializer. (λ n. (refl, (h n.pattern.node, (h n_initializer.node, tt)))))) n_params.value.items.items, ((refl, (h n_params_rest.value.argument.node, tt)), tt))), (tt, tt))))) (λ n_body. (λ n. (refl, (if_given_formed _ (λ b. (refl, tt)) n.id, ((no_hole_changed _ _ _ n_params.value.items.items, (all_changed _ _ _ (formal_parameter_by_initializer _ (λ n. (refl, (h n.pattern.node, (tt, tt)))) (λ n_initializer. (λ n. (refl, (h n.pattern.node, (h n_initializer.node, tt)))))) n_params.value.items.items, ((refl, (h n_params_rest.value.argument.node, tt)), tt))), ((and_from _ _ (no_hole_changed _ _ _ n_body.value.statements.items) (no_hole _ n_body.value.directives.items), (all_formed _ (λ d. (refl, tt)) n_body.value.directives.items, (all_changed _ _ _ (λ n. h n.node) n_body.value.statements.items, tt))), tt))))))))))) b.value
  expression_is_formed (expressions.ArrowFunctionExpression b) = (arrow_function_expression_by_params (λ n. IsFormed (layer (map-Node Node Tree node_plain (map-Node A Node f (opened.Expression (expressions.ArrowFunctionExpression (record b { value = n }))))))) (boxed_formal_parameters_by_rest _ (λ n_params. (arrow_function_expression_by_body _ (λ n_body. (λ n. (refl, ((no_hole_changed _ _ _ n_params.value.items.items, (all_changed _ _ _ (formal_parameter_by_initializer _ (λ n. (refl, (h n.pattern.node, (tt, tt)))) (λ n_initializer. (λ n. (refl, (h n.pattern.node, (h n_initializer.node, tt)))))) n_params.value.items.items, (tt, tt))), ((and_from _ _ (no_hole_changed _ _ _ n_body.value.statements.items) (no_hole _ n_body.value.directives.items), (all_formed _ (λ d. (refl, tt)) n_body.value.directives.items, (all_changed _ _ _ (λ n. h n.node) n_body.value.statements.items, tt))), tt))))) (λ n_body. (λ n. (refl, ((no_hole_changed _ _ _ n_params.value.items.items, (all_changed _ _ _ (formal_parameter_by_initializer _ (λ n. (refl, (h n.pattern.node, (tt, tt)))) (λ n_initializer. (λ n. (refl, (h n.pattern.node, (h n_initializer.node, tt)))))) n_params.value.items.items, (tt, tt))), (h n_body.value.node, tt))))))) (λ n_params_rest. (λ n_params. (arrow_function_expression_by_body _ (λ n_body. (λ n. (refl, ((no_hole_changed _ _ _ n_params.value.items.items, (all_changed _ _ _ (formal_parameter_by_initializer _ (λ n. (refl, (h n.pattern.node, (tt, tt)))) (λ n_initializer. (λ n. (refl, (h n.pattern.node, (h n_initializer.node, tt)))))) n_params.value.items.items, ((refl, (h n_params_rest.value.argument.node, tt)), tt))), ((and_from _ _ (no_hole_changed _ _ _ n_body.value.statements.items) (no_hole _ n_body.value.directives.items), (all_formed _ (λ d. (refl, tt)) n_body.value.directives.items, (all_changed _ _ _ (λ n. h n.node) n_body.value.statements.items, tt))), tt))))) (λ n_body. (λ n. (refl, ((no_hole_changed _ _ _ n_params.value.items.items, (all_changed _ _ _ (formal_parameter_by_initializer _ (λ n. (refl, (h n.pattern.node, (tt, tt)))) (λ n_initializer. (λ n. (refl, (h n.pattern.node, (h n_initializer.node, tt)))))) n_params.value.items.items, ((refl, (h n_params_rest.value.argument.node, tt)), tt))), (h n_body.value.node, tt)))))))))) b.value
  expression_is_formed (expressions.Class b) = (class_by_heritage (λ n. IsFormed (layer (map-Node Node Tree node_plain (map-Node A Node f (opened.Expression (expressions.Class (record b { value = n }))))))) (λ n. (refl, (if_given_formed _ (λ b. (refl, tt)) n.id, (tt, ((no_hole_changed _ _ _ n.body.value.body.items, (all_changed _ _ _ (λ n. h n.node) n.body.value.body.items, tt)), tt))))) (λ n_heritage. (λ n. (refl, (if_given_formed _ (λ b. (refl, tt)) n.id, (h n_heritage.node, ((no_hole_changed _ _ _ n.body.value.body.items, (all_changed _ _ _ (λ n. h n.node) n.body.value.body.items, tt)), tt))))))) b.value
  expression_is_formed (expressions.PrivateFieldExpression b) = (refl, (h b.value.object.node, ((refl, tt), tt)))
  expression_is_formed (expressions.PrivateInExpression b) = (refl, ((refl, tt), (h b.value.right.node, tt)))
  expression_is_formed (expressions.AwaitExpression b) = (refl, (h b.value.argument.node, tt))
  expression_is_formed (expressions.YieldExpression b) = (yield_expression_by_argument (λ n. IsFormed (layer (map-Node Node Tree node_plain (map-Node A Node f (opened.Expression (expressions.YieldExpression (record b { value = n }))))))) (λ n. (refl, (tt, tt))) (λ n_argument. (λ n. (refl, (h n_argument.node, tt))))) b.value
  expression_is_formed (expressions.TemplateLiteral b) = (and_from _ _ (no_hole_changed _ _ _ b.value.expressions.items) (no_hole _ b.value.quasis.items), (all_formed _ (λ d. (text_is_formed d.raw, tt)) b.value.quasis.items, (all_changed _ _ _ (λ n. h n.node) b.value.expressions.items, tt)))
  expression_is_formed (expressions.TaggedTemplateExpression b) = (refl, (h b.value.tag.node, ((and_from _ _ (no_hole_changed _ _ _ b.value.quasi.value.expressions.items) (no_hole _ b.value.quasi.value.quasis.items), (all_formed _ (λ d. (text_is_formed d.raw, tt)) b.value.quasi.value.quasis.items, (all_changed _ _ _ (λ n. h n.node) b.value.quasi.value.expressions.items, tt))), tt)))
  expression_is_formed (expressions.ImportExpression b) = (import_expression_by_options (λ n. IsFormed (layer (map-Node Node Tree node_plain (map-Node A Node f (opened.Expression (expressions.ImportExpression (record b { value = n }))))))) (λ n. (refl, (h n.source.node, (tt, tt)))) (λ n_options. (λ n. (refl, (h n.source.node, (h n_options.node, tt)))))) b.value

  assignment_target_is_formed : (n : AssignmentTarget A) → IsFormed (layer (map-Node Node Tree node_plain (map-Node A Node f (opened.AssignmentTarget n))))
  assignment_target_is_formed (assignment_targets.IdentifierReference b) = (refl, tt)
  assignment_target_is_formed (assignment_targets.StaticMemberExpression b) = (refl, (h b.value.object.node, ((refl, tt), tt)))
  assignment_target_is_formed (assignment_targets.ComputedMemberExpression b) = (refl, (h b.value.object.node, (h b.value.expression.node, tt)))
  assignment_target_is_formed (assignment_targets.PrivateFieldExpression b) = (refl, (h b.value.object.node, ((refl, tt), tt)))
  assignment_target_is_formed (assignment_targets.ArrayAssignmentTarget b) = (array_assignment_target_by_rest (λ n. IsFormed (layer (map-Node Node Tree node_plain (map-Node A Node f (opened.AssignmentTarget (assignment_targets.ArrayAssignmentTarget (record b { value = n }))))))) (λ n. (refl, (all_changed_or_holes _ _ _ (with_hole _ tt (with_assignment_target_maybe_default _ (λ b. h b.value.node) (λ b. (refl, (h b.value.binding.node, (h b.value.init.node, tt)))))) n.elements.items, (tt, tt)))) (λ n_rest. (λ n. (refl, (all_changed_or_holes _ _ _ (with_hole _ tt (with_assignment_target_maybe_default _ (λ b. h b.value.node) (λ b. (refl, (h b.value.binding.node, (h b.value.init.node, tt)))))) n.elements.items, ((refl, (h n_rest.value.target.node, tt)), tt)))))) b.value
  assignment_target_is_formed (assignment_targets.ObjectAssignmentTarget b) = (object_assignment_target_by_rest (λ n. IsFormed (layer (map-Node Node Tree node_plain (map-Node A Node f (opened.AssignmentTarget (assignment_targets.ObjectAssignmentTarget (record b { value = n }))))))) (λ n. (no_hole_changed _ _ _ n.properties.items, (all_changed _ _ _ (with_assignment_target_property _ (boxed_assignment_target_property_identifier_by_init _ (λ n. (refl, ((refl, tt), (tt, tt)))) (λ n_init. (λ n. (refl, ((refl, tt), (h n_init.node, tt)))))) (boxed_assignment_target_property_property_by_name _ (λ n_name. (boxed_assignment_target_property_property_by_binding _ (λ n_binding. (λ n. (refl, ((refl, tt), (h n_binding.value.node, tt))))) (λ n_binding. (λ n. (refl, ((refl, tt), ((refl, (h n_binding.value.binding.node, (h n_binding.value.init.node, tt))), tt))))))) (λ n_name. (boxed_assignment_target_property_property_by_binding _ (λ n_binding. (λ n. (refl, ((refl, tt), (h n_binding.value.node, tt))))) (λ n_binding. (λ n. (refl, ((refl, tt), ((refl, (h n_binding.value.binding.node, (h n_binding.value.init.node, tt))), tt))))))) (λ n_name. (boxed_assignment_target_property_property_by_binding _ (λ n_binding. (λ n. (refl, (h n_name.value.node, (h n_binding.value.node, tt))))) (λ n_binding. (λ n. (refl, (h n_name.value.node, ((refl, (h n_binding.value.binding.node, (h n_binding.value.init.node, tt))), tt))))))))) n.properties.items, (tt, tt)))) (λ n_rest. (λ n. (no_hole_changed _ _ _ n.properties.items, (all_changed _ _ _ (with_assignment_target_property _ (boxed_assignment_target_property_identifier_by_init _ (λ n. (refl, ((refl, tt), (tt, tt)))) (λ n_init. (λ n. (refl, ((refl, tt), (h n_init.node, tt)))))) (boxed_assignment_target_property_property_by_name _ (λ n_name. (boxed_assignment_target_property_property_by_binding _ (λ n_binding. (λ n. (refl, ((refl, tt), (h n_binding.value.node, tt))))) (λ n_binding. (λ n. (refl, ((refl, tt), ((refl, (h n_binding.value.binding.node, (h n_binding.value.init.node, tt))), tt))))))) (λ n_name. (boxed_assignment_target_property_property_by_binding _ (λ n_binding. (λ n. (refl, ((refl, tt), (h n_binding.value.node, tt))))) (λ n_binding. (λ n. (refl, ((refl, tt), ((refl, (h n_binding.value.binding.node, (h n_binding.value.init.node, tt))), tt))))))) (λ n_name. (boxed_assignment_target_property_property_by_binding _ (λ n_binding. (λ n. (refl, (h n_name.value.node, (h n_binding.value.node, tt))))) (λ n_binding. (λ n. (refl, (h n_name.value.node, ((refl, (h n_binding.value.binding.node, (h n_binding.value.init.node, tt))), tt))))))))) n.properties.items, ((refl, (h n_rest.value.target.node, tt)), tt)))))) b.value

  declaration_is_formed : (n : Declaration A) → IsFormed (layer (map-Node Node Tree node_plain (map-Node A Node f (opened.Declaration n))))
  declaration_is_formed (declarations.VariableDeclaration b) = (no_hole_changed _ _ _ b.value.declarations.items, (all_changed _ _ _ (variable_declarator_by_init _ (λ n. (refl, (h n.id.node, (tt, tt)))) (λ n_init. (λ n. (refl, (h n.id.node, (h n_init.node, tt)))))) b.value.declarations.items, tt))
  declaration_is_formed (declarations.Function b) = (function_by_params (λ n. IsFormed (layer (map-Node Node Tree node_plain (map-Node A Node f (opened.Declaration (declarations.Function (record b { value = n }))))))) (boxed_formal_parameters_by_rest _ (λ n_params. (function_by_body _ (λ n. (refl, (if_given_formed _ (λ b. (refl, tt)) n.id, ((no_hole_changed _ _ _ n_params.value.items.items, (all_changed _ _ _ (formal_parameter_by_initializer _ (λ n. (refl, (h n.pattern.node, (tt, tt)))) (λ n_initializer. (λ n. (refl, (h n.pattern.node, (h n_initializer.node, tt)))))) n_params.value.items.items, (tt, tt))), (tt, tt))))) (λ n_body. (λ n. (refl, (if_given_formed _ (λ b. (refl, tt)) n.id, ((no_hole_changed _ _ _ n_params.value.items.items, (all_changed _ _ _ (formal_parameter_by_initializer _ (λ n. (refl, (h n.pattern.node, (tt, tt)))) (λ n_initializer. (λ n. (refl, (h n.pattern.node, (h n_initializer.node, tt)))))) n_params.value.items.items, (tt, tt))), ((and_from _ _ (no_hole_changed _ _ _ n_body.value.statements.items) (no_hole _ n_body.value.directives.items), (all_formed _ (λ d. (refl, tt)) n_body.value.directives.items, (all_changed _ _ _ (λ n. h n.node) n_body.value.statements.items, tt))), tt)))))))) (λ n_params_rest. (λ n_params. (function_by_body _ (λ n. (refl, (if_given_formed _ (λ b. (refl, tt)) n.id, ((no_hole_changed _ _ _ n_params.value.items.items, (all_changed _ _ _ (formal_parameter_by_initializer _ (λ n. (refl, (h n.pattern.node, (tt, tt)))) (λ n_initializer. (λ n. (refl, (h n.pattern.node, (h n_initializer.node, tt)))))) n_params.value.items.items, ((refl, (h n_params_rest.value.argument.node, tt)), tt))), (tt, tt))))) (λ n_body. (λ n. (refl, (if_given_formed _ (λ b. (refl, tt)) n.id, ((no_hole_changed _ _ _ n_params.value.items.items, (all_changed _ _ _ (formal_parameter_by_initializer _ (λ n. (refl, (h n.pattern.node, (tt, tt)))) (λ n_initializer. (λ n. (refl, (h n.pattern.node, (h n_initializer.node, tt)))))) n_params.value.items.items, ((refl, (h n_params_rest.value.argument.node, tt)), tt))), ((and_from _ _ (no_hole_changed _ _ _ n_body.value.statements.items) (no_hole _ n_body.value.directives.items), (all_formed _ (λ d. (refl, tt)) n_body.value.directives.items, (all_changed _ _ _ (λ n. h n.node) n_body.value.statements.items, tt))), tt))))))))))) b.value
  declaration_is_formed (declarations.Class b) = (class_by_heritage (λ n. IsFormed (layer (map-Node Node Tree node_plain (map-Node A Node f (opened.Declaration (declarations.Class (record b { value = n }))))))) (λ n. (refl, (if_given_formed _ (λ b. (refl, tt)) n.id, (tt, ((no_hole_changed _ _ _ n.body.value.body.items, (all_changed _ _ _ (λ n. h n.node) n.body.value.body.items, tt)), tt))))) (λ n_heritage. (λ n. (refl, (if_given_formed _ (λ b. (refl, tt)) n.id, (h n_heritage.node, ((no_hole_changed _ _ _ n.body.value.body.items, (all_changed _ _ _ (λ n. h n.node) n.body.value.body.items, tt)), tt))))))) b.value

  statement_is_formed : (n : Statement A) → IsFormed (layer (map-Node Node Tree node_plain (map-Node A Node f (opened.Statement n))))
  statement_is_formed (statements.Declaration b) = h b.value.node
  statement_is_formed (statements.ExpressionStatement b) = (refl, (h b.value.expression.node, tt))
  statement_is_formed (statements.BlockStatement b) = (no_hole_changed _ _ _ b.value.body.items, (all_changed _ _ _ (λ n. h n.node) b.value.body.items, tt))
  statement_is_formed (statements.IfStatement b) = (if_statement_by_alternate (λ n. IsFormed (layer (map-Node Node Tree node_plain (map-Node A Node f (opened.Statement (statements.IfStatement (record b { value = n }))))))) (λ n. (refl, (h n.test.node, (h n.consequent.node, (tt, tt))))) (λ n_alternate. (λ n. (refl, (h n.test.node, (h n.consequent.node, (h n_alternate.node, tt))))))) b.value
  statement_is_formed (statements.EmptyStatement b) = (refl, tt)
  statement_is_formed (statements.ForStatement b) = (for_statement_by_init (λ n. IsFormed (layer (map-Node Node Tree node_plain (map-Node A Node f (opened.Statement (statements.ForStatement (record b { value = n }))))))) (for_statement_by_test _ (for_statement_by_update _ (λ n. (refl, (tt, (tt, (tt, (h n.body.node, tt)))))) (λ n_update. (λ n. (refl, (tt, (tt, (h n_update.node, (h n.body.node, tt)))))))) (λ n_test. (for_statement_by_update _ (λ n. (refl, (tt, (h n_test.node, (tt, (h n.body.node, tt)))))) (λ n_update. (λ n. (refl, (tt, (h n_test.node, (h n_update.node, (h n.body.node, tt)))))))))) (λ n_init. (for_statement_by_test _ (for_statement_by_update _ (λ n. (refl, ((no_hole_changed _ _ _ n_init.value.declarations.items, (all_changed _ _ _ (variable_declarator_by_init _ (λ n. (refl, (h n.id.node, (tt, tt)))) (λ n_init. (λ n. (refl, (h n.id.node, (h n_init.node, tt)))))) n_init.value.declarations.items, tt)), (tt, (tt, (h n.body.node, tt)))))) (λ n_update. (λ n. (refl, ((no_hole_changed _ _ _ n_init.value.declarations.items, (all_changed _ _ _ (variable_declarator_by_init _ (λ n. (refl, (h n.id.node, (tt, tt)))) (λ n_init. (λ n. (refl, (h n.id.node, (h n_init.node, tt)))))) n_init.value.declarations.items, tt)), (tt, (h n_update.node, (h n.body.node, tt)))))))) (λ n_test. (for_statement_by_update _ (λ n. (refl, ((no_hole_changed _ _ _ n_init.value.declarations.items, (all_changed _ _ _ (variable_declarator_by_init _ (λ n. (refl, (h n.id.node, (tt, tt)))) (λ n_init. (λ n. (refl, (h n.id.node, (h n_init.node, tt)))))) n_init.value.declarations.items, tt)), (h n_test.node, (tt, (h n.body.node, tt)))))) (λ n_update. (λ n. (refl, ((no_hole_changed _ _ _ n_init.value.declarations.items, (all_changed _ _ _ (variable_declarator_by_init _ (λ n. (refl, (h n.id.node, (tt, tt)))) (λ n_init. (λ n. (refl, (h n.id.node, (h n_init.node, tt)))))) n_init.value.declarations.items, tt)), (h n_test.node, (h n_update.node, (h n.body.node, tt))))))))))) (λ n_init. (for_statement_by_test _ (for_statement_by_update _ (λ n. (refl, (h n_init.value.node, (tt, (tt, (h n.body.node, tt)))))) (λ n_update. (λ n. (refl, (h n_init.value.node, (tt, (h n_update.node, (h n.body.node, tt)))))))) (λ n_test. (for_statement_by_update _ (λ n. (refl, (h n_init.value.node, (h n_test.node, (tt, (h n.body.node, tt)))))) (λ n_update. (λ n. (refl, (h n_init.value.node, (h n_test.node, (h n_update.node, (h n.body.node, tt)))))))))))) b.value
  statement_is_formed (statements.ForInStatement b) = (for_in_statement_by_left (λ n. IsFormed (layer (map-Node Node Tree node_plain (map-Node A Node f (opened.Statement (statements.ForInStatement (record b { value = n }))))))) (λ n_left. (λ n. (refl, ((no_hole_changed _ _ _ n_left.value.declarations.items, (all_changed _ _ _ (variable_declarator_by_init _ (λ n. (refl, (h n.id.node, (tt, tt)))) (λ n_init. (λ n. (refl, (h n.id.node, (h n_init.node, tt)))))) n_left.value.declarations.items, tt)), (h n.right.node, (h n.body.node, tt)))))) (λ n_left. (λ n. (refl, (h n_left.value.node, (h n.right.node, (h n.body.node, tt))))))) b.value
  statement_is_formed (statements.ForOfStatement b) = (for_of_statement_by_left (λ n. IsFormed (layer (map-Node Node Tree node_plain (map-Node A Node f (opened.Statement (statements.ForOfStatement (record b { value = n }))))))) (λ n_left. (λ n. (refl, ((no_hole_changed _ _ _ n_left.value.declarations.items, (all_changed _ _ _ (variable_declarator_by_init _ (λ n. (refl, (h n.id.node, (tt, tt)))) (λ n_init. (λ n. (refl, (h n.id.node, (h n_init.node, tt)))))) n_left.value.declarations.items, tt)), (h n.right.node, (h n.body.node, tt)))))) (λ n_left. (λ n. (refl, (h n_left.value.node, (h n.right.node, (h n.body.node, tt))))))) b.value
  statement_is_formed (statements.WhileStatement b) = (refl, (h b.value.test.node, (h b.value.body.node, tt)))
  statement_is_formed (statements.DoWhileStatement b) = (refl, (h b.value.body.node, (h b.value.test.node, tt)))
  statement_is_formed (statements.LabeledStatement b) = (refl, ((refl, tt), (h b.value.body.node, tt)))
  statement_is_formed (statements.ContinueStatement b) = (refl, (if_given_formed _ (λ b. (refl, tt)) b.value.label, tt))
  statement_is_formed (statements.BreakStatement b) = (refl, (if_given_formed _ (λ b. (refl, tt)) b.value.label, tt))
  statement_is_formed (statements.ReturnStatement b) = (return_statement_by_argument (λ n. IsFormed (layer (map-Node Node Tree node_plain (map-Node A Node f (opened.Statement (statements.ReturnStatement (record b { value = n }))))))) (λ n. (refl, (tt, tt))) (λ n_argument. (λ n. (refl, (h n_argument.node, tt))))) b.value
  statement_is_formed (statements.ThrowStatement b) = (refl, (h b.value.argument.node, tt))
  statement_is_formed (statements.DebuggerStatement b) = (refl, tt)
  statement_is_formed (statements.SwitchStatement b) = (no_hole_changed _ _ _ b.value.cases.items, (h b.value.discriminant.node, (all_changed _ _ _ (switch_case_by_test _ (λ n. (no_hole_changed _ _ _ n.consequent.items, (tt, (all_changed _ _ _ (λ n. h n.node) n.consequent.items, tt)))) (λ n_test. (λ n. (no_hole_changed _ _ _ n.consequent.items, (h n_test.node, (all_changed _ _ _ (λ n. h n.node) n.consequent.items, tt)))))) b.value.cases.items, tt)))
  statement_is_formed (statements.TryStatement b) = (try_statement_by_handler (λ n. IsFormed (layer (map-Node Node Tree node_plain (map-Node A Node f (opened.Statement (statements.TryStatement (record b { value = n }))))))) (try_statement_by_finalizer _ (λ n. (refl, ((no_hole_changed _ _ _ n.block.value.body.items, (all_changed _ _ _ (λ n. h n.node) n.block.value.body.items, tt)), (tt, (tt, tt))))) (λ n_finalizer. (λ n. (refl, ((no_hole_changed _ _ _ n.block.value.body.items, (all_changed _ _ _ (λ n. h n.node) n.block.value.body.items, tt)), (tt, ((no_hole_changed _ _ _ n_finalizer.value.body.items, (all_changed _ _ _ (λ n. h n.node) n_finalizer.value.body.items, tt)), tt))))))) (boxed_catch_clause_by_param _ (λ n_handler. (try_statement_by_finalizer _ (λ n. (refl, ((no_hole_changed _ _ _ n.block.value.body.items, (all_changed _ _ _ (λ n. h n.node) n.block.value.body.items, tt)), ((refl, (tt, ((no_hole_changed _ _ _ n_handler.value.body.value.body.items, (all_changed _ _ _ (λ n. h n.node) n_handler.value.body.value.body.items, tt)), tt))), (tt, tt))))) (λ n_finalizer. (λ n. (refl, ((no_hole_changed _ _ _ n.block.value.body.items, (all_changed _ _ _ (λ n. h n.node) n.block.value.body.items, tt)), ((refl, (tt, ((no_hole_changed _ _ _ n_handler.value.body.value.body.items, (all_changed _ _ _ (λ n. h n.node) n_handler.value.body.value.body.items, tt)), tt))), ((no_hole_changed _ _ _ n_finalizer.value.body.items, (all_changed _ _ _ (λ n. h n.node) n_finalizer.value.body.items, tt)), tt)))))))) (λ n_handler_param. (λ n_handler. (try_statement_by_finalizer _ (λ n. (refl, ((no_hole_changed _ _ _ n.block.value.body.items, (all_changed _ _ _ (λ n. h n.node) n.block.value.body.items, tt)), ((refl, (h n_handler_param.node, ((no_hole_changed _ _ _ n_handler.value.body.value.body.items, (all_changed _ _ _ (λ n. h n.node) n_handler.value.body.value.body.items, tt)), tt))), (tt, tt))))) (λ n_finalizer. (λ n. (refl, ((no_hole_changed _ _ _ n.block.value.body.items, (all_changed _ _ _ (λ n. h n.node) n.block.value.body.items, tt)), ((refl, (h n_handler_param.node, ((no_hole_changed _ _ _ n_handler.value.body.value.body.items, (all_changed _ _ _ (λ n. h n.node) n_handler.value.body.value.body.items, tt)), tt))), ((no_hole_changed _ _ _ n_finalizer.value.body.items, (all_changed _ _ _ (λ n. h n.node) n_finalizer.value.body.items, tt)), tt))))))))))) b.value
  statement_is_formed (statements.ImportDeclaration b) = (no_hole_if_listed _ b.value.specifiers, (all_formed_if_listed _ (λ d. import_declaration_specifier_is_formed d) b.value.specifiers, ((string_is_formed b.value.source.value.value, tt), (if_given_formed _ (λ b. (no_hole _ b.value.entries.items, (all_formed _ (λ d. (refl, (import_attribute_key_is_formed d.key, ((string_is_formed d.value.value.value, tt), tt)))) b.value.entries.items, tt))) b.value.with_clause, tt))))
  statement_is_formed (statements.ExportDeclaration b) = (refl, (h b.value.declaration.node, tt))
  statement_is_formed (statements.ExportNamedDeclaration b) = (no_hole _ b.value.specifiers.items, (all_formed _ (λ d. (refl, (module_export_name_is_formed d.local, (module_export_name_is_formed d.exported, tt)))) b.value.specifiers.items, tt))
  statement_is_formed (statements.ExportFromDeclaration b) = (no_hole _ b.value.specifiers.items, (all_formed _ (λ d. (refl, (module_export_name_is_formed d.local, (module_export_name_is_formed d.exported, tt)))) b.value.specifiers.items, ((string_is_formed b.value.source.value.value, tt), (if_given_formed _ (λ b. (no_hole _ b.value.entries.items, (all_formed _ (λ d. (refl, (import_attribute_key_is_formed d.key, ((string_is_formed d.value.value.value, tt), tt)))) b.value.entries.items, tt))) b.value.with_clause, tt))))
  statement_is_formed (statements.ExportAllDeclaration b) = (refl, (if_given_formed _ (λ b. module_export_name_is_formed b) b.value.exported, ((string_is_formed b.value.source.value.value, tt), (if_given_formed _ (λ b. (no_hole _ b.value.entries.items, (all_formed _ (λ d. (refl, (import_attribute_key_is_formed d.key, ((string_is_formed d.value.value.value, tt), tt)))) b.value.entries.items, tt))) b.value.with_clause, tt))))
  statement_is_formed (statements.ExportDefaultDeclaration b) = (export_default_declaration_by_declaration (λ n. IsFormed (layer (map-Node Node Tree node_plain (map-Node A Node f (opened.Statement (statements.ExportDefaultDeclaration (record b { value = n }))))))) (boxed_function_by_params _ (boxed_formal_parameters_by_rest _ (λ n_declaration_params. (boxed_function_by_body _ (λ n_declaration. (λ n. (refl, ((refl, (if_given_formed _ (λ b. (refl, tt)) n_declaration.value.id, ((no_hole_changed _ _ _ n_declaration_params.value.items.items, (all_changed _ _ _ (formal_parameter_by_initializer _ (λ n. (refl, (h n.pattern.node, (tt, tt)))) (λ n_initializer. (λ n. (refl, (h n.pattern.node, (h n_initializer.node, tt)))))) n_declaration_params.value.items.items, (tt, tt))), (tt, tt)))), tt)))) (λ n_declaration_body. (λ n_declaration. (λ n. (refl, ((refl, (if_given_formed _ (λ b. (refl, tt)) n_declaration.value.id, ((no_hole_changed _ _ _ n_declaration_params.value.items.items, (all_changed _ _ _ (formal_parameter_by_initializer _ (λ n. (refl, (h n.pattern.node, (tt, tt)))) (λ n_initializer. (λ n. (refl, (h n.pattern.node, (h n_initializer.node, tt)))))) n_declaration_params.value.items.items, (tt, tt))), ((and_from _ _ (no_hole_changed _ _ _ n_declaration_body.value.statements.items) (no_hole _ n_declaration_body.value.directives.items), (all_formed _ (λ d. (refl, tt)) n_declaration_body.value.directives.items, (all_changed _ _ _ (λ n. h n.node) n_declaration_body.value.statements.items, tt))), tt)))), tt))))))) (λ n_declaration_params_rest. (λ n_declaration_params. (boxed_function_by_body _ (λ n_declaration. (λ n. (refl, ((refl, (if_given_formed _ (λ b. (refl, tt)) n_declaration.value.id, ((no_hole_changed _ _ _ n_declaration_params.value.items.items, (all_changed _ _ _ (formal_parameter_by_initializer _ (λ n. (refl, (h n.pattern.node, (tt, tt)))) (λ n_initializer. (λ n. (refl, (h n.pattern.node, (h n_initializer.node, tt)))))) n_declaration_params.value.items.items, ((refl, (h n_declaration_params_rest.value.argument.node, tt)), tt))), (tt, tt)))), tt)))) (λ n_declaration_body. (λ n_declaration. (λ n. (refl, ((refl, (if_given_formed _ (λ b. (refl, tt)) n_declaration.value.id, ((no_hole_changed _ _ _ n_declaration_params.value.items.items, (all_changed _ _ _ (formal_parameter_by_initializer _ (λ n. (refl, (h n.pattern.node, (tt, tt)))) (λ n_initializer. (λ n. (refl, (h n.pattern.node, (h n_initializer.node, tt)))))) n_declaration_params.value.items.items, ((refl, (h n_declaration_params_rest.value.argument.node, tt)), tt))), ((and_from _ _ (no_hole_changed _ _ _ n_declaration_body.value.statements.items) (no_hole _ n_declaration_body.value.directives.items), (all_formed _ (λ d. (refl, tt)) n_declaration_body.value.directives.items, (all_changed _ _ _ (λ n. h n.node) n_declaration_body.value.statements.items, tt))), tt)))), tt)))))))))) (boxed_class_by_heritage _ (λ n_declaration. (λ n. (refl, ((refl, (if_given_formed _ (λ b. (refl, tt)) n_declaration.value.id, (tt, ((no_hole_changed _ _ _ n_declaration.value.body.value.body.items, (all_changed _ _ _ (λ n. h n.node) n_declaration.value.body.value.body.items, tt)), tt)))), tt)))) (λ n_declaration_heritage. (λ n_declaration. (λ n. (refl, ((refl, (if_given_formed _ (λ b. (refl, tt)) n_declaration.value.id, (h n_declaration_heritage.node, ((no_hole_changed _ _ _ n_declaration.value.body.value.body.items, (all_changed _ _ _ (λ n. h n.node) n_declaration.value.body.value.body.items, tt)), tt)))), tt)))))) (λ n_declaration. (λ n. (refl, (h n_declaration.value.node, tt))))) b.value

  binding_pattern_is_formed : (n : BindingPattern A) → IsFormed (layer (map-Node Node Tree node_plain (map-Node A Node f (opened.BindingPattern n))))
  binding_pattern_is_formed (binding_patterns.BindingIdentifier b) = (refl, tt)
  binding_pattern_is_formed (binding_patterns.ObjectPattern b) = (object_pattern_by_rest (λ n. IsFormed (layer (map-Node Node Tree node_plain (map-Node A Node f (opened.BindingPattern (binding_patterns.ObjectPattern (record b { value = n }))))))) (λ n. (no_hole_changed _ _ _ n.properties.items, (all_changed _ _ _ (binding_property_by_key _ (λ n_key. (λ n. (refl, ((refl, tt), (h n.value.node, tt))))) (λ n_key. (λ n. (refl, ((refl, tt), (h n.value.node, tt))))) (λ n_key. (λ n. (refl, (h n_key.value.node, (h n.value.node, tt)))))) n.properties.items, (tt, tt)))) (λ n_rest. (λ n. (no_hole_changed _ _ _ n.properties.items, (all_changed _ _ _ (binding_property_by_key _ (λ n_key. (λ n. (refl, ((refl, tt), (h n.value.node, tt))))) (λ n_key. (λ n. (refl, ((refl, tt), (h n.value.node, tt))))) (λ n_key. (λ n. (refl, (h n_key.value.node, (h n.value.node, tt)))))) n.properties.items, ((refl, (h n_rest.value.argument.node, tt)), tt)))))) b.value
  binding_pattern_is_formed (binding_patterns.ArrayPattern b) = (array_pattern_by_rest (λ n. IsFormed (layer (map-Node Node Tree node_plain (map-Node A Node f (opened.BindingPattern (binding_patterns.ArrayPattern (record b { value = n }))))))) (λ n. (refl, (all_changed_or_holes _ _ _ (with_hole _ tt (λ n. h n.node)) n.elements.items, (tt, tt)))) (λ n_rest. (λ n. (refl, (all_changed_or_holes _ _ _ (with_hole _ tt (λ n. h n.node)) n.elements.items, ((refl, (h n_rest.value.argument.node, tt)), tt)))))) b.value
  binding_pattern_is_formed (binding_patterns.AssignmentPattern b) = (refl, (h b.value.left.node, (h b.value.right.node, tt)))

  class_element_is_formed : (n : ClassElement A) → IsFormed (layer (map-Node Node Tree node_plain (map-Node A Node f (opened.ClassElement n))))
  class_element_is_formed (class_elements.StaticBlock b) = (no_hole_changed _ _ _ b.value.body.items, (all_changed _ _ _ (λ n. h n.node) b.value.body.items, tt))
  class_element_is_formed (class_elements.MethodDefinition b) = (method_definition_by_key (λ n. IsFormed (layer (map-Node Node Tree node_plain (map-Node A Node f (opened.ClassElement (class_elements.MethodDefinition (record b { value = n }))))))) (λ n_key. (method_definition_by_value _ (boxed_function_by_params _ (boxed_formal_parameters_by_rest _ (λ n_value_params. (boxed_function_by_body _ (λ n_value. (λ n. (refl, ((refl, tt), ((refl, (if_given_formed _ (λ b. (refl, tt)) n_value.value.id, ((no_hole_changed _ _ _ n_value_params.value.items.items, (all_changed _ _ _ (formal_parameter_by_initializer _ (λ n. (refl, (h n.pattern.node, (tt, tt)))) (λ n_initializer. (λ n. (refl, (h n.pattern.node, (h n_initializer.node, tt)))))) n_value_params.value.items.items, (tt, tt))), (tt, tt)))), tt))))) (λ n_value_body. (λ n_value. (λ n. (refl, ((refl, tt), ((refl, (if_given_formed _ (λ b. (refl, tt)) n_value.value.id, ((no_hole_changed _ _ _ n_value_params.value.items.items, (all_changed _ _ _ (formal_parameter_by_initializer _ (λ n. (refl, (h n.pattern.node, (tt, tt)))) (λ n_initializer. (λ n. (refl, (h n.pattern.node, (h n_initializer.node, tt)))))) n_value_params.value.items.items, (tt, tt))), ((and_from _ _ (no_hole_changed _ _ _ n_value_body.value.statements.items) (no_hole _ n_value_body.value.directives.items), (all_formed _ (λ d. (refl, tt)) n_value_body.value.directives.items, (all_changed _ _ _ (λ n. h n.node) n_value_body.value.statements.items, tt))), tt)))), tt)))))))) (λ n_value_params_rest. (λ n_value_params. (boxed_function_by_body _ (λ n_value. (λ n. (refl, ((refl, tt), ((refl, (if_given_formed _ (λ b. (refl, tt)) n_value.value.id, ((no_hole_changed _ _ _ n_value_params.value.items.items, (all_changed _ _ _ (formal_parameter_by_initializer _ (λ n. (refl, (h n.pattern.node, (tt, tt)))) (λ n_initializer. (λ n. (refl, (h n.pattern.node, (h n_initializer.node, tt)))))) n_value_params.value.items.items, ((refl, (h n_value_params_rest.value.argument.node, tt)), tt))), (tt, tt)))), tt))))) (λ n_value_body. (λ n_value. (λ n. (refl, ((refl, tt), ((refl, (if_given_formed _ (λ b. (refl, tt)) n_value.value.id, ((no_hole_changed _ _ _ n_value_params.value.items.items, (all_changed _ _ _ (formal_parameter_by_initializer _ (λ n. (refl, (h n.pattern.node, (tt, tt)))) (λ n_initializer. (λ n. (refl, (h n.pattern.node, (h n_initializer.node, tt)))))) n_value_params.value.items.items, ((refl, (h n_value_params_rest.value.argument.node, tt)), tt))), ((and_from _ _ (no_hole_changed _ _ _ n_value_body.value.statements.items) (no_hole _ n_value_body.value.directives.items), (all_formed _ (λ d. (refl, tt)) n_value_body.value.directives.items, (all_changed _ _ _ (λ n. h n.node) n_value_body.value.statements.items, tt))), tt)))), tt))))))))))))) (λ n_key. (method_definition_by_value _ (boxed_function_by_params _ (boxed_formal_parameters_by_rest _ (λ n_value_params. (boxed_function_by_body _ (λ n_value. (λ n. (refl, ((refl, tt), ((refl, (if_given_formed _ (λ b. (refl, tt)) n_value.value.id, ((no_hole_changed _ _ _ n_value_params.value.items.items, (all_changed _ _ _ (formal_parameter_by_initializer _ (λ n. (refl, (h n.pattern.node, (tt, tt)))) (λ n_initializer. (λ n. (refl, (h n.pattern.node, (h n_initializer.node, tt)))))) n_value_params.value.items.items, (tt, tt))), (tt, tt)))), tt))))) (λ n_value_body. (λ n_value. (λ n. (refl, ((refl, tt), ((refl, (if_given_formed _ (λ b. (refl, tt)) n_value.value.id, ((no_hole_changed _ _ _ n_value_params.value.items.items, (all_changed _ _ _ (formal_parameter_by_initializer _ (λ n. (refl, (h n.pattern.node, (tt, tt)))) (λ n_initializer. (λ n. (refl, (h n.pattern.node, (h n_initializer.node, tt)))))) n_value_params.value.items.items, (tt, tt))), ((and_from _ _ (no_hole_changed _ _ _ n_value_body.value.statements.items) (no_hole _ n_value_body.value.directives.items), (all_formed _ (λ d. (refl, tt)) n_value_body.value.directives.items, (all_changed _ _ _ (λ n. h n.node) n_value_body.value.statements.items, tt))), tt)))), tt)))))))) (λ n_value_params_rest. (λ n_value_params. (boxed_function_by_body _ (λ n_value. (λ n. (refl, ((refl, tt), ((refl, (if_given_formed _ (λ b. (refl, tt)) n_value.value.id, ((no_hole_changed _ _ _ n_value_params.value.items.items, (all_changed _ _ _ (formal_parameter_by_initializer _ (λ n. (refl, (h n.pattern.node, (tt, tt)))) (λ n_initializer. (λ n. (refl, (h n.pattern.node, (h n_initializer.node, tt)))))) n_value_params.value.items.items, ((refl, (h n_value_params_rest.value.argument.node, tt)), tt))), (tt, tt)))), tt))))) (λ n_value_body. (λ n_value. (λ n. (refl, ((refl, tt), ((refl, (if_given_formed _ (λ b. (refl, tt)) n_value.value.id, ((no_hole_changed _ _ _ n_value_params.value.items.items, (all_changed _ _ _ (formal_parameter_by_initializer _ (λ n. (refl, (h n.pattern.node, (tt, tt)))) (λ n_initializer. (λ n. (refl, (h n.pattern.node, (h n_initializer.node, tt)))))) n_value_params.value.items.items, ((refl, (h n_value_params_rest.value.argument.node, tt)), tt))), ((and_from _ _ (no_hole_changed _ _ _ n_value_body.value.statements.items) (no_hole _ n_value_body.value.directives.items), (all_formed _ (λ d. (refl, tt)) n_value_body.value.directives.items, (all_changed _ _ _ (λ n. h n.node) n_value_body.value.statements.items, tt))), tt)))), tt))))))))))))) (λ n_key. (method_definition_by_value _ (boxed_function_by_params _ (boxed_formal_parameters_by_rest _ (λ n_value_params. (boxed_function_by_body _ (λ n_value. (λ n. (refl, (h n_key.value.node, ((refl, (if_given_formed _ (λ b. (refl, tt)) n_value.value.id, ((no_hole_changed _ _ _ n_value_params.value.items.items, (all_changed _ _ _ (formal_parameter_by_initializer _ (λ n. (refl, (h n.pattern.node, (tt, tt)))) (λ n_initializer. (λ n. (refl, (h n.pattern.node, (h n_initializer.node, tt)))))) n_value_params.value.items.items, (tt, tt))), (tt, tt)))), tt))))) (λ n_value_body. (λ n_value. (λ n. (refl, (h n_key.value.node, ((refl, (if_given_formed _ (λ b. (refl, tt)) n_value.value.id, ((no_hole_changed _ _ _ n_value_params.value.items.items, (all_changed _ _ _ (formal_parameter_by_initializer _ (λ n. (refl, (h n.pattern.node, (tt, tt)))) (λ n_initializer. (λ n. (refl, (h n.pattern.node, (h n_initializer.node, tt)))))) n_value_params.value.items.items, (tt, tt))), ((and_from _ _ (no_hole_changed _ _ _ n_value_body.value.statements.items) (no_hole _ n_value_body.value.directives.items), (all_formed _ (λ d. (refl, tt)) n_value_body.value.directives.items, (all_changed _ _ _ (λ n. h n.node) n_value_body.value.statements.items, tt))), tt)))), tt)))))))) (λ n_value_params_rest. (λ n_value_params. (boxed_function_by_body _ (λ n_value. (λ n. (refl, (h n_key.value.node, ((refl, (if_given_formed _ (λ b. (refl, tt)) n_value.value.id, ((no_hole_changed _ _ _ n_value_params.value.items.items, (all_changed _ _ _ (formal_parameter_by_initializer _ (λ n. (refl, (h n.pattern.node, (tt, tt)))) (λ n_initializer. (λ n. (refl, (h n.pattern.node, (h n_initializer.node, tt)))))) n_value_params.value.items.items, ((refl, (h n_value_params_rest.value.argument.node, tt)), tt))), (tt, tt)))), tt))))) (λ n_value_body. (λ n_value. (λ n. (refl, (h n_key.value.node, ((refl, (if_given_formed _ (λ b. (refl, tt)) n_value.value.id, ((no_hole_changed _ _ _ n_value_params.value.items.items, (all_changed _ _ _ (formal_parameter_by_initializer _ (λ n. (refl, (h n.pattern.node, (tt, tt)))) (λ n_initializer. (λ n. (refl, (h n.pattern.node, (h n_initializer.node, tt)))))) n_value_params.value.items.items, ((refl, (h n_value_params_rest.value.argument.node, tt)), tt))), ((and_from _ _ (no_hole_changed _ _ _ n_value_body.value.statements.items) (no_hole _ n_value_body.value.directives.items), (all_formed _ (λ d. (refl, tt)) n_value_body.value.directives.items, (all_changed _ _ _ (λ n. h n.node) n_value_body.value.statements.items, tt))), tt)))), tt)))))))))))))) b.value
  class_element_is_formed (class_elements.PropertyDefinition b) = (property_definition_by_key (λ n. IsFormed (layer (map-Node Node Tree node_plain (map-Node A Node f (opened.ClassElement (class_elements.PropertyDefinition (record b { value = n }))))))) (λ n_key. (property_definition_by_value _ (λ n. (refl, ((refl, tt), (tt, tt)))) (λ n_value. (λ n. (refl, ((refl, tt), (h n_value.node, tt))))))) (λ n_key. (property_definition_by_value _ (λ n. (refl, ((refl, tt), (tt, tt)))) (λ n_value. (λ n. (refl, ((refl, tt), (h n_value.node, tt))))))) (λ n_key. (property_definition_by_value _ (λ n. (refl, (h n_key.value.node, (tt, tt)))) (λ n_value. (λ n. (refl, (h n_key.value.node, (h n_value.node, tt)))))))) b.value

  pub layer_is_formed : (y : Node-F A) → IsFormed (layer (map-Node Node Tree node_plain (map-Node A Node f y)))
  layer_is_formed (opened.Expression n) = expression_is_formed n
  layer_is_formed (opened.AssignmentTarget n) = assignment_target_is_formed n
  layer_is_formed (opened.Declaration n) = declaration_is_formed n
  layer_is_formed (opened.Statement n) = statement_is_formed n
  layer_is_formed (opened.BindingPattern n) = binding_pattern_is_formed n
  layer_is_formed (opened.ClassElement n) = class_element_is_formed n
