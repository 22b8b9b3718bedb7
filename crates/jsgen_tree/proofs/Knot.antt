-- Generated from tools/nodes/table.txt; edit that and run tools/nodes/generate.
-- The plain data of the recursive type is, set by set, that of what it holds.
use Rattle.std.proofs.Common.{◌≡◌, refl, sym, ap, ◌∙◌}
use Rattle.jsgen_tree.proofs.Cases.{with_argument, with_array_expression_element, with_assignment_target_maybe_default, with_assignment_target_property, with_object_property_kind, variable_declarator_by_init, if_statement_by_alternate, chain_expression_by_expression, boxed_object_property_by_key, update_expression_by_argument, formal_parameter_by_initializer, boxed_formal_parameters_by_rest, function_by_params, boxed_function_by_params, function_by_body, boxed_function_by_body, arrow_function_expression_by_params, arrow_function_expression_by_body, yield_expression_by_argument, import_expression_by_options, for_statement_by_init, for_statement_by_test, for_statement_by_update, for_in_statement_by_left, for_of_statement_by_left, return_statement_by_argument, switch_case_by_test, try_statement_by_handler, try_statement_by_finalizer, boxed_catch_clause_by_param, object_pattern_by_rest, binding_property_by_key, array_pattern_by_rest, array_assignment_target_by_rest, object_assignment_target_by_rest, boxed_assignment_target_property_identifier_by_init, boxed_assignment_target_property_property_by_name, boxed_assignment_target_property_property_by_binding, class_by_heritage, boxed_class_by_heritage, method_definition_by_key, method_definition_by_value, property_definition_by_key, property_definition_by_value, export_default_declaration_by_declaration}
use Rattle.jsgen_tree.specs.Plain.{node_plain, layer}
use Rattle.jsgen_tree.specs.Spans.{expression_span, assignment_target_span, declaration_span, statement_span, binding_pattern_span, class_element_span}
use Rattle.jsgen_tree.specs.Tree.{Tree, given, trees, holed, span_of}
use Rattle.jsgen_tree.specs.Rows.{expression_plain, assignment_target_plain, declaration_plain, statement_plain, binding_pattern_plain, class_element_plain}
use Rattle.jsgen_tree.proofs.Layers.{map_after, with_hole, same_slots, same_one, same_maybe, same_many}
use Rattle.jsgen_tree.specs.declared.nodes.Node.{Node, out-Node, map-Node, fold_out-Node}
use Rattle.jsgen_tree.specs.declared.nodes.Node.TheVariants.{outs-Expression, outs-AssignmentTarget, outs-Declaration, outs-Statement, outs-BindingPattern, outs-ClassElement}
use Rattle.jsgen_tree.specs.declared.sets.Expression.{Expression}
use Rattle.jsgen_tree.specs.declared.sets.AssignmentTarget.{AssignmentTarget}
use Rattle.jsgen_tree.specs.declared.sets.Declaration.{Declaration}
use Rattle.jsgen_tree.specs.declared.sets.Statement.{Statement}
use Rattle.jsgen_tree.specs.declared.sets.BindingPattern.{BindingPattern}
use Rattle.jsgen_tree.specs.declared.sets.ClassElement.{ClassElement}
use Rattle.jsgen_tree.specs.declared.nodes.Node.TheVariants as nodes
use Rattle.jsgen_tree.specs.declared.nodes.Node.TheOpen as opened
use Rattle.jsgen_tree.specs.declared.sets.Expression.TheVariants as expressions
use Rattle.jsgen_tree.specs.declared.sets.AssignmentTarget.TheVariants as assignment_targets
use Rattle.jsgen_tree.specs.declared.sets.Declaration.TheVariants as declarations
use Rattle.jsgen_tree.specs.declared.sets.Statement.TheVariants as statements
use Rattle.jsgen_tree.specs.declared.sets.BindingPattern.TheVariants as binding_patterns
use Rattle.jsgen_tree.specs.declared.sets.ClassElement.TheVariants as class_elements

pub plain_out : (n : Node) → node_plain n ≡ layer (map-Node Node Tree node_plain (out-Node n))
unfolding node_plain
plain_out n = fold_out-Node Tree layer n

-- ---- a layer of each set over what its children give

natural_expression : (h : Node → Tree) (n : Expression Node) → layer (map-Node Node Tree h (opened.Expression n)) ≡ expression_plain h n
natural_expression h (expressions.IdentifierReference b) = refl
natural_expression h (expressions.ThisExpression b) = refl
natural_expression h (expressions.NullLiteral b) = refl
natural_expression h (expressions.BooleanLiteral b) = refl
natural_expression h (expressions.NumericLiteral b) = refl
natural_expression h (expressions.BigIntLiteral b) = refl
natural_expression h (expressions.StringLiteral b) = refl
natural_expression h (expressions.RegExpLiteral b) = refl
natural_expression h (expressions.BinaryExpression b) = refl
natural_expression h (expressions.LogicalExpression b) = refl
natural_expression h (expressions.ParenthesizedExpression b) = refl
natural_expression h (expressions.StaticMemberExpression b) = refl
natural_expression h (expressions.ComputedMemberExpression b) = refl
natural_expression h (expressions.CallExpression b) = same_slots (same_one refl (same_many (ap trees (map_after _ _ _ (with_argument _ (λ n. refl) (λ b. refl)) b.value.arguments.items)) refl))
natural_expression h (expressions.ChainExpression b) = (chain_expression_by_expression (λ n. layer (map-Node Node Tree h (opened.Expression (expressions.ChainExpression (record b { value = n })))) ≡ expression_plain h (expressions.ChainExpression (record b { value = n }))) (λ n_expression. (λ n. refl)) (λ n_expression. (λ n. refl)) (λ n_expression. (λ n. refl)) (λ n_expression. (λ n. same_slots (same_one (same_slots (same_one refl (same_many (ap trees (map_after _ _ _ (with_argument _ (λ n. refl) (λ b. refl)) n_expression.value.arguments.items)) refl))) refl)))) b.value
natural_expression h (expressions.ArrayExpression b) = same_slots (same_many (ap holed (map_after _ _ _ (with_hole _ refl (with_array_expression_element _ (λ n. refl) (λ b. refl))) b.value.elements.items)) refl)
natural_expression h (expressions.ObjectExpression b) = same_slots (same_many (ap trees (map_after _ _ _ (with_object_property_kind _ (boxed_object_property_by_key _ (λ n_key. (λ n. refl)) (λ n_key. (λ n. refl)) (λ n_key. (λ n. refl))) (λ n. refl)) b.value.properties.items)) refl)
natural_expression h (expressions.UnaryExpression b) = refl
natural_expression h (expressions.UpdateExpression b) = (update_expression_by_argument (λ n. layer (map-Node Node Tree h (opened.Expression (expressions.UpdateExpression (record b { value = n })))) ≡ expression_plain h (expressions.UpdateExpression (record b { value = n }))) (λ n_argument. (λ n. refl)) (λ n_argument. (λ n. refl)) (λ n_argument. (λ n. refl)) (λ n_argument. (λ n. refl))) b.value
natural_expression h (expressions.NewExpression b) = same_slots (same_one refl (same_many (ap trees (map_after _ _ _ (with_argument _ (λ n. refl) (λ b. refl)) b.value.arguments.items)) refl))
natural_expression h (expressions.NewTarget b) = refl
natural_expression h (expressions.Super b) = refl
natural_expression h (expressions.ImportMeta b) = refl
natural_expression h (expressions.ConditionalExpression b) = refl
natural_expression h (expressions.SequenceExpression b) = same_slots (same_many (ap trees (map_after _ _ _ (λ n. refl) b.value.expressions.items)) refl)
natural_expression h (expressions.AssignmentExpression b) = refl
natural_expression h (expressions.Function b) = (function_by_params (λ n. layer (map-Node Node Tree h (opened.Expression (expressions.Function (record b { value = n })))) ≡ expression_plain h (expressions.Function (record b { value = n }))) (boxed_formal_parameters_by_rest _ (λ n_params. (function_by_body _ (λ n. same_slots (same_maybe refl (same_one (same_slots (same_many (ap trees (map_after _ _ _ (formal_parameter_by_initializer _ (λ n. refl) (λ n_initializer. (λ n. refl))) n_params.value.items.items)) (same_maybe refl refl))) (same_maybe refl refl)))) (λ n_body. (λ n. same_slots (same_maybe refl (same_one (same_slots (same_many (ap trees (map_after _ _ _ (formal_parameter_by_initializer _ (λ n. refl) (λ n_initializer. (λ n. refl))) n_params.value.items.items)) (same_maybe refl refl))) (same_maybe (ap (λ t. given t) (same_slots (same_many refl (same_many (ap trees (map_after _ _ _ (λ n. refl) n_body.value.statements.items)) refl)))) refl))))))) (λ n_params_rest. (λ n_params. (function_by_body _ (λ n. same_slots (same_maybe refl (same_one (same_slots (same_many (ap trees (map_after _ _ _ (formal_parameter_by_initializer _ (λ n. refl) (λ n_initializer. (λ n. refl))) n_params.value.items.items)) (same_maybe refl refl))) (same_maybe refl refl)))) (λ n_body. (λ n. same_slots (same_maybe refl (same_one (same_slots (same_many (ap trees (map_after _ _ _ (formal_parameter_by_initializer _ (λ n. refl) (λ n_initializer. (λ n. refl))) n_params.value.items.items)) (same_maybe refl refl))) (same_maybe (ap (λ t. given t) (same_slots (same_many refl (same_many (ap trees (map_after _ _ _ (λ n. refl) n_body.value.statements.items)) refl)))) refl)))))))))) b.value
natural_expression h (expressions.ArrowFunctionExpression b) = (arrow_function_expression_by_params (λ n. layer (map-Node Node Tree h (opened.Expression (expressions.ArrowFunctionExpression (record b { value = n })))) ≡ expression_plain h (expressions.ArrowFunctionExpression (record b { value = n }))) (boxed_formal_parameters_by_rest _ (λ n_params. (arrow_function_expression_by_body _ (λ n_body. (λ n. same_slots (same_one (same_slots (same_many (ap trees (map_after _ _ _ (formal_parameter_by_initializer _ (λ n. refl) (λ n_initializer. (λ n. refl))) n_params.value.items.items)) (same_maybe refl refl))) (same_one (same_slots (same_many refl (same_many (ap trees (map_after _ _ _ (λ n. refl) n_body.value.statements.items)) refl))) refl)))) (λ n_body. (λ n. same_slots (same_one (same_slots (same_many (ap trees (map_after _ _ _ (formal_parameter_by_initializer _ (λ n. refl) (λ n_initializer. (λ n. refl))) n_params.value.items.items)) (same_maybe refl refl))) (same_one refl refl)))))) (λ n_params_rest. (λ n_params. (arrow_function_expression_by_body _ (λ n_body. (λ n. same_slots (same_one (same_slots (same_many (ap trees (map_after _ _ _ (formal_parameter_by_initializer _ (λ n. refl) (λ n_initializer. (λ n. refl))) n_params.value.items.items)) (same_maybe refl refl))) (same_one (same_slots (same_many refl (same_many (ap trees (map_after _ _ _ (λ n. refl) n_body.value.statements.items)) refl))) refl)))) (λ n_body. (λ n. same_slots (same_one (same_slots (same_many (ap trees (map_after _ _ _ (formal_parameter_by_initializer _ (λ n. refl) (λ n_initializer. (λ n. refl))) n_params.value.items.items)) (same_maybe refl refl))) (same_one refl refl))))))))) b.value
natural_expression h (expressions.Class b) = (class_by_heritage (λ n. layer (map-Node Node Tree h (opened.Expression (expressions.Class (record b { value = n })))) ≡ expression_plain h (expressions.Class (record b { value = n }))) (λ n. same_slots (same_maybe refl (same_maybe refl (same_one (same_slots (same_many (ap trees (map_after _ _ _ (λ n. refl) n.body.value.body.items)) refl)) refl)))) (λ n_heritage. (λ n. same_slots (same_maybe refl (same_maybe refl (same_one (same_slots (same_many (ap trees (map_after _ _ _ (λ n. refl) n.body.value.body.items)) refl)) refl)))))) b.value
natural_expression h (expressions.PrivateFieldExpression b) = refl
natural_expression h (expressions.PrivateInExpression b) = refl
natural_expression h (expressions.AwaitExpression b) = refl
natural_expression h (expressions.YieldExpression b) = (yield_expression_by_argument (λ n. layer (map-Node Node Tree h (opened.Expression (expressions.YieldExpression (record b { value = n })))) ≡ expression_plain h (expressions.YieldExpression (record b { value = n }))) (λ n. refl) (λ n_argument. (λ n. refl))) b.value
natural_expression h (expressions.TemplateLiteral b) = same_slots (same_many refl (same_many (ap trees (map_after _ _ _ (λ n. refl) b.value.expressions.items)) refl))
natural_expression h (expressions.TaggedTemplateExpression b) = same_slots (same_one refl (same_one (same_slots (same_many refl (same_many (ap trees (map_after _ _ _ (λ n. refl) b.value.quasi.value.expressions.items)) refl))) refl))
natural_expression h (expressions.ImportExpression b) = (import_expression_by_options (λ n. layer (map-Node Node Tree h (opened.Expression (expressions.ImportExpression (record b { value = n })))) ≡ expression_plain h (expressions.ImportExpression (record b { value = n }))) (λ n. refl) (λ n_options. (λ n. refl))) b.value

natural_assignment_target : (h : Node → Tree) (n : AssignmentTarget Node) → layer (map-Node Node Tree h (opened.AssignmentTarget n)) ≡ assignment_target_plain h n
natural_assignment_target h (assignment_targets.IdentifierReference b) = refl
natural_assignment_target h (assignment_targets.StaticMemberExpression b) = refl
natural_assignment_target h (assignment_targets.ComputedMemberExpression b) = refl
natural_assignment_target h (assignment_targets.PrivateFieldExpression b) = refl
natural_assignment_target h (assignment_targets.ArrayAssignmentTarget b) = (array_assignment_target_by_rest (λ n. layer (map-Node Node Tree h (opened.AssignmentTarget (assignment_targets.ArrayAssignmentTarget (record b { value = n })))) ≡ assignment_target_plain h (assignment_targets.ArrayAssignmentTarget (record b { value = n }))) (λ n. same_slots (same_many (ap holed (map_after _ _ _ (with_hole _ refl (with_assignment_target_maybe_default _ (λ b. refl) (λ n. refl))) n.elements.items)) (same_maybe refl refl))) (λ n_rest. (λ n. same_slots (same_many (ap holed (map_after _ _ _ (with_hole _ refl (with_assignment_target_maybe_default _ (λ b. refl) (λ n. refl))) n.elements.items)) (same_maybe refl refl))))) b.value
natural_assignment_target h (assignment_targets.ObjectAssignmentTarget b) = (object_assignment_target_by_rest (λ n. layer (map-Node Node Tree h (opened.AssignmentTarget (assignment_targets.ObjectAssignmentTarget (record b { value = n })))) ≡ assignment_target_plain h (assignment_targets.ObjectAssignmentTarget (record b { value = n }))) (λ n. same_slots (same_many (ap trees (map_after _ _ _ (with_assignment_target_property _ (boxed_assignment_target_property_identifier_by_init _ (λ n. refl) (λ n_init. (λ n. refl))) (boxed_assignment_target_property_property_by_name _ (λ n_name. (boxed_assignment_target_property_property_by_binding _ (λ n_binding. (λ n. refl)) (λ n_binding. (λ n. refl)))) (λ n_name. (boxed_assignment_target_property_property_by_binding _ (λ n_binding. (λ n. refl)) (λ n_binding. (λ n. refl)))) (λ n_name. (boxed_assignment_target_property_property_by_binding _ (λ n_binding. (λ n. refl)) (λ n_binding. (λ n. refl)))))) n.properties.items)) (same_maybe refl refl))) (λ n_rest. (λ n. same_slots (same_many (ap trees (map_after _ _ _ (with_assignment_target_property _ (boxed_assignment_target_property_identifier_by_init _ (λ n. refl) (λ n_init. (λ n. refl))) (boxed_assignment_target_property_property_by_name _ (λ n_name. (boxed_assignment_target_property_property_by_binding _ (λ n_binding. (λ n. refl)) (λ n_binding. (λ n. refl)))) (λ n_name. (boxed_assignment_target_property_property_by_binding _ (λ n_binding. (λ n. refl)) (λ n_binding. (λ n. refl)))) (λ n_name. (boxed_assignment_target_property_property_by_binding _ (λ n_binding. (λ n. refl)) (λ n_binding. (λ n. refl)))))) n.properties.items)) (same_maybe refl refl))))) b.value

natural_declaration : (h : Node → Tree) (n : Declaration Node) → layer (map-Node Node Tree h (opened.Declaration n)) ≡ declaration_plain h n
natural_declaration h (declarations.VariableDeclaration b) = same_slots (same_many (ap trees (map_after _ _ _ (variable_declarator_by_init _ (λ n. refl) (λ n_init. (λ n. refl))) b.value.declarations.items)) refl)
natural_declaration h (declarations.Function b) = (function_by_params (λ n. layer (map-Node Node Tree h (opened.Declaration (declarations.Function (record b { value = n })))) ≡ declaration_plain h (declarations.Function (record b { value = n }))) (boxed_formal_parameters_by_rest _ (λ n_params. (function_by_body _ (λ n. same_slots (same_maybe refl (same_one (same_slots (same_many (ap trees (map_after _ _ _ (formal_parameter_by_initializer _ (λ n. refl) (λ n_initializer. (λ n. refl))) n_params.value.items.items)) (same_maybe refl refl))) (same_maybe refl refl)))) (λ n_body. (λ n. same_slots (same_maybe refl (same_one (same_slots (same_many (ap trees (map_after _ _ _ (formal_parameter_by_initializer _ (λ n. refl) (λ n_initializer. (λ n. refl))) n_params.value.items.items)) (same_maybe refl refl))) (same_maybe (ap (λ t. given t) (same_slots (same_many refl (same_many (ap trees (map_after _ _ _ (λ n. refl) n_body.value.statements.items)) refl)))) refl))))))) (λ n_params_rest. (λ n_params. (function_by_body _ (λ n. same_slots (same_maybe refl (same_one (same_slots (same_many (ap trees (map_after _ _ _ (formal_parameter_by_initializer _ (λ n. refl) (λ n_initializer. (λ n. refl))) n_params.value.items.items)) (same_maybe refl refl))) (same_maybe refl refl)))) (λ n_body. (λ n. same_slots (same_maybe refl (same_one (same_slots (same_many (ap trees (map_after _ _ _ (formal_parameter_by_initializer _ (λ n. refl) (λ n_initializer. (λ n. refl))) n_params.value.items.items)) (same_maybe refl refl))) (same_maybe (ap (λ t. given t) (same_slots (same_many refl (same_many (ap trees (map_after _ _ _ (λ n. refl) n_body.value.statements.items)) refl)))) refl)))))))))) b.value
natural_declaration h (declarations.Class b) = (class_by_heritage (λ n. layer (map-Node Node Tree h (opened.Declaration (declarations.Class (record b { value = n })))) ≡ declaration_plain h (declarations.Class (record b { value = n }))) (λ n. same_slots (same_maybe refl (same_maybe refl (same_one (same_slots (same_many (ap trees (map_after _ _ _ (λ n. refl) n.body.value.body.items)) refl)) refl)))) (λ n_heritage. (λ n. same_slots (same_maybe refl (same_maybe refl (same_one (same_slots (same_many (ap trees (map_after _ _ _ (λ n. refl) n.body.value.body.items)) refl)) refl)))))) b.value

natural_statement : (h : Node → Tree) (n : Statement Node) → layer (map-Node Node Tree h (opened.Statement n)) ≡ statement_plain h n
natural_statement h (statements.Declaration b) = refl
natural_statement h (statements.ExpressionStatement b) = refl
natural_statement h (statements.BlockStatement b) = same_slots (same_many (ap trees (map_after _ _ _ (λ n. refl) b.value.body.items)) refl)
natural_statement h (statements.IfStatement b) = (if_statement_by_alternate (λ n. layer (map-Node Node Tree h (opened.Statement (statements.IfStatement (record b { value = n })))) ≡ statement_plain h (statements.IfStatement (record b { value = n }))) (λ n. refl) (λ n_alternate. (λ n. refl))) b.value
natural_statement h (statements.EmptyStatement b) = refl
natural_statement h (statements.ForStatement b) = (for_statement_by_init (λ n. layer (map-Node Node Tree h (opened.Statement (statements.ForStatement (record b { value = n })))) ≡ statement_plain h (statements.ForStatement (record b { value = n }))) (for_statement_by_test _ (for_statement_by_update _ (λ n. refl) (λ n_update. (λ n. refl))) (λ n_test. (for_statement_by_update _ (λ n. refl) (λ n_update. (λ n. refl))))) (λ n_init. (for_statement_by_test _ (for_statement_by_update _ (λ n. same_slots (same_maybe (ap (λ t. given t) (same_slots (same_many (ap trees (map_after _ _ _ (variable_declarator_by_init _ (λ n. refl) (λ n_init. (λ n. refl))) n_init.value.declarations.items)) refl))) (same_maybe refl (same_maybe refl (same_one refl refl))))) (λ n_update. (λ n. same_slots (same_maybe (ap (λ t. given t) (same_slots (same_many (ap trees (map_after _ _ _ (variable_declarator_by_init _ (λ n. refl) (λ n_init. (λ n. refl))) n_init.value.declarations.items)) refl))) (same_maybe refl (same_maybe refl (same_one refl refl))))))) (λ n_test. (for_statement_by_update _ (λ n. same_slots (same_maybe (ap (λ t. given t) (same_slots (same_many (ap trees (map_after _ _ _ (variable_declarator_by_init _ (λ n. refl) (λ n_init. (λ n. refl))) n_init.value.declarations.items)) refl))) (same_maybe refl (same_maybe refl (same_one refl refl))))) (λ n_update. (λ n. same_slots (same_maybe (ap (λ t. given t) (same_slots (same_many (ap trees (map_after _ _ _ (variable_declarator_by_init _ (λ n. refl) (λ n_init. (λ n. refl))) n_init.value.declarations.items)) refl))) (same_maybe refl (same_maybe refl (same_one refl refl)))))))))) (λ n_init. (for_statement_by_test _ (for_statement_by_update _ (λ n. refl) (λ n_update. (λ n. refl))) (λ n_test. (for_statement_by_update _ (λ n. refl) (λ n_update. (λ n. refl))))))) b.value
natural_statement h (statements.ForInStatement b) = (for_in_statement_by_left (λ n. layer (map-Node Node Tree h (opened.Statement (statements.ForInStatement (record b { value = n })))) ≡ statement_plain h (statements.ForInStatement (record b { value = n }))) (λ n_left. (λ n. same_slots (same_one (same_slots (same_many (ap trees (map_after _ _ _ (variable_declarator_by_init _ (λ n. refl) (λ n_init. (λ n. refl))) n_left.value.declarations.items)) refl)) (same_one refl (same_one refl refl))))) (λ n_left. (λ n. refl))) b.value
natural_statement h (statements.ForOfStatement b) = (for_of_statement_by_left (λ n. layer (map-Node Node Tree h (opened.Statement (statements.ForOfStatement (record b { value = n })))) ≡ statement_plain h (statements.ForOfStatement (record b { value = n }))) (λ n_left. (λ n. same_slots (same_one (same_slots (same_many (ap trees (map_after _ _ _ (variable_declarator_by_init _ (λ n. refl) (λ n_init. (λ n. refl))) n_left.value.declarations.items)) refl)) (same_one refl (same_one refl refl))))) (λ n_left. (λ n. refl))) b.value
natural_statement h (statements.WhileStatement b) = refl
natural_statement h (statements.DoWhileStatement b) = refl
natural_statement h (statements.LabeledStatement b) = refl
natural_statement h (statements.ContinueStatement b) = refl
natural_statement h (statements.BreakStatement b) = refl
natural_statement h (statements.ReturnStatement b) = (return_statement_by_argument (λ n. layer (map-Node Node Tree h (opened.Statement (statements.ReturnStatement (record b { value = n })))) ≡ statement_plain h (statements.ReturnStatement (record b { value = n }))) (λ n. refl) (λ n_argument. (λ n. refl))) b.value
natural_statement h (statements.ThrowStatement b) = refl
natural_statement h (statements.DebuggerStatement b) = refl
natural_statement h (statements.SwitchStatement b) = same_slots (same_one refl (same_many (ap trees (map_after _ _ _ (switch_case_by_test _ (λ n. same_slots (same_maybe refl (same_many (ap trees (map_after _ _ _ (λ n. refl) n.consequent.items)) refl))) (λ n_test. (λ n. same_slots (same_maybe refl (same_many (ap trees (map_after _ _ _ (λ n. refl) n.consequent.items)) refl))))) b.value.cases.items)) refl))
natural_statement h (statements.TryStatement b) = (try_statement_by_handler (λ n. layer (map-Node Node Tree h (opened.Statement (statements.TryStatement (record b { value = n })))) ≡ statement_plain h (statements.TryStatement (record b { value = n }))) (try_statement_by_finalizer _ (λ n. same_slots (same_one (same_slots (same_many (ap trees (map_after _ _ _ (λ n. refl) n.block.value.body.items)) refl)) (same_maybe refl (same_maybe refl refl)))) (λ n_finalizer. (λ n. same_slots (same_one (same_slots (same_many (ap trees (map_after _ _ _ (λ n. refl) n.block.value.body.items)) refl)) (same_maybe refl (same_maybe (ap (λ t. given t) (same_slots (same_many (ap trees (map_after _ _ _ (λ n. refl) n_finalizer.value.body.items)) refl))) refl)))))) (boxed_catch_clause_by_param _ (λ n_handler. (try_statement_by_finalizer _ (λ n. same_slots (same_one (same_slots (same_many (ap trees (map_after _ _ _ (λ n. refl) n.block.value.body.items)) refl)) (same_maybe (ap (λ t. given t) (same_slots (same_maybe refl (same_one (same_slots (same_many (ap trees (map_after _ _ _ (λ n. refl) n_handler.value.body.value.body.items)) refl)) refl)))) (same_maybe refl refl)))) (λ n_finalizer. (λ n. same_slots (same_one (same_slots (same_many (ap trees (map_after _ _ _ (λ n. refl) n.block.value.body.items)) refl)) (same_maybe (ap (λ t. given t) (same_slots (same_maybe refl (same_one (same_slots (same_many (ap trees (map_after _ _ _ (λ n. refl) n_handler.value.body.value.body.items)) refl)) refl)))) (same_maybe (ap (λ t. given t) (same_slots (same_many (ap trees (map_after _ _ _ (λ n. refl) n_finalizer.value.body.items)) refl))) refl))))))) (λ n_handler_param. (λ n_handler. (try_statement_by_finalizer _ (λ n. same_slots (same_one (same_slots (same_many (ap trees (map_after _ _ _ (λ n. refl) n.block.value.body.items)) refl)) (same_maybe (ap (λ t. given t) (same_slots (same_maybe refl (same_one (same_slots (same_many (ap trees (map_after _ _ _ (λ n. refl) n_handler.value.body.value.body.items)) refl)) refl)))) (same_maybe refl refl)))) (λ n_finalizer. (λ n. same_slots (same_one (same_slots (same_many (ap trees (map_after _ _ _ (λ n. refl) n.block.value.body.items)) refl)) (same_maybe (ap (λ t. given t) (same_slots (same_maybe refl (same_one (same_slots (same_many (ap trees (map_after _ _ _ (λ n. refl) n_handler.value.body.value.body.items)) refl)) refl)))) (same_maybe (ap (λ t. given t) (same_slots (same_many (ap trees (map_after _ _ _ (λ n. refl) n_finalizer.value.body.items)) refl))) refl)))))))))) b.value
natural_statement h (statements.ImportDeclaration b) = refl
natural_statement h (statements.ExportDeclaration b) = refl
natural_statement h (statements.ExportNamedDeclaration b) = refl
natural_statement h (statements.ExportFromDeclaration b) = refl
natural_statement h (statements.ExportAllDeclaration b) = refl
natural_statement h (statements.ExportDefaultDeclaration b) = (export_default_declaration_by_declaration (λ n. layer (map-Node Node Tree h (opened.Statement (statements.ExportDefaultDeclaration (record b { value = n })))) ≡ statement_plain h (statements.ExportDefaultDeclaration (record b { value = n }))) (boxed_function_by_params _ (boxed_formal_parameters_by_rest _ (λ n_declaration_params. (boxed_function_by_body _ (λ n_declaration. (λ n. same_slots (same_one (same_slots (same_maybe refl (same_one (same_slots (same_many (ap trees (map_after _ _ _ (formal_parameter_by_initializer _ (λ n. refl) (λ n_initializer. (λ n. refl))) n_declaration_params.value.items.items)) (same_maybe refl refl))) (same_maybe refl refl)))) refl))) (λ n_declaration_body. (λ n_declaration. (λ n. same_slots (same_one (same_slots (same_maybe refl (same_one (same_slots (same_many (ap trees (map_after _ _ _ (formal_parameter_by_initializer _ (λ n. refl) (λ n_initializer. (λ n. refl))) n_declaration_params.value.items.items)) (same_maybe refl refl))) (same_maybe (ap (λ t. given t) (same_slots (same_many refl (same_many (ap trees (map_after _ _ _ (λ n. refl) n_declaration_body.value.statements.items)) refl)))) refl)))) refl)))))) (λ n_declaration_params_rest. (λ n_declaration_params. (boxed_function_by_body _ (λ n_declaration. (λ n. same_slots (same_one (same_slots (same_maybe refl (same_one (same_slots (same_many (ap trees (map_after _ _ _ (formal_parameter_by_initializer _ (λ n. refl) (λ n_initializer. (λ n. refl))) n_declaration_params.value.items.items)) (same_maybe refl refl))) (same_maybe refl refl)))) refl))) (λ n_declaration_body. (λ n_declaration. (λ n. same_slots (same_one (same_slots (same_maybe refl (same_one (same_slots (same_many (ap trees (map_after _ _ _ (formal_parameter_by_initializer _ (λ n. refl) (λ n_initializer. (λ n. refl))) n_declaration_params.value.items.items)) (same_maybe refl refl))) (same_maybe (ap (λ t. given t) (same_slots (same_many refl (same_many (ap trees (map_after _ _ _ (λ n. refl) n_declaration_body.value.statements.items)) refl)))) refl)))) refl))))))))) (boxed_class_by_heritage _ (λ n_declaration. (λ n. same_slots (same_one (same_slots (same_maybe refl (same_maybe refl (same_one (same_slots (same_many (ap trees (map_after _ _ _ (λ n. refl) n_declaration.value.body.value.body.items)) refl)) refl)))) refl))) (λ n_declaration_heritage. (λ n_declaration. (λ n. same_slots (same_one (same_slots (same_maybe refl (same_maybe refl (same_one (same_slots (same_many (ap trees (map_after _ _ _ (λ n. refl) n_declaration.value.body.value.body.items)) refl)) refl)))) refl))))) (λ n_declaration. (λ n. refl))) b.value

natural_binding_pattern : (h : Node → Tree) (n : BindingPattern Node) → layer (map-Node Node Tree h (opened.BindingPattern n)) ≡ binding_pattern_plain h n
natural_binding_pattern h (binding_patterns.BindingIdentifier b) = refl
natural_binding_pattern h (binding_patterns.ObjectPattern b) = (object_pattern_by_rest (λ n. layer (map-Node Node Tree h (opened.BindingPattern (binding_patterns.ObjectPattern (record b { value = n })))) ≡ binding_pattern_plain h (binding_patterns.ObjectPattern (record b { value = n }))) (λ n. same_slots (same_many (ap trees (map_after _ _ _ (binding_property_by_key _ (λ n_key. (λ n. refl)) (λ n_key. (λ n. refl)) (λ n_key. (λ n. refl))) n.properties.items)) (same_maybe refl refl))) (λ n_rest. (λ n. same_slots (same_many (ap trees (map_after _ _ _ (binding_property_by_key _ (λ n_key. (λ n. refl)) (λ n_key. (λ n. refl)) (λ n_key. (λ n. refl))) n.properties.items)) (same_maybe refl refl))))) b.value
natural_binding_pattern h (binding_patterns.ArrayPattern b) = (array_pattern_by_rest (λ n. layer (map-Node Node Tree h (opened.BindingPattern (binding_patterns.ArrayPattern (record b { value = n })))) ≡ binding_pattern_plain h (binding_patterns.ArrayPattern (record b { value = n }))) (λ n. same_slots (same_many (ap holed (map_after _ _ _ (with_hole _ refl (λ n. refl)) n.elements.items)) (same_maybe refl refl))) (λ n_rest. (λ n. same_slots (same_many (ap holed (map_after _ _ _ (with_hole _ refl (λ n. refl)) n.elements.items)) (same_maybe refl refl))))) b.value
natural_binding_pattern h (binding_patterns.AssignmentPattern b) = refl

natural_class_element : (h : Node → Tree) (n : ClassElement Node) → layer (map-Node Node Tree h (opened.ClassElement n)) ≡ class_element_plain h n
natural_class_element h (class_elements.StaticBlock b) = same_slots (same_many (ap trees (map_after _ _ _ (λ n. refl) b.value.body.items)) refl)
natural_class_element h (class_elements.MethodDefinition b) = (method_definition_by_key (λ n. layer (map-Node Node Tree h (opened.ClassElement (class_elements.MethodDefinition (record b { value = n })))) ≡ class_element_plain h (class_elements.MethodDefinition (record b { value = n }))) (λ n_key. (method_definition_by_value _ (boxed_function_by_params _ (boxed_formal_parameters_by_rest _ (λ n_value_params. (boxed_function_by_body _ (λ n_value. (λ n. same_slots (same_one refl (same_one (same_slots (same_maybe refl (same_one (same_slots (same_many (ap trees (map_after _ _ _ (formal_parameter_by_initializer _ (λ n. refl) (λ n_initializer. (λ n. refl))) n_value_params.value.items.items)) (same_maybe refl refl))) (same_maybe refl refl)))) refl)))) (λ n_value_body. (λ n_value. (λ n. same_slots (same_one refl (same_one (same_slots (same_maybe refl (same_one (same_slots (same_many (ap trees (map_after _ _ _ (formal_parameter_by_initializer _ (λ n. refl) (λ n_initializer. (λ n. refl))) n_value_params.value.items.items)) (same_maybe refl refl))) (same_maybe (ap (λ t. given t) (same_slots (same_many refl (same_many (ap trees (map_after _ _ _ (λ n. refl) n_value_body.value.statements.items)) refl)))) refl)))) refl))))))) (λ n_value_params_rest. (λ n_value_params. (boxed_function_by_body _ (λ n_value. (λ n. same_slots (same_one refl (same_one (same_slots (same_maybe refl (same_one (same_slots (same_many (ap trees (map_after _ _ _ (formal_parameter_by_initializer _ (λ n. refl) (λ n_initializer. (λ n. refl))) n_value_params.value.items.items)) (same_maybe refl refl))) (same_maybe refl refl)))) refl)))) (λ n_value_body. (λ n_value. (λ n. same_slots (same_one refl (same_one (same_slots (same_maybe refl (same_one (same_slots (same_many (ap trees (map_after _ _ _ (formal_parameter_by_initializer _ (λ n. refl) (λ n_initializer. (λ n. refl))) n_value_params.value.items.items)) (same_maybe refl refl))) (same_maybe (ap (λ t. given t) (same_slots (same_many refl (same_many (ap trees (map_after _ _ _ (λ n. refl) n_value_body.value.statements.items)) refl)))) refl)))) refl)))))))))))) (λ n_key. (method_definition_by_value _ (boxed_function_by_params _ (boxed_formal_parameters_by_rest _ (λ n_value_params. (boxed_function_by_body _ (λ n_value. (λ n. same_slots (same_one refl (same_one (same_slots (same_maybe refl (same_one (same_slots (same_many (ap trees (map_after _ _ _ (formal_parameter_by_initializer _ (λ n. refl) (λ n_initializer. (λ n. refl))) n_value_params.value.items.items)) (same_maybe refl refl))) (same_maybe refl refl)))) refl)))) (λ n_value_body. (λ n_value. (λ n. same_slots (same_one refl (same_one (same_slots (same_maybe refl (same_one (same_slots (same_many (ap trees (map_after _ _ _ (formal_parameter_by_initializer _ (λ n. refl) (λ n_initializer. (λ n. refl))) n_value_params.value.items.items)) (same_maybe refl refl))) (same_maybe (ap (λ t. given t) (same_slots (same_many refl (same_many (ap trees (map_after _ _ _ (λ n. refl) n_value_body.value.statements.items)) refl)))) refl)))) refl))))))) (λ n_value_params_rest. (λ n_value_params. (boxed_function_by_body _ (λ n_value. (λ n. same_slots (same_one refl (same_one (same_slots (same_maybe refl (same_one (same_slots (same_many (ap trees (map_after _ _ _ (formal_parameter_by_initializer _ (λ n. refl) (λ n_initializer. (λ n. refl))) n_value_params.value.items.items)) (same_maybe refl refl))) (same_maybe refl refl)))) refl)))) (λ n_value_body. (λ n_value. (λ n. same_slots (same_one refl (same_one (same_slots (same_maybe refl (same_one (same_slots (same_many (ap trees (map_after _ _ _ (formal_parameter_by_initializer _ (λ n. refl) (λ n_initializer. (λ n. refl))) n_value_params.value.items.items)) (same_maybe refl refl))) (same_maybe (ap (λ t. given t) (same_slots (same_many refl (same_many (ap trees (map_after _ _ _ (λ n. refl) n_value_body.value.statements.items)) refl)))) refl)))) refl)))))))))))) (λ n_key. (method_definition_by_value _ (boxed_function_by_params _ (boxed_formal_parameters_by_rest _ (λ n_value_params. (boxed_function_by_body _ (λ n_value. (λ n. same_slots (same_one refl (same_one (same_slots (same_maybe refl (same_one (same_slots (same_many (ap trees (map_after _ _ _ (formal_parameter_by_initializer _ (λ n. refl) (λ n_initializer. (λ n. refl))) n_value_params.value.items.items)) (same_maybe refl refl))) (same_maybe refl refl)))) refl)))) (λ n_value_body. (λ n_value. (λ n. same_slots (same_one refl (same_one (same_slots (same_maybe refl (same_one (same_slots (same_many (ap trees (map_after _ _ _ (formal_parameter_by_initializer _ (λ n. refl) (λ n_initializer. (λ n. refl))) n_value_params.value.items.items)) (same_maybe refl refl))) (same_maybe (ap (λ t. given t) (same_slots (same_many refl (same_many (ap trees (map_after _ _ _ (λ n. refl) n_value_body.value.statements.items)) refl)))) refl)))) refl))))))) (λ n_value_params_rest. (λ n_value_params. (boxed_function_by_body _ (λ n_value. (λ n. same_slots (same_one refl (same_one (same_slots (same_maybe refl (same_one (same_slots (same_many (ap trees (map_after _ _ _ (formal_parameter_by_initializer _ (λ n. refl) (λ n_initializer. (λ n. refl))) n_value_params.value.items.items)) (same_maybe refl refl))) (same_maybe refl refl)))) refl)))) (λ n_value_body. (λ n_value. (λ n. same_slots (same_one refl (same_one (same_slots (same_maybe refl (same_one (same_slots (same_many (ap trees (map_after _ _ _ (formal_parameter_by_initializer _ (λ n. refl) (λ n_initializer. (λ n. refl))) n_value_params.value.items.items)) (same_maybe refl refl))) (same_maybe (ap (λ t. given t) (same_slots (same_many refl (same_many (ap trees (map_after _ _ _ (λ n. refl) n_value_body.value.statements.items)) refl)))) refl)))) refl))))))))))))) b.value
natural_class_element h (class_elements.PropertyDefinition b) = (property_definition_by_key (λ n. layer (map-Node Node Tree h (opened.ClassElement (class_elements.PropertyDefinition (record b { value = n })))) ≡ class_element_plain h (class_elements.PropertyDefinition (record b { value = n }))) (λ n_key. (property_definition_by_value _ (λ n. refl) (λ n_value. (λ n. refl)))) (λ n_key. (property_definition_by_value _ (λ n. refl) (λ n_value. (λ n. refl)))) (λ n_key. (property_definition_by_value _ (λ n. refl) (λ n_value. (λ n. refl))))) b.value

pub plain_expression : (n : Expression Node) → node_plain (nodes.Expression n) ≡ expression_plain node_plain n
plain_expression n = plain_out (nodes.Expression n) ∙ ap (λ o. layer (map-Node Node Tree node_plain o)) (outs-Expression n) ∙ natural_expression node_plain n

pub plain_assignment_target : (n : AssignmentTarget Node) → node_plain (nodes.AssignmentTarget n) ≡ assignment_target_plain node_plain n
plain_assignment_target n = plain_out (nodes.AssignmentTarget n) ∙ ap (λ o. layer (map-Node Node Tree node_plain o)) (outs-AssignmentTarget n) ∙ natural_assignment_target node_plain n

pub plain_declaration : (n : Declaration Node) → node_plain (nodes.Declaration n) ≡ declaration_plain node_plain n
plain_declaration n = plain_out (nodes.Declaration n) ∙ ap (λ o. layer (map-Node Node Tree node_plain o)) (outs-Declaration n) ∙ natural_declaration node_plain n

pub plain_statement : (n : Statement Node) → node_plain (nodes.Statement n) ≡ statement_plain node_plain n
plain_statement n = plain_out (nodes.Statement n) ∙ ap (λ o. layer (map-Node Node Tree node_plain o)) (outs-Statement n) ∙ natural_statement node_plain n

pub plain_binding_pattern : (n : BindingPattern Node) → node_plain (nodes.BindingPattern n) ≡ binding_pattern_plain node_plain n
plain_binding_pattern n = plain_out (nodes.BindingPattern n) ∙ ap (λ o. layer (map-Node Node Tree node_plain o)) (outs-BindingPattern n) ∙ natural_binding_pattern node_plain n

pub plain_class_element : (n : ClassElement Node) → node_plain (nodes.ClassElement n) ≡ class_element_plain node_plain n
plain_class_element n = plain_out (nodes.ClassElement n) ∙ ap (λ o. layer (map-Node Node Tree node_plain o)) (outs-ClassElement n) ∙ natural_class_element node_plain n

-- ---- spans

of_expression : (h : Node → Tree) (n : Expression Node) → expression_span n ≡ span_of (expression_plain h n)
of_expression h (expressions.IdentifierReference b) = refl
of_expression h (expressions.ThisExpression b) = refl
of_expression h (expressions.NullLiteral b) = refl
of_expression h (expressions.BooleanLiteral b) = refl
of_expression h (expressions.NumericLiteral b) = refl
of_expression h (expressions.BigIntLiteral b) = refl
of_expression h (expressions.StringLiteral b) = refl
of_expression h (expressions.RegExpLiteral b) = refl
of_expression h (expressions.BinaryExpression b) = refl
of_expression h (expressions.LogicalExpression b) = refl
of_expression h (expressions.ParenthesizedExpression b) = refl
of_expression h (expressions.StaticMemberExpression b) = refl
of_expression h (expressions.ComputedMemberExpression b) = refl
of_expression h (expressions.CallExpression b) = refl
of_expression h (expressions.ChainExpression b) = refl
of_expression h (expressions.ArrayExpression b) = refl
of_expression h (expressions.ObjectExpression b) = refl
of_expression h (expressions.UnaryExpression b) = refl
of_expression h (expressions.UpdateExpression b) = refl
of_expression h (expressions.NewExpression b) = refl
of_expression h (expressions.NewTarget b) = refl
of_expression h (expressions.Super b) = refl
of_expression h (expressions.ImportMeta b) = refl
of_expression h (expressions.ConditionalExpression b) = refl
of_expression h (expressions.SequenceExpression b) = refl
of_expression h (expressions.AssignmentExpression b) = refl
of_expression h (expressions.Function b) = refl
of_expression h (expressions.ArrowFunctionExpression b) = refl
of_expression h (expressions.Class b) = refl
of_expression h (expressions.PrivateFieldExpression b) = refl
of_expression h (expressions.PrivateInExpression b) = refl
of_expression h (expressions.AwaitExpression b) = refl
of_expression h (expressions.YieldExpression b) = refl
of_expression h (expressions.TemplateLiteral b) = refl
of_expression h (expressions.TaggedTemplateExpression b) = refl
of_expression h (expressions.ImportExpression b) = refl

pub expression_spans : (n : Expression Node) → expression_span n ≡ span_of (node_plain (nodes.Expression n))
expression_spans n = of_expression node_plain n ∙ ap span_of (sym (plain_expression n))

of_assignment_target : (h : Node → Tree) (n : AssignmentTarget Node) → assignment_target_span n ≡ span_of (assignment_target_plain h n)
of_assignment_target h (assignment_targets.IdentifierReference b) = refl
of_assignment_target h (assignment_targets.StaticMemberExpression b) = refl
of_assignment_target h (assignment_targets.ComputedMemberExpression b) = refl
of_assignment_target h (assignment_targets.PrivateFieldExpression b) = refl
of_assignment_target h (assignment_targets.ArrayAssignmentTarget b) = refl
of_assignment_target h (assignment_targets.ObjectAssignmentTarget b) = refl

pub assignment_target_spans : (n : AssignmentTarget Node) → assignment_target_span n ≡ span_of (node_plain (nodes.AssignmentTarget n))
assignment_target_spans n = of_assignment_target node_plain n ∙ ap span_of (sym (plain_assignment_target n))

of_declaration : (h : Node → Tree) (n : Declaration Node) → declaration_span n ≡ span_of (declaration_plain h n)
of_declaration h (declarations.VariableDeclaration b) = refl
of_declaration h (declarations.Function b) = refl
of_declaration h (declarations.Class b) = refl

pub declaration_spans : (n : Declaration Node) → declaration_span n ≡ span_of (node_plain (nodes.Declaration n))
declaration_spans n = of_declaration node_plain n ∙ ap span_of (sym (plain_declaration n))

of_statement : (h : Node → Tree) (n : Statement Node) → statement_span (λ n. span_of (h n)) n ≡ span_of (statement_plain h n)
of_statement h (statements.Declaration b) = refl
of_statement h (statements.ExpressionStatement b) = refl
of_statement h (statements.BlockStatement b) = refl
of_statement h (statements.IfStatement b) = refl
of_statement h (statements.EmptyStatement b) = refl
of_statement h (statements.ForStatement b) = refl
of_statement h (statements.ForInStatement b) = refl
of_statement h (statements.ForOfStatement b) = refl
of_statement h (statements.WhileStatement b) = refl
of_statement h (statements.DoWhileStatement b) = refl
of_statement h (statements.LabeledStatement b) = refl
of_statement h (statements.ContinueStatement b) = refl
of_statement h (statements.BreakStatement b) = refl
of_statement h (statements.ReturnStatement b) = refl
of_statement h (statements.ThrowStatement b) = refl
of_statement h (statements.DebuggerStatement b) = refl
of_statement h (statements.SwitchStatement b) = refl
of_statement h (statements.TryStatement b) = refl
of_statement h (statements.ImportDeclaration b) = refl
of_statement h (statements.ExportDeclaration b) = refl
of_statement h (statements.ExportNamedDeclaration b) = refl
of_statement h (statements.ExportFromDeclaration b) = refl
of_statement h (statements.ExportAllDeclaration b) = refl
of_statement h (statements.ExportDefaultDeclaration b) = refl

pub statement_spans : (n : Statement Node) → statement_span (λ n. span_of (node_plain n)) n ≡ span_of (node_plain (nodes.Statement n))
statement_spans n = of_statement node_plain n ∙ ap span_of (sym (plain_statement n))

of_binding_pattern : (h : Node → Tree) (n : BindingPattern Node) → binding_pattern_span n ≡ span_of (binding_pattern_plain h n)
of_binding_pattern h (binding_patterns.BindingIdentifier b) = refl
of_binding_pattern h (binding_patterns.ObjectPattern b) = refl
of_binding_pattern h (binding_patterns.ArrayPattern b) = refl
of_binding_pattern h (binding_patterns.AssignmentPattern b) = refl

pub binding_pattern_spans : (n : BindingPattern Node) → binding_pattern_span n ≡ span_of (node_plain (nodes.BindingPattern n))
binding_pattern_spans n = of_binding_pattern node_plain n ∙ ap span_of (sym (plain_binding_pattern n))

of_class_element : (h : Node → Tree) (n : ClassElement Node) → class_element_span n ≡ span_of (class_element_plain h n)
of_class_element h (class_elements.StaticBlock b) = refl
of_class_element h (class_elements.MethodDefinition b) = refl
of_class_element h (class_elements.PropertyDefinition b) = refl

pub class_element_spans : (n : ClassElement Node) → class_element_span n ≡ span_of (node_plain (nodes.ClassElement n))
class_element_spans n = of_class_element node_plain n ∙ ap span_of (sym (plain_class_element n))
