-- Generated from tools/nodes/table.txt; edit that and run tools/nodes/generate.
-- The plain data of each struct and set, from that of what nests.
use Rattle.std.specs.Prelude.{[], ◌∷◌, map, option_map}
use Rattle.jsgen_syntax.specs.Units.{js_units}
use Rattle.jsgen_tree.specs.Characters.{characters, number_if_given, units_if_given, numeric_values}
use Rattle.jsgen_tree.specs.Tree.{Tree, optional, optional_list, trees, holed}
use Rattle.jsgen_tree.specs.Atom.{no_value, text, units, number, flag, kind_of_comment, content_of_comment, source_kind, declaration_kind, binary_operator, logical_operator, property_kind, unary_operator, update_operator, assignment_operator, kind_of_function, class_form, kind_of_method, kind_of_import, with_keyword}
use Rattle.jsgen_tree.specs.Nodes.{program, comment, directive, variable_declaration, variable_declarator, binding_identifier, expression_statement, block, if_statement, empty_statement, identifier_reference, this_expression, null_literal, boolean_literal, numeric_literal, big_int_literal, string_literal, reg_exp_literal, parenthesized, binary, logical, identifier_name, static_member, computed_member, call, chain, spread, array, object_property, object_expression, unary, new_target, update, new_expression, super, import_meta, conditional, sequence, assignment, formal_parameter, formal_parameter_rest, formal_parameters, function, function_body, arrow_function, await_expression, yield_expression, template_element, template_literal, tagged_template, import_call, for_statement, for_in_statement, for_of_statement, while_statement, do_while_statement, label_identifier, labeled_statement, continue_statement, break_statement, return_statement, throw_statement, debugger_statement, switch_statement, switch_case, try_statement, catch_clause, object_pattern, binding_property, binding_rest_element, array_pattern, assignment_pattern, array_target, object_target, target_with_default, target_property_identifier, target_property, target_rest, private_identifier, private_member, private_in, class, class_body, static_block, method_definition, property_definition, hashbang, import_declaration, import_default_specifier, import_namespace_specifier, import_specifier, with_clause, import_attribute, export_declaration, export_named_declaration, export_from_declaration, export_specifier, export_all_declaration, export_default_declaration}
use Rattle.jsgen_tree.specs.declared.nodes.ExpressionNode.{ExpressionNode}
use Rattle.jsgen_tree.specs.declared.nodes.AssignmentTargetNode.{AssignmentTargetNode}
use Rattle.jsgen_tree.specs.declared.nodes.DeclarationNode.{DeclarationNode}
use Rattle.jsgen_tree.specs.declared.nodes.StatementNode.{StatementNode}
use Rattle.jsgen_tree.specs.declared.nodes.BindingPatternNode.{BindingPatternNode}
use Rattle.jsgen_tree.specs.declared.nodes.ClassElementNode.{ClassElementNode}
use Rattle.jsgen_tree.specs.declared.statements.Program.{Program}
use Rattle.jsgen_tree.specs.declared.statements.Comment.{Comment}
use Rattle.jsgen_tree.specs.declared.statements.Directive.{Directive}
use Rattle.jsgen_tree.specs.declared.statements.VariableDeclaration.{VariableDeclaration}
use Rattle.jsgen_tree.specs.declared.statements.VariableDeclarator.{VariableDeclarator}
use Rattle.jsgen_tree.specs.declared.statements.BindingIdentifier.{BindingIdentifier}
use Rattle.jsgen_tree.specs.declared.statements.ExpressionStatement.{ExpressionStatement}
use Rattle.jsgen_tree.specs.declared.statements.BlockStatement.{BlockStatement}
use Rattle.jsgen_tree.specs.declared.statements.IfStatement.{IfStatement}
use Rattle.jsgen_tree.specs.declared.statements.EmptyStatement.{EmptyStatement}
use Rattle.jsgen_tree.specs.declared.expressions.IdentifierReference.{IdentifierReference}
use Rattle.jsgen_tree.specs.declared.expressions.ThisExpression.{ThisExpression}
use Rattle.jsgen_tree.specs.declared.expressions.NullLiteral.{NullLiteral}
use Rattle.jsgen_tree.specs.declared.expressions.BooleanLiteral.{BooleanLiteral}
use Rattle.jsgen_tree.specs.declared.expressions.NumericLiteral.{NumericLiteral}
use Rattle.jsgen_tree.specs.declared.expressions.BigIntLiteral.{BigIntLiteral}
use Rattle.jsgen_tree.specs.declared.expressions.StringLiteral.{StringLiteral}
use Rattle.jsgen_tree.specs.declared.expressions.RegExpLiteral.{RegExpLiteral}
use Rattle.jsgen_tree.specs.declared.expressions.ParenthesizedExpression.{ParenthesizedExpression}
use Rattle.jsgen_tree.specs.declared.expressions.BinaryExpression.{BinaryExpression}
use Rattle.jsgen_tree.specs.declared.expressions.LogicalExpression.{LogicalExpression}
use Rattle.jsgen_tree.specs.declared.expressions.IdentifierName.{IdentifierName}
use Rattle.jsgen_tree.specs.declared.expressions.StaticMemberExpression.{StaticMemberExpression}
use Rattle.jsgen_tree.specs.declared.expressions.ComputedMemberExpression.{ComputedMemberExpression}
use Rattle.jsgen_tree.specs.declared.expressions.CallExpression.{CallExpression}
use Rattle.jsgen_tree.specs.declared.expressions.ChainExpression.{ChainExpression}
use Rattle.jsgen_tree.specs.declared.collections.SpreadElement.{SpreadElement}
use Rattle.jsgen_tree.specs.declared.collections.ArrayExpression.{ArrayExpression}
use Rattle.jsgen_tree.specs.declared.collections.ObjectProperty.{ObjectProperty}
use Rattle.jsgen_tree.specs.declared.collections.ObjectExpression.{ObjectExpression}
use Rattle.jsgen_tree.specs.declared.operations.UnaryExpression.{UnaryExpression}
use Rattle.jsgen_tree.specs.declared.operations.NewTarget.{NewTarget}
use Rattle.jsgen_tree.specs.declared.operations.UpdateExpression.{UpdateExpression}
use Rattle.jsgen_tree.specs.declared.operations.NewExpression.{NewExpression}
use Rattle.jsgen_tree.specs.declared.operations.Super.{Super}
use Rattle.jsgen_tree.specs.declared.operations.ImportMeta.{ImportMeta}
use Rattle.jsgen_tree.specs.declared.assignments.ConditionalExpression.{ConditionalExpression}
use Rattle.jsgen_tree.specs.declared.assignments.SequenceExpression.{SequenceExpression}
use Rattle.jsgen_tree.specs.declared.assignments.AssignmentExpression.{AssignmentExpression}
use Rattle.jsgen_tree.specs.declared.functions.FormalParameter.{FormalParameter}
use Rattle.jsgen_tree.specs.declared.functions.FormalParameterRest.{FormalParameterRest}
use Rattle.jsgen_tree.specs.declared.functions.FormalParameters.{FormalParameters}
use Rattle.jsgen_tree.specs.declared.functions.Function.{Function}
use Rattle.jsgen_tree.specs.declared.functions.FunctionBody.{FunctionBody}
use Rattle.jsgen_tree.specs.declared.functions.ArrowFunctionExpression.{ArrowFunctionExpression}
use Rattle.jsgen_tree.specs.declared.functions.AwaitExpression.{AwaitExpression}
use Rattle.jsgen_tree.specs.declared.functions.YieldExpression.{YieldExpression}
use Rattle.jsgen_tree.specs.declared.templates.TemplateElement.{TemplateElement}
use Rattle.jsgen_tree.specs.declared.templates.TemplateLiteral.{TemplateLiteral}
use Rattle.jsgen_tree.specs.declared.templates.TaggedTemplateExpression.{TaggedTemplateExpression}
use Rattle.jsgen_tree.specs.declared.templates.ImportExpression.{ImportExpression}
use Rattle.jsgen_tree.specs.declared.loops.ForStatement.{ForStatement}
use Rattle.jsgen_tree.specs.declared.loops.ForInStatement.{ForInStatement}
use Rattle.jsgen_tree.specs.declared.loops.ForOfStatement.{ForOfStatement}
use Rattle.jsgen_tree.specs.declared.loops.WhileStatement.{WhileStatement}
use Rattle.jsgen_tree.specs.declared.loops.DoWhileStatement.{DoWhileStatement}
use Rattle.jsgen_tree.specs.declared.loops.LabelIdentifier.{LabelIdentifier}
use Rattle.jsgen_tree.specs.declared.loops.LabeledStatement.{LabeledStatement}
use Rattle.jsgen_tree.specs.declared.loops.ContinueStatement.{ContinueStatement}
use Rattle.jsgen_tree.specs.declared.loops.BreakStatement.{BreakStatement}
use Rattle.jsgen_tree.specs.declared.loops.ReturnStatement.{ReturnStatement}
use Rattle.jsgen_tree.specs.declared.loops.ThrowStatement.{ThrowStatement}
use Rattle.jsgen_tree.specs.declared.loops.DebuggerStatement.{DebuggerStatement}
use Rattle.jsgen_tree.specs.declared.choices.SwitchStatement.{SwitchStatement}
use Rattle.jsgen_tree.specs.declared.choices.SwitchCase.{SwitchCase}
use Rattle.jsgen_tree.specs.declared.choices.TryStatement.{TryStatement}
use Rattle.jsgen_tree.specs.declared.choices.CatchClause.{CatchClause}
use Rattle.jsgen_tree.specs.declared.patterns.ObjectPattern.{ObjectPattern}
use Rattle.jsgen_tree.specs.declared.patterns.BindingProperty.{BindingProperty}
use Rattle.jsgen_tree.specs.declared.patterns.BindingRestElement.{BindingRestElement}
use Rattle.jsgen_tree.specs.declared.patterns.ArrayPattern.{ArrayPattern}
use Rattle.jsgen_tree.specs.declared.patterns.AssignmentPattern.{AssignmentPattern}
use Rattle.jsgen_tree.specs.declared.targets.ArrayAssignmentTarget.{ArrayAssignmentTarget}
use Rattle.jsgen_tree.specs.declared.targets.ObjectAssignmentTarget.{ObjectAssignmentTarget}
use Rattle.jsgen_tree.specs.declared.targets.AssignmentTargetWithDefault.{AssignmentTargetWithDefault}
use Rattle.jsgen_tree.specs.declared.targets.AssignmentTargetPropertyIdentifier.{AssignmentTargetPropertyIdentifier}
use Rattle.jsgen_tree.specs.declared.targets.AssignmentTargetPropertyProperty.{AssignmentTargetPropertyProperty}
use Rattle.jsgen_tree.specs.declared.targets.AssignmentTargetRest.{AssignmentTargetRest}
use Rattle.jsgen_tree.specs.declared.classes.PrivateIdentifier.{PrivateIdentifier}
use Rattle.jsgen_tree.specs.declared.classes.PrivateFieldExpression.{PrivateFieldExpression}
use Rattle.jsgen_tree.specs.declared.classes.PrivateInExpression.{PrivateInExpression}
use Rattle.jsgen_tree.specs.declared.classes.Class.{Class}
use Rattle.jsgen_tree.specs.declared.classes.ClassBody.{ClassBody}
use Rattle.jsgen_tree.specs.declared.classes.StaticBlock.{StaticBlock}
use Rattle.jsgen_tree.specs.declared.classes.MethodDefinition.{MethodDefinition}
use Rattle.jsgen_tree.specs.declared.classes.PropertyDefinition.{PropertyDefinition}
use Rattle.jsgen_tree.specs.declared.modules.Hashbang.{Hashbang}
use Rattle.jsgen_tree.specs.declared.modules.ImportDeclaration.{ImportDeclaration}
use Rattle.jsgen_tree.specs.declared.modules.ImportDefaultSpecifier.{ImportDefaultSpecifier}
use Rattle.jsgen_tree.specs.declared.modules.ImportNamespaceSpecifier.{ImportNamespaceSpecifier}
use Rattle.jsgen_tree.specs.declared.modules.ImportSpecifier.{ImportSpecifier}
use Rattle.jsgen_tree.specs.declared.modules.WithClause.{WithClause}
use Rattle.jsgen_tree.specs.declared.modules.ImportAttribute.{ImportAttribute}
use Rattle.jsgen_tree.specs.declared.modules.ExportDeclaration.{ExportDeclaration}
use Rattle.jsgen_tree.specs.declared.modules.ExportNamedDeclaration.{ExportNamedDeclaration}
use Rattle.jsgen_tree.specs.declared.modules.ExportFromDeclaration.{ExportFromDeclaration}
use Rattle.jsgen_tree.specs.declared.modules.ExportSpecifier.{ExportSpecifier}
use Rattle.jsgen_tree.specs.declared.modules.ExportAllDeclaration.{ExportAllDeclaration}
use Rattle.jsgen_tree.specs.declared.modules.ExportDefaultDeclaration.{ExportDefaultDeclaration}
use Rattle.jsgen_tree.specs.declared.sets.Expression.{Expression}
use Rattle.jsgen_tree.specs.declared.sets.Argument.{Argument}
use Rattle.jsgen_tree.specs.declared.sets.ArrayExpressionElement.{ArrayExpressionElement}
use Rattle.jsgen_tree.specs.declared.sets.ChainElement.{ChainElement}
use Rattle.jsgen_tree.specs.declared.sets.MemberExpression.{MemberExpression}
use Rattle.jsgen_tree.specs.declared.sets.SimpleAssignmentTarget.{SimpleAssignmentTarget}
use Rattle.jsgen_tree.specs.declared.sets.AssignmentTargetPattern.{AssignmentTargetPattern}
use Rattle.jsgen_tree.specs.declared.sets.AssignmentTarget.{AssignmentTarget}
use Rattle.jsgen_tree.specs.declared.sets.AssignmentTargetMaybeDefault.{AssignmentTargetMaybeDefault}
use Rattle.jsgen_tree.specs.declared.sets.AssignmentTargetProperty.{AssignmentTargetProperty}
use Rattle.jsgen_tree.specs.declared.sets.ArrowFunctionBody.{ArrowFunctionBody}
use Rattle.jsgen_tree.specs.declared.sets.ForStatementInit.{ForStatementInit}
use Rattle.jsgen_tree.specs.declared.sets.ForStatementLeft.{ForStatementLeft}
use Rattle.jsgen_tree.specs.declared.sets.ObjectPropertyKind.{ObjectPropertyKind}
use Rattle.jsgen_tree.specs.declared.sets.PropertyKey.{PropertyKey}
use Rattle.jsgen_tree.specs.declared.sets.Declaration.{Declaration}
use Rattle.jsgen_tree.specs.declared.sets.Statement.{Statement}
use Rattle.jsgen_tree.specs.declared.sets.BindingPattern.{BindingPattern}
use Rattle.jsgen_tree.specs.declared.sets.ClassElement.{ClassElement}
use Rattle.jsgen_tree.specs.declared.sets.ModuleExportName.{ModuleExportName}
use Rattle.jsgen_tree.specs.declared.sets.ImportDeclarationSpecifier.{ImportDeclarationSpecifier}
use Rattle.jsgen_tree.specs.declared.sets.ImportAttributeKey.{ImportAttributeKey}
use Rattle.jsgen_tree.specs.declared.sets.ExportDefaultDeclarationKind.{ExportDefaultDeclarationKind}
use Rattle.jsgen_tree.specs.declared.sets.Expression.TheVariants as expression
use Rattle.jsgen_tree.specs.declared.sets.Argument.TheVariants as argument
use Rattle.jsgen_tree.specs.declared.sets.ArrayExpressionElement.TheVariants as array_expression_element
use Rattle.jsgen_tree.specs.declared.sets.ChainElement.TheVariants as chain_element
use Rattle.jsgen_tree.specs.declared.sets.MemberExpression.TheVariants as member_expression
use Rattle.jsgen_tree.specs.declared.sets.SimpleAssignmentTarget.TheVariants as simple_assignment_target
use Rattle.jsgen_tree.specs.declared.sets.AssignmentTargetPattern.TheVariants as assignment_target_pattern
use Rattle.jsgen_tree.specs.declared.sets.AssignmentTarget.TheVariants as assignment_target
use Rattle.jsgen_tree.specs.declared.sets.AssignmentTargetMaybeDefault.TheVariants as assignment_target_maybe_default
use Rattle.jsgen_tree.specs.declared.sets.AssignmentTargetProperty.TheVariants as assignment_target_property
use Rattle.jsgen_tree.specs.declared.sets.ArrowFunctionBody.TheVariants as arrow_function_body
use Rattle.jsgen_tree.specs.declared.sets.ForStatementInit.TheVariants as for_statement_init
use Rattle.jsgen_tree.specs.declared.sets.ForStatementLeft.TheVariants as for_statement_left
use Rattle.jsgen_tree.specs.declared.sets.ObjectPropertyKind.TheVariants as object_property_kind
use Rattle.jsgen_tree.specs.declared.sets.PropertyKey.TheVariants as property_key
use Rattle.jsgen_tree.specs.declared.sets.Declaration.TheVariants as declaration
use Rattle.jsgen_tree.specs.declared.sets.Statement.TheVariants as statement
use Rattle.jsgen_tree.specs.declared.sets.BindingPattern.TheVariants as binding_pattern
use Rattle.jsgen_tree.specs.declared.sets.ClassElement.TheVariants as class_element
use Rattle.jsgen_tree.specs.declared.sets.ModuleExportName.TheVariants as module_export_name
use Rattle.jsgen_tree.specs.declared.sets.ImportDeclarationSpecifier.TheVariants as import_declaration_specifier
use Rattle.jsgen_tree.specs.declared.sets.ImportAttributeKey.TheVariants as import_attribute_key
use Rattle.jsgen_tree.specs.declared.sets.ExportDefaultDeclarationKind.TheVariants as export_default_declaration_kind

-- ---- children that nest

abbrev pub in_expression : {N : Type 0} → (N → Tree) → ExpressionNode N → Tree
in_expression plain n = plain n.node

abbrev pub in_assignment_target : {N : Type 0} → (N → Tree) → AssignmentTargetNode N → Tree
in_assignment_target plain n = plain n.node

abbrev pub in_declaration : {N : Type 0} → (N → Tree) → DeclarationNode N → Tree
in_declaration plain n = plain n.node

abbrev pub in_statement : {N : Type 0} → (N → Tree) → StatementNode N → Tree
in_statement plain n = plain n.node

abbrev pub in_binding_pattern : {N : Type 0} → (N → Tree) → BindingPatternNode N → Tree
in_binding_pattern plain n = plain n.node

abbrev pub in_class_element : {N : Type 0} → (N → Tree) → ClassElementNode N → Tree
in_class_element plain n = plain n.node

-- ---- structs, and sets that don't nest

abbrev pub comment_row : Comment → Tree
comment_row n = comment (record { span = n.span; values = kind_of_comment n.kind ∷ content_of_comment n.content ∷ flag n.leading ∷ number n.attached_to ∷ flag n.preceded_by_newline ∷ flag n.followed_by_newline ∷ [] })

abbrev pub hashbang_row : Hashbang → Tree
hashbang_row n = hashbang (record { span = n.span; values = text (characters n.value) ∷ [] })

abbrev pub directive_row : Directive → Tree
directive_row n = directive (record { span = n.span; values = text (characters n.directive) ∷ [] })

abbrev pub program_row : {N : Type 0} → (N → Tree) → Program N → Tree
program_row plain n = program (record { span = n.span; values = text (characters n.source) ∷ source_kind n.kind ∷ no_value ∷ no_value ∷ [] }) (trees (map comment_row n.comments.items)) (optional (option_map (λ b. hashbang_row b.value) n.hashbang)) (trees (map directive_row n.directives.items)) (trees (map (in_statement plain) n.body.items))

abbrev pub variable_declarator_row : {N : Type 0} → (N → Tree) → VariableDeclarator N → Tree
variable_declarator_row plain n = variable_declarator (record { span = n.span; values = no_value ∷ [] }) (in_binding_pattern plain n.id) (optional (option_map (in_expression plain) n.init))

abbrev pub variable_declaration_row : {N : Type 0} → (N → Tree) → VariableDeclaration N → Tree
variable_declaration_row plain n = variable_declaration (record { span = n.span; values = declaration_kind n.kind ∷ no_value ∷ [] }) (trees (map (variable_declarator_row plain) n.declarations.items))

abbrev pub binding_identifier_row : BindingIdentifier → Tree
binding_identifier_row n = binding_identifier (record { span = n.span; values = text (characters n.name) ∷ number_if_given n.symbol ∷ [] })

abbrev pub expression_statement_row : {N : Type 0} → (N → Tree) → ExpressionStatement N → Tree
expression_statement_row plain n = expression_statement (record { span = n.span; values = [] }) (in_expression plain n.expression)

abbrev pub block_statement_row : {N : Type 0} → (N → Tree) → BlockStatement N → Tree
block_statement_row plain n = block (record { span = n.span; values = [] }) (trees (map (in_statement plain) n.body.items))

abbrev pub if_statement_row : {N : Type 0} → (N → Tree) → IfStatement N → Tree
if_statement_row plain n = if_statement (record { span = n.span; values = [] }) (in_expression plain n.test) (in_statement plain n.consequent) (optional (option_map (in_statement plain) n.alternate))

abbrev pub empty_statement_row : EmptyStatement → Tree
empty_statement_row n = empty_statement (record { span = n.span; values = [] })

abbrev pub identifier_reference_row : IdentifierReference → Tree
identifier_reference_row n = identifier_reference (record { span = n.span; values = text (characters n.name) ∷ number_if_given n.reference ∷ [] })

abbrev pub this_expression_row : ThisExpression → Tree
this_expression_row n = this_expression (record { span = n.span; values = [] })

abbrev pub null_literal_row : NullLiteral → Tree
null_literal_row n = null_literal (record { span = n.span; values = [] })

abbrev pub boolean_literal_row : BooleanLiteral → Tree
boolean_literal_row n = boolean_literal (record { span = n.span; values = flag n.value ∷ [] })

abbrev pub numeric_literal_row : NumericLiteral → Tree
numeric_literal_row n = numeric_literal (record { span = n.span; values = numeric_values n.value })

abbrev pub big_int_literal_row : BigIntLiteral → Tree
big_int_literal_row n = big_int_literal (record { span = n.span; values = text (characters n.value) ∷ [] })

abbrev pub string_literal_row : StringLiteral → Tree
string_literal_row n = string_literal (record { span = n.span; values = units (js_units n.value) ∷ [] })

abbrev pub reg_exp_literal_row : RegExpLiteral → Tree
reg_exp_literal_row n = reg_exp_literal (record { span = n.span; values = text (characters n.pattern) ∷ text (characters n.flags) ∷ [] })

abbrev pub parenthesized_expression_row : {N : Type 0} → (N → Tree) → ParenthesizedExpression N → Tree
parenthesized_expression_row plain n = parenthesized (record { span = n.span; values = [] }) (in_expression plain n.expression)

abbrev pub binary_expression_row : {N : Type 0} → (N → Tree) → BinaryExpression N → Tree
binary_expression_row plain n = binary (record { span = n.span; values = binary_operator n.operator ∷ [] }) (in_expression plain n.left) (in_expression plain n.right)

abbrev pub logical_expression_row : {N : Type 0} → (N → Tree) → LogicalExpression N → Tree
logical_expression_row plain n = logical (record { span = n.span; values = logical_operator n.operator ∷ [] }) (in_expression plain n.left) (in_expression plain n.right)

abbrev pub identifier_name_row : IdentifierName → Tree
identifier_name_row n = identifier_name (record { span = n.span; values = text (characters n.name) ∷ [] })

abbrev pub static_member_expression_row : {N : Type 0} → (N → Tree) → StaticMemberExpression N → Tree
static_member_expression_row plain n = static_member (record { span = n.span; values = flag n.optional ∷ [] }) (in_expression plain n.object) (identifier_name_row n.property.value)

abbrev pub computed_member_expression_row : {N : Type 0} → (N → Tree) → ComputedMemberExpression N → Tree
computed_member_expression_row plain n = computed_member (record { span = n.span; values = flag n.optional ∷ [] }) (in_expression plain n.object) (in_expression plain n.expression)

abbrev pub spread_element_row : {N : Type 0} → (N → Tree) → SpreadElement N → Tree
spread_element_row plain n = spread (record { span = n.span; values = [] }) (in_expression plain n.argument)

abbrev pub in_argument : {N : Type 0} → (N → Tree) → Argument N → Tree
in_argument plain (argument.SpreadElement b) = spread_element_row plain b.value
in_argument plain (argument.Expression b) = in_expression plain b.value

abbrev pub call_expression_row : {N : Type 0} → (N → Tree) → CallExpression N → Tree
call_expression_row plain n = call (record { span = n.span; values = flag n.optional ∷ flag n.pure ∷ [] }) (in_expression plain n.callee) (trees (map (in_argument plain) n.arguments.items))

abbrev pub private_identifier_row : PrivateIdentifier → Tree
private_identifier_row n = private_identifier (record { span = n.span; values = text (characters n.name) ∷ [] })

abbrev pub private_field_expression_row : {N : Type 0} → (N → Tree) → PrivateFieldExpression N → Tree
private_field_expression_row plain n = private_member (record { span = n.span; values = flag n.optional ∷ [] }) (in_expression plain n.object) (private_identifier_row n.field.value)

abbrev pub in_chain_element : {N : Type 0} → (N → Tree) → ChainElement N → Tree
in_chain_element plain (chain_element.StaticMemberExpression b) = static_member_expression_row plain b.value
in_chain_element plain (chain_element.ComputedMemberExpression b) = computed_member_expression_row plain b.value
in_chain_element plain (chain_element.PrivateFieldExpression b) = private_field_expression_row plain b.value
in_chain_element plain (chain_element.CallExpression b) = call_expression_row plain b.value

abbrev pub chain_expression_row : {N : Type 0} → (N → Tree) → ChainExpression N → Tree
chain_expression_row plain n = chain (record { span = n.span; values = [] }) (in_chain_element plain n.expression)

abbrev pub in_array_expression_element : {N : Type 0} → (N → Tree) → ArrayExpressionElement N → Tree
in_array_expression_element plain (array_expression_element.SpreadElement b) = spread_element_row plain b.value
in_array_expression_element plain (array_expression_element.Expression b) = in_expression plain b.value

abbrev pub array_expression_row : {N : Type 0} → (N → Tree) → ArrayExpression N → Tree
array_expression_row plain n = array (record { span = n.span; values = [] }) (holed (map (option_map (in_array_expression_element plain)) n.elements.items))

abbrev pub in_property_key : {N : Type 0} → (N → Tree) → PropertyKey N → Tree
in_property_key plain (property_key.IdentifierName b) = identifier_name_row b.value
in_property_key plain (property_key.PrivateIdentifier b) = private_identifier_row b.value
in_property_key plain (property_key.Expression b) = in_expression plain b.value

abbrev pub object_property_row : {N : Type 0} → (N → Tree) → ObjectProperty N → Tree
object_property_row plain n = object_property (record { span = n.span; values = property_kind n.kind ∷ flag n.method ∷ flag n.shorthand ∷ flag n.computed ∷ [] }) (in_property_key plain n.key) (in_expression plain n.value)

abbrev pub in_object_property_kind : {N : Type 0} → (N → Tree) → ObjectPropertyKind N → Tree
in_object_property_kind plain (object_property_kind.ObjectProperty b) = object_property_row plain b.value
in_object_property_kind plain (object_property_kind.SpreadElement b) = spread_element_row plain b.value

abbrev pub object_expression_row : {N : Type 0} → (N → Tree) → ObjectExpression N → Tree
object_expression_row plain n = object_expression (record { span = n.span; values = [] }) (trees (map (in_object_property_kind plain) n.properties.items))

abbrev pub unary_expression_row : {N : Type 0} → (N → Tree) → UnaryExpression N → Tree
unary_expression_row plain n = unary (record { span = n.span; values = unary_operator n.operator ∷ [] }) (in_expression plain n.argument)

abbrev pub new_target_row : NewTarget → Tree
new_target_row n = new_target (record { span = n.span; values = [] })

abbrev pub in_simple_assignment_target : {N : Type 0} → (N → Tree) → SimpleAssignmentTarget N → Tree
in_simple_assignment_target plain (simple_assignment_target.IdentifierReference b) = identifier_reference_row b.value
in_simple_assignment_target plain (simple_assignment_target.StaticMemberExpression b) = static_member_expression_row plain b.value
in_simple_assignment_target plain (simple_assignment_target.ComputedMemberExpression b) = computed_member_expression_row plain b.value
in_simple_assignment_target plain (simple_assignment_target.PrivateFieldExpression b) = private_field_expression_row plain b.value

abbrev pub update_expression_row : {N : Type 0} → (N → Tree) → UpdateExpression N → Tree
update_expression_row plain n = update (record { span = n.span; values = update_operator n.operator ∷ flag n.prefix ∷ [] }) (in_simple_assignment_target plain n.argument)

abbrev pub new_expression_row : {N : Type 0} → (N → Tree) → NewExpression N → Tree
new_expression_row plain n = new_expression (record { span = n.span; values = flag n.pure ∷ [] }) (in_expression plain n.callee) (trees (map (in_argument plain) n.arguments.items))

abbrev pub super_row : Super → Tree
super_row n = super (record { span = n.span; values = [] })

abbrev pub import_meta_row : ImportMeta → Tree
import_meta_row n = import_meta (record { span = n.span; values = [] })

abbrev pub conditional_expression_row : {N : Type 0} → (N → Tree) → ConditionalExpression N → Tree
conditional_expression_row plain n = conditional (record { span = n.span; values = [] }) (in_expression plain n.test) (in_expression plain n.consequent) (in_expression plain n.alternate)

abbrev pub sequence_expression_row : {N : Type 0} → (N → Tree) → SequenceExpression N → Tree
sequence_expression_row plain n = sequence (record { span = n.span; values = [] }) (trees (map (in_expression plain) n.expressions.items))

abbrev pub assignment_expression_row : {N : Type 0} → (N → Tree) → AssignmentExpression N → Tree
assignment_expression_row plain n = assignment (record { span = n.span; values = assignment_operator n.operator ∷ [] }) (in_assignment_target plain n.left) (in_expression plain n.right)

abbrev pub formal_parameter_row : {N : Type 0} → (N → Tree) → FormalParameter N → Tree
formal_parameter_row plain n = formal_parameter (record { span = n.span; values = no_value ∷ no_value ∷ no_value ∷ [] }) (in_binding_pattern plain n.pattern) (optional (option_map (in_expression plain) n.initializer))

abbrev pub formal_parameter_rest_row : {N : Type 0} → (N → Tree) → FormalParameterRest N → Tree
formal_parameter_rest_row plain n = formal_parameter_rest (record { span = n.span; values = [] }) (in_binding_pattern plain n.argument)

abbrev pub formal_parameters_row : {N : Type 0} → (N → Tree) → FormalParameters N → Tree
formal_parameters_row plain n = formal_parameters (record { span = n.span; values = [] }) (trees (map (formal_parameter_row plain) n.items.items)) (optional (option_map (λ b. formal_parameter_rest_row plain b.value) n.rest))

abbrev pub function_body_row : {N : Type 0} → (N → Tree) → FunctionBody N → Tree
function_body_row plain n = function_body (record { span = n.span; values = [] }) (trees (map directive_row n.directives.items)) (trees (map (in_statement plain) n.statements.items))

abbrev pub function_row : {N : Type 0} → (N → Tree) → Function N → Tree
function_row plain n = function (record { span = n.span; values = kind_of_function n.kind ∷ flag n.is_async ∷ flag n.generator ∷ no_value ∷ flag n.pure ∷ flag n.pife ∷ [] }) (optional (option_map (λ b. binding_identifier_row b.value) n.id)) (formal_parameters_row plain n.params.value) (optional (option_map (λ b. function_body_row plain b.value) n.body))

abbrev pub in_arrow_function_body : {N : Type 0} → (N → Tree) → ArrowFunctionBody N → Tree
in_arrow_function_body plain (arrow_function_body.FunctionBody b) = function_body_row plain b.value
in_arrow_function_body plain (arrow_function_body.Expression b) = in_expression plain b.value

abbrev pub arrow_function_expression_row : {N : Type 0} → (N → Tree) → ArrowFunctionExpression N → Tree
arrow_function_expression_row plain n = arrow_function (record { span = n.span; values = flag n.is_async ∷ flag n.pure ∷ flag n.pife ∷ [] }) (formal_parameters_row plain n.params.value) (in_arrow_function_body plain n.body)

abbrev pub await_expression_row : {N : Type 0} → (N → Tree) → AwaitExpression N → Tree
await_expression_row plain n = await_expression (record { span = n.span; values = [] }) (in_expression plain n.argument)

abbrev pub yield_expression_row : {N : Type 0} → (N → Tree) → YieldExpression N → Tree
yield_expression_row plain n = yield_expression (record { span = n.span; values = flag n.delegate ∷ [] }) (optional (option_map (in_expression plain) n.argument))

abbrev pub template_element_row : TemplateElement → Tree
template_element_row n = template_element (record { span = n.span; values = text (characters n.raw) ∷ units_if_given n.cooked ∷ [] })

abbrev pub template_literal_row : {N : Type 0} → (N → Tree) → TemplateLiteral N → Tree
template_literal_row plain n = template_literal (record { span = n.span; values = [] }) (trees (map template_element_row n.quasis.items)) (trees (map (in_expression plain) n.expressions.items))

abbrev pub tagged_template_expression_row : {N : Type 0} → (N → Tree) → TaggedTemplateExpression N → Tree
tagged_template_expression_row plain n = tagged_template (record { span = n.span; values = [] }) (in_expression plain n.tag) (template_literal_row plain n.quasi.value)

abbrev pub import_expression_row : {N : Type 0} → (N → Tree) → ImportExpression N → Tree
import_expression_row plain n = import_call (record { span = n.span; values = [] }) (in_expression plain n.source) (optional (option_map (in_expression plain) n.options))

abbrev pub in_for_statement_init : {N : Type 0} → (N → Tree) → ForStatementInit N → Tree
in_for_statement_init plain (for_statement_init.VariableDeclaration b) = variable_declaration_row plain b.value
in_for_statement_init plain (for_statement_init.Expression b) = in_expression plain b.value

abbrev pub for_statement_row : {N : Type 0} → (N → Tree) → ForStatement N → Tree
for_statement_row plain n = for_statement (record { span = n.span; values = [] }) (optional (option_map (in_for_statement_init plain) n.init)) (optional (option_map (in_expression plain) n.test)) (optional (option_map (in_expression plain) n.update)) (in_statement plain n.body)

abbrev pub in_for_statement_left : {N : Type 0} → (N → Tree) → ForStatementLeft N → Tree
in_for_statement_left plain (for_statement_left.VariableDeclaration b) = variable_declaration_row plain b.value
in_for_statement_left plain (for_statement_left.AssignmentTarget b) = in_assignment_target plain b.value

abbrev pub for_in_statement_row : {N : Type 0} → (N → Tree) → ForInStatement N → Tree
for_in_statement_row plain n = for_in_statement (record { span = n.span; values = [] }) (in_for_statement_left plain n.left) (in_expression plain n.right) (in_statement plain n.body)

abbrev pub for_of_statement_row : {N : Type 0} → (N → Tree) → ForOfStatement N → Tree
for_of_statement_row plain n = for_of_statement (record { span = n.span; values = flag n.is_await ∷ [] }) (in_for_statement_left plain n.left) (in_expression plain n.right) (in_statement plain n.body)

abbrev pub while_statement_row : {N : Type 0} → (N → Tree) → WhileStatement N → Tree
while_statement_row plain n = while_statement (record { span = n.span; values = [] }) (in_expression plain n.test) (in_statement plain n.body)

abbrev pub do_while_statement_row : {N : Type 0} → (N → Tree) → DoWhileStatement N → Tree
do_while_statement_row plain n = do_while_statement (record { span = n.span; values = [] }) (in_statement plain n.body) (in_expression plain n.test)

abbrev pub label_identifier_row : LabelIdentifier → Tree
label_identifier_row n = label_identifier (record { span = n.span; values = text (characters n.name) ∷ [] })

abbrev pub labeled_statement_row : {N : Type 0} → (N → Tree) → LabeledStatement N → Tree
labeled_statement_row plain n = labeled_statement (record { span = n.span; values = [] }) (label_identifier_row n.label.value) (in_statement plain n.body)

abbrev pub continue_statement_row : ContinueStatement → Tree
continue_statement_row n = continue_statement (record { span = n.span; values = [] }) (optional (option_map (λ b. label_identifier_row b.value) n.label))

abbrev pub break_statement_row : BreakStatement → Tree
break_statement_row n = break_statement (record { span = n.span; values = [] }) (optional (option_map (λ b. label_identifier_row b.value) n.label))

abbrev pub return_statement_row : {N : Type 0} → (N → Tree) → ReturnStatement N → Tree
return_statement_row plain n = return_statement (record { span = n.span; values = [] }) (optional (option_map (in_expression plain) n.argument))

abbrev pub throw_statement_row : {N : Type 0} → (N → Tree) → ThrowStatement N → Tree
throw_statement_row plain n = throw_statement (record { span = n.span; values = [] }) (in_expression plain n.argument)

abbrev pub debugger_statement_row : DebuggerStatement → Tree
debugger_statement_row n = debugger_statement (record { span = n.span; values = [] })

abbrev pub switch_case_row : {N : Type 0} → (N → Tree) → SwitchCase N → Tree
switch_case_row plain n = switch_case (record { span = n.span; values = [] }) (optional (option_map (in_expression plain) n.test)) (trees (map (in_statement plain) n.consequent.items))

abbrev pub switch_statement_row : {N : Type 0} → (N → Tree) → SwitchStatement N → Tree
switch_statement_row plain n = switch_statement (record { span = n.span; values = [] }) (in_expression plain n.discriminant) (trees (map (switch_case_row plain) n.cases.items))

abbrev pub catch_clause_row : {N : Type 0} → (N → Tree) → CatchClause N → Tree
catch_clause_row plain n = catch_clause (record { span = n.span; values = [] }) (optional (option_map (in_binding_pattern plain) n.param)) (block_statement_row plain n.body.value)

abbrev pub try_statement_row : {N : Type 0} → (N → Tree) → TryStatement N → Tree
try_statement_row plain n = try_statement (record { span = n.span; values = [] }) (block_statement_row plain n.block.value) (optional (option_map (λ b. catch_clause_row plain b.value) n.handler)) (optional (option_map (λ b. block_statement_row plain b.value) n.finalizer))

abbrev pub binding_property_row : {N : Type 0} → (N → Tree) → BindingProperty N → Tree
binding_property_row plain n = binding_property (record { span = n.span; values = flag n.computed ∷ [] }) (in_property_key plain n.key) (in_binding_pattern plain n.value)

abbrev pub binding_rest_element_row : {N : Type 0} → (N → Tree) → BindingRestElement N → Tree
binding_rest_element_row plain n = binding_rest_element (record { span = n.span; values = [] }) (in_binding_pattern plain n.argument)

abbrev pub object_pattern_row : {N : Type 0} → (N → Tree) → ObjectPattern N → Tree
object_pattern_row plain n = object_pattern (record { span = n.span; values = [] }) (trees (map (binding_property_row plain) n.properties.items)) (optional (option_map (λ b. binding_rest_element_row plain b.value) n.rest))

abbrev pub array_pattern_row : {N : Type 0} → (N → Tree) → ArrayPattern N → Tree
array_pattern_row plain n = array_pattern (record { span = n.span; values = [] }) (holed (map (option_map (in_binding_pattern plain)) n.elements.items)) (optional (option_map (λ b. binding_rest_element_row plain b.value) n.rest))

abbrev pub assignment_pattern_row : {N : Type 0} → (N → Tree) → AssignmentPattern N → Tree
assignment_pattern_row plain n = assignment_pattern (record { span = n.span; values = [] }) (in_binding_pattern plain n.left) (in_expression plain n.right)

abbrev pub assignment_target_with_default_row : {N : Type 0} → (N → Tree) → AssignmentTargetWithDefault N → Tree
assignment_target_with_default_row plain n = target_with_default (record { span = n.span; values = [] }) (in_assignment_target plain n.binding) (in_expression plain n.init)

abbrev pub in_assignment_target_maybe_default : {N : Type 0} → (N → Tree) → AssignmentTargetMaybeDefault N → Tree
in_assignment_target_maybe_default plain (assignment_target_maybe_default.AssignmentTarget b) = in_assignment_target plain b.value
in_assignment_target_maybe_default plain (assignment_target_maybe_default.AssignmentTargetWithDefault b) = assignment_target_with_default_row plain b.value

abbrev pub assignment_target_rest_row : {N : Type 0} → (N → Tree) → AssignmentTargetRest N → Tree
assignment_target_rest_row plain n = target_rest (record { span = n.span; values = [] }) (in_assignment_target plain n.target)

abbrev pub array_assignment_target_row : {N : Type 0} → (N → Tree) → ArrayAssignmentTarget N → Tree
array_assignment_target_row plain n = array_target (record { span = n.span; values = [] }) (holed (map (option_map (in_assignment_target_maybe_default plain)) n.elements.items)) (optional (option_map (λ b. assignment_target_rest_row plain b.value) n.rest))

abbrev pub assignment_target_property_identifier_row : {N : Type 0} → (N → Tree) → AssignmentTargetPropertyIdentifier N → Tree
assignment_target_property_identifier_row plain n = target_property_identifier (record { span = n.span; values = [] }) (identifier_reference_row n.binding.value) (optional (option_map (in_expression plain) n.init))

abbrev pub assignment_target_property_property_row : {N : Type 0} → (N → Tree) → AssignmentTargetPropertyProperty N → Tree
assignment_target_property_property_row plain n = target_property (record { span = n.span; values = flag n.computed ∷ [] }) (in_property_key plain n.name) (in_assignment_target_maybe_default plain n.binding)

abbrev pub in_assignment_target_property : {N : Type 0} → (N → Tree) → AssignmentTargetProperty N → Tree
in_assignment_target_property plain (assignment_target_property.AssignmentTargetPropertyIdentifier b) = assignment_target_property_identifier_row plain b.value
in_assignment_target_property plain (assignment_target_property.AssignmentTargetPropertyProperty b) = assignment_target_property_property_row plain b.value

abbrev pub object_assignment_target_row : {N : Type 0} → (N → Tree) → ObjectAssignmentTarget N → Tree
object_assignment_target_row plain n = object_target (record { span = n.span; values = [] }) (trees (map (in_assignment_target_property plain) n.properties.items)) (optional (option_map (λ b. assignment_target_rest_row plain b.value) n.rest))

abbrev pub private_in_expression_row : {N : Type 0} → (N → Tree) → PrivateInExpression N → Tree
private_in_expression_row plain n = private_in (record { span = n.span; values = [] }) (private_identifier_row n.left.value) (in_expression plain n.right)

abbrev pub class_body_row : {N : Type 0} → (N → Tree) → ClassBody N → Tree
class_body_row plain n = class_body (record { span = n.span; values = [] }) (trees (map (in_class_element plain) n.body.items))

abbrev pub class_row : {N : Type 0} → (N → Tree) → Class N → Tree
class_row plain n = class (record { span = n.span; values = class_form n.kind ∷ no_value ∷ no_value ∷ [] }) (optional (option_map (λ b. binding_identifier_row b.value) n.id)) (optional (option_map (in_expression plain) n.heritage)) (class_body_row plain n.body.value)

abbrev pub static_block_row : {N : Type 0} → (N → Tree) → StaticBlock N → Tree
static_block_row plain n = static_block (record { span = n.span; values = [] }) (trees (map (in_statement plain) n.body.items))

abbrev pub method_definition_row : {N : Type 0} → (N → Tree) → MethodDefinition N → Tree
method_definition_row plain n = method_definition (record { span = n.span; values = kind_of_method n.kind ∷ flag n.computed ∷ flag n.is_static ∷ no_value ∷ no_value ∷ no_value ∷ [] }) (in_property_key plain n.key) (function_row plain n.value.value)

abbrev pub property_definition_row : {N : Type 0} → (N → Tree) → PropertyDefinition N → Tree
property_definition_row plain n = property_definition (record { span = n.span; values = flag n.computed ∷ no_value ∷ no_value ∷ flag n.is_static ∷ no_value ∷ no_value ∷ no_value ∷ no_value ∷ [] }) (in_property_key plain n.key) (optional (option_map (in_expression plain) n.value))

abbrev pub import_default_specifier_row : ImportDefaultSpecifier → Tree
import_default_specifier_row n = import_default_specifier (record { span = n.span; values = [] }) (binding_identifier_row n.local.value)

abbrev pub import_namespace_specifier_row : ImportNamespaceSpecifier → Tree
import_namespace_specifier_row n = import_namespace_specifier (record { span = n.span; values = [] }) (binding_identifier_row n.local.value)

abbrev pub in_module_export_name : ModuleExportName → Tree
in_module_export_name (module_export_name.IdentifierName b) = identifier_name_row b.value
in_module_export_name (module_export_name.IdentifierReference b) = identifier_reference_row b.value
in_module_export_name (module_export_name.StringLiteral b) = string_literal_row b.value

abbrev pub import_specifier_row : ImportSpecifier → Tree
import_specifier_row n = import_specifier (record { span = n.span; values = kind_of_import n.import_kind ∷ [] }) (in_module_export_name n.imported) (binding_identifier_row n.local.value)

abbrev pub in_import_declaration_specifier : ImportDeclarationSpecifier → Tree
in_import_declaration_specifier (import_declaration_specifier.ImportDefaultSpecifier b) = import_default_specifier_row b.value
in_import_declaration_specifier (import_declaration_specifier.ImportNamespaceSpecifier b) = import_namespace_specifier_row b.value
in_import_declaration_specifier (import_declaration_specifier.ImportSpecifier b) = import_specifier_row b.value

abbrev pub in_import_attribute_key : ImportAttributeKey → Tree
in_import_attribute_key (import_attribute_key.IdentifierName b) = identifier_name_row b.value
in_import_attribute_key (import_attribute_key.StringLiteral b) = string_literal_row b.value

abbrev pub import_attribute_row : ImportAttribute → Tree
import_attribute_row n = import_attribute (record { span = n.span; values = [] }) (in_import_attribute_key n.key) (string_literal_row n.value.value)

abbrev pub with_clause_row : WithClause → Tree
with_clause_row n = with_clause (record { span = n.span; values = with_keyword n.keyword ∷ [] }) (trees (map import_attribute_row n.entries.items))

abbrev pub import_declaration_row : ImportDeclaration → Tree
import_declaration_row n = import_declaration (record { span = n.span; values = kind_of_import n.import_kind ∷ [] }) (optional_list (option_map (λ v. map in_import_declaration_specifier v.items) n.specifiers)) (string_literal_row n.source.value) (optional (option_map (λ b. with_clause_row b.value) n.with_clause))

abbrev pub export_declaration_row : {N : Type 0} → (N → Tree) → ExportDeclaration N → Tree
export_declaration_row plain n = export_declaration (record { span = n.span; values = [] }) (in_declaration plain n.declaration)

abbrev pub export_specifier_row : ExportSpecifier → Tree
export_specifier_row n = export_specifier (record { span = n.span; values = kind_of_import n.export_kind ∷ [] }) (in_module_export_name n.local) (in_module_export_name n.exported)

abbrev pub export_named_declaration_row : ExportNamedDeclaration → Tree
export_named_declaration_row n = export_named_declaration (record { span = n.span; values = kind_of_import n.export_kind ∷ [] }) (trees (map export_specifier_row n.specifiers.items))

abbrev pub export_from_declaration_row : ExportFromDeclaration → Tree
export_from_declaration_row n = export_from_declaration (record { span = n.span; values = kind_of_import n.export_kind ∷ [] }) (trees (map export_specifier_row n.specifiers.items)) (string_literal_row n.source.value) (optional (option_map (λ b. with_clause_row b.value) n.with_clause))

abbrev pub export_all_declaration_row : ExportAllDeclaration → Tree
export_all_declaration_row n = export_all_declaration (record { span = n.span; values = kind_of_import n.export_kind ∷ [] }) (optional (option_map in_module_export_name n.exported)) (string_literal_row n.source.value) (optional (option_map (λ b. with_clause_row b.value) n.with_clause))

abbrev pub in_export_default_declaration_kind : {N : Type 0} → (N → Tree) → ExportDefaultDeclarationKind N → Tree
in_export_default_declaration_kind plain (export_default_declaration_kind.Function b) = function_row plain b.value
in_export_default_declaration_kind plain (export_default_declaration_kind.Class b) = class_row plain b.value
in_export_default_declaration_kind plain (export_default_declaration_kind.Expression b) = in_expression plain b.value

abbrev pub export_default_declaration_row : {N : Type 0} → (N → Tree) → ExportDefaultDeclaration N → Tree
export_default_declaration_row plain n = export_default_declaration (record { span = n.span; values = [] }) (in_export_default_declaration_kind plain n.declaration)

abbrev pub in_member_expression : {N : Type 0} → (N → Tree) → MemberExpression N → Tree
in_member_expression plain (member_expression.StaticMemberExpression b) = static_member_expression_row plain b.value
in_member_expression plain (member_expression.ComputedMemberExpression b) = computed_member_expression_row plain b.value
in_member_expression plain (member_expression.PrivateFieldExpression b) = private_field_expression_row plain b.value

abbrev pub in_assignment_target_pattern : {N : Type 0} → (N → Tree) → AssignmentTargetPattern N → Tree
in_assignment_target_pattern plain (assignment_target_pattern.ArrayAssignmentTarget b) = array_assignment_target_row plain b.value
in_assignment_target_pattern plain (assignment_target_pattern.ObjectAssignmentTarget b) = object_assignment_target_row plain b.value

-- ---- sets that nest

abbrev pub expression_plain : {N : Type 0} → (N → Tree) → Expression N → Tree
expression_plain plain (expression.IdentifierReference b) = identifier_reference_row b.value
expression_plain plain (expression.ThisExpression b) = this_expression_row b.value
expression_plain plain (expression.NullLiteral b) = null_literal_row b.value
expression_plain plain (expression.BooleanLiteral b) = boolean_literal_row b.value
expression_plain plain (expression.NumericLiteral b) = numeric_literal_row b.value
expression_plain plain (expression.BigIntLiteral b) = big_int_literal_row b.value
expression_plain plain (expression.StringLiteral b) = string_literal_row b.value
expression_plain plain (expression.RegExpLiteral b) = reg_exp_literal_row b.value
expression_plain plain (expression.BinaryExpression b) = binary_expression_row plain b.value
expression_plain plain (expression.LogicalExpression b) = logical_expression_row plain b.value
expression_plain plain (expression.ParenthesizedExpression b) = parenthesized_expression_row plain b.value
expression_plain plain (expression.StaticMemberExpression b) = static_member_expression_row plain b.value
expression_plain plain (expression.ComputedMemberExpression b) = computed_member_expression_row plain b.value
expression_plain plain (expression.CallExpression b) = call_expression_row plain b.value
expression_plain plain (expression.ChainExpression b) = chain_expression_row plain b.value
expression_plain plain (expression.ArrayExpression b) = array_expression_row plain b.value
expression_plain plain (expression.ObjectExpression b) = object_expression_row plain b.value
expression_plain plain (expression.UnaryExpression b) = unary_expression_row plain b.value
expression_plain plain (expression.UpdateExpression b) = update_expression_row plain b.value
expression_plain plain (expression.NewExpression b) = new_expression_row plain b.value
expression_plain plain (expression.NewTarget b) = new_target_row b.value
expression_plain plain (expression.Super b) = super_row b.value
expression_plain plain (expression.ImportMeta b) = import_meta_row b.value
expression_plain plain (expression.ConditionalExpression b) = conditional_expression_row plain b.value
expression_plain plain (expression.SequenceExpression b) = sequence_expression_row plain b.value
expression_plain plain (expression.AssignmentExpression b) = assignment_expression_row plain b.value
expression_plain plain (expression.Function b) = function_row plain b.value
expression_plain plain (expression.ArrowFunctionExpression b) = arrow_function_expression_row plain b.value
expression_plain plain (expression.Class b) = class_row plain b.value
expression_plain plain (expression.PrivateFieldExpression b) = private_field_expression_row plain b.value
expression_plain plain (expression.PrivateInExpression b) = private_in_expression_row plain b.value
expression_plain plain (expression.AwaitExpression b) = await_expression_row plain b.value
expression_plain plain (expression.YieldExpression b) = yield_expression_row plain b.value
expression_plain plain (expression.TemplateLiteral b) = template_literal_row plain b.value
expression_plain plain (expression.TaggedTemplateExpression b) = tagged_template_expression_row plain b.value
expression_plain plain (expression.ImportExpression b) = import_expression_row plain b.value

abbrev pub assignment_target_plain : {N : Type 0} → (N → Tree) → AssignmentTarget N → Tree
assignment_target_plain plain (assignment_target.IdentifierReference b) = identifier_reference_row b.value
assignment_target_plain plain (assignment_target.StaticMemberExpression b) = static_member_expression_row plain b.value
assignment_target_plain plain (assignment_target.ComputedMemberExpression b) = computed_member_expression_row plain b.value
assignment_target_plain plain (assignment_target.PrivateFieldExpression b) = private_field_expression_row plain b.value
assignment_target_plain plain (assignment_target.ArrayAssignmentTarget b) = array_assignment_target_row plain b.value
assignment_target_plain plain (assignment_target.ObjectAssignmentTarget b) = object_assignment_target_row plain b.value

abbrev pub declaration_plain : {N : Type 0} → (N → Tree) → Declaration N → Tree
declaration_plain plain (declaration.VariableDeclaration b) = variable_declaration_row plain b.value
declaration_plain plain (declaration.Function b) = function_row plain b.value
declaration_plain plain (declaration.Class b) = class_row plain b.value

abbrev pub statement_plain : {N : Type 0} → (N → Tree) → Statement N → Tree
statement_plain plain (statement.Declaration b) = in_declaration plain b.value
statement_plain plain (statement.ExpressionStatement b) = expression_statement_row plain b.value
statement_plain plain (statement.BlockStatement b) = block_statement_row plain b.value
statement_plain plain (statement.IfStatement b) = if_statement_row plain b.value
statement_plain plain (statement.EmptyStatement b) = empty_statement_row b.value
statement_plain plain (statement.ForStatement b) = for_statement_row plain b.value
statement_plain plain (statement.ForInStatement b) = for_in_statement_row plain b.value
statement_plain plain (statement.ForOfStatement b) = for_of_statement_row plain b.value
statement_plain plain (statement.WhileStatement b) = while_statement_row plain b.value
statement_plain plain (statement.DoWhileStatement b) = do_while_statement_row plain b.value
statement_plain plain (statement.LabeledStatement b) = labeled_statement_row plain b.value
statement_plain plain (statement.ContinueStatement b) = continue_statement_row b.value
statement_plain plain (statement.BreakStatement b) = break_statement_row b.value
statement_plain plain (statement.ReturnStatement b) = return_statement_row plain b.value
statement_plain plain (statement.ThrowStatement b) = throw_statement_row plain b.value
statement_plain plain (statement.DebuggerStatement b) = debugger_statement_row b.value
statement_plain plain (statement.SwitchStatement b) = switch_statement_row plain b.value
statement_plain plain (statement.TryStatement b) = try_statement_row plain b.value
statement_plain plain (statement.ImportDeclaration b) = import_declaration_row b.value
statement_plain plain (statement.ExportDeclaration b) = export_declaration_row plain b.value
statement_plain plain (statement.ExportNamedDeclaration b) = export_named_declaration_row b.value
statement_plain plain (statement.ExportFromDeclaration b) = export_from_declaration_row b.value
statement_plain plain (statement.ExportAllDeclaration b) = export_all_declaration_row b.value
statement_plain plain (statement.ExportDefaultDeclaration b) = export_default_declaration_row plain b.value

abbrev pub binding_pattern_plain : {N : Type 0} → (N → Tree) → BindingPattern N → Tree
binding_pattern_plain plain (binding_pattern.BindingIdentifier b) = binding_identifier_row b.value
binding_pattern_plain plain (binding_pattern.ObjectPattern b) = object_pattern_row plain b.value
binding_pattern_plain plain (binding_pattern.ArrayPattern b) = array_pattern_row plain b.value
binding_pattern_plain plain (binding_pattern.AssignmentPattern b) = assignment_pattern_row plain b.value

abbrev pub class_element_plain : {N : Type 0} → (N → Tree) → ClassElement N → Tree
class_element_plain plain (class_element.StaticBlock b) = static_block_row plain b.value
class_element_plain plain (class_element.MethodDefinition b) = method_definition_row plain b.value
class_element_plain plain (class_element.PropertyDefinition b) = property_definition_row plain b.value
