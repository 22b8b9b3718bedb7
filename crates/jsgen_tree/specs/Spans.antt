-- Generated from tools/nodes/table.txt; edit that and run tools/nodes/generate.
-- The span of a member of a set is the member's own.
use Rattle.jsgen_syntax.specs.declared.span.Span.{Span}
use Rattle.jsgen_tree.specs.declared.sets.Expression.{Expression}
use Rattle.jsgen_tree.specs.declared.sets.Argument.{Argument}
use Rattle.jsgen_tree.specs.declared.sets.ArrayExpressionElement.{ArrayExpressionElement}
use Rattle.jsgen_tree.specs.declared.sets.ChainElement.{ChainElement}
use Rattle.jsgen_tree.specs.declared.sets.MemberExpression.{MemberExpression}
use Rattle.jsgen_tree.specs.declared.sets.SimpleAssignmentTarget.{SimpleAssignmentTarget}
use Rattle.jsgen_tree.specs.declared.sets.AssignmentTargetPattern.{AssignmentTargetPattern}
use Rattle.jsgen_tree.specs.declared.sets.AssignmentTarget.{AssignmentTarget}
use Rattle.jsgen_tree.specs.declared.sets.AssignmentTargetMaybeDefault.{AssignmentTargetMaybeDefault}
use Rattle.jsgen_tree.specs.declared.sets.AssignmentTargetProperty.{AssignmentTargetProperty}
use Rattle.jsgen_tree.specs.declared.sets.ArrowFunctionBody.{ArrowFunctionBody}
use Rattle.jsgen_tree.specs.declared.sets.ForStatementInit.{ForStatementInit}
use Rattle.jsgen_tree.specs.declared.sets.ForStatementLeft.{ForStatementLeft}
use Rattle.jsgen_tree.specs.declared.sets.ObjectPropertyKind.{ObjectPropertyKind}
use Rattle.jsgen_tree.specs.declared.sets.PropertyKey.{PropertyKey}
use Rattle.jsgen_tree.specs.declared.sets.Declaration.{Declaration}
use Rattle.jsgen_tree.specs.declared.sets.Statement.{Statement}
use Rattle.jsgen_tree.specs.declared.sets.BindingPattern.{BindingPattern}
use Rattle.jsgen_tree.specs.declared.sets.ClassElement.{ClassElement}
use Rattle.jsgen_tree.specs.declared.sets.ModuleExportName.{ModuleExportName}
use Rattle.jsgen_tree.specs.declared.sets.ImportDeclarationSpecifier.{ImportDeclarationSpecifier}
use Rattle.jsgen_tree.specs.declared.sets.ImportAttributeKey.{ImportAttributeKey}
use Rattle.jsgen_tree.specs.declared.sets.ExportDefaultDeclarationKind.{ExportDefaultDeclarationKind}
use Rattle.jsgen_tree.specs.declared.sets.Expression.TheVariants as expression
use Rattle.jsgen_tree.specs.declared.sets.Argument.TheVariants as argument
use Rattle.jsgen_tree.specs.declared.sets.ArrayExpressionElement.TheVariants as array_expression_element
use Rattle.jsgen_tree.specs.declared.sets.ChainElement.TheVariants as chain_element
use Rattle.jsgen_tree.specs.declared.sets.MemberExpression.TheVariants as member_expression
use Rattle.jsgen_tree.specs.declared.sets.SimpleAssignmentTarget.TheVariants as simple_assignment_target
use Rattle.jsgen_tree.specs.declared.sets.AssignmentTargetPattern.TheVariants as assignment_target_pattern
use Rattle.jsgen_tree.specs.declared.sets.AssignmentTarget.TheVariants as assignment_target
use Rattle.jsgen_tree.specs.declared.sets.AssignmentTargetMaybeDefault.TheVariants as assignment_target_maybe_default
use Rattle.jsgen_tree.specs.declared.sets.AssignmentTargetProperty.TheVariants as assignment_target_property
use Rattle.jsgen_tree.specs.declared.sets.ArrowFunctionBody.TheVariants as arrow_function_body
use Rattle.jsgen_tree.specs.declared.sets.ForStatementInit.TheVariants as for_statement_init
use Rattle.jsgen_tree.specs.declared.sets.ForStatementLeft.TheVariants as for_statement_left
use Rattle.jsgen_tree.specs.declared.sets.ObjectPropertyKind.TheVariants as object_property_kind
use Rattle.jsgen_tree.specs.declared.sets.PropertyKey.TheVariants as property_key
use Rattle.jsgen_tree.specs.declared.sets.Declaration.TheVariants as declaration
use Rattle.jsgen_tree.specs.declared.sets.Statement.TheVariants as statement
use Rattle.jsgen_tree.specs.declared.sets.BindingPattern.TheVariants as binding_pattern
use Rattle.jsgen_tree.specs.declared.sets.ClassElement.TheVariants as class_element
use Rattle.jsgen_tree.specs.declared.sets.ModuleExportName.TheVariants as module_export_name
use Rattle.jsgen_tree.specs.declared.sets.ImportDeclarationSpecifier.TheVariants as import_declaration_specifier
use Rattle.jsgen_tree.specs.declared.sets.ImportAttributeKey.TheVariants as import_attribute_key
use Rattle.jsgen_tree.specs.declared.sets.ExportDefaultDeclarationKind.TheVariants as export_default_declaration_kind

abbrev pub expression_span : {N : Type 0} → Expression N → Span
expression_span (expression.IdentifierReference b) = b.value.span
expression_span (expression.ThisExpression b) = b.value.span
expression_span (expression.NullLiteral b) = b.value.span
expression_span (expression.BooleanLiteral b) = b.value.span
expression_span (expression.NumericLiteral b) = b.value.span
expression_span (expression.BigIntLiteral b) = b.value.span
expression_span (expression.StringLiteral b) = b.value.span
expression_span (expression.RegExpLiteral b) = b.value.span
expression_span (expression.BinaryExpression b) = b.value.span
expression_span (expression.LogicalExpression b) = b.value.span
expression_span (expression.ParenthesizedExpression b) = b.value.span
expression_span (expression.StaticMemberExpression b) = b.value.span
expression_span (expression.ComputedMemberExpression b) = b.value.span
expression_span (expression.CallExpression b) = b.value.span
expression_span (expression.ChainExpression b) = b.value.span
expression_span (expression.ArrayExpression b) = b.value.span
expression_span (expression.ObjectExpression b) = b.value.span
expression_span (expression.UnaryExpression b) = b.value.span
expression_span (expression.UpdateExpression b) = b.value.span
expression_span (expression.NewExpression b) = b.value.span
expression_span (expression.NewTarget b) = b.value.span
expression_span (expression.Super b) = b.value.span
expression_span (expression.ImportMeta b) = b.value.span
expression_span (expression.ConditionalExpression b) = b.value.span
expression_span (expression.SequenceExpression b) = b.value.span
expression_span (expression.AssignmentExpression b) = b.value.span
expression_span (expression.Function b) = b.value.span
expression_span (expression.ArrowFunctionExpression b) = b.value.span
expression_span (expression.Class b) = b.value.span
expression_span (expression.PrivateFieldExpression b) = b.value.span
expression_span (expression.PrivateInExpression b) = b.value.span
expression_span (expression.AwaitExpression b) = b.value.span
expression_span (expression.YieldExpression b) = b.value.span
expression_span (expression.TemplateLiteral b) = b.value.span
expression_span (expression.TaggedTemplateExpression b) = b.value.span
expression_span (expression.ImportExpression b) = b.value.span

abbrev pub argument_span : {N : Type 0} → (N → Span) → Argument N → Span
argument_span own (argument.SpreadElement b) = b.value.span
argument_span own (argument.Expression b) = own b.value.node

abbrev pub array_expression_element_span : {N : Type 0} → (N → Span) → ArrayExpressionElement N → Span
array_expression_element_span own (array_expression_element.SpreadElement b) = b.value.span
array_expression_element_span own (array_expression_element.Expression b) = own b.value.node

abbrev pub chain_element_span : {N : Type 0} → ChainElement N → Span
chain_element_span (chain_element.StaticMemberExpression b) = b.value.span
chain_element_span (chain_element.ComputedMemberExpression b) = b.value.span
chain_element_span (chain_element.PrivateFieldExpression b) = b.value.span
chain_element_span (chain_element.CallExpression b) = b.value.span

abbrev pub member_expression_span : {N : Type 0} → MemberExpression N → Span
member_expression_span (member_expression.StaticMemberExpression b) = b.value.span
member_expression_span (member_expression.ComputedMemberExpression b) = b.value.span
member_expression_span (member_expression.PrivateFieldExpression b) = b.value.span

abbrev pub simple_assignment_target_span : {N : Type 0} → SimpleAssignmentTarget N → Span
simple_assignment_target_span (simple_assignment_target.IdentifierReference b) = b.value.span
simple_assignment_target_span (simple_assignment_target.StaticMemberExpression b) = b.value.span
simple_assignment_target_span (simple_assignment_target.ComputedMemberExpression b) = b.value.span
simple_assignment_target_span (simple_assignment_target.PrivateFieldExpression b) = b.value.span

abbrev pub assignment_target_pattern_span : {N : Type 0} → AssignmentTargetPattern N → Span
assignment_target_pattern_span (assignment_target_pattern.ArrayAssignmentTarget b) = b.value.span
assignment_target_pattern_span (assignment_target_pattern.ObjectAssignmentTarget b) = b.value.span

abbrev pub assignment_target_span : {N : Type 0} → AssignmentTarget N → Span
assignment_target_span (assignment_target.IdentifierReference b) = b.value.span
assignment_target_span (assignment_target.StaticMemberExpression b) = b.value.span
assignment_target_span (assignment_target.ComputedMemberExpression b) = b.value.span
assignment_target_span (assignment_target.PrivateFieldExpression b) = b.value.span
assignment_target_span (assignment_target.ArrayAssignmentTarget b) = b.value.span
assignment_target_span (assignment_target.ObjectAssignmentTarget b) = b.value.span

abbrev pub assignment_target_maybe_default_span : {N : Type 0} → (N → Span) → AssignmentTargetMaybeDefault N → Span
assignment_target_maybe_default_span own (assignment_target_maybe_default.AssignmentTarget b) = own b.value.node
assignment_target_maybe_default_span own (assignment_target_maybe_default.AssignmentTargetWithDefault b) = b.value.span

abbrev pub assignment_target_property_span : {N : Type 0} → AssignmentTargetProperty N → Span
assignment_target_property_span (assignment_target_property.AssignmentTargetPropertyIdentifier b) = b.value.span
assignment_target_property_span (assignment_target_property.AssignmentTargetPropertyProperty b) = b.value.span

abbrev pub arrow_function_body_span : {N : Type 0} → (N → Span) → ArrowFunctionBody N → Span
arrow_function_body_span own (arrow_function_body.FunctionBody b) = b.value.span
arrow_function_body_span own (arrow_function_body.Expression b) = own b.value.node

abbrev pub for_statement_init_span : {N : Type 0} → (N → Span) → ForStatementInit N → Span
for_statement_init_span own (for_statement_init.VariableDeclaration b) = b.value.span
for_statement_init_span own (for_statement_init.Expression b) = own b.value.node

abbrev pub for_statement_left_span : {N : Type 0} → (N → Span) → ForStatementLeft N → Span
for_statement_left_span own (for_statement_left.VariableDeclaration b) = b.value.span
for_statement_left_span own (for_statement_left.AssignmentTarget b) = own b.value.node

abbrev pub object_property_kind_span : {N : Type 0} → ObjectPropertyKind N → Span
object_property_kind_span (object_property_kind.ObjectProperty b) = b.value.span
object_property_kind_span (object_property_kind.SpreadElement b) = b.value.span

abbrev pub property_key_span : {N : Type 0} → (N → Span) → PropertyKey N → Span
property_key_span own (property_key.IdentifierName b) = b.value.span
property_key_span own (property_key.PrivateIdentifier b) = b.value.span
property_key_span own (property_key.Expression b) = own b.value.node

abbrev pub declaration_span : {N : Type 0} → Declaration N → Span
declaration_span (declaration.VariableDeclaration b) = b.value.span
declaration_span (declaration.Function b) = b.value.span
declaration_span (declaration.Class b) = b.value.span

abbrev pub statement_span : {N : Type 0} → (N → Span) → Statement N → Span
statement_span own (statement.Declaration b) = own b.value.node
statement_span own (statement.ExpressionStatement b) = b.value.span
statement_span own (statement.BlockStatement b) = b.value.span
statement_span own (statement.IfStatement b) = b.value.span
statement_span own (statement.EmptyStatement b) = b.value.span
statement_span own (statement.ForStatement b) = b.value.span
statement_span own (statement.ForInStatement b) = b.value.span
statement_span own (statement.ForOfStatement b) = b.value.span
statement_span own (statement.WhileStatement b) = b.value.span
statement_span own (statement.DoWhileStatement b) = b.value.span
statement_span own (statement.LabeledStatement b) = b.value.span
statement_span own (statement.ContinueStatement b) = b.value.span
statement_span own (statement.BreakStatement b) = b.value.span
statement_span own (statement.ReturnStatement b) = b.value.span
statement_span own (statement.ThrowStatement b) = b.value.span
statement_span own (statement.DebuggerStatement b) = b.value.span
statement_span own (statement.SwitchStatement b) = b.value.span
statement_span own (statement.TryStatement b) = b.value.span
statement_span own (statement.ImportDeclaration b) = b.value.span
statement_span own (statement.ExportDeclaration b) = b.value.span
statement_span own (statement.ExportNamedDeclaration b) = b.value.span
statement_span own (statement.ExportFromDeclaration b) = b.value.span
statement_span own (statement.ExportAllDeclaration b) = b.value.span
statement_span own (statement.ExportDefaultDeclaration b) = b.value.span

abbrev pub binding_pattern_span : {N : Type 0} → BindingPattern N → Span
binding_pattern_span (binding_pattern.BindingIdentifier b) = b.value.span
binding_pattern_span (binding_pattern.ObjectPattern b) = b.value.span
binding_pattern_span (binding_pattern.ArrayPattern b) = b.value.span
binding_pattern_span (binding_pattern.AssignmentPattern b) = b.value.span

abbrev pub class_element_span : {N : Type 0} → ClassElement N → Span
class_element_span (class_element.StaticBlock b) = b.value.span
class_element_span (class_element.MethodDefinition b) = b.value.span
class_element_span (class_element.PropertyDefinition b) = b.value.span

abbrev pub module_export_name_span : ModuleExportName → Span
module_export_name_span (module_export_name.IdentifierName b) = b.value.span
module_export_name_span (module_export_name.IdentifierReference b) = b.value.span
module_export_name_span (module_export_name.StringLiteral b) = b.value.span

abbrev pub import_declaration_specifier_span : ImportDeclarationSpecifier → Span
import_declaration_specifier_span (import_declaration_specifier.ImportDefaultSpecifier b) = b.value.span
import_declaration_specifier_span (import_declaration_specifier.ImportNamespaceSpecifier b) = b.value.span
import_declaration_specifier_span (import_declaration_specifier.ImportSpecifier b) = b.value.span

abbrev pub import_attribute_key_span : ImportAttributeKey → Span
import_attribute_key_span (import_attribute_key.IdentifierName b) = b.value.span
import_attribute_key_span (import_attribute_key.StringLiteral b) = b.value.span

abbrev pub export_default_declaration_kind_span : {N : Type 0} → (N → Span) → ExportDefaultDeclarationKind N → Span
export_default_declaration_kind_span own (export_default_declaration_kind.Function b) = b.value.span
export_default_declaration_kind_span own (export_default_declaration_kind.Class b) = b.value.span
export_default_declaration_kind_span own (export_default_declaration_kind.Expression b) = own b.value.node
