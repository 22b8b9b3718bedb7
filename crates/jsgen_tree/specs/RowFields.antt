-- Generated from tools/nodes/table.txt; edit that and run tools/nodes/generate.
-- The fields of each type by themselves.
use Rattle.std.specs.Prelude.{List}
use Rattle.jsgen_tree.specs.Table.{Field}
use Rattle.jsgen_tree.specs.Fields.{fields}
use Rattle.jsgen_tree.specs.declared.types.NodeType.TheVariants as types

abbrev pub program_fields : List Field
program_fields = fields types.Program

abbrev pub comment_fields : List Field
comment_fields = fields types.Comment

abbrev pub directive_fields : List Field
directive_fields = fields types.Directive

abbrev pub variable_declaration_fields : List Field
variable_declaration_fields = fields types.VariableDeclaration

abbrev pub variable_declarator_fields : List Field
variable_declarator_fields = fields types.VariableDeclarator

abbrev pub binding_identifier_fields : List Field
binding_identifier_fields = fields types.BindingIdentifier

abbrev pub expression_statement_fields : List Field
expression_statement_fields = fields types.ExpressionStatement

abbrev pub block_statement_fields : List Field
block_statement_fields = fields types.BlockStatement

abbrev pub if_statement_fields : List Field
if_statement_fields = fields types.IfStatement

abbrev pub empty_statement_fields : List Field
empty_statement_fields = fields types.EmptyStatement

abbrev pub identifier_reference_fields : List Field
identifier_reference_fields = fields types.IdentifierReference

abbrev pub this_expression_fields : List Field
this_expression_fields = fields types.ThisExpression

abbrev pub null_literal_fields : List Field
null_literal_fields = fields types.NullLiteral

abbrev pub boolean_literal_fields : List Field
boolean_literal_fields = fields types.BooleanLiteral

abbrev pub numeric_literal_fields : List Field
numeric_literal_fields = fields types.NumericLiteral

abbrev pub big_int_literal_fields : List Field
big_int_literal_fields = fields types.BigIntLiteral

abbrev pub string_literal_fields : List Field
string_literal_fields = fields types.StringLiteral

abbrev pub reg_exp_literal_fields : List Field
reg_exp_literal_fields = fields types.RegExpLiteral

abbrev pub parenthesized_expression_fields : List Field
parenthesized_expression_fields = fields types.ParenthesizedExpression

abbrev pub binary_expression_fields : List Field
binary_expression_fields = fields types.BinaryExpression

abbrev pub logical_expression_fields : List Field
logical_expression_fields = fields types.LogicalExpression

abbrev pub identifier_name_fields : List Field
identifier_name_fields = fields types.IdentifierName

abbrev pub static_member_expression_fields : List Field
static_member_expression_fields = fields types.StaticMemberExpression

abbrev pub computed_member_expression_fields : List Field
computed_member_expression_fields = fields types.ComputedMemberExpression

abbrev pub call_expression_fields : List Field
call_expression_fields = fields types.CallExpression

abbrev pub chain_expression_fields : List Field
chain_expression_fields = fields types.ChainExpression

abbrev pub spread_element_fields : List Field
spread_element_fields = fields types.SpreadElement

abbrev pub array_expression_fields : List Field
array_expression_fields = fields types.ArrayExpression

abbrev pub object_property_fields : List Field
object_property_fields = fields types.ObjectProperty

abbrev pub object_expression_fields : List Field
object_expression_fields = fields types.ObjectExpression

abbrev pub unary_expression_fields : List Field
unary_expression_fields = fields types.UnaryExpression

abbrev pub new_target_fields : List Field
new_target_fields = fields types.NewTarget

abbrev pub update_expression_fields : List Field
update_expression_fields = fields types.UpdateExpression

abbrev pub new_expression_fields : List Field
new_expression_fields = fields types.NewExpression

abbrev pub super_fields : List Field
super_fields = fields types.Super

abbrev pub import_meta_fields : List Field
import_meta_fields = fields types.ImportMeta

abbrev pub conditional_expression_fields : List Field
conditional_expression_fields = fields types.ConditionalExpression

abbrev pub sequence_expression_fields : List Field
sequence_expression_fields = fields types.SequenceExpression

abbrev pub assignment_expression_fields : List Field
assignment_expression_fields = fields types.AssignmentExpression

abbrev pub formal_parameter_fields : List Field
formal_parameter_fields = fields types.FormalParameter

abbrev pub formal_parameter_rest_fields : List Field
formal_parameter_rest_fields = fields types.FormalParameterRest

abbrev pub formal_parameters_fields : List Field
formal_parameters_fields = fields types.FormalParameters

abbrev pub function_fields : List Field
function_fields = fields types.Function

abbrev pub function_body_fields : List Field
function_body_fields = fields types.FunctionBody

abbrev pub arrow_function_expression_fields : List Field
arrow_function_expression_fields = fields types.ArrowFunctionExpression

abbrev pub await_expression_fields : List Field
await_expression_fields = fields types.AwaitExpression

abbrev pub yield_expression_fields : List Field
yield_expression_fields = fields types.YieldExpression

abbrev pub template_element_fields : List Field
template_element_fields = fields types.TemplateElement

abbrev pub template_literal_fields : List Field
template_literal_fields = fields types.TemplateLiteral

abbrev pub tagged_template_expression_fields : List Field
tagged_template_expression_fields = fields types.TaggedTemplateExpression

abbrev pub import_expression_fields : List Field
import_expression_fields = fields types.ImportExpression

abbrev pub for_statement_fields : List Field
for_statement_fields = fields types.ForStatement

abbrev pub for_in_statement_fields : List Field
for_in_statement_fields = fields types.ForInStatement

abbrev pub for_of_statement_fields : List Field
for_of_statement_fields = fields types.ForOfStatement

abbrev pub while_statement_fields : List Field
while_statement_fields = fields types.WhileStatement

abbrev pub do_while_statement_fields : List Field
do_while_statement_fields = fields types.DoWhileStatement

abbrev pub label_identifier_fields : List Field
label_identifier_fields = fields types.LabelIdentifier

abbrev pub labeled_statement_fields : List Field
labeled_statement_fields = fields types.LabeledStatement

abbrev pub continue_statement_fields : List Field
continue_statement_fields = fields types.ContinueStatement

abbrev pub break_statement_fields : List Field
break_statement_fields = fields types.BreakStatement

abbrev pub return_statement_fields : List Field
return_statement_fields = fields types.ReturnStatement

abbrev pub throw_statement_fields : List Field
throw_statement_fields = fields types.ThrowStatement

abbrev pub debugger_statement_fields : List Field
debugger_statement_fields = fields types.DebuggerStatement

abbrev pub switch_statement_fields : List Field
switch_statement_fields = fields types.SwitchStatement

abbrev pub switch_case_fields : List Field
switch_case_fields = fields types.SwitchCase

abbrev pub try_statement_fields : List Field
try_statement_fields = fields types.TryStatement

abbrev pub catch_clause_fields : List Field
catch_clause_fields = fields types.CatchClause

abbrev pub object_pattern_fields : List Field
object_pattern_fields = fields types.ObjectPattern

abbrev pub binding_property_fields : List Field
binding_property_fields = fields types.BindingProperty

abbrev pub binding_rest_element_fields : List Field
binding_rest_element_fields = fields types.BindingRestElement

abbrev pub array_pattern_fields : List Field
array_pattern_fields = fields types.ArrayPattern

abbrev pub assignment_pattern_fields : List Field
assignment_pattern_fields = fields types.AssignmentPattern

abbrev pub array_assignment_target_fields : List Field
array_assignment_target_fields = fields types.ArrayAssignmentTarget

abbrev pub object_assignment_target_fields : List Field
object_assignment_target_fields = fields types.ObjectAssignmentTarget

abbrev pub assignment_target_with_default_fields : List Field
assignment_target_with_default_fields = fields types.AssignmentTargetWithDefault

abbrev pub assignment_target_property_identifier_fields : List Field
assignment_target_property_identifier_fields = fields types.AssignmentTargetPropertyIdentifier

abbrev pub assignment_target_property_property_fields : List Field
assignment_target_property_property_fields = fields types.AssignmentTargetPropertyProperty

abbrev pub assignment_target_rest_fields : List Field
assignment_target_rest_fields = fields types.AssignmentTargetRest

abbrev pub private_identifier_fields : List Field
private_identifier_fields = fields types.PrivateIdentifier

abbrev pub private_field_expression_fields : List Field
private_field_expression_fields = fields types.PrivateFieldExpression

abbrev pub private_in_expression_fields : List Field
private_in_expression_fields = fields types.PrivateInExpression

abbrev pub class_fields : List Field
class_fields = fields types.Class

abbrev pub class_body_fields : List Field
class_body_fields = fields types.ClassBody

abbrev pub static_block_fields : List Field
static_block_fields = fields types.StaticBlock

abbrev pub method_definition_fields : List Field
method_definition_fields = fields types.MethodDefinition

abbrev pub property_definition_fields : List Field
property_definition_fields = fields types.PropertyDefinition

abbrev pub hashbang_fields : List Field
hashbang_fields = fields types.Hashbang

abbrev pub import_declaration_fields : List Field
import_declaration_fields = fields types.ImportDeclaration

abbrev pub import_default_specifier_fields : List Field
import_default_specifier_fields = fields types.ImportDefaultSpecifier

abbrev pub import_namespace_specifier_fields : List Field
import_namespace_specifier_fields = fields types.ImportNamespaceSpecifier

abbrev pub import_specifier_fields : List Field
import_specifier_fields = fields types.ImportSpecifier

abbrev pub with_clause_fields : List Field
with_clause_fields = fields types.WithClause

abbrev pub import_attribute_fields : List Field
import_attribute_fields = fields types.ImportAttribute

abbrev pub export_declaration_fields : List Field
export_declaration_fields = fields types.ExportDeclaration

abbrev pub export_named_declaration_fields : List Field
export_named_declaration_fields = fields types.ExportNamedDeclaration

abbrev pub export_from_declaration_fields : List Field
export_from_declaration_fields = fields types.ExportFromDeclaration

abbrev pub export_specifier_fields : List Field
export_specifier_fields = fields types.ExportSpecifier

abbrev pub export_all_declaration_fields : List Field
export_all_declaration_fields = fields types.ExportAllDeclaration

abbrev pub export_default_declaration_fields : List Field
export_default_declaration_fields = fields types.ExportDefaultDeclaration
