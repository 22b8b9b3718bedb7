-- Generated from tools/nodes/table.txt; edit that and run tools/nodes/generate.
-- A member of a set that doesn't nest by its type, and a struct with an optional child and without it.
use Rattle.std.specs.declared.alloc.Global.{Global}
use Rattle.std.proofs.Common.{Box, None, Some}
use Rattle.jsgen_tree.specs.declared.sets.Argument.{Argument}
use Rattle.jsgen_tree.specs.declared.sets.ArrayExpressionElement.{ArrayExpressionElement}
use Rattle.jsgen_tree.specs.declared.sets.ChainElement.{ChainElement}
use Rattle.jsgen_tree.specs.declared.sets.MemberExpression.{MemberExpression}
use Rattle.jsgen_tree.specs.declared.sets.SimpleAssignmentTarget.{SimpleAssignmentTarget}
use Rattle.jsgen_tree.specs.declared.sets.AssignmentTargetPattern.{AssignmentTargetPattern}
use Rattle.jsgen_tree.specs.declared.sets.AssignmentTargetMaybeDefault.{AssignmentTargetMaybeDefault}
use Rattle.jsgen_tree.specs.declared.sets.AssignmentTargetProperty.{AssignmentTargetProperty}
use Rattle.jsgen_tree.specs.declared.sets.ArrowFunctionBody.{ArrowFunctionBody}
use Rattle.jsgen_tree.specs.declared.sets.ForStatementInit.{ForStatementInit}
use Rattle.jsgen_tree.specs.declared.sets.ForStatementLeft.{ForStatementLeft}
use Rattle.jsgen_tree.specs.declared.sets.ObjectPropertyKind.{ObjectPropertyKind}
use Rattle.jsgen_tree.specs.declared.sets.PropertyKey.{PropertyKey}
use Rattle.jsgen_tree.specs.declared.sets.ExportDefaultDeclarationKind.{ExportDefaultDeclarationKind}
use Rattle.jsgen_tree.specs.declared.nodes.ExpressionNode.{ExpressionNode}
use Rattle.jsgen_tree.specs.declared.nodes.AssignmentTargetNode.{AssignmentTargetNode}
use Rattle.jsgen_tree.specs.declared.nodes.StatementNode.{StatementNode}
use Rattle.jsgen_tree.specs.declared.nodes.BindingPatternNode.{BindingPatternNode}
use Rattle.jsgen_tree.specs.declared.statements.VariableDeclaration.{VariableDeclaration}
use Rattle.jsgen_tree.specs.declared.statements.VariableDeclarator.{VariableDeclarator}
use Rattle.jsgen_tree.specs.declared.statements.BlockStatement.{BlockStatement}
use Rattle.jsgen_tree.specs.declared.statements.IfStatement.{IfStatement}
use Rattle.jsgen_tree.specs.declared.expressions.IdentifierReference.{IdentifierReference}
use Rattle.jsgen_tree.specs.declared.expressions.IdentifierName.{IdentifierName}
use Rattle.jsgen_tree.specs.declared.expressions.StaticMemberExpression.{StaticMemberExpression}
use Rattle.jsgen_tree.specs.declared.expressions.ComputedMemberExpression.{ComputedMemberExpression}
use Rattle.jsgen_tree.specs.declared.expressions.CallExpression.{CallExpression}
use Rattle.jsgen_tree.specs.declared.expressions.ChainExpression.{ChainExpression}
use Rattle.jsgen_tree.specs.declared.collections.SpreadElement.{SpreadElement}
use Rattle.jsgen_tree.specs.declared.collections.ObjectProperty.{ObjectProperty}
use Rattle.jsgen_tree.specs.declared.operations.UpdateExpression.{UpdateExpression}
use Rattle.jsgen_tree.specs.declared.functions.FormalParameter.{FormalParameter}
use Rattle.jsgen_tree.specs.declared.functions.FormalParameterRest.{FormalParameterRest}
use Rattle.jsgen_tree.specs.declared.functions.FormalParameters.{FormalParameters}
use Rattle.jsgen_tree.specs.declared.functions.Function.{Function}
use Rattle.jsgen_tree.specs.declared.functions.FunctionBody.{FunctionBody}
use Rattle.jsgen_tree.specs.declared.functions.ArrowFunctionExpression.{ArrowFunctionExpression}
use Rattle.jsgen_tree.specs.declared.functions.YieldExpression.{YieldExpression}
use Rattle.jsgen_tree.specs.declared.templates.ImportExpression.{ImportExpression}
use Rattle.jsgen_tree.specs.declared.loops.ForStatement.{ForStatement}
use Rattle.jsgen_tree.specs.declared.loops.ForInStatement.{ForInStatement}
use Rattle.jsgen_tree.specs.declared.loops.ForOfStatement.{ForOfStatement}
use Rattle.jsgen_tree.specs.declared.loops.ReturnStatement.{ReturnStatement}
use Rattle.jsgen_tree.specs.declared.choices.SwitchCase.{SwitchCase}
use Rattle.jsgen_tree.specs.declared.choices.TryStatement.{TryStatement}
use Rattle.jsgen_tree.specs.declared.choices.CatchClause.{CatchClause}
use Rattle.jsgen_tree.specs.declared.patterns.ObjectPattern.{ObjectPattern}
use Rattle.jsgen_tree.specs.declared.patterns.BindingProperty.{BindingProperty}
use Rattle.jsgen_tree.specs.declared.patterns.BindingRestElement.{BindingRestElement}
use Rattle.jsgen_tree.specs.declared.patterns.ArrayPattern.{ArrayPattern}
use Rattle.jsgen_tree.specs.declared.targets.ArrayAssignmentTarget.{ArrayAssignmentTarget}
use Rattle.jsgen_tree.specs.declared.targets.ObjectAssignmentTarget.{ObjectAssignmentTarget}
use Rattle.jsgen_tree.specs.declared.targets.AssignmentTargetWithDefault.{AssignmentTargetWithDefault}
use Rattle.jsgen_tree.specs.declared.targets.AssignmentTargetPropertyIdentifier.{AssignmentTargetPropertyIdentifier}
use Rattle.jsgen_tree.specs.declared.targets.AssignmentTargetPropertyProperty.{AssignmentTargetPropertyProperty}
use Rattle.jsgen_tree.specs.declared.targets.AssignmentTargetRest.{AssignmentTargetRest}
use Rattle.jsgen_tree.specs.declared.classes.PrivateIdentifier.{PrivateIdentifier}
use Rattle.jsgen_tree.specs.declared.classes.PrivateFieldExpression.{PrivateFieldExpression}
use Rattle.jsgen_tree.specs.declared.classes.Class.{Class}
use Rattle.jsgen_tree.specs.declared.classes.MethodDefinition.{MethodDefinition}
use Rattle.jsgen_tree.specs.declared.classes.PropertyDefinition.{PropertyDefinition}
use Rattle.jsgen_tree.specs.declared.modules.ExportDefaultDeclaration.{ExportDefaultDeclaration}
use Rattle.jsgen_tree.specs.declared.sets.Argument.TheVariants as arguments
use Rattle.jsgen_tree.specs.declared.sets.ArrayExpressionElement.TheVariants as array_expression_elements
use Rattle.jsgen_tree.specs.declared.sets.ChainElement.TheVariants as chain_elements
use Rattle.jsgen_tree.specs.declared.sets.MemberExpression.TheVariants as member_expressions
use Rattle.jsgen_tree.specs.declared.sets.SimpleAssignmentTarget.TheVariants as simple_assignment_targets
use Rattle.jsgen_tree.specs.declared.sets.AssignmentTargetPattern.TheVariants as assignment_target_patterns
use Rattle.jsgen_tree.specs.declared.sets.AssignmentTargetMaybeDefault.TheVariants as assignment_target_maybe_defaults
use Rattle.jsgen_tree.specs.declared.sets.AssignmentTargetProperty.TheVariants as assignment_target_propertys
use Rattle.jsgen_tree.specs.declared.sets.ArrowFunctionBody.TheVariants as arrow_function_bodys
use Rattle.jsgen_tree.specs.declared.sets.ForStatementInit.TheVariants as for_statement_inits
use Rattle.jsgen_tree.specs.declared.sets.ForStatementLeft.TheVariants as for_statement_lefts
use Rattle.jsgen_tree.specs.declared.sets.ObjectPropertyKind.TheVariants as object_property_kinds
use Rattle.jsgen_tree.specs.declared.sets.PropertyKey.TheVariants as property_keys
use Rattle.jsgen_tree.specs.declared.sets.ExportDefaultDeclarationKind.TheVariants as export_default_declaration_kinds

-- ---- a member of a set that doesn't nest, by its type

pub with_argument : {N : Type 0} (P : Argument N → Type 0) → ((b : Box (SpreadElement N) Global) → P (arguments.SpreadElement b)) → ((b : Box (ExpressionNode N) Global) → P (arguments.Expression b)) → (n : Argument N) → P n
with_argument P of_spread_element of_expression (arguments.SpreadElement b) = of_spread_element b
with_argument P of_spread_element of_expression (arguments.Expression b) = of_expression b

pub with_array_expression_element : {N : Type 0} (P : ArrayExpressionElement N → Type 0) → ((b : Box (SpreadElement N) Global) → P (array_expression_elements.SpreadElement b)) → ((b : Box (ExpressionNode N) Global) → P (array_expression_elements.Expression b)) → (n : ArrayExpressionElement N) → P n
with_array_expression_element P of_spread_element of_expression (array_expression_elements.SpreadElement b) = of_spread_element b
with_array_expression_element P of_spread_element of_expression (array_expression_elements.Expression b) = of_expression b

pub with_chain_element : {N : Type 0} (P : ChainElement N → Type 0) → ((b : Box (StaticMemberExpression N) Global) → P (chain_elements.StaticMemberExpression b)) → ((b : Box (ComputedMemberExpression N) Global) → P (chain_elements.ComputedMemberExpression b)) → ((b : Box (PrivateFieldExpression N) Global) → P (chain_elements.PrivateFieldExpression b)) → ((b : Box (CallExpression N) Global) → P (chain_elements.CallExpression b)) → (n : ChainElement N) → P n
with_chain_element P of_static_member_expression of_computed_member_expression of_private_field_expression of_call_expression (chain_elements.StaticMemberExpression b) = of_static_member_expression b
with_chain_element P of_static_member_expression of_computed_member_expression of_private_field_expression of_call_expression (chain_elements.ComputedMemberExpression b) = of_computed_member_expression b
with_chain_element P of_static_member_expression of_computed_member_expression of_private_field_expression of_call_expression (chain_elements.PrivateFieldExpression b) = of_private_field_expression b
with_chain_element P of_static_member_expression of_computed_member_expression of_private_field_expression of_call_expression (chain_elements.CallExpression b) = of_call_expression b

pub with_member_expression : {N : Type 0} (P : MemberExpression N → Type 0) → ((b : Box (StaticMemberExpression N) Global) → P (member_expressions.StaticMemberExpression b)) → ((b : Box (ComputedMemberExpression N) Global) → P (member_expressions.ComputedMemberExpression b)) → ((b : Box (PrivateFieldExpression N) Global) → P (member_expressions.PrivateFieldExpression b)) → (n : MemberExpression N) → P n
with_member_expression P of_static_member_expression of_computed_member_expression of_private_field_expression (member_expressions.StaticMemberExpression b) = of_static_member_expression b
with_member_expression P of_static_member_expression of_computed_member_expression of_private_field_expression (member_expressions.ComputedMemberExpression b) = of_computed_member_expression b
with_member_expression P of_static_member_expression of_computed_member_expression of_private_field_expression (member_expressions.PrivateFieldExpression b) = of_private_field_expression b

pub with_simple_assignment_target : {N : Type 0} (P : SimpleAssignmentTarget N → Type 0) → ((b : Box IdentifierReference Global) → P (simple_assignment_targets.IdentifierReference b)) → ((b : Box (StaticMemberExpression N) Global) → P (simple_assignment_targets.StaticMemberExpression b)) → ((b : Box (ComputedMemberExpression N) Global) → P (simple_assignment_targets.ComputedMemberExpression b)) → ((b : Box (PrivateFieldExpression N) Global) → P (simple_assignment_targets.PrivateFieldExpression b)) → (n : SimpleAssignmentTarget N) → P n
with_simple_assignment_target P of_identifier_reference of_static_member_expression of_computed_member_expression of_private_field_expression (simple_assignment_targets.IdentifierReference b) = of_identifier_reference b
with_simple_assignment_target P of_identifier_reference of_static_member_expression of_computed_member_expression of_private_field_expression (simple_assignment_targets.StaticMemberExpression b) = of_static_member_expression b
with_simple_assignment_target P of_identifier_reference of_static_member_expression of_computed_member_expression of_private_field_expression (simple_assignment_targets.ComputedMemberExpression b) = of_computed_member_expression b
with_simple_assignment_target P of_identifier_reference of_static_member_expression of_computed_member_expression of_private_field_expression (simple_assignment_targets.PrivateFieldExpression b) = of_private_field_expression b

pub with_assignment_target_pattern : {N : Type 0} (P : AssignmentTargetPattern N → Type 0) → ((b : Box (ArrayAssignmentTarget N) Global) → P (assignment_target_patterns.ArrayAssignmentTarget b)) → ((b : Box (ObjectAssignmentTarget N) Global) → P (assignment_target_patterns.ObjectAssignmentTarget b)) → (n : AssignmentTargetPattern N) → P n
with_assignment_target_pattern P of_array_assignment_target of_object_assignment_target (assignment_target_patterns.ArrayAssignmentTarget b) = of_array_assignment_target b
with_assignment_target_pattern P of_array_assignment_target of_object_assignment_target (assignment_target_patterns.ObjectAssignmentTarget b) = of_object_assignment_target b

pub with_assignment_target_maybe_default : {N : Type 0} (P : AssignmentTargetMaybeDefault N → Type 0) → ((b : Box (AssignmentTargetNode N) Global) → P (assignment_target_maybe_defaults.AssignmentTarget b)) → ((b : Box (AssignmentTargetWithDefault N) Global) → P (assignment_target_maybe_defaults.AssignmentTargetWithDefault b)) → (n : AssignmentTargetMaybeDefault N) → P n
with_assignment_target_maybe_default P of_assignment_target of_assignment_target_with_default (assignment_target_maybe_defaults.AssignmentTarget b) = of_assignment_target b
with_assignment_target_maybe_default P of_assignment_target of_assignment_target_with_default (assignment_target_maybe_defaults.AssignmentTargetWithDefault b) = of_assignment_target_with_default b

pub with_assignment_target_property : {N : Type 0} (P : AssignmentTargetProperty N → Type 0) → ((b : Box (AssignmentTargetPropertyIdentifier N) Global) → P (assignment_target_propertys.AssignmentTargetPropertyIdentifier b)) → ((b : Box (AssignmentTargetPropertyProperty N) Global) → P (assignment_target_propertys.AssignmentTargetPropertyProperty b)) → (n : AssignmentTargetProperty N) → P n
with_assignment_target_property P of_assignment_target_property_identifier of_assignment_target_property_property (assignment_target_propertys.AssignmentTargetPropertyIdentifier b) = of_assignment_target_property_identifier b
with_assignment_target_property P of_assignment_target_property_identifier of_assignment_target_property_property (assignment_target_propertys.AssignmentTargetPropertyProperty b) = of_assignment_target_property_property b

pub with_arrow_function_body : {N : Type 0} (P : ArrowFunctionBody N → Type 0) → ((b : Box (FunctionBody N) Global) → P (arrow_function_bodys.FunctionBody b)) → ((b : Box (ExpressionNode N) Global) → P (arrow_function_bodys.Expression b)) → (n : ArrowFunctionBody N) → P n
with_arrow_function_body P of_function_body of_expression (arrow_function_bodys.FunctionBody b) = of_function_body b
with_arrow_function_body P of_function_body of_expression (arrow_function_bodys.Expression b) = of_expression b

pub with_for_statement_init : {N : Type 0} (P : ForStatementInit N → Type 0) → ((b : Box (VariableDeclaration N) Global) → P (for_statement_inits.VariableDeclaration b)) → ((b : Box (ExpressionNode N) Global) → P (for_statement_inits.Expression b)) → (n : ForStatementInit N) → P n
with_for_statement_init P of_variable_declaration of_expression (for_statement_inits.VariableDeclaration b) = of_variable_declaration b
with_for_statement_init P of_variable_declaration of_expression (for_statement_inits.Expression b) = of_expression b

pub with_for_statement_left : {N : Type 0} (P : ForStatementLeft N → Type 0) → ((b : Box (VariableDeclaration N) Global) → P (for_statement_lefts.VariableDeclaration b)) → ((b : Box (AssignmentTargetNode N) Global) → P (for_statement_lefts.AssignmentTarget b)) → (n : ForStatementLeft N) → P n
with_for_statement_left P of_variable_declaration of_assignment_target (for_statement_lefts.VariableDeclaration b) = of_variable_declaration b
with_for_statement_left P of_variable_declaration of_assignment_target (for_statement_lefts.AssignmentTarget b) = of_assignment_target b

pub with_object_property_kind : {N : Type 0} (P : ObjectPropertyKind N → Type 0) → ((b : Box (ObjectProperty N) Global) → P (object_property_kinds.ObjectProperty b)) → ((b : Box (SpreadElement N) Global) → P (object_property_kinds.SpreadElement b)) → (n : ObjectPropertyKind N) → P n
with_object_property_kind P of_object_property of_spread_element (object_property_kinds.ObjectProperty b) = of_object_property b
with_object_property_kind P of_object_property of_spread_element (object_property_kinds.SpreadElement b) = of_spread_element b

pub with_property_key : {N : Type 0} (P : PropertyKey N → Type 0) → ((b : Box IdentifierName Global) → P (property_keys.IdentifierName b)) → ((b : Box PrivateIdentifier Global) → P (property_keys.PrivateIdentifier b)) → ((b : Box (ExpressionNode N) Global) → P (property_keys.Expression b)) → (n : PropertyKey N) → P n
with_property_key P of_identifier_name of_private_identifier of_expression (property_keys.IdentifierName b) = of_identifier_name b
with_property_key P of_identifier_name of_private_identifier of_expression (property_keys.PrivateIdentifier b) = of_private_identifier b
with_property_key P of_identifier_name of_private_identifier of_expression (property_keys.Expression b) = of_expression b

pub with_export_default_declaration_kind : {N : Type 0} (P : ExportDefaultDeclarationKind N → Type 0) → ((b : Box (Function N) Global) → P (export_default_declaration_kinds.Function b)) → ((b : Box (Class N) Global) → P (export_default_declaration_kinds.Class b)) → ((b : Box (ExpressionNode N) Global) → P (export_default_declaration_kinds.Expression b)) → (n : ExportDefaultDeclarationKind N) → P n
with_export_default_declaration_kind P of_function of_class of_expression (export_default_declaration_kinds.Function b) = of_function b
with_export_default_declaration_kind P of_function of_class of_expression (export_default_declaration_kinds.Class b) = of_class b
with_export_default_declaration_kind P of_function of_class of_expression (export_default_declaration_kinds.Expression b) = of_expression b

-- ---- a struct with an optional child, and without it

pub variable_declarator_by_init : {N : Type 0} (P : VariableDeclarator N → Type 0) → ((n : VariableDeclarator N) → P (record n { init = None })) → ((c : ExpressionNode N) (n : VariableDeclarator N) → P (record n { init = Some c })) → (n : VariableDeclarator N) → P n
variable_declarator_by_init P none some n = elim n.init as (λ o. P (record n { init = o })) [ None ↦ none n | Some c ↦ some c n ]

pub if_statement_by_alternate : {N : Type 0} (P : IfStatement N → Type 0) → ((n : IfStatement N) → P (record n { alternate = None })) → ((c : StatementNode N) (n : IfStatement N) → P (record n { alternate = Some c })) → (n : IfStatement N) → P n
if_statement_by_alternate P none some n = elim n.alternate as (λ o. P (record n { alternate = o })) [ None ↦ none n | Some c ↦ some c n ]

pub chain_expression_by_expression : {N : Type 0} (P : ChainExpression N → Type 0) → ((b : Box (StaticMemberExpression N) Global) (n : ChainExpression N) → P (record n { expression = (chain_elements.StaticMemberExpression b) })) → ((b : Box (ComputedMemberExpression N) Global) (n : ChainExpression N) → P (record n { expression = (chain_elements.ComputedMemberExpression b) })) → ((b : Box (PrivateFieldExpression N) Global) (n : ChainExpression N) → P (record n { expression = (chain_elements.PrivateFieldExpression b) })) → ((b : Box (CallExpression N) Global) (n : ChainExpression N) → P (record n { expression = (chain_elements.CallExpression b) })) → (n : ChainExpression N) → P n
chain_expression_by_expression P of_static_member_expression of_computed_member_expression of_private_field_expression of_call_expression n = elim n.expression as (λ o. P (record n { expression = o })) [ chain_elements.StaticMemberExpression b ↦ of_static_member_expression b n | chain_elements.ComputedMemberExpression b ↦ of_computed_member_expression b n | chain_elements.PrivateFieldExpression b ↦ of_private_field_expression b n | chain_elements.CallExpression b ↦ of_call_expression b n ]

pub object_property_by_key : {N : Type 0} (P : ObjectProperty N → Type 0) → ((b : Box IdentifierName Global) (n : ObjectProperty N) → P (record n { key = (property_keys.IdentifierName b) })) → ((b : Box PrivateIdentifier Global) (n : ObjectProperty N) → P (record n { key = (property_keys.PrivateIdentifier b) })) → ((b : Box (ExpressionNode N) Global) (n : ObjectProperty N) → P (record n { key = (property_keys.Expression b) })) → (n : ObjectProperty N) → P n
object_property_by_key P of_identifier_name of_private_identifier of_expression n = elim n.key as (λ o. P (record n { key = o })) [ property_keys.IdentifierName b ↦ of_identifier_name b n | property_keys.PrivateIdentifier b ↦ of_private_identifier b n | property_keys.Expression b ↦ of_expression b n ]

pub boxed_object_property_by_key : {N : Type 0} (P : Box (ObjectProperty N) Global → Type 0) → ((b : Box IdentifierName Global) (n : Box (ObjectProperty N) Global) → P (record n { value = record n.value { key = (property_keys.IdentifierName b) } })) → ((b : Box PrivateIdentifier Global) (n : Box (ObjectProperty N) Global) → P (record n { value = record n.value { key = (property_keys.PrivateIdentifier b) } })) → ((b : Box (ExpressionNode N) Global) (n : Box (ObjectProperty N) Global) → P (record n { value = record n.value { key = (property_keys.Expression b) } })) → (n : Box (ObjectProperty N) Global) → P n
boxed_object_property_by_key P of_identifier_name of_private_identifier of_expression n = elim n.value.key as (λ o. P (record n { value = record n.value { key = o } })) [ property_keys.IdentifierName b ↦ of_identifier_name b n | property_keys.PrivateIdentifier b ↦ of_private_identifier b n | property_keys.Expression b ↦ of_expression b n ]

pub update_expression_by_argument : {N : Type 0} (P : UpdateExpression N → Type 0) → ((b : Box IdentifierReference Global) (n : UpdateExpression N) → P (record n { argument = (simple_assignment_targets.IdentifierReference b) })) → ((b : Box (StaticMemberExpression N) Global) (n : UpdateExpression N) → P (record n { argument = (simple_assignment_targets.StaticMemberExpression b) })) → ((b : Box (ComputedMemberExpression N) Global) (n : UpdateExpression N) → P (record n { argument = (simple_assignment_targets.ComputedMemberExpression b) })) → ((b : Box (PrivateFieldExpression N) Global) (n : UpdateExpression N) → P (record n { argument = (simple_assignment_targets.PrivateFieldExpression b) })) → (n : UpdateExpression N) → P n
update_expression_by_argument P of_identifier_reference of_static_member_expression of_computed_member_expression of_private_field_expression n = elim n.argument as (λ o. P (record n { argument = o })) [ simple_assignment_targets.IdentifierReference b ↦ of_identifier_reference b n | simple_assignment_targets.StaticMemberExpression b ↦ of_static_member_expression b n | simple_assignment_targets.ComputedMemberExpression b ↦ of_computed_member_expression b n | simple_assignment_targets.PrivateFieldExpression b ↦ of_private_field_expression b n ]

pub formal_parameter_by_initializer : {N : Type 0} (P : FormalParameter N → Type 0) → ((n : FormalParameter N) → P (record n { initializer = None })) → ((c : ExpressionNode N) (n : FormalParameter N) → P (record n { initializer = Some c })) → (n : FormalParameter N) → P n
formal_parameter_by_initializer P none some n = elim n.initializer as (λ o. P (record n { initializer = o })) [ None ↦ none n | Some c ↦ some c n ]

pub formal_parameters_by_rest : {N : Type 0} (P : FormalParameters N → Type 0) → ((n : FormalParameters N) → P (record n { rest = None })) → ((c : Box (FormalParameterRest N) Global) (n : FormalParameters N) → P (record n { rest = Some c })) → (n : FormalParameters N) → P n
formal_parameters_by_rest P none some n = elim n.rest as (λ o. P (record n { rest = o })) [ None ↦ none n | Some c ↦ some c n ]

pub boxed_formal_parameters_by_rest : {N : Type 0} (P : Box (FormalParameters N) Global → Type 0) → ((n : Box (FormalParameters N) Global) → P (record n { value = record n.value { rest = None } })) → ((c : Box (FormalParameterRest N) Global) (n : Box (FormalParameters N) Global) → P (record n { value = record n.value { rest = Some c } })) → (n : Box (FormalParameters N) Global) → P n
boxed_formal_parameters_by_rest P none some n = elim n.value.rest as (λ o. P (record n { value = record n.value { rest = o } })) [ None ↦ none n | Some c ↦ some c n ]

pub function_by_params : {N : Type 0} (P : Function N → Type 0) → ((c : Box (FormalParameters N) Global) (n : Function N) → P (record n { params = c })) → (n : Function N) → P n
function_by_params P all n = all n.params n

pub boxed_function_by_params : {N : Type 0} (P : Box (Function N) Global → Type 0) → ((c : Box (FormalParameters N) Global) (n : Box (Function N) Global) → P (record n { value = record n.value { params = c } })) → (n : Box (Function N) Global) → P n
boxed_function_by_params P all n = all n.value.params n

pub function_by_body : {N : Type 0} (P : Function N → Type 0) → ((n : Function N) → P (record n { body = None })) → ((c : Box (FunctionBody N) Global) (n : Function N) → P (record n { body = Some c })) → (n : Function N) → P n
function_by_body P none some n = elim n.body as (λ o. P (record n { body = o })) [ None ↦ none n | Some c ↦ some c n ]

pub boxed_function_by_body : {N : Type 0} (P : Box (Function N) Global → Type 0) → ((n : Box (Function N) Global) → P (record n { value = record n.value { body = None } })) → ((c : Box (FunctionBody N) Global) (n : Box (Function N) Global) → P (record n { value = record n.value { body = Some c } })) → (n : Box (Function N) Global) → P n
boxed_function_by_body P none some n = elim n.value.body as (λ o. P (record n { value = record n.value { body = o } })) [ None ↦ none n | Some c ↦ some c n ]

pub arrow_function_expression_by_params : {N : Type 0} (P : ArrowFunctionExpression N → Type 0) → ((c : Box (FormalParameters N) Global) (n : ArrowFunctionExpression N) → P (record n { params = c })) → (n : ArrowFunctionExpression N) → P n
arrow_function_expression_by_params P all n = all n.params n

pub arrow_function_expression_by_body : {N : Type 0} (P : ArrowFunctionExpression N → Type 0) → ((b : Box (FunctionBody N) Global) (n : ArrowFunctionExpression N) → P (record n { body = (arrow_function_bodys.FunctionBody b) })) → ((b : Box (ExpressionNode N) Global) (n : ArrowFunctionExpression N) → P (record n { body = (arrow_function_bodys.Expression b) })) → (n : ArrowFunctionExpression N) → P n
arrow_function_expression_by_body P of_function_body of_expression n = elim n.body as (λ o. P (record n { body = o })) [ arrow_function_bodys.FunctionBody b ↦ of_function_body b n | arrow_function_bodys.Expression b ↦ of_expression b n ]

pub yield_expression_by_argument : {N : Type 0} (P : YieldExpression N → Type 0) → ((n : YieldExpression N) → P (record n { argument = None })) → ((c : ExpressionNode N) (n : YieldExpression N) → P (record n { argument = Some c })) → (n : YieldExpression N) → P n
yield_expression_by_argument P none some n = elim n.argument as (λ o. P (record n { argument = o })) [ None ↦ none n | Some c ↦ some c n ]

pub import_expression_by_options : {N : Type 0} (P : ImportExpression N → Type 0) → ((n : ImportExpression N) → P (record n { options = None })) → ((c : ExpressionNode N) (n : ImportExpression N) → P (record n { options = Some c })) → (n : ImportExpression N) → P n
import_expression_by_options P none some n = elim n.options as (λ o. P (record n { options = o })) [ None ↦ none n | Some c ↦ some c n ]

pub for_statement_by_init : {N : Type 0} (P : ForStatement N → Type 0) → ((n : ForStatement N) → P (record n { init = None })) → ((b : Box (VariableDeclaration N) Global) (n : ForStatement N) → P (record n { init = (Some (for_statement_inits.VariableDeclaration b)) })) → ((b : Box (ExpressionNode N) Global) (n : ForStatement N) → P (record n { init = (Some (for_statement_inits.Expression b)) })) → (n : ForStatement N) → P n
for_statement_by_init P none of_variable_declaration of_expression n = elim n.init as (λ o. P (record n { init = o })) [ None ↦ none n | Some c ↦ elim c as (λ o. P (record n { init = (Some o) })) [ for_statement_inits.VariableDeclaration b ↦ of_variable_declaration b n | for_statement_inits.Expression b ↦ of_expression b n ] ]

pub for_statement_by_test : {N : Type 0} (P : ForStatement N → Type 0) → ((n : ForStatement N) → P (record n { test = None })) → ((c : ExpressionNode N) (n : ForStatement N) → P (record n { test = Some c })) → (n : ForStatement N) → P n
for_statement_by_test P none some n = elim n.test as (λ o. P (record n { test = o })) [ None ↦ none n | Some c ↦ some c n ]

pub for_statement_by_update : {N : Type 0} (P : ForStatement N → Type 0) → ((n : ForStatement N) → P (record n { update = None })) → ((c : ExpressionNode N) (n : ForStatement N) → P (record n { update = Some c })) → (n : ForStatement N) → P n
for_statement_by_update P none some n = elim n.update as (λ o. P (record n { update = o })) [ None ↦ none n | Some c ↦ some c n ]

pub for_in_statement_by_left : {N : Type 0} (P : ForInStatement N → Type 0) → ((b : Box (VariableDeclaration N) Global) (n : ForInStatement N) → P (record n { left = (for_statement_lefts.VariableDeclaration b) })) → ((b : Box (AssignmentTargetNode N) Global) (n : ForInStatement N) → P (record n { left = (for_statement_lefts.AssignmentTarget b) })) → (n : ForInStatement N) → P n
for_in_statement_by_left P of_variable_declaration of_assignment_target n = elim n.left as (λ o. P (record n { left = o })) [ for_statement_lefts.VariableDeclaration b ↦ of_variable_declaration b n | for_statement_lefts.AssignmentTarget b ↦ of_assignment_target b n ]

pub for_of_statement_by_left : {N : Type 0} (P : ForOfStatement N → Type 0) → ((b : Box (VariableDeclaration N) Global) (n : ForOfStatement N) → P (record n { left = (for_statement_lefts.VariableDeclaration b) })) → ((b : Box (AssignmentTargetNode N) Global) (n : ForOfStatement N) → P (record n { left = (for_statement_lefts.AssignmentTarget b) })) → (n : ForOfStatement N) → P n
for_of_statement_by_left P of_variable_declaration of_assignment_target n = elim n.left as (λ o. P (record n { left = o })) [ for_statement_lefts.VariableDeclaration b ↦ of_variable_declaration b n | for_statement_lefts.AssignmentTarget b ↦ of_assignment_target b n ]

pub return_statement_by_argument : {N : Type 0} (P : ReturnStatement N → Type 0) → ((n : ReturnStatement N) → P (record n { argument = None })) → ((c : ExpressionNode N) (n : ReturnStatement N) → P (record n { argument = Some c })) → (n : ReturnStatement N) → P n
return_statement_by_argument P none some n = elim n.argument as (λ o. P (record n { argument = o })) [ None ↦ none n | Some c ↦ some c n ]

pub switch_case_by_test : {N : Type 0} (P : SwitchCase N → Type 0) → ((n : SwitchCase N) → P (record n { test = None })) → ((c : ExpressionNode N) (n : SwitchCase N) → P (record n { test = Some c })) → (n : SwitchCase N) → P n
switch_case_by_test P none some n = elim n.test as (λ o. P (record n { test = o })) [ None ↦ none n | Some c ↦ some c n ]

pub try_statement_by_handler : {N : Type 0} (P : TryStatement N → Type 0) → ((n : TryStatement N) → P (record n { handler = None })) → ((c : Box (CatchClause N) Global) (n : TryStatement N) → P (record n { handler = Some c })) → (n : TryStatement N) → P n
try_statement_by_handler P none some n = elim n.handler as (λ o. P (record n { handler = o })) [ None ↦ none n | Some c ↦ some c n ]

pub try_statement_by_finalizer : {N : Type 0} (P : TryStatement N → Type 0) → ((n : TryStatement N) → P (record n { finalizer = None })) → ((c : Box (BlockStatement N) Global) (n : TryStatement N) → P (record n { finalizer = Some c })) → (n : TryStatement N) → P n
try_statement_by_finalizer P none some n = elim n.finalizer as (λ o. P (record n { finalizer = o })) [ None ↦ none n | Some c ↦ some c n ]

pub catch_clause_by_param : {N : Type 0} (P : CatchClause N → Type 0) → ((n : CatchClause N) → P (record n { param = None })) → ((c : BindingPatternNode N) (n : CatchClause N) → P (record n { param = Some c })) → (n : CatchClause N) → P n
catch_clause_by_param P none some n = elim n.param as (λ o. P (record n { param = o })) [ None ↦ none n | Some c ↦ some c n ]

pub boxed_catch_clause_by_param : {N : Type 0} (P : Box (CatchClause N) Global → Type 0) → ((n : Box (CatchClause N) Global) → P (record n { value = record n.value { param = None } })) → ((c : BindingPatternNode N) (n : Box (CatchClause N) Global) → P (record n { value = record n.value { param = Some c } })) → (n : Box (CatchClause N) Global) → P n
boxed_catch_clause_by_param P none some n = elim n.value.param as (λ o. P (record n { value = record n.value { param = o } })) [ None ↦ none n | Some c ↦ some c n ]

pub object_pattern_by_rest : {N : Type 0} (P : ObjectPattern N → Type 0) → ((n : ObjectPattern N) → P (record n { rest = None })) → ((c : Box (BindingRestElement N) Global) (n : ObjectPattern N) → P (record n { rest = Some c })) → (n : ObjectPattern N) → P n
object_pattern_by_rest P none some n = elim n.rest as (λ o. P (record n { rest = o })) [ None ↦ none n | Some c ↦ some c n ]

pub binding_property_by_key : {N : Type 0} (P : BindingProperty N → Type 0) → ((b : Box IdentifierName Global) (n : BindingProperty N) → P (record n { key = (property_keys.IdentifierName b) })) → ((b : Box PrivateIdentifier Global) (n : BindingProperty N) → P (record n { key = (property_keys.PrivateIdentifier b) })) → ((b : Box (ExpressionNode N) Global) (n : BindingProperty N) → P (record n { key = (property_keys.Expression b) })) → (n : BindingProperty N) → P n
binding_property_by_key P of_identifier_name of_private_identifier of_expression n = elim n.key as (λ o. P (record n { key = o })) [ property_keys.IdentifierName b ↦ of_identifier_name b n | property_keys.PrivateIdentifier b ↦ of_private_identifier b n | property_keys.Expression b ↦ of_expression b n ]

pub array_pattern_by_rest : {N : Type 0} (P : ArrayPattern N → Type 0) → ((n : ArrayPattern N) → P (record n { rest = None })) → ((c : Box (BindingRestElement N) Global) (n : ArrayPattern N) → P (record n { rest = Some c })) → (n : ArrayPattern N) → P n
array_pattern_by_rest P none some n = elim n.rest as (λ o. P (record n { rest = o })) [ None ↦ none n | Some c ↦ some c n ]

pub array_assignment_target_by_rest : {N : Type 0} (P : ArrayAssignmentTarget N → Type 0) → ((n : ArrayAssignmentTarget N) → P (record n { rest = None })) → ((c : Box (AssignmentTargetRest N) Global) (n : ArrayAssignmentTarget N) → P (record n { rest = Some c })) → (n : ArrayAssignmentTarget N) → P n
array_assignment_target_by_rest P none some n = elim n.rest as (λ o. P (record n { rest = o })) [ None ↦ none n | Some c ↦ some c n ]

pub boxed_array_assignment_target_by_rest : {N : Type 0} (P : Box (ArrayAssignmentTarget N) Global → Type 0) → ((n : Box (ArrayAssignmentTarget N) Global) → P (record n { value = record n.value { rest = None } })) → ((c : Box (AssignmentTargetRest N) Global) (n : Box (ArrayAssignmentTarget N) Global) → P (record n { value = record n.value { rest = Some c } })) → (n : Box (ArrayAssignmentTarget N) Global) → P n
boxed_array_assignment_target_by_rest P none some n = elim n.value.rest as (λ o. P (record n { value = record n.value { rest = o } })) [ None ↦ none n | Some c ↦ some c n ]

pub object_assignment_target_by_rest : {N : Type 0} (P : ObjectAssignmentTarget N → Type 0) → ((n : ObjectAssignmentTarget N) → P (record n { rest = None })) → ((c : Box (AssignmentTargetRest N) Global) (n : ObjectAssignmentTarget N) → P (record n { rest = Some c })) → (n : ObjectAssignmentTarget N) → P n
object_assignment_target_by_rest P none some n = elim n.rest as (λ o. P (record n { rest = o })) [ None ↦ none n | Some c ↦ some c n ]

pub boxed_object_assignment_target_by_rest : {N : Type 0} (P : Box (ObjectAssignmentTarget N) Global → Type 0) → ((n : Box (ObjectAssignmentTarget N) Global) → P (record n { value = record n.value { rest = None } })) → ((c : Box (AssignmentTargetRest N) Global) (n : Box (ObjectAssignmentTarget N) Global) → P (record n { value = record n.value { rest = Some c } })) → (n : Box (ObjectAssignmentTarget N) Global) → P n
boxed_object_assignment_target_by_rest P none some n = elim n.value.rest as (λ o. P (record n { value = record n.value { rest = o } })) [ None ↦ none n | Some c ↦ some c n ]

pub assignment_target_property_identifier_by_init : {N : Type 0} (P : AssignmentTargetPropertyIdentifier N → Type 0) → ((n : AssignmentTargetPropertyIdentifier N) → P (record n { init = None })) → ((c : ExpressionNode N) (n : AssignmentTargetPropertyIdentifier N) → P (record n { init = Some c })) → (n : AssignmentTargetPropertyIdentifier N) → P n
assignment_target_property_identifier_by_init P none some n = elim n.init as (λ o. P (record n { init = o })) [ None ↦ none n | Some c ↦ some c n ]

pub boxed_assignment_target_property_identifier_by_init : {N : Type 0} (P : Box (AssignmentTargetPropertyIdentifier N) Global → Type 0) → ((n : Box (AssignmentTargetPropertyIdentifier N) Global) → P (record n { value = record n.value { init = None } })) → ((c : ExpressionNode N) (n : Box (AssignmentTargetPropertyIdentifier N) Global) → P (record n { value = record n.value { init = Some c } })) → (n : Box (AssignmentTargetPropertyIdentifier N) Global) → P n
boxed_assignment_target_property_identifier_by_init P none some n = elim n.value.init as (λ o. P (record n { value = record n.value { init = o } })) [ None ↦ none n | Some c ↦ some c n ]

pub assignment_target_property_property_by_name : {N : Type 0} (P : AssignmentTargetPropertyProperty N → Type 0) → ((b : Box IdentifierName Global) (n : AssignmentTargetPropertyProperty N) → P (record n { name = (property_keys.IdentifierName b) })) → ((b : Box PrivateIdentifier Global) (n : AssignmentTargetPropertyProperty N) → P (record n { name = (property_keys.PrivateIdentifier b) })) → ((b : Box (ExpressionNode N) Global) (n : AssignmentTargetPropertyProperty N) → P (record n { name = (property_keys.Expression b) })) → (n : AssignmentTargetPropertyProperty N) → P n
assignment_target_property_property_by_name P of_identifier_name of_private_identifier of_expression n = elim n.name as (λ o. P (record n { name = o })) [ property_keys.IdentifierName b ↦ of_identifier_name b n | property_keys.PrivateIdentifier b ↦ of_private_identifier b n | property_keys.Expression b ↦ of_expression b n ]

pub boxed_assignment_target_property_property_by_name : {N : Type 0} (P : Box (AssignmentTargetPropertyProperty N) Global → Type 0) → ((b : Box IdentifierName Global) (n : Box (AssignmentTargetPropertyProperty N) Global) → P (record n { value = record n.value { name = (property_keys.IdentifierName b) } })) → ((b : Box PrivateIdentifier Global) (n : Box (AssignmentTargetPropertyProperty N) Global) → P (record n { value = record n.value { name = (property_keys.PrivateIdentifier b) } })) → ((b : Box (ExpressionNode N) Global) (n : Box (AssignmentTargetPropertyProperty N) Global) → P (record n { value = record n.value { name = (property_keys.Expression b) } })) → (n : Box (AssignmentTargetPropertyProperty N) Global) → P n
boxed_assignment_target_property_property_by_name P of_identifier_name of_private_identifier of_expression n = elim n.value.name as (λ o. P (record n { value = record n.value { name = o } })) [ property_keys.IdentifierName b ↦ of_identifier_name b n | property_keys.PrivateIdentifier b ↦ of_private_identifier b n | property_keys.Expression b ↦ of_expression b n ]

pub assignment_target_property_property_by_binding : {N : Type 0} (P : AssignmentTargetPropertyProperty N → Type 0) → ((b : Box (AssignmentTargetNode N) Global) (n : AssignmentTargetPropertyProperty N) → P (record n { binding = (assignment_target_maybe_defaults.AssignmentTarget b) })) → ((b : Box (AssignmentTargetWithDefault N) Global) (n : AssignmentTargetPropertyProperty N) → P (record n { binding = (assignment_target_maybe_defaults.AssignmentTargetWithDefault b) })) → (n : AssignmentTargetPropertyProperty N) → P n
assignment_target_property_property_by_binding P of_assignment_target of_assignment_target_with_default n = elim n.binding as (λ o. P (record n { binding = o })) [ assignment_target_maybe_defaults.AssignmentTarget b ↦ of_assignment_target b n | assignment_target_maybe_defaults.AssignmentTargetWithDefault b ↦ of_assignment_target_with_default b n ]

pub boxed_assignment_target_property_property_by_binding : {N : Type 0} (P : Box (AssignmentTargetPropertyProperty N) Global → Type 0) → ((b : Box (AssignmentTargetNode N) Global) (n : Box (AssignmentTargetPropertyProperty N) Global) → P (record n { value = record n.value { binding = (assignment_target_maybe_defaults.AssignmentTarget b) } })) → ((b : Box (AssignmentTargetWithDefault N) Global) (n : Box (AssignmentTargetPropertyProperty N) Global) → P (record n { value = record n.value { binding = (assignment_target_maybe_defaults.AssignmentTargetWithDefault b) } })) → (n : Box (AssignmentTargetPropertyProperty N) Global) → P n
boxed_assignment_target_property_property_by_binding P of_assignment_target of_assignment_target_with_default n = elim n.value.binding as (λ o. P (record n { value = record n.value { binding = o } })) [ assignment_target_maybe_defaults.AssignmentTarget b ↦ of_assignment_target b n | assignment_target_maybe_defaults.AssignmentTargetWithDefault b ↦ of_assignment_target_with_default b n ]

pub class_by_heritage : {N : Type 0} (P : Class N → Type 0) → ((n : Class N) → P (record n { heritage = None })) → ((c : ExpressionNode N) (n : Class N) → P (record n { heritage = Some c })) → (n : Class N) → P n
class_by_heritage P none some n = elim n.heritage as (λ o. P (record n { heritage = o })) [ None ↦ none n | Some c ↦ some c n ]

pub boxed_class_by_heritage : {N : Type 0} (P : Box (Class N) Global → Type 0) → ((n : Box (Class N) Global) → P (record n { value = record n.value { heritage = None } })) → ((c : ExpressionNode N) (n : Box (Class N) Global) → P (record n { value = record n.value { heritage = Some c } })) → (n : Box (Class N) Global) → P n
boxed_class_by_heritage P none some n = elim n.value.heritage as (λ o. P (record n { value = record n.value { heritage = o } })) [ None ↦ none n | Some c ↦ some c n ]

pub method_definition_by_key : {N : Type 0} (P : MethodDefinition N → Type 0) → ((b : Box IdentifierName Global) (n : MethodDefinition N) → P (record n { key = (property_keys.IdentifierName b) })) → ((b : Box PrivateIdentifier Global) (n : MethodDefinition N) → P (record n { key = (property_keys.PrivateIdentifier b) })) → ((b : Box (ExpressionNode N) Global) (n : MethodDefinition N) → P (record n { key = (property_keys.Expression b) })) → (n : MethodDefinition N) → P n
method_definition_by_key P of_identifier_name of_private_identifier of_expression n = elim n.key as (λ o. P (record n { key = o })) [ property_keys.IdentifierName b ↦ of_identifier_name b n | property_keys.PrivateIdentifier b ↦ of_private_identifier b n | property_keys.Expression b ↦ of_expression b n ]

pub method_definition_by_value : {N : Type 0} (P : MethodDefinition N → Type 0) → ((c : Box (Function N) Global) (n : MethodDefinition N) → P (record n { value = c })) → (n : MethodDefinition N) → P n
method_definition_by_value P all n = all n.value n

pub property_definition_by_key : {N : Type 0} (P : PropertyDefinition N → Type 0) → ((b : Box IdentifierName Global) (n : PropertyDefinition N) → P (record n { key = (property_keys.IdentifierName b) })) → ((b : Box PrivateIdentifier Global) (n : PropertyDefinition N) → P (record n { key = (property_keys.PrivateIdentifier b) })) → ((b : Box (ExpressionNode N) Global) (n : PropertyDefinition N) → P (record n { key = (property_keys.Expression b) })) → (n : PropertyDefinition N) → P n
property_definition_by_key P of_identifier_name of_private_identifier of_expression n = elim n.key as (λ o. P (record n { key = o })) [ property_keys.IdentifierName b ↦ of_identifier_name b n | property_keys.PrivateIdentifier b ↦ of_private_identifier b n | property_keys.Expression b ↦ of_expression b n ]

pub property_definition_by_value : {N : Type 0} (P : PropertyDefinition N → Type 0) → ((n : PropertyDefinition N) → P (record n { value = None })) → ((c : ExpressionNode N) (n : PropertyDefinition N) → P (record n { value = Some c })) → (n : PropertyDefinition N) → P n
property_definition_by_value P none some n = elim n.value as (λ o. P (record n { value = o })) [ None ↦ none n | Some c ↦ some c n ]

pub export_default_declaration_by_declaration : {N : Type 0} (P : ExportDefaultDeclaration N → Type 0) → ((b : Box (Function N) Global) (n : ExportDefaultDeclaration N) → P (record n { declaration = (export_default_declaration_kinds.Function b) })) → ((b : Box (Class N) Global) (n : ExportDefaultDeclaration N) → P (record n { declaration = (export_default_declaration_kinds.Class b) })) → ((b : Box (ExpressionNode N) Global) (n : ExportDefaultDeclaration N) → P (record n { declaration = (export_default_declaration_kinds.Expression b) })) → (n : ExportDefaultDeclaration N) → P n
export_default_declaration_by_declaration P of_function of_class of_expression n = elim n.declaration as (λ o. P (record n { declaration = o })) [ export_default_declaration_kinds.Function b ↦ of_function b n | export_default_declaration_kinds.Class b ↦ of_class b n | export_default_declaration_kinds.Expression b ↦ of_expression b n ]
