-- Generated from tools/nodes/table.txt; edit that and run tools/nodes/generate.
-- The types in each set.
use Rattle.std.specs.Prelude.{Bool, true, false}
use Rattle.jsgen_tree.specs.declared.types.NodeType.{NodeType}
use Rattle.jsgen_tree.specs.declared.types.NodeSet.{NodeSet}
use Rattle.jsgen_tree.specs.declared.types.NodeType.TheVariants as types
use Rattle.jsgen_tree.specs.declared.types.NodeSet.TheVariants as sets

abbrev pub is_expression : NodeType → Bool
is_expression types.IdentifierReference = true
is_expression types.ThisExpression = true
is_expression types.NullLiteral = true
is_expression types.BooleanLiteral = true
is_expression types.NumericLiteral = true
is_expression types.BigIntLiteral = true
is_expression types.StringLiteral = true
is_expression types.RegExpLiteral = true
is_expression types.BinaryExpression = true
is_expression types.LogicalExpression = true
is_expression types.ParenthesizedExpression = true
is_expression types.StaticMemberExpression = true
is_expression types.ComputedMemberExpression = true
is_expression types.CallExpression = true
is_expression types.ChainExpression = true
is_expression types.ArrayExpression = true
is_expression types.ObjectExpression = true
is_expression types.UnaryExpression = true
is_expression types.UpdateExpression = true
is_expression types.NewExpression = true
is_expression types.NewTarget = true
is_expression types.Super = true
is_expression types.ImportMeta = true
is_expression types.ConditionalExpression = true
is_expression types.SequenceExpression = true
is_expression types.AssignmentExpression = true
is_expression types.Function = true
is_expression types.ArrowFunctionExpression = true
is_expression types.Class = true
is_expression types.PrivateFieldExpression = true
is_expression types.PrivateInExpression = true
is_expression types.AwaitExpression = true
is_expression types.YieldExpression = true
is_expression types.TemplateLiteral = true
is_expression types.TaggedTemplateExpression = true
is_expression types.ImportExpression = true
is_expression type = false

abbrev pub is_argument : NodeType → Bool
is_argument types.SpreadElement = true
is_argument type = is_expression type

abbrev pub is_array_expression_element : NodeType → Bool
is_array_expression_element types.SpreadElement = true
is_array_expression_element type = is_expression type

abbrev pub is_chain_element : NodeType → Bool
is_chain_element types.StaticMemberExpression = true
is_chain_element types.ComputedMemberExpression = true
is_chain_element types.PrivateFieldExpression = true
is_chain_element types.CallExpression = true
is_chain_element type = false

abbrev pub is_member_expression : NodeType → Bool
is_member_expression types.StaticMemberExpression = true
is_member_expression types.ComputedMemberExpression = true
is_member_expression types.PrivateFieldExpression = true
is_member_expression type = false

abbrev pub is_simple_assignment_target : NodeType → Bool
is_simple_assignment_target types.IdentifierReference = true
is_simple_assignment_target types.StaticMemberExpression = true
is_simple_assignment_target types.ComputedMemberExpression = true
is_simple_assignment_target types.PrivateFieldExpression = true
is_simple_assignment_target type = false

abbrev pub is_assignment_target_pattern : NodeType → Bool
is_assignment_target_pattern types.ArrayAssignmentTarget = true
is_assignment_target_pattern types.ObjectAssignmentTarget = true
is_assignment_target_pattern type = false

abbrev pub is_assignment_target : NodeType → Bool
is_assignment_target types.IdentifierReference = true
is_assignment_target types.StaticMemberExpression = true
is_assignment_target types.ComputedMemberExpression = true
is_assignment_target types.PrivateFieldExpression = true
is_assignment_target types.ArrayAssignmentTarget = true
is_assignment_target types.ObjectAssignmentTarget = true
is_assignment_target type = false

abbrev pub is_assignment_target_maybe_default : NodeType → Bool
is_assignment_target_maybe_default types.AssignmentTargetWithDefault = true
is_assignment_target_maybe_default type = is_assignment_target type

abbrev pub is_assignment_target_property : NodeType → Bool
is_assignment_target_property types.AssignmentTargetPropertyIdentifier = true
is_assignment_target_property types.AssignmentTargetPropertyProperty = true
is_assignment_target_property type = false

abbrev pub is_arrow_function_body : NodeType → Bool
is_arrow_function_body types.FunctionBody = true
is_arrow_function_body type = is_expression type

abbrev pub is_for_statement_init : NodeType → Bool
is_for_statement_init types.VariableDeclaration = true
is_for_statement_init type = is_expression type

abbrev pub is_for_statement_left : NodeType → Bool
is_for_statement_left types.VariableDeclaration = true
is_for_statement_left type = is_assignment_target type

abbrev pub is_object_property_kind : NodeType → Bool
is_object_property_kind types.ObjectProperty = true
is_object_property_kind types.SpreadElement = true
is_object_property_kind type = false

abbrev pub is_property_key : NodeType → Bool
is_property_key types.IdentifierName = true
is_property_key types.PrivateIdentifier = true
is_property_key type = is_expression type

abbrev pub is_declaration : NodeType → Bool
is_declaration types.VariableDeclaration = true
is_declaration types.Function = true
is_declaration types.Class = true
is_declaration type = false

abbrev pub is_statement : NodeType → Bool
is_statement types.ExpressionStatement = true
is_statement types.BlockStatement = true
is_statement types.IfStatement = true
is_statement types.EmptyStatement = true
is_statement types.ForStatement = true
is_statement types.ForInStatement = true
is_statement types.ForOfStatement = true
is_statement types.WhileStatement = true
is_statement types.DoWhileStatement = true
is_statement types.LabeledStatement = true
is_statement types.ContinueStatement = true
is_statement types.BreakStatement = true
is_statement types.ReturnStatement = true
is_statement types.ThrowStatement = true
is_statement types.DebuggerStatement = true
is_statement types.SwitchStatement = true
is_statement types.TryStatement = true
is_statement types.ImportDeclaration = true
is_statement types.ExportDeclaration = true
is_statement types.ExportNamedDeclaration = true
is_statement types.ExportFromDeclaration = true
is_statement types.ExportAllDeclaration = true
is_statement types.ExportDefaultDeclaration = true
is_statement type = is_declaration type

abbrev pub is_binding_pattern : NodeType → Bool
is_binding_pattern types.BindingIdentifier = true
is_binding_pattern types.ObjectPattern = true
is_binding_pattern types.ArrayPattern = true
is_binding_pattern types.AssignmentPattern = true
is_binding_pattern type = false

abbrev pub is_class_element : NodeType → Bool
is_class_element types.StaticBlock = true
is_class_element types.MethodDefinition = true
is_class_element types.PropertyDefinition = true
is_class_element type = false

abbrev pub is_module_export_name : NodeType → Bool
is_module_export_name types.IdentifierName = true
is_module_export_name types.IdentifierReference = true
is_module_export_name types.StringLiteral = true
is_module_export_name type = false

abbrev pub is_import_declaration_specifier : NodeType → Bool
is_import_declaration_specifier types.ImportDefaultSpecifier = true
is_import_declaration_specifier types.ImportNamespaceSpecifier = true
is_import_declaration_specifier types.ImportSpecifier = true
is_import_declaration_specifier type = false

abbrev pub is_import_attribute_key : NodeType → Bool
is_import_attribute_key types.IdentifierName = true
is_import_attribute_key types.StringLiteral = true
is_import_attribute_key type = false

abbrev pub is_export_default_declaration_kind : NodeType → Bool
is_export_default_declaration_kind type = is_expression type

abbrev pub is_comment : NodeType → Bool
is_comment types.Comment = true
is_comment type = false

abbrev pub is_hashbang : NodeType → Bool
is_hashbang types.Hashbang = true
is_hashbang type = false

abbrev pub is_directive : NodeType → Bool
is_directive types.Directive = true
is_directive type = false

abbrev pub is_variable_declarator : NodeType → Bool
is_variable_declarator types.VariableDeclarator = true
is_variable_declarator type = false

abbrev pub is_identifier_name : NodeType → Bool
is_identifier_name types.IdentifierName = true
is_identifier_name type = false

abbrev pub is_formal_parameter : NodeType → Bool
is_formal_parameter types.FormalParameter = true
is_formal_parameter type = false

abbrev pub is_formal_parameter_rest : NodeType → Bool
is_formal_parameter_rest types.FormalParameterRest = true
is_formal_parameter_rest type = false

abbrev pub is_binding_identifier : NodeType → Bool
is_binding_identifier types.BindingIdentifier = true
is_binding_identifier type = false

abbrev pub is_formal_parameters : NodeType → Bool
is_formal_parameters types.FormalParameters = true
is_formal_parameters type = false

abbrev pub is_function_body : NodeType → Bool
is_function_body types.FunctionBody = true
is_function_body type = false

abbrev pub is_template_element : NodeType → Bool
is_template_element types.TemplateElement = true
is_template_element type = false

abbrev pub is_template_literal : NodeType → Bool
is_template_literal types.TemplateLiteral = true
is_template_literal type = false

abbrev pub is_label_identifier : NodeType → Bool
is_label_identifier types.LabelIdentifier = true
is_label_identifier type = false

abbrev pub is_switch_case : NodeType → Bool
is_switch_case types.SwitchCase = true
is_switch_case type = false

abbrev pub is_block_statement : NodeType → Bool
is_block_statement types.BlockStatement = true
is_block_statement type = false

abbrev pub is_catch_clause : NodeType → Bool
is_catch_clause types.CatchClause = true
is_catch_clause type = false

abbrev pub is_binding_property : NodeType → Bool
is_binding_property types.BindingProperty = true
is_binding_property type = false

abbrev pub is_binding_rest_element : NodeType → Bool
is_binding_rest_element types.BindingRestElement = true
is_binding_rest_element type = false

abbrev pub is_assignment_target_rest : NodeType → Bool
is_assignment_target_rest types.AssignmentTargetRest = true
is_assignment_target_rest type = false

abbrev pub is_identifier_reference : NodeType → Bool
is_identifier_reference types.IdentifierReference = true
is_identifier_reference type = false

abbrev pub is_private_identifier : NodeType → Bool
is_private_identifier types.PrivateIdentifier = true
is_private_identifier type = false

abbrev pub is_class_body : NodeType → Bool
is_class_body types.ClassBody = true
is_class_body type = false

abbrev pub is_function : NodeType → Bool
is_function types.Function = true
is_function type = false

abbrev pub is_string_literal : NodeType → Bool
is_string_literal types.StringLiteral = true
is_string_literal type = false

abbrev pub is_with_clause : NodeType → Bool
is_with_clause types.WithClause = true
is_with_clause type = false

abbrev pub is_import_attribute : NodeType → Bool
is_import_attribute types.ImportAttribute = true
is_import_attribute type = false

abbrev pub is_export_specifier : NodeType → Bool
is_export_specifier types.ExportSpecifier = true
is_export_specifier type = false

abbrev pub in_set : NodeSet → NodeType → Bool
in_set sets.Comment t = is_comment t
in_set sets.Hashbang t = is_hashbang t
in_set sets.Directive t = is_directive t
in_set sets.Statement t = is_statement t
in_set sets.VariableDeclarator t = is_variable_declarator t
in_set sets.BindingPattern t = is_binding_pattern t
in_set sets.Expression t = is_expression t
in_set sets.IdentifierName t = is_identifier_name t
in_set sets.Argument t = is_argument t
in_set sets.ChainElement t = is_chain_element t
in_set sets.ArrayExpressionElement t = is_array_expression_element t
in_set sets.PropertyKey t = is_property_key t
in_set sets.ObjectPropertyKind t = is_object_property_kind t
in_set sets.SimpleAssignmentTarget t = is_simple_assignment_target t
in_set sets.AssignmentTarget t = is_assignment_target t
in_set sets.FormalParameter t = is_formal_parameter t
in_set sets.FormalParameterRest t = is_formal_parameter_rest t
in_set sets.BindingIdentifier t = is_binding_identifier t
in_set sets.FormalParameters t = is_formal_parameters t
in_set sets.FunctionBody t = is_function_body t
in_set sets.ArrowFunctionBody t = is_arrow_function_body t
in_set sets.TemplateElement t = is_template_element t
in_set sets.TemplateLiteral t = is_template_literal t
in_set sets.ForStatementInit t = is_for_statement_init t
in_set sets.ForStatementLeft t = is_for_statement_left t
in_set sets.LabelIdentifier t = is_label_identifier t
in_set sets.SwitchCase t = is_switch_case t
in_set sets.BlockStatement t = is_block_statement t
in_set sets.CatchClause t = is_catch_clause t
in_set sets.BindingProperty t = is_binding_property t
in_set sets.BindingRestElement t = is_binding_rest_element t
in_set sets.AssignmentTargetMaybeDefault t = is_assignment_target_maybe_default t
in_set sets.AssignmentTargetRest t = is_assignment_target_rest t
in_set sets.AssignmentTargetProperty t = is_assignment_target_property t
in_set sets.IdentifierReference t = is_identifier_reference t
in_set sets.PrivateIdentifier t = is_private_identifier t
in_set sets.ClassBody t = is_class_body t
in_set sets.ClassElement t = is_class_element t
in_set sets.Function t = is_function t
in_set sets.ImportDeclarationSpecifier t = is_import_declaration_specifier t
in_set sets.StringLiteral t = is_string_literal t
in_set sets.WithClause t = is_with_clause t
in_set sets.ModuleExportName t = is_module_export_name t
in_set sets.ImportAttribute t = is_import_attribute t
in_set sets.ImportAttributeKey t = is_import_attribute_key t
in_set sets.Declaration t = is_declaration t
in_set sets.ExportSpecifier t = is_export_specifier t
in_set sets.ExportDefaultDeclarationKind t = is_export_default_declaration_kind t
in_set sets.Link t = is_expression t
in_set sets.BindingElement t = is_binding_pattern t
in_set sets.ModuleItem t = is_statement t
