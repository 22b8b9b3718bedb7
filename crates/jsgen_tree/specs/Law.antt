-- Generated from tools/nodes/table.txt; edit that and run tools/nodes/generate.
-- What is promised of the names of fields.
use Rattle.std.specs.Prelude.{◌≡◌, codes}
use Rattle.jsgen_tree.specs.Tree.{Atoms}
use Rattle.jsgen_tree.specs.Table.{value_named}
use Rattle.jsgen_tree.specs.Fields.{fields}
use Rattle.jsgen_tree.specs.Values.{as_text, as_units, as_digits, as_number, as_flag, as_kind_of_comment, as_content_of_comment, as_source_kind, as_declaration_kind, as_numeric_kind, as_binary_operator, as_logical_operator, as_property_kind, as_unary_operator, as_update_operator, as_assignment_operator, as_kind_of_function, as_class_form, as_kind_of_method, as_kind_of_import, as_with_keyword, as_number_if_given, as_units_if_given, program_source, program_kind, program_jsx, program_typescript, comment_kind, comment_content, comment_leading, comment_attached_to, comment_preceded_by_newline, comment_followed_by_newline, directive_directive, variable_declaration_kind, variable_declaration_declare, variable_declarator_definite, binding_identifier_name, binding_identifier_symbol, identifier_reference_name, identifier_reference_reference, boolean_literal_value, numeric_literal_kind, numeric_literal_negative, numeric_literal_digits, numeric_literal_text, big_int_literal_value, string_literal_value, reg_exp_literal_pattern, reg_exp_literal_flags, binary_expression_operator, logical_expression_operator, identifier_name_name, static_member_expression_optional, computed_member_expression_optional, call_expression_optional, call_expression_pure, object_property_kind, object_property_method, object_property_shorthand, object_property_computed, unary_expression_operator, update_expression_operator, update_expression_prefix, new_expression_pure, assignment_expression_operator, formal_parameter_is_override, formal_parameter_readonly, formal_parameter_optional, function_kind, function_is_async, function_generator, function_declare, function_pure, function_pife, arrow_function_expression_is_async, arrow_function_expression_pure, arrow_function_expression_pife, yield_expression_delegate, template_element_raw, template_element_cooked, for_of_statement_is_await, label_identifier_name, binding_property_computed, assignment_target_property_property_computed, private_identifier_name, private_field_expression_optional, class_kind, class_declare, class_is_abstract, method_definition_kind, method_definition_computed, method_definition_is_static, method_definition_is_override, method_definition_is_abstract, method_definition_optional, property_definition_computed, property_definition_declare, property_definition_is_abstract, property_definition_is_static, property_definition_is_override, property_definition_readonly, property_definition_optional, property_definition_definite, hashbang_value, import_declaration_import_kind, import_specifier_import_kind, with_clause_keyword, export_named_declaration_export_kind, export_from_declaration_export_kind, export_specifier_export_kind, export_all_declaration_export_kind}
use Rattle.jsgen_tree.specs.declared.types.NodeType.TheVariants as types

-- each value is that of the field of its name
pub record FieldsAreNamed : Type 0 where
  pub program : (a : Atoms) → (program_source a ≡ as_text (value_named (codes "source") (fields types.Program) a.values)) × (program_kind a ≡ as_source_kind (value_named (codes "kind") (fields types.Program) a.values)) × (program_jsx a ≡ as_flag (value_named (codes "jsx") (fields types.Program) a.values)) × (program_typescript a ≡ as_flag (value_named (codes "typescript") (fields types.Program) a.values))
  pub comment : (a : Atoms) → (comment_kind a ≡ as_kind_of_comment (value_named (codes "kind") (fields types.Comment) a.values)) × (comment_content a ≡ as_content_of_comment (value_named (codes "content") (fields types.Comment) a.values)) × (comment_leading a ≡ as_flag (value_named (codes "leading") (fields types.Comment) a.values)) × (comment_attached_to a ≡ as_number (value_named (codes "attached_to") (fields types.Comment) a.values)) × (comment_preceded_by_newline a ≡ as_flag (value_named (codes "preceded_by_newline") (fields types.Comment) a.values)) × (comment_followed_by_newline a ≡ as_flag (value_named (codes "followed_by_newline") (fields types.Comment) a.values))
  pub directive : (a : Atoms) → directive_directive a ≡ value_named (codes "directive") (fields types.Directive) a.values
  pub variable_declaration : (a : Atoms) → (variable_declaration_kind a ≡ as_declaration_kind (value_named (codes "kind") (fields types.VariableDeclaration) a.values)) × (variable_declaration_declare a ≡ as_flag (value_named (codes "declare") (fields types.VariableDeclaration) a.values))
  pub variable_declarator : (a : Atoms) → variable_declarator_definite a ≡ as_flag (value_named (codes "definite") (fields types.VariableDeclarator) a.values)
  pub binding_identifier : (a : Atoms) → (binding_identifier_name a ≡ as_text (value_named (codes "name") (fields types.BindingIdentifier) a.values)) × (binding_identifier_symbol a ≡ as_number_if_given (value_named (codes "symbol") (fields types.BindingIdentifier) a.values))
  pub identifier_reference : (a : Atoms) → (identifier_reference_name a ≡ as_text (value_named (codes "name") (fields types.IdentifierReference) a.values)) × (identifier_reference_reference a ≡ as_number_if_given (value_named (codes "reference") (fields types.IdentifierReference) a.values))
  pub boolean_literal : (a : Atoms) → boolean_literal_value a ≡ as_flag (value_named (codes "value") (fields types.BooleanLiteral) a.values)
  pub numeric_literal : (a : Atoms) → (numeric_literal_kind a ≡ as_numeric_kind (value_named (codes "kind") (fields types.NumericLiteral) a.values)) × (numeric_literal_negative a ≡ as_flag (value_named (codes "negative") (fields types.NumericLiteral) a.values)) × (numeric_literal_digits a ≡ as_digits (value_named (codes "digits") (fields types.NumericLiteral) a.values)) × (numeric_literal_text a ≡ as_text (value_named (codes "text") (fields types.NumericLiteral) a.values))
  pub big_int_literal : (a : Atoms) → big_int_literal_value a ≡ as_text (value_named (codes "value") (fields types.BigIntLiteral) a.values)
  pub string_literal : (a : Atoms) → string_literal_value a ≡ as_units (value_named (codes "value") (fields types.StringLiteral) a.values)
  pub reg_exp_literal : (a : Atoms) → (reg_exp_literal_pattern a ≡ as_text (value_named (codes "pattern") (fields types.RegExpLiteral) a.values)) × (reg_exp_literal_flags a ≡ as_text (value_named (codes "flags") (fields types.RegExpLiteral) a.values))
  pub binary_expression : (a : Atoms) → binary_expression_operator a ≡ as_binary_operator (value_named (codes "operator") (fields types.BinaryExpression) a.values)
  pub logical_expression : (a : Atoms) → logical_expression_operator a ≡ as_logical_operator (value_named (codes "operator") (fields types.LogicalExpression) a.values)
  pub identifier_name : (a : Atoms) → identifier_name_name a ≡ as_text (value_named (codes "name") (fields types.IdentifierName) a.values)
  pub static_member_expression : (a : Atoms) → static_member_expression_optional a ≡ as_flag (value_named (codes "optional") (fields types.StaticMemberExpression) a.values)
  pub computed_member_expression : (a : Atoms) → computed_member_expression_optional a ≡ as_flag (value_named (codes "optional") (fields types.ComputedMemberExpression) a.values)
  pub call_expression : (a : Atoms) → (call_expression_optional a ≡ as_flag (value_named (codes "optional") (fields types.CallExpression) a.values)) × (call_expression_pure a ≡ as_flag (value_named (codes "pure") (fields types.CallExpression) a.values))
  pub object_property : (a : Atoms) → (object_property_kind a ≡ as_property_kind (value_named (codes "kind") (fields types.ObjectProperty) a.values)) × (object_property_method a ≡ as_flag (value_named (codes "method") (fields types.ObjectProperty) a.values)) × (object_property_shorthand a ≡ as_flag (value_named (codes "shorthand") (fields types.ObjectProperty) a.values)) × (object_property_computed a ≡ as_flag (value_named (codes "computed") (fields types.ObjectProperty) a.values))
  pub unary_expression : (a : Atoms) → unary_expression_operator a ≡ as_unary_operator (value_named (codes "operator") (fields types.UnaryExpression) a.values)
  pub update_expression : (a : Atoms) → (update_expression_operator a ≡ as_update_operator (value_named (codes "operator") (fields types.UpdateExpression) a.values)) × (update_expression_prefix a ≡ as_flag (value_named (codes "prefix") (fields types.UpdateExpression) a.values))
  pub new_expression : (a : Atoms) → new_expression_pure a ≡ as_flag (value_named (codes "pure") (fields types.NewExpression) a.values)
  pub assignment_expression : (a : Atoms) → assignment_expression_operator a ≡ as_assignment_operator (value_named (codes "operator") (fields types.AssignmentExpression) a.values)
  pub formal_parameter : (a : Atoms) → (formal_parameter_is_override a ≡ as_flag (value_named (codes "is_override") (fields types.FormalParameter) a.values)) × (formal_parameter_readonly a ≡ as_flag (value_named (codes "readonly") (fields types.FormalParameter) a.values)) × (formal_parameter_optional a ≡ as_flag (value_named (codes "optional") (fields types.FormalParameter) a.values))
  pub function : (a : Atoms) → (function_kind a ≡ as_kind_of_function (value_named (codes "kind") (fields types.Function) a.values)) × (function_is_async a ≡ as_flag (value_named (codes "is_async") (fields types.Function) a.values)) × (function_generator a ≡ as_flag (value_named (codes "generator") (fields types.Function) a.values)) × (function_declare a ≡ as_flag (value_named (codes "declare") (fields types.Function) a.values)) × (function_pure a ≡ as_flag (value_named (codes "pure") (fields types.Function) a.values)) × (function_pife a ≡ as_flag (value_named (codes "pife") (fields types.Function) a.values))
  pub arrow_function_expression : (a : Atoms) → (arrow_function_expression_is_async a ≡ as_flag (value_named (codes "is_async") (fields types.ArrowFunctionExpression) a.values)) × (arrow_function_expression_pure a ≡ as_flag (value_named (codes "pure") (fields types.ArrowFunctionExpression) a.values)) × (arrow_function_expression_pife a ≡ as_flag (value_named (codes "pife") (fields types.ArrowFunctionExpression) a.values))
  pub yield_expression : (a : Atoms) → yield_expression_delegate a ≡ as_flag (value_named (codes "delegate") (fields types.YieldExpression) a.values)
  pub template_element : (a : Atoms) → (template_element_raw a ≡ as_text (value_named (codes "raw") (fields types.TemplateElement) a.values)) × (template_element_cooked a ≡ as_units_if_given (value_named (codes "cooked") (fields types.TemplateElement) a.values))
  pub for_of_statement : (a : Atoms) → for_of_statement_is_await a ≡ as_flag (value_named (codes "is_await") (fields types.ForOfStatement) a.values)
  pub label_identifier : (a : Atoms) → label_identifier_name a ≡ as_text (value_named (codes "name") (fields types.LabelIdentifier) a.values)
  pub binding_property : (a : Atoms) → binding_property_computed a ≡ as_flag (value_named (codes "computed") (fields types.BindingProperty) a.values)
  pub assignment_target_property_property : (a : Atoms) → assignment_target_property_property_computed a ≡ as_flag (value_named (codes "computed") (fields types.AssignmentTargetPropertyProperty) a.values)
  pub private_identifier : (a : Atoms) → private_identifier_name a ≡ as_text (value_named (codes "name") (fields types.PrivateIdentifier) a.values)
  pub private_field_expression : (a : Atoms) → private_field_expression_optional a ≡ as_flag (value_named (codes "optional") (fields types.PrivateFieldExpression) a.values)
  pub class : (a : Atoms) → (class_kind a ≡ as_class_form (value_named (codes "kind") (fields types.Class) a.values)) × (class_declare a ≡ as_flag (value_named (codes "declare") (fields types.Class) a.values)) × (class_is_abstract a ≡ as_flag (value_named (codes "is_abstract") (fields types.Class) a.values))
  pub method_definition : (a : Atoms) → (method_definition_kind a ≡ as_kind_of_method (value_named (codes "kind") (fields types.MethodDefinition) a.values)) × (method_definition_computed a ≡ as_flag (value_named (codes "computed") (fields types.MethodDefinition) a.values)) × (method_definition_is_static a ≡ as_flag (value_named (codes "is_static") (fields types.MethodDefinition) a.values)) × (method_definition_is_override a ≡ as_flag (value_named (codes "is_override") (fields types.MethodDefinition) a.values)) × (method_definition_is_abstract a ≡ as_flag (value_named (codes "is_abstract") (fields types.MethodDefinition) a.values)) × (method_definition_optional a ≡ as_flag (value_named (codes "optional") (fields types.MethodDefinition) a.values))
  pub property_definition : (a : Atoms) → (property_definition_computed a ≡ as_flag (value_named (codes "computed") (fields types.PropertyDefinition) a.values)) × (property_definition_declare a ≡ as_flag (value_named (codes "declare") (fields types.PropertyDefinition) a.values)) × (property_definition_is_abstract a ≡ as_flag (value_named (codes "is_abstract") (fields types.PropertyDefinition) a.values)) × (property_definition_is_static a ≡ as_flag (value_named (codes "is_static") (fields types.PropertyDefinition) a.values)) × (property_definition_is_override a ≡ as_flag (value_named (codes "is_override") (fields types.PropertyDefinition) a.values)) × (property_definition_readonly a ≡ as_flag (value_named (codes "readonly") (fields types.PropertyDefinition) a.values)) × (property_definition_optional a ≡ as_flag (value_named (codes "optional") (fields types.PropertyDefinition) a.values)) × (property_definition_definite a ≡ as_flag (value_named (codes "definite") (fields types.PropertyDefinition) a.values))
  pub hashbang : (a : Atoms) → hashbang_value a ≡ as_text (value_named (codes "value") (fields types.Hashbang) a.values)
  pub import_declaration : (a : Atoms) → import_declaration_import_kind a ≡ as_kind_of_import (value_named (codes "import_kind") (fields types.ImportDeclaration) a.values)
  pub import_specifier : (a : Atoms) → import_specifier_import_kind a ≡ as_kind_of_import (value_named (codes "import_kind") (fields types.ImportSpecifier) a.values)
  pub with_clause : (a : Atoms) → with_clause_keyword a ≡ as_with_keyword (value_named (codes "keyword") (fields types.WithClause) a.values)
  pub export_named_declaration : (a : Atoms) → export_named_declaration_export_kind a ≡ as_kind_of_import (value_named (codes "export_kind") (fields types.ExportNamedDeclaration) a.values)
  pub export_from_declaration : (a : Atoms) → export_from_declaration_export_kind a ≡ as_kind_of_import (value_named (codes "export_kind") (fields types.ExportFromDeclaration) a.values)
  pub export_specifier : (a : Atoms) → export_specifier_export_kind a ≡ as_kind_of_import (value_named (codes "export_kind") (fields types.ExportSpecifier) a.values)
  pub export_all_declaration : (a : Atoms) → export_all_declaration_export_kind a ≡ as_kind_of_import (value_named (codes "export_kind") (fields types.ExportAllDeclaration) a.values)
