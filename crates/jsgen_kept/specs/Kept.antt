-- Generated from tools/nodes/table.txt; edit that and run tools/nodes/generate.
-- The plain data of what the reader keeps.
use Rattle.std.specs.Prelude.{List, Bool, true, false}
use Rattle.jsgen_tree.specs.Tree.{Tree}
use Rattle.jsgen_tree.specs.declared.types.NodeType.{NodeType}
use Rattle.jsgen_tree.specs.Rows.{program_row, comment_row, directive_row, variable_declarator_row, identifier_reference_row, identifier_name_row, static_member_expression_row, computed_member_expression_row, spread_element_row, object_property_row, formal_parameter_row, formal_parameter_rest_row, formal_parameters_row, function_row, function_body_row, template_element_row, label_identifier_row, switch_case_row, catch_clause_row, binding_property_row, binding_rest_element_row, assignment_target_with_default_row, assignment_target_property_identifier_row, assignment_target_property_property_row, assignment_target_rest_row, private_identifier_row, private_field_expression_row, class_row, class_body_row, hashbang_row, import_default_specifier_row, import_namespace_specifier_row, import_specifier_row, with_clause_row, import_attribute_row, export_specifier_row, expression_plain, assignment_target_plain, declaration_plain, statement_plain, binding_pattern_plain, class_element_plain}
use Rattle.jsgen_pool.specs.Pool.{Entry}
use Rattle.jsgen_pool.specs.declared.Kept.{Kept}
use Rattle.jsgen_kept.specs.declared.kept.Row.{Row}
use Rattle.jsgen_kept.specs.declared.kept.AnyRow.{AnyRow}
use Rattle.jsgen_tree.specs.declared.types.NodeType.TheVariants as types
use Rattle.jsgen_pool.specs.Pool as pool
use Rattle.jsgen_kept.specs.declared.kept.Row.TheVariants as rows

abbrev pub row_plain : {N : Type 0} → (N → Tree) → Row N → Tree
row_plain plain (rows.Program b) = program_row plain b.value
row_plain plain (rows.Comment b) = comment_row b.value
row_plain plain (rows.Directive b) = directive_row b.value
row_plain plain (rows.Declaration b) = declaration_plain plain b.value.declaration
row_plain plain (rows.VariableDeclarator b) = variable_declarator_row plain b.value
row_plain plain (rows.BindingPattern b) = binding_pattern_plain plain b.value
row_plain plain (rows.Statement b) = statement_plain plain b.value.statement
row_plain plain (rows.IdentifierReference b) = identifier_reference_row b.value
row_plain plain (rows.Expression b) = expression_plain plain b.value.expression
row_plain plain (rows.IdentifierName b) = identifier_name_row b.value
row_plain plain (rows.StaticMemberExpression b) = static_member_expression_row plain b.value
row_plain plain (rows.ComputedMemberExpression b) = computed_member_expression_row plain b.value
row_plain plain (rows.SpreadElement b) = spread_element_row plain b.value
row_plain plain (rows.ObjectProperty b) = object_property_row plain b.value
row_plain plain (rows.FormalParameter b) = formal_parameter_row plain b.value
row_plain plain (rows.FormalParameterRest b) = formal_parameter_rest_row plain b.value
row_plain plain (rows.FormalParameters b) = formal_parameters_row plain b.value
row_plain plain (rows.Function b) = function_row plain b.value
row_plain plain (rows.FunctionBody b) = function_body_row plain b.value
row_plain plain (rows.TemplateElement b) = template_element_row b.value
row_plain plain (rows.LabelIdentifier b) = label_identifier_row b.value
row_plain plain (rows.SwitchCase b) = switch_case_row plain b.value
row_plain plain (rows.CatchClause b) = catch_clause_row plain b.value
row_plain plain (rows.BindingProperty b) = binding_property_row plain b.value
row_plain plain (rows.BindingRestElement b) = binding_rest_element_row plain b.value
row_plain plain (rows.AssignmentTarget b) = assignment_target_plain plain b.value.assignment_target
row_plain plain (rows.AssignmentTargetWithDefault b) = assignment_target_with_default_row plain b.value
row_plain plain (rows.AssignmentTargetPropertyIdentifier b) = assignment_target_property_identifier_row plain b.value
row_plain plain (rows.AssignmentTargetPropertyProperty b) = assignment_target_property_property_row plain b.value
row_plain plain (rows.AssignmentTargetRest b) = assignment_target_rest_row plain b.value
row_plain plain (rows.PrivateIdentifier b) = private_identifier_row b.value
row_plain plain (rows.PrivateFieldExpression b) = private_field_expression_row plain b.value
row_plain plain (rows.Class b) = class_row plain b.value
row_plain plain (rows.ClassBody b) = class_body_row plain b.value
row_plain plain (rows.ClassElement b) = class_element_plain plain b.value
row_plain plain (rows.Hashbang b) = hashbang_row b.value
row_plain plain (rows.ImportDefaultSpecifier b) = import_default_specifier_row b.value
row_plain plain (rows.ImportNamespaceSpecifier b) = import_namespace_specifier_row b.value
row_plain plain (rows.ImportSpecifier b) = import_specifier_row b.value
row_plain plain (rows.WithClause b) = with_clause_row b.value
row_plain plain (rows.ImportAttribute b) = import_attribute_row b.value
row_plain plain (rows.ExportSpecifier b) = export_specifier_row b.value

abbrev pub any_row_plain : {N : Type 0} → (N → Tree) → AnyRow N → Tree
any_row_plain plain any = row_plain plain any.row

abbrev pub entry : {N : Type 0} → (N → Tree) → Kept (AnyRow N) → Entry
entry plain k = pool.entry (any_row_plain plain) k

abbrev pub entries : {N : Type 0} → (N → Tree) → List (Kept (AnyRow N)) → List Entry
entries plain ks = pool.entries (any_row_plain plain) ks

abbrev pub is_program : NodeType → Bool
is_program types.Program = true
is_program other = false
