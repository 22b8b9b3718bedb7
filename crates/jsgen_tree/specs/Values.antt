-- Generated from tools/nodes/table.txt; edit that and run tools/nodes/generate.
-- The values of a node, by the field that holds them. Each reads the place that its field has in the table of fields (specs/Fields.antt): `FieldsAreNamed` says so.
use Rattle.std.specs.Prelude.{ℕ, List, [], Bool, false, Option, Some, None}
use Rattle.jsgen_tree.specs.declared.statements.CommentKind.{CommentKind}
use Rattle.jsgen_tree.specs.declared.statements.CommentContent.{CommentContent}
use Rattle.jsgen_syntax.specs.declared.span.SourceKind.{SourceKind}
use Rattle.jsgen_tree.specs.declared.statements.VariableDeclarationKind.{VariableDeclarationKind}
use Rattle.jsgen_tree.specs.Number.{NumericKind}
use Rattle.jsgen_syntax.specs.declared.operator.BinaryOperator.{BinaryOperator}
use Rattle.jsgen_syntax.specs.declared.operator.LogicalOperator.{LogicalOperator}
use Rattle.jsgen_tree.specs.declared.collections.PropertyKind.{PropertyKind}
use Rattle.jsgen_syntax.specs.declared.operator.UnaryOperator.{UnaryOperator}
use Rattle.jsgen_syntax.specs.declared.operator.UpdateOperator.{UpdateOperator}
use Rattle.jsgen_syntax.specs.declared.operator.AssignmentOperator.{AssignmentOperator}
use Rattle.jsgen_tree.specs.declared.functions.FunctionKind.{FunctionKind}
use Rattle.jsgen_tree.specs.declared.classes.ClassKind.{ClassKind}
use Rattle.jsgen_tree.specs.declared.classes.MethodDefinitionKind.{MethodDefinitionKind}
use Rattle.jsgen_tree.specs.declared.modules.ImportOrExportKind.{ImportOrExportKind}
use Rattle.jsgen_tree.specs.declared.modules.WithKeyword.{WithKeyword}
use Rattle.jsgen_tree.specs.Atom.{Atom, text, units, digits, number, flag, kind_of_comment, content_of_comment, source_kind, declaration_kind, numeric_kind, binary_operator, logical_operator, property_kind, unary_operator, update_operator, assignment_operator, kind_of_function, class_form, kind_of_method, kind_of_import, with_keyword}
use Rattle.jsgen_tree.specs.Tree.{Atoms}
use Rattle.jsgen_tree.specs.Places.{value_at}
use Rattle.jsgen_tree.specs.declared.statements.CommentKind.TheVariants as kind_of_comments
use Rattle.jsgen_tree.specs.declared.statements.CommentContent.TheVariants as content_of_comments
use Rattle.jsgen_syntax.specs.declared.span.SourceKind.TheVariants as source_kinds
use Rattle.jsgen_tree.specs.declared.statements.VariableDeclarationKind.TheVariants as declaration_kinds
use Rattle.jsgen_tree.specs.Number as numeric_kinds
use Rattle.jsgen_syntax.specs.declared.operator.BinaryOperator.TheVariants as binary_operators
use Rattle.jsgen_syntax.specs.declared.operator.LogicalOperator.TheVariants as logical_operators
use Rattle.jsgen_tree.specs.declared.collections.PropertyKind.TheVariants as property_kinds
use Rattle.jsgen_syntax.specs.declared.operator.UnaryOperator.TheVariants as unary_operators
use Rattle.jsgen_syntax.specs.declared.operator.UpdateOperator.TheVariants as update_operators
use Rattle.jsgen_syntax.specs.declared.operator.AssignmentOperator.TheVariants as assignment_operators
use Rattle.jsgen_tree.specs.declared.functions.FunctionKind.TheVariants as kind_of_functions
use Rattle.jsgen_tree.specs.declared.classes.ClassKind.TheVariants as class_forms
use Rattle.jsgen_tree.specs.declared.classes.MethodDefinitionKind.TheVariants as kind_of_methods
use Rattle.jsgen_tree.specs.declared.modules.ImportOrExportKind.TheVariants as kind_of_imports
use Rattle.jsgen_tree.specs.declared.modules.WithKeyword.TheVariants as with_keywords

-- ---- kinds of values; where the value is of another kind, any

abbrev pub as_text : Atom → List ℕ
as_text (text x) = x
as_text v = []

abbrev pub as_units : Atom → List ℕ
as_units (units x) = x
as_units v = []

abbrev pub as_digits : Atom → ℕ
as_digits (digits x) = x
as_digits v = 0

abbrev pub as_number : Atom → ℕ
as_number (number x) = x
as_number v = 0

abbrev pub as_flag : Atom → Bool
as_flag (flag x) = x
as_flag v = false

abbrev pub as_kind_of_comment : Atom → CommentKind
as_kind_of_comment (kind_of_comment x) = x
as_kind_of_comment v = kind_of_comments.Line

abbrev pub as_content_of_comment : Atom → CommentContent
as_content_of_comment (content_of_comment x) = x
as_content_of_comment v = content_of_comments.Normal

abbrev pub as_source_kind : Atom → SourceKind
as_source_kind (source_kind x) = x
as_source_kind v = source_kinds.Module

abbrev pub as_declaration_kind : Atom → VariableDeclarationKind
as_declaration_kind (declaration_kind x) = x
as_declaration_kind v = declaration_kinds.Const

abbrev pub as_numeric_kind : Atom → NumericKind
as_numeric_kind (numeric_kind x) = x
as_numeric_kind v = numeric_kinds.Whole

abbrev pub as_binary_operator : Atom → BinaryOperator
as_binary_operator (binary_operator x) = x
as_binary_operator v = binary_operators.Equality

abbrev pub as_logical_operator : Atom → LogicalOperator
as_logical_operator (logical_operator x) = x
as_logical_operator v = logical_operators.Or

abbrev pub as_property_kind : Atom → PropertyKind
as_property_kind (property_kind x) = x
as_property_kind v = property_kinds.Init

abbrev pub as_unary_operator : Atom → UnaryOperator
as_unary_operator (unary_operator x) = x
as_unary_operator v = unary_operators.UnaryPlus

abbrev pub as_update_operator : Atom → UpdateOperator
as_update_operator (update_operator x) = x
as_update_operator v = update_operators.Increment

abbrev pub as_assignment_operator : Atom → AssignmentOperator
as_assignment_operator (assignment_operator x) = x
as_assignment_operator v = assignment_operators.Assign

abbrev pub as_kind_of_function : Atom → FunctionKind
as_kind_of_function (kind_of_function x) = x
as_kind_of_function v = kind_of_functions.Declaration

abbrev pub as_class_form : Atom → ClassKind
as_class_form (class_form x) = x
as_class_form v = class_forms.Declaration

abbrev pub as_kind_of_method : Atom → MethodDefinitionKind
as_kind_of_method (kind_of_method x) = x
as_kind_of_method v = kind_of_methods.Constructor

abbrev pub as_kind_of_import : Atom → ImportOrExportKind
as_kind_of_import (kind_of_import x) = x
as_kind_of_import v = kind_of_imports.Value

abbrev pub as_with_keyword : Atom → WithKeyword
as_with_keyword (with_keyword x) = x
as_with_keyword v = with_keywords.With

abbrev pub as_number_if_given : Atom → Option ℕ
as_number_if_given (number x) = Some x
as_number_if_given v = None

abbrev pub as_units_if_given : Atom → Option (List ℕ)
as_units_if_given (units x) = Some x
as_units_if_given v = None

-- ---- fields, by the type of the node and the field's name

abbrev pub program_source : Atoms → List ℕ
program_source a = as_text (value_at 0 a.values)

abbrev pub program_kind : Atoms → SourceKind
program_kind a = as_source_kind (value_at 1 a.values)

-- not read yet
abbrev pub program_jsx : Atoms → Bool
program_jsx a = as_flag (value_at 2 a.values)

-- not read yet
abbrev pub program_typescript : Atoms → Bool
program_typescript a = as_flag (value_at 3 a.values)

abbrev pub comment_kind : Atoms → CommentKind
comment_kind a = as_kind_of_comment (value_at 0 a.values)

abbrev pub comment_content : Atoms → CommentContent
comment_content a = as_content_of_comment (value_at 1 a.values)

abbrev pub comment_leading : Atoms → Bool
comment_leading a = as_flag (value_at 2 a.values)

abbrev pub comment_attached_to : Atoms → ℕ
comment_attached_to a = as_number (value_at 3 a.values)

abbrev pub comment_preceded_by_newline : Atoms → Bool
comment_preceded_by_newline a = as_flag (value_at 4 a.values)

abbrev pub comment_followed_by_newline : Atoms → Bool
comment_followed_by_newline a = as_flag (value_at 5 a.values)

-- the field's text, or the units that it was read as
abbrev pub directive_directive : Atoms → Atom
directive_directive a = value_at 0 a.values

abbrev pub variable_declaration_kind : Atoms → VariableDeclarationKind
variable_declaration_kind a = as_declaration_kind (value_at 0 a.values)

-- not read yet
abbrev pub variable_declaration_declare : Atoms → Bool
variable_declaration_declare a = as_flag (value_at 1 a.values)

-- not read yet
abbrev pub variable_declarator_definite : Atoms → Bool
variable_declarator_definite a = as_flag (value_at 0 a.values)

abbrev pub binding_identifier_name : Atoms → List ℕ
binding_identifier_name a = as_text (value_at 0 a.values)

abbrev pub binding_identifier_symbol : Atoms → Option ℕ
binding_identifier_symbol a = as_number_if_given (value_at 1 a.values)

abbrev pub identifier_reference_name : Atoms → List ℕ
identifier_reference_name a = as_text (value_at 0 a.values)

abbrev pub identifier_reference_reference : Atoms → Option ℕ
identifier_reference_reference a = as_number_if_given (value_at 1 a.values)

abbrev pub boolean_literal_value : Atoms → Bool
boolean_literal_value a = as_flag (value_at 0 a.values)

abbrev pub numeric_literal_kind : Atoms → NumericKind
numeric_literal_kind a = as_numeric_kind (value_at 0 a.values)

abbrev pub numeric_literal_negative : Atoms → Bool
numeric_literal_negative a = as_flag (value_at 1 a.values)

abbrev pub numeric_literal_digits : Atoms → ℕ
numeric_literal_digits a = as_digits (value_at 2 a.values)

abbrev pub numeric_literal_text : Atoms → List ℕ
numeric_literal_text a = as_text (value_at 3 a.values)

abbrev pub big_int_literal_value : Atoms → List ℕ
big_int_literal_value a = as_text (value_at 0 a.values)

abbrev pub string_literal_value : Atoms → List ℕ
string_literal_value a = as_units (value_at 0 a.values)

abbrev pub reg_exp_literal_pattern : Atoms → List ℕ
reg_exp_literal_pattern a = as_text (value_at 0 a.values)

abbrev pub reg_exp_literal_flags : Atoms → List ℕ
reg_exp_literal_flags a = as_text (value_at 1 a.values)

abbrev pub binary_expression_operator : Atoms → BinaryOperator
binary_expression_operator a = as_binary_operator (value_at 0 a.values)

abbrev pub logical_expression_operator : Atoms → LogicalOperator
logical_expression_operator a = as_logical_operator (value_at 0 a.values)

abbrev pub identifier_name_name : Atoms → List ℕ
identifier_name_name a = as_text (value_at 0 a.values)

abbrev pub static_member_expression_optional : Atoms → Bool
static_member_expression_optional a = as_flag (value_at 0 a.values)

abbrev pub computed_member_expression_optional : Atoms → Bool
computed_member_expression_optional a = as_flag (value_at 0 a.values)

abbrev pub call_expression_optional : Atoms → Bool
call_expression_optional a = as_flag (value_at 0 a.values)

abbrev pub call_expression_pure : Atoms → Bool
call_expression_pure a = as_flag (value_at 1 a.values)

abbrev pub object_property_kind : Atoms → PropertyKind
object_property_kind a = as_property_kind (value_at 0 a.values)

abbrev pub object_property_method : Atoms → Bool
object_property_method a = as_flag (value_at 1 a.values)

abbrev pub object_property_shorthand : Atoms → Bool
object_property_shorthand a = as_flag (value_at 2 a.values)

abbrev pub object_property_computed : Atoms → Bool
object_property_computed a = as_flag (value_at 3 a.values)

abbrev pub unary_expression_operator : Atoms → UnaryOperator
unary_expression_operator a = as_unary_operator (value_at 0 a.values)

abbrev pub update_expression_operator : Atoms → UpdateOperator
update_expression_operator a = as_update_operator (value_at 0 a.values)

abbrev pub update_expression_prefix : Atoms → Bool
update_expression_prefix a = as_flag (value_at 1 a.values)

abbrev pub new_expression_pure : Atoms → Bool
new_expression_pure a = as_flag (value_at 0 a.values)

abbrev pub assignment_expression_operator : Atoms → AssignmentOperator
assignment_expression_operator a = as_assignment_operator (value_at 0 a.values)

-- not read yet
abbrev pub formal_parameter_is_override : Atoms → Bool
formal_parameter_is_override a = as_flag (value_at 0 a.values)

-- not read yet
abbrev pub formal_parameter_readonly : Atoms → Bool
formal_parameter_readonly a = as_flag (value_at 1 a.values)

-- not read yet
abbrev pub formal_parameter_optional : Atoms → Bool
formal_parameter_optional a = as_flag (value_at 2 a.values)

abbrev pub function_kind : Atoms → FunctionKind
function_kind a = as_kind_of_function (value_at 0 a.values)

abbrev pub function_is_async : Atoms → Bool
function_is_async a = as_flag (value_at 1 a.values)

abbrev pub function_generator : Atoms → Bool
function_generator a = as_flag (value_at 2 a.values)

-- not read yet
abbrev pub function_declare : Atoms → Bool
function_declare a = as_flag (value_at 3 a.values)

abbrev pub function_pure : Atoms → Bool
function_pure a = as_flag (value_at 4 a.values)

abbrev pub function_pife : Atoms → Bool
function_pife a = as_flag (value_at 5 a.values)

abbrev pub arrow_function_expression_is_async : Atoms → Bool
arrow_function_expression_is_async a = as_flag (value_at 0 a.values)

abbrev pub arrow_function_expression_pure : Atoms → Bool
arrow_function_expression_pure a = as_flag (value_at 1 a.values)

abbrev pub arrow_function_expression_pife : Atoms → Bool
arrow_function_expression_pife a = as_flag (value_at 2 a.values)

abbrev pub yield_expression_delegate : Atoms → Bool
yield_expression_delegate a = as_flag (value_at 0 a.values)

abbrev pub template_element_raw : Atoms → List ℕ
template_element_raw a = as_text (value_at 0 a.values)

abbrev pub template_element_cooked : Atoms → Option (List ℕ)
template_element_cooked a = as_units_if_given (value_at 1 a.values)

abbrev pub for_of_statement_is_await : Atoms → Bool
for_of_statement_is_await a = as_flag (value_at 0 a.values)

abbrev pub label_identifier_name : Atoms → List ℕ
label_identifier_name a = as_text (value_at 0 a.values)

abbrev pub binding_property_computed : Atoms → Bool
binding_property_computed a = as_flag (value_at 0 a.values)

abbrev pub assignment_target_property_property_computed : Atoms → Bool
assignment_target_property_property_computed a = as_flag (value_at 0 a.values)

abbrev pub private_identifier_name : Atoms → List ℕ
private_identifier_name a = as_text (value_at 0 a.values)

abbrev pub private_field_expression_optional : Atoms → Bool
private_field_expression_optional a = as_flag (value_at 0 a.values)

abbrev pub class_kind : Atoms → ClassKind
class_kind a = as_class_form (value_at 0 a.values)

-- not read yet
abbrev pub class_declare : Atoms → Bool
class_declare a = as_flag (value_at 1 a.values)

-- not read yet
abbrev pub class_is_abstract : Atoms → Bool
class_is_abstract a = as_flag (value_at 2 a.values)

abbrev pub method_definition_kind : Atoms → MethodDefinitionKind
method_definition_kind a = as_kind_of_method (value_at 0 a.values)

abbrev pub method_definition_computed : Atoms → Bool
method_definition_computed a = as_flag (value_at 1 a.values)

abbrev pub method_definition_is_static : Atoms → Bool
method_definition_is_static a = as_flag (value_at 2 a.values)

-- not read yet
abbrev pub method_definition_is_override : Atoms → Bool
method_definition_is_override a = as_flag (value_at 3 a.values)

-- not read yet
abbrev pub method_definition_is_abstract : Atoms → Bool
method_definition_is_abstract a = as_flag (value_at 4 a.values)

-- not read yet
abbrev pub method_definition_optional : Atoms → Bool
method_definition_optional a = as_flag (value_at 5 a.values)

abbrev pub property_definition_computed : Atoms → Bool
property_definition_computed a = as_flag (value_at 0 a.values)

-- not read yet
abbrev pub property_definition_declare : Atoms → Bool
property_definition_declare a = as_flag (value_at 1 a.values)

-- not read yet
abbrev pub property_definition_is_abstract : Atoms → Bool
property_definition_is_abstract a = as_flag (value_at 2 a.values)

abbrev pub property_definition_is_static : Atoms → Bool
property_definition_is_static a = as_flag (value_at 3 a.values)

-- not read yet
abbrev pub property_definition_is_override : Atoms → Bool
property_definition_is_override a = as_flag (value_at 4 a.values)

-- not read yet
abbrev pub property_definition_readonly : Atoms → Bool
property_definition_readonly a = as_flag (value_at 5 a.values)

-- not read yet
abbrev pub property_definition_optional : Atoms → Bool
property_definition_optional a = as_flag (value_at 6 a.values)

-- not read yet
abbrev pub property_definition_definite : Atoms → Bool
property_definition_definite a = as_flag (value_at 7 a.values)

abbrev pub hashbang_value : Atoms → List ℕ
hashbang_value a = as_text (value_at 0 a.values)

abbrev pub import_declaration_import_kind : Atoms → ImportOrExportKind
import_declaration_import_kind a = as_kind_of_import (value_at 0 a.values)

abbrev pub import_specifier_import_kind : Atoms → ImportOrExportKind
import_specifier_import_kind a = as_kind_of_import (value_at 0 a.values)

abbrev pub with_clause_keyword : Atoms → WithKeyword
with_clause_keyword a = as_with_keyword (value_at 0 a.values)

abbrev pub export_named_declaration_export_kind : Atoms → ImportOrExportKind
export_named_declaration_export_kind a = as_kind_of_import (value_at 0 a.values)

abbrev pub export_from_declaration_export_kind : Atoms → ImportOrExportKind
export_from_declaration_export_kind a = as_kind_of_import (value_at 0 a.values)

abbrev pub export_specifier_export_kind : Atoms → ImportOrExportKind
export_specifier_export_kind a = as_kind_of_import (value_at 0 a.values)

abbrev pub export_all_declaration_export_kind : Atoms → ImportOrExportKind
export_all_declaration_export_kind a = as_kind_of_import (value_at 0 a.values)
