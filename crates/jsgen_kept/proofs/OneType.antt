-- Generated from tools/nodes/table.txt; edit that and run tools/nodes/generate.
-- Which of the single types that children are of the rows are that are kept by their set.
use Rattle.std.proofs.Common.{◌≡◌, false, refl}
use Rattle.jsgen_tree.specs.Tree.{Tree, type_of}
use Rattle.jsgen_tree.specs.Sets.{is_comment, is_hashbang, is_directive, is_variable_declarator, is_identifier_name, is_formal_parameter, is_formal_parameter_rest, is_binding_identifier, is_formal_parameters, is_function_body, is_template_element, is_template_literal, is_label_identifier, is_switch_case, is_block_statement, is_catch_clause, is_binding_property, is_binding_rest_element, is_assignment_target_rest, is_identifier_reference, is_private_identifier, is_class_body, is_function, is_string_literal, is_with_clause, is_import_attribute, is_export_specifier}
use Rattle.jsgen_tree.specs.Rows.{expression_plain, assignment_target_plain, declaration_plain, statement_plain, binding_pattern_plain, class_element_plain}
use Rattle.jsgen_tree.specs.declared.sets.BindingPattern.{BindingPattern}
use Rattle.jsgen_tree.specs.declared.sets.ClassElement.{ClassElement}
use Rattle.jsgen_kept.specs.declared.others.OtherDeclaration.{OtherDeclaration}
use Rattle.jsgen_kept.specs.declared.others.OtherStatement.{OtherStatement}
use Rattle.jsgen_kept.specs.declared.others.OtherExpression.{OtherExpression}
use Rattle.jsgen_kept.specs.declared.others.OtherAssignmentTarget.{OtherAssignmentTarget}
use Rattle.jsgen_kept.proofs.Sets.{of_declaration, of_binding_pattern, of_statement, of_expression, of_assignment_target, of_class_element}

pub no_declaration_is_a_comment : {N : Type 0} (plain : N → Tree) (r : OtherDeclaration N) → is_comment (type_of (declaration_plain plain r.declaration)) ≡ false
no_declaration_is_a_comment plain r = of_declaration plain is_comment false refl r.declaration r.other

pub no_binding_pattern_is_a_comment : {N : Type 0} (plain : N → Tree) (r : BindingPattern N) → is_comment (type_of (binding_pattern_plain plain r)) ≡ false
no_binding_pattern_is_a_comment plain r = of_binding_pattern plain is_comment false refl refl refl refl r

pub no_statement_is_a_comment : {N : Type 0} (plain : N → Tree) (r : OtherStatement N) → is_comment (type_of (statement_plain plain r.statement)) ≡ false
no_statement_is_a_comment plain r = of_statement plain is_comment false refl refl refl refl refl refl refl refl refl refl refl refl refl refl refl refl refl refl refl refl refl refl refl r.statement r.other

pub no_expression_is_a_comment : {N : Type 0} (plain : N → Tree) (r : OtherExpression N) → is_comment (type_of (expression_plain plain r.expression)) ≡ false
no_expression_is_a_comment plain r = of_expression plain is_comment false refl refl refl refl refl refl refl refl refl refl refl refl refl refl refl refl refl refl refl refl refl refl refl refl refl refl refl refl refl refl r.expression r.other

pub no_assignment_target_is_a_comment : {N : Type 0} (plain : N → Tree) (r : OtherAssignmentTarget N) → is_comment (type_of (assignment_target_plain plain r.assignment_target)) ≡ false
no_assignment_target_is_a_comment plain r = of_assignment_target plain is_comment false refl refl r.assignment_target r.other

pub no_class_element_is_a_comment : {N : Type 0} (plain : N → Tree) (r : ClassElement N) → is_comment (type_of (class_element_plain plain r)) ≡ false
no_class_element_is_a_comment plain r = of_class_element plain is_comment false refl refl refl r

pub no_declaration_is_a_hashbang : {N : Type 0} (plain : N → Tree) (r : OtherDeclaration N) → is_hashbang (type_of (declaration_plain plain r.declaration)) ≡ false
no_declaration_is_a_hashbang plain r = of_declaration plain is_hashbang false refl r.declaration r.other

pub no_binding_pattern_is_a_hashbang : {N : Type 0} (plain : N → Tree) (r : BindingPattern N) → is_hashbang (type_of (binding_pattern_plain plain r)) ≡ false
no_binding_pattern_is_a_hashbang plain r = of_binding_pattern plain is_hashbang false refl refl refl refl r

pub no_statement_is_a_hashbang : {N : Type 0} (plain : N → Tree) (r : OtherStatement N) → is_hashbang (type_of (statement_plain plain r.statement)) ≡ false
no_statement_is_a_hashbang plain r = of_statement plain is_hashbang false refl refl refl refl refl refl refl refl refl refl refl refl refl refl refl refl refl refl refl refl refl refl refl r.statement r.other

pub no_expression_is_a_hashbang : {N : Type 0} (plain : N → Tree) (r : OtherExpression N) → is_hashbang (type_of (expression_plain plain r.expression)) ≡ false
no_expression_is_a_hashbang plain r = of_expression plain is_hashbang false refl refl refl refl refl refl refl refl refl refl refl refl refl refl refl refl refl refl refl refl refl refl refl refl refl refl refl refl refl refl r.expression r.other

pub no_assignment_target_is_a_hashbang : {N : Type 0} (plain : N → Tree) (r : OtherAssignmentTarget N) → is_hashbang (type_of (assignment_target_plain plain r.assignment_target)) ≡ false
no_assignment_target_is_a_hashbang plain r = of_assignment_target plain is_hashbang false refl refl r.assignment_target r.other

pub no_class_element_is_a_hashbang : {N : Type 0} (plain : N → Tree) (r : ClassElement N) → is_hashbang (type_of (class_element_plain plain r)) ≡ false
no_class_element_is_a_hashbang plain r = of_class_element plain is_hashbang false refl refl refl r

pub no_declaration_is_a_directive : {N : Type 0} (plain : N → Tree) (r : OtherDeclaration N) → is_directive (type_of (declaration_plain plain r.declaration)) ≡ false
no_declaration_is_a_directive plain r = of_declaration plain is_directive false refl r.declaration r.other

pub no_binding_pattern_is_a_directive : {N : Type 0} (plain : N → Tree) (r : BindingPattern N) → is_directive (type_of (binding_pattern_plain plain r)) ≡ false
no_binding_pattern_is_a_directive plain r = of_binding_pattern plain is_directive false refl refl refl refl r

pub no_statement_is_a_directive : {N : Type 0} (plain : N → Tree) (r : OtherStatement N) → is_directive (type_of (statement_plain plain r.statement)) ≡ false
no_statement_is_a_directive plain r = of_statement plain is_directive false refl refl refl refl refl refl refl refl refl refl refl refl refl refl refl refl refl refl refl refl refl refl refl r.statement r.other

pub no_expression_is_a_directive : {N : Type 0} (plain : N → Tree) (r : OtherExpression N) → is_directive (type_of (expression_plain plain r.expression)) ≡ false
no_expression_is_a_directive plain r = of_expression plain is_directive false refl refl refl refl refl refl refl refl refl refl refl refl refl refl refl refl refl refl refl refl refl refl refl refl refl refl refl refl refl refl r.expression r.other

pub no_assignment_target_is_a_directive : {N : Type 0} (plain : N → Tree) (r : OtherAssignmentTarget N) → is_directive (type_of (assignment_target_plain plain r.assignment_target)) ≡ false
no_assignment_target_is_a_directive plain r = of_assignment_target plain is_directive false refl refl r.assignment_target r.other

pub no_class_element_is_a_directive : {N : Type 0} (plain : N → Tree) (r : ClassElement N) → is_directive (type_of (class_element_plain plain r)) ≡ false
no_class_element_is_a_directive plain r = of_class_element plain is_directive false refl refl refl r

pub no_declaration_is_a_variable_declarator : {N : Type 0} (plain : N → Tree) (r : OtherDeclaration N) → is_variable_declarator (type_of (declaration_plain plain r.declaration)) ≡ false
no_declaration_is_a_variable_declarator plain r = of_declaration plain is_variable_declarator false refl r.declaration r.other

pub no_binding_pattern_is_a_variable_declarator : {N : Type 0} (plain : N → Tree) (r : BindingPattern N) → is_variable_declarator (type_of (binding_pattern_plain plain r)) ≡ false
no_binding_pattern_is_a_variable_declarator plain r = of_binding_pattern plain is_variable_declarator false refl refl refl refl r

pub no_statement_is_a_variable_declarator : {N : Type 0} (plain : N → Tree) (r : OtherStatement N) → is_variable_declarator (type_of (statement_plain plain r.statement)) ≡ false
no_statement_is_a_variable_declarator plain r = of_statement plain is_variable_declarator false refl refl refl refl refl refl refl refl refl refl refl refl refl refl refl refl refl refl refl refl refl refl refl r.statement r.other

pub no_expression_is_a_variable_declarator : {N : Type 0} (plain : N → Tree) (r : OtherExpression N) → is_variable_declarator (type_of (expression_plain plain r.expression)) ≡ false
no_expression_is_a_variable_declarator plain r = of_expression plain is_variable_declarator false refl refl refl refl refl refl refl refl refl refl refl refl refl refl refl refl refl refl refl refl refl refl refl refl refl refl refl refl refl refl r.expression r.other

pub no_assignment_target_is_a_variable_declarator : {N : Type 0} (plain : N → Tree) (r : OtherAssignmentTarget N) → is_variable_declarator (type_of (assignment_target_plain plain r.assignment_target)) ≡ false
no_assignment_target_is_a_variable_declarator plain r = of_assignment_target plain is_variable_declarator false refl refl r.assignment_target r.other

pub no_class_element_is_a_variable_declarator : {N : Type 0} (plain : N → Tree) (r : ClassElement N) → is_variable_declarator (type_of (class_element_plain plain r)) ≡ false
no_class_element_is_a_variable_declarator plain r = of_class_element plain is_variable_declarator false refl refl refl r

pub no_declaration_is_an_identifier_name : {N : Type 0} (plain : N → Tree) (r : OtherDeclaration N) → is_identifier_name (type_of (declaration_plain plain r.declaration)) ≡ false
no_declaration_is_an_identifier_name plain r = of_declaration plain is_identifier_name false refl r.declaration r.other

pub no_binding_pattern_is_an_identifier_name : {N : Type 0} (plain : N → Tree) (r : BindingPattern N) → is_identifier_name (type_of (binding_pattern_plain plain r)) ≡ false
no_binding_pattern_is_an_identifier_name plain r = of_binding_pattern plain is_identifier_name false refl refl refl refl r

pub no_statement_is_an_identifier_name : {N : Type 0} (plain : N → Tree) (r : OtherStatement N) → is_identifier_name (type_of (statement_plain plain r.statement)) ≡ false
no_statement_is_an_identifier_name plain r = of_statement plain is_identifier_name false refl refl refl refl refl refl refl refl refl refl refl refl refl refl refl refl refl refl refl refl refl refl refl r.statement r.other

pub no_expression_is_an_identifier_name : {N : Type 0} (plain : N → Tree) (r : OtherExpression N) → is_identifier_name (type_of (expression_plain plain r.expression)) ≡ false
no_expression_is_an_identifier_name plain r = of_expression plain is_identifier_name false refl refl refl refl refl refl refl refl refl refl refl refl refl refl refl refl refl refl refl refl refl refl refl refl refl refl refl refl refl refl r.expression r.other

pub no_assignment_target_is_an_identifier_name : {N : Type 0} (plain : N → Tree) (r : OtherAssignmentTarget N) → is_identifier_name (type_of (assignment_target_plain plain r.assignment_target)) ≡ false
no_assignment_target_is_an_identifier_name plain r = of_assignment_target plain is_identifier_name false refl refl r.assignment_target r.other

pub no_class_element_is_an_identifier_name : {N : Type 0} (plain : N → Tree) (r : ClassElement N) → is_identifier_name (type_of (class_element_plain plain r)) ≡ false
no_class_element_is_an_identifier_name plain r = of_class_element plain is_identifier_name false refl refl refl r

pub no_declaration_is_a_formal_parameter : {N : Type 0} (plain : N → Tree) (r : OtherDeclaration N) → is_formal_parameter (type_of (declaration_plain plain r.declaration)) ≡ false
no_declaration_is_a_formal_parameter plain r = of_declaration plain is_formal_parameter false refl r.declaration r.other

pub no_binding_pattern_is_a_formal_parameter : {N : Type 0} (plain : N → Tree) (r : BindingPattern N) → is_formal_parameter (type_of (binding_pattern_plain plain r)) ≡ false
no_binding_pattern_is_a_formal_parameter plain r = of_binding_pattern plain is_formal_parameter false refl refl refl refl r

pub no_statement_is_a_formal_parameter : {N : Type 0} (plain : N → Tree) (r : OtherStatement N) → is_formal_parameter (type_of (statement_plain plain r.statement)) ≡ false
no_statement_is_a_formal_parameter plain r = of_statement plain is_formal_parameter false refl refl refl refl refl refl refl refl refl refl refl refl refl refl refl refl refl refl refl refl refl refl refl r.statement r.other

pub no_expression_is_a_formal_parameter : {N : Type 0} (plain : N → Tree) (r : OtherExpression N) → is_formal_parameter (type_of (expression_plain plain r.expression)) ≡ false
no_expression_is_a_formal_parameter plain r = of_expression plain is_formal_parameter false refl refl refl refl refl refl refl refl refl refl refl refl refl refl refl refl refl refl refl refl refl refl refl refl refl refl refl refl refl refl r.expression r.other

pub no_assignment_target_is_a_formal_parameter : {N : Type 0} (plain : N → Tree) (r : OtherAssignmentTarget N) → is_formal_parameter (type_of (assignment_target_plain plain r.assignment_target)) ≡ false
no_assignment_target_is_a_formal_parameter plain r = of_assignment_target plain is_formal_parameter false refl refl r.assignment_target r.other

pub no_class_element_is_a_formal_parameter : {N : Type 0} (plain : N → Tree) (r : ClassElement N) → is_formal_parameter (type_of (class_element_plain plain r)) ≡ false
no_class_element_is_a_formal_parameter plain r = of_class_element plain is_formal_parameter false refl refl refl r

pub no_declaration_is_a_formal_parameter_rest : {N : Type 0} (plain : N → Tree) (r : OtherDeclaration N) → is_formal_parameter_rest (type_of (declaration_plain plain r.declaration)) ≡ false
no_declaration_is_a_formal_parameter_rest plain r = of_declaration plain is_formal_parameter_rest false refl r.declaration r.other

pub no_binding_pattern_is_a_formal_parameter_rest : {N : Type 0} (plain : N → Tree) (r : BindingPattern N) → is_formal_parameter_rest (type_of (binding_pattern_plain plain r)) ≡ false
no_binding_pattern_is_a_formal_parameter_rest plain r = of_binding_pattern plain is_formal_parameter_rest false refl refl refl refl r

pub no_statement_is_a_formal_parameter_rest : {N : Type 0} (plain : N → Tree) (r : OtherStatement N) → is_formal_parameter_rest (type_of (statement_plain plain r.statement)) ≡ false
no_statement_is_a_formal_parameter_rest plain r = of_statement plain is_formal_parameter_rest false refl refl refl refl refl refl refl refl refl refl refl refl refl refl refl refl refl refl refl refl refl refl refl r.statement r.other

pub no_expression_is_a_formal_parameter_rest : {N : Type 0} (plain : N → Tree) (r : OtherExpression N) → is_formal_parameter_rest (type_of (expression_plain plain r.expression)) ≡ false
no_expression_is_a_formal_parameter_rest plain r = of_expression plain is_formal_parameter_rest false refl refl refl refl refl refl refl refl refl refl refl refl refl refl refl refl refl refl refl refl refl refl refl refl refl refl refl refl refl refl r.expression r.other

pub no_assignment_target_is_a_formal_parameter_rest : {N : Type 0} (plain : N → Tree) (r : OtherAssignmentTarget N) → is_formal_parameter_rest (type_of (assignment_target_plain plain r.assignment_target)) ≡ false
no_assignment_target_is_a_formal_parameter_rest plain r = of_assignment_target plain is_formal_parameter_rest false refl refl r.assignment_target r.other

pub no_class_element_is_a_formal_parameter_rest : {N : Type 0} (plain : N → Tree) (r : ClassElement N) → is_formal_parameter_rest (type_of (class_element_plain plain r)) ≡ false
no_class_element_is_a_formal_parameter_rest plain r = of_class_element plain is_formal_parameter_rest false refl refl refl r

pub no_declaration_is_a_binding_identifier : {N : Type 0} (plain : N → Tree) (r : OtherDeclaration N) → is_binding_identifier (type_of (declaration_plain plain r.declaration)) ≡ false
no_declaration_is_a_binding_identifier plain r = of_declaration plain is_binding_identifier false refl r.declaration r.other

pub no_statement_is_a_binding_identifier : {N : Type 0} (plain : N → Tree) (r : OtherStatement N) → is_binding_identifier (type_of (statement_plain plain r.statement)) ≡ false
no_statement_is_a_binding_identifier plain r = of_statement plain is_binding_identifier false refl refl refl refl refl refl refl refl refl refl refl refl refl refl refl refl refl refl refl refl refl refl refl r.statement r.other

pub no_expression_is_a_binding_identifier : {N : Type 0} (plain : N → Tree) (r : OtherExpression N) → is_binding_identifier (type_of (expression_plain plain r.expression)) ≡ false
no_expression_is_a_binding_identifier plain r = of_expression plain is_binding_identifier false refl refl refl refl refl refl refl refl refl refl refl refl refl refl refl refl refl refl refl refl refl refl refl refl refl refl refl refl refl refl r.expression r.other

pub no_assignment_target_is_a_binding_identifier : {N : Type 0} (plain : N → Tree) (r : OtherAssignmentTarget N) → is_binding_identifier (type_of (assignment_target_plain plain r.assignment_target)) ≡ false
no_assignment_target_is_a_binding_identifier plain r = of_assignment_target plain is_binding_identifier false refl refl r.assignment_target r.other

pub no_class_element_is_a_binding_identifier : {N : Type 0} (plain : N → Tree) (r : ClassElement N) → is_binding_identifier (type_of (class_element_plain plain r)) ≡ false
no_class_element_is_a_binding_identifier plain r = of_class_element plain is_binding_identifier false refl refl refl r

pub no_declaration_is_a_formal_parameters : {N : Type 0} (plain : N → Tree) (r : OtherDeclaration N) → is_formal_parameters (type_of (declaration_plain plain r.declaration)) ≡ false
no_declaration_is_a_formal_parameters plain r = of_declaration plain is_formal_parameters false refl r.declaration r.other

pub no_binding_pattern_is_a_formal_parameters : {N : Type 0} (plain : N → Tree) (r : BindingPattern N) → is_formal_parameters (type_of (binding_pattern_plain plain r)) ≡ false
no_binding_pattern_is_a_formal_parameters plain r = of_binding_pattern plain is_formal_parameters false refl refl refl refl r

pub no_statement_is_a_formal_parameters : {N : Type 0} (plain : N → Tree) (r : OtherStatement N) → is_formal_parameters (type_of (statement_plain plain r.statement)) ≡ false
no_statement_is_a_formal_parameters plain r = of_statement plain is_formal_parameters false refl refl refl refl refl refl refl refl refl refl refl refl refl refl refl refl refl refl refl refl refl refl refl r.statement r.other

pub no_expression_is_a_formal_parameters : {N : Type 0} (plain : N → Tree) (r : OtherExpression N) → is_formal_parameters (type_of (expression_plain plain r.expression)) ≡ false
no_expression_is_a_formal_parameters plain r = of_expression plain is_formal_parameters false refl refl refl refl refl refl refl refl refl refl refl refl refl refl refl refl refl refl refl refl refl refl refl refl refl refl refl refl refl refl r.expression r.other

pub no_assignment_target_is_a_formal_parameters : {N : Type 0} (plain : N → Tree) (r : OtherAssignmentTarget N) → is_formal_parameters (type_of (assignment_target_plain plain r.assignment_target)) ≡ false
no_assignment_target_is_a_formal_parameters plain r = of_assignment_target plain is_formal_parameters false refl refl r.assignment_target r.other

pub no_class_element_is_a_formal_parameters : {N : Type 0} (plain : N → Tree) (r : ClassElement N) → is_formal_parameters (type_of (class_element_plain plain r)) ≡ false
no_class_element_is_a_formal_parameters plain r = of_class_element plain is_formal_parameters false refl refl refl r

pub no_declaration_is_a_function_body : {N : Type 0} (plain : N → Tree) (r : OtherDeclaration N) → is_function_body (type_of (declaration_plain plain r.declaration)) ≡ false
no_declaration_is_a_function_body plain r = of_declaration plain is_function_body false refl r.declaration r.other

pub no_binding_pattern_is_a_function_body : {N : Type 0} (plain : N → Tree) (r : BindingPattern N) → is_function_body (type_of (binding_pattern_plain plain r)) ≡ false
no_binding_pattern_is_a_function_body plain r = of_binding_pattern plain is_function_body false refl refl refl refl r

pub no_statement_is_a_function_body : {N : Type 0} (plain : N → Tree) (r : OtherStatement N) → is_function_body (type_of (statement_plain plain r.statement)) ≡ false
no_statement_is_a_function_body plain r = of_statement plain is_function_body false refl refl refl refl refl refl refl refl refl refl refl refl refl refl refl refl refl refl refl refl refl refl refl r.statement r.other

pub no_expression_is_a_function_body : {N : Type 0} (plain : N → Tree) (r : OtherExpression N) → is_function_body (type_of (expression_plain plain r.expression)) ≡ false
no_expression_is_a_function_body plain r = of_expression plain is_function_body false refl refl refl refl refl refl refl refl refl refl refl refl refl refl refl refl refl refl refl refl refl refl refl refl refl refl refl refl refl refl r.expression r.other

pub no_assignment_target_is_a_function_body : {N : Type 0} (plain : N → Tree) (r : OtherAssignmentTarget N) → is_function_body (type_of (assignment_target_plain plain r.assignment_target)) ≡ false
no_assignment_target_is_a_function_body plain r = of_assignment_target plain is_function_body false refl refl r.assignment_target r.other

pub no_class_element_is_a_function_body : {N : Type 0} (plain : N → Tree) (r : ClassElement N) → is_function_body (type_of (class_element_plain plain r)) ≡ false
no_class_element_is_a_function_body plain r = of_class_element plain is_function_body false refl refl refl r

pub no_declaration_is_a_template_element : {N : Type 0} (plain : N → Tree) (r : OtherDeclaration N) → is_template_element (type_of (declaration_plain plain r.declaration)) ≡ false
no_declaration_is_a_template_element plain r = of_declaration plain is_template_element false refl r.declaration r.other

pub no_binding_pattern_is_a_template_element : {N : Type 0} (plain : N → Tree) (r : BindingPattern N) → is_template_element (type_of (binding_pattern_plain plain r)) ≡ false
no_binding_pattern_is_a_template_element plain r = of_binding_pattern plain is_template_element false refl refl refl refl r

pub no_statement_is_a_template_element : {N : Type 0} (plain : N → Tree) (r : OtherStatement N) → is_template_element (type_of (statement_plain plain r.statement)) ≡ false
no_statement_is_a_template_element plain r = of_statement plain is_template_element false refl refl refl refl refl refl refl refl refl refl refl refl refl refl refl refl refl refl refl refl refl refl refl r.statement r.other

pub no_expression_is_a_template_element : {N : Type 0} (plain : N → Tree) (r : OtherExpression N) → is_template_element (type_of (expression_plain plain r.expression)) ≡ false
no_expression_is_a_template_element plain r = of_expression plain is_template_element false refl refl refl refl refl refl refl refl refl refl refl refl refl refl refl refl refl refl refl refl refl refl refl refl refl refl refl refl refl refl r.expression r.other

pub no_assignment_target_is_a_template_element : {N : Type 0} (plain : N → Tree) (r : OtherAssignmentTarget N) → is_template_element (type_of (assignment_target_plain plain r.assignment_target)) ≡ false
no_assignment_target_is_a_template_element plain r = of_assignment_target plain is_template_element false refl refl r.assignment_target r.other

pub no_class_element_is_a_template_element : {N : Type 0} (plain : N → Tree) (r : ClassElement N) → is_template_element (type_of (class_element_plain plain r)) ≡ false
no_class_element_is_a_template_element plain r = of_class_element plain is_template_element false refl refl refl r

pub no_declaration_is_a_template_literal : {N : Type 0} (plain : N → Tree) (r : OtherDeclaration N) → is_template_literal (type_of (declaration_plain plain r.declaration)) ≡ false
no_declaration_is_a_template_literal plain r = of_declaration plain is_template_literal false refl r.declaration r.other

pub no_binding_pattern_is_a_template_literal : {N : Type 0} (plain : N → Tree) (r : BindingPattern N) → is_template_literal (type_of (binding_pattern_plain plain r)) ≡ false
no_binding_pattern_is_a_template_literal plain r = of_binding_pattern plain is_template_literal false refl refl refl refl r

pub no_statement_is_a_template_literal : {N : Type 0} (plain : N → Tree) (r : OtherStatement N) → is_template_literal (type_of (statement_plain plain r.statement)) ≡ false
no_statement_is_a_template_literal plain r = of_statement plain is_template_literal false refl refl refl refl refl refl refl refl refl refl refl refl refl refl refl refl refl refl refl refl refl refl refl r.statement r.other

pub no_assignment_target_is_a_template_literal : {N : Type 0} (plain : N → Tree) (r : OtherAssignmentTarget N) → is_template_literal (type_of (assignment_target_plain plain r.assignment_target)) ≡ false
no_assignment_target_is_a_template_literal plain r = of_assignment_target plain is_template_literal false refl refl r.assignment_target r.other

pub no_class_element_is_a_template_literal : {N : Type 0} (plain : N → Tree) (r : ClassElement N) → is_template_literal (type_of (class_element_plain plain r)) ≡ false
no_class_element_is_a_template_literal plain r = of_class_element plain is_template_literal false refl refl refl r

pub no_declaration_is_a_label_identifier : {N : Type 0} (plain : N → Tree) (r : OtherDeclaration N) → is_label_identifier (type_of (declaration_plain plain r.declaration)) ≡ false
no_declaration_is_a_label_identifier plain r = of_declaration plain is_label_identifier false refl r.declaration r.other

pub no_binding_pattern_is_a_label_identifier : {N : Type 0} (plain : N → Tree) (r : BindingPattern N) → is_label_identifier (type_of (binding_pattern_plain plain r)) ≡ false
no_binding_pattern_is_a_label_identifier plain r = of_binding_pattern plain is_label_identifier false refl refl refl refl r

pub no_statement_is_a_label_identifier : {N : Type 0} (plain : N → Tree) (r : OtherStatement N) → is_label_identifier (type_of (statement_plain plain r.statement)) ≡ false
no_statement_is_a_label_identifier plain r = of_statement plain is_label_identifier false refl refl refl refl refl refl refl refl refl refl refl refl refl refl refl refl refl refl refl refl refl refl refl r.statement r.other

pub no_expression_is_a_label_identifier : {N : Type 0} (plain : N → Tree) (r : OtherExpression N) → is_label_identifier (type_of (expression_plain plain r.expression)) ≡ false
no_expression_is_a_label_identifier plain r = of_expression plain is_label_identifier false refl refl refl refl refl refl refl refl refl refl refl refl refl refl refl refl refl refl refl refl refl refl refl refl refl refl refl refl refl refl r.expression r.other

pub no_assignment_target_is_a_label_identifier : {N : Type 0} (plain : N → Tree) (r : OtherAssignmentTarget N) → is_label_identifier (type_of (assignment_target_plain plain r.assignment_target)) ≡ false
no_assignment_target_is_a_label_identifier plain r = of_assignment_target plain is_label_identifier false refl refl r.assignment_target r.other

pub no_class_element_is_a_label_identifier : {N : Type 0} (plain : N → Tree) (r : ClassElement N) → is_label_identifier (type_of (class_element_plain plain r)) ≡ false
no_class_element_is_a_label_identifier plain r = of_class_element plain is_label_identifier false refl refl refl r

pub no_declaration_is_a_switch_case : {N : Type 0} (plain : N → Tree) (r : OtherDeclaration N) → is_switch_case (type_of (declaration_plain plain r.declaration)) ≡ false
no_declaration_is_a_switch_case plain r = of_declaration plain is_switch_case false refl r.declaration r.other

pub no_binding_pattern_is_a_switch_case : {N : Type 0} (plain : N → Tree) (r : BindingPattern N) → is_switch_case (type_of (binding_pattern_plain plain r)) ≡ false
no_binding_pattern_is_a_switch_case plain r = of_binding_pattern plain is_switch_case false refl refl refl refl r

pub no_statement_is_a_switch_case : {N : Type 0} (plain : N → Tree) (r : OtherStatement N) → is_switch_case (type_of (statement_plain plain r.statement)) ≡ false
no_statement_is_a_switch_case plain r = of_statement plain is_switch_case false refl refl refl refl refl refl refl refl refl refl refl refl refl refl refl refl refl refl refl refl refl refl refl r.statement r.other

pub no_expression_is_a_switch_case : {N : Type 0} (plain : N → Tree) (r : OtherExpression N) → is_switch_case (type_of (expression_plain plain r.expression)) ≡ false
no_expression_is_a_switch_case plain r = of_expression plain is_switch_case false refl refl refl refl refl refl refl refl refl refl refl refl refl refl refl refl refl refl refl refl refl refl refl refl refl refl refl refl refl refl r.expression r.other

pub no_assignment_target_is_a_switch_case : {N : Type 0} (plain : N → Tree) (r : OtherAssignmentTarget N) → is_switch_case (type_of (assignment_target_plain plain r.assignment_target)) ≡ false
no_assignment_target_is_a_switch_case plain r = of_assignment_target plain is_switch_case false refl refl r.assignment_target r.other

pub no_class_element_is_a_switch_case : {N : Type 0} (plain : N → Tree) (r : ClassElement N) → is_switch_case (type_of (class_element_plain plain r)) ≡ false
no_class_element_is_a_switch_case plain r = of_class_element plain is_switch_case false refl refl refl r

pub no_declaration_is_a_block_statement : {N : Type 0} (plain : N → Tree) (r : OtherDeclaration N) → is_block_statement (type_of (declaration_plain plain r.declaration)) ≡ false
no_declaration_is_a_block_statement plain r = of_declaration plain is_block_statement false refl r.declaration r.other

pub no_binding_pattern_is_a_block_statement : {N : Type 0} (plain : N → Tree) (r : BindingPattern N) → is_block_statement (type_of (binding_pattern_plain plain r)) ≡ false
no_binding_pattern_is_a_block_statement plain r = of_binding_pattern plain is_block_statement false refl refl refl refl r

pub no_expression_is_a_block_statement : {N : Type 0} (plain : N → Tree) (r : OtherExpression N) → is_block_statement (type_of (expression_plain plain r.expression)) ≡ false
no_expression_is_a_block_statement plain r = of_expression plain is_block_statement false refl refl refl refl refl refl refl refl refl refl refl refl refl refl refl refl refl refl refl refl refl refl refl refl refl refl refl refl refl refl r.expression r.other

pub no_assignment_target_is_a_block_statement : {N : Type 0} (plain : N → Tree) (r : OtherAssignmentTarget N) → is_block_statement (type_of (assignment_target_plain plain r.assignment_target)) ≡ false
no_assignment_target_is_a_block_statement plain r = of_assignment_target plain is_block_statement false refl refl r.assignment_target r.other

pub no_class_element_is_a_block_statement : {N : Type 0} (plain : N → Tree) (r : ClassElement N) → is_block_statement (type_of (class_element_plain plain r)) ≡ false
no_class_element_is_a_block_statement plain r = of_class_element plain is_block_statement false refl refl refl r

pub no_declaration_is_a_catch_clause : {N : Type 0} (plain : N → Tree) (r : OtherDeclaration N) → is_catch_clause (type_of (declaration_plain plain r.declaration)) ≡ false
no_declaration_is_a_catch_clause plain r = of_declaration plain is_catch_clause false refl r.declaration r.other

pub no_binding_pattern_is_a_catch_clause : {N : Type 0} (plain : N → Tree) (r : BindingPattern N) → is_catch_clause (type_of (binding_pattern_plain plain r)) ≡ false
no_binding_pattern_is_a_catch_clause plain r = of_binding_pattern plain is_catch_clause false refl refl refl refl r

pub no_statement_is_a_catch_clause : {N : Type 0} (plain : N → Tree) (r : OtherStatement N) → is_catch_clause (type_of (statement_plain plain r.statement)) ≡ false
no_statement_is_a_catch_clause plain r = of_statement plain is_catch_clause false refl refl refl refl refl refl refl refl refl refl refl refl refl refl refl refl refl refl refl refl refl refl refl r.statement r.other

pub no_expression_is_a_catch_clause : {N : Type 0} (plain : N → Tree) (r : OtherExpression N) → is_catch_clause (type_of (expression_plain plain r.expression)) ≡ false
no_expression_is_a_catch_clause plain r = of_expression plain is_catch_clause false refl refl refl refl refl refl refl refl refl refl refl refl refl refl refl refl refl refl refl refl refl refl refl refl refl refl refl refl refl refl r.expression r.other

pub no_assignment_target_is_a_catch_clause : {N : Type 0} (plain : N → Tree) (r : OtherAssignmentTarget N) → is_catch_clause (type_of (assignment_target_plain plain r.assignment_target)) ≡ false
no_assignment_target_is_a_catch_clause plain r = of_assignment_target plain is_catch_clause false refl refl r.assignment_target r.other

pub no_class_element_is_a_catch_clause : {N : Type 0} (plain : N → Tree) (r : ClassElement N) → is_catch_clause (type_of (class_element_plain plain r)) ≡ false
no_class_element_is_a_catch_clause plain r = of_class_element plain is_catch_clause false refl refl refl r

pub no_declaration_is_a_binding_property : {N : Type 0} (plain : N → Tree) (r : OtherDeclaration N) → is_binding_property (type_of (declaration_plain plain r.declaration)) ≡ false
no_declaration_is_a_binding_property plain r = of_declaration plain is_binding_property false refl r.declaration r.other

pub no_binding_pattern_is_a_binding_property : {N : Type 0} (plain : N → Tree) (r : BindingPattern N) → is_binding_property (type_of (binding_pattern_plain plain r)) ≡ false
no_binding_pattern_is_a_binding_property plain r = of_binding_pattern plain is_binding_property false refl refl refl refl r

pub no_statement_is_a_binding_property : {N : Type 0} (plain : N → Tree) (r : OtherStatement N) → is_binding_property (type_of (statement_plain plain r.statement)) ≡ false
no_statement_is_a_binding_property plain r = of_statement plain is_binding_property false refl refl refl refl refl refl refl refl refl refl refl refl refl refl refl refl refl refl refl refl refl refl refl r.statement r.other

pub no_expression_is_a_binding_property : {N : Type 0} (plain : N → Tree) (r : OtherExpression N) → is_binding_property (type_of (expression_plain plain r.expression)) ≡ false
no_expression_is_a_binding_property plain r = of_expression plain is_binding_property false refl refl refl refl refl refl refl refl refl refl refl refl refl refl refl refl refl refl refl refl refl refl refl refl refl refl refl refl refl refl r.expression r.other

pub no_assignment_target_is_a_binding_property : {N : Type 0} (plain : N → Tree) (r : OtherAssignmentTarget N) → is_binding_property (type_of (assignment_target_plain plain r.assignment_target)) ≡ false
no_assignment_target_is_a_binding_property plain r = of_assignment_target plain is_binding_property false refl refl r.assignment_target r.other

pub no_class_element_is_a_binding_property : {N : Type 0} (plain : N → Tree) (r : ClassElement N) → is_binding_property (type_of (class_element_plain plain r)) ≡ false
no_class_element_is_a_binding_property plain r = of_class_element plain is_binding_property false refl refl refl r

pub no_declaration_is_a_binding_rest_element : {N : Type 0} (plain : N → Tree) (r : OtherDeclaration N) → is_binding_rest_element (type_of (declaration_plain plain r.declaration)) ≡ false
no_declaration_is_a_binding_rest_element plain r = of_declaration plain is_binding_rest_element false refl r.declaration r.other

pub no_binding_pattern_is_a_binding_rest_element : {N : Type 0} (plain : N → Tree) (r : BindingPattern N) → is_binding_rest_element (type_of (binding_pattern_plain plain r)) ≡ false
no_binding_pattern_is_a_binding_rest_element plain r = of_binding_pattern plain is_binding_rest_element false refl refl refl refl r

pub no_statement_is_a_binding_rest_element : {N : Type 0} (plain : N → Tree) (r : OtherStatement N) → is_binding_rest_element (type_of (statement_plain plain r.statement)) ≡ false
no_statement_is_a_binding_rest_element plain r = of_statement plain is_binding_rest_element false refl refl refl refl refl refl refl refl refl refl refl refl refl refl refl refl refl refl refl refl refl refl refl r.statement r.other

pub no_expression_is_a_binding_rest_element : {N : Type 0} (plain : N → Tree) (r : OtherExpression N) → is_binding_rest_element (type_of (expression_plain plain r.expression)) ≡ false
no_expression_is_a_binding_rest_element plain r = of_expression plain is_binding_rest_element false refl refl refl refl refl refl refl refl refl refl refl refl refl refl refl refl refl refl refl refl refl refl refl refl refl refl refl refl refl refl r.expression r.other

pub no_assignment_target_is_a_binding_rest_element : {N : Type 0} (plain : N → Tree) (r : OtherAssignmentTarget N) → is_binding_rest_element (type_of (assignment_target_plain plain r.assignment_target)) ≡ false
no_assignment_target_is_a_binding_rest_element plain r = of_assignment_target plain is_binding_rest_element false refl refl r.assignment_target r.other

pub no_class_element_is_a_binding_rest_element : {N : Type 0} (plain : N → Tree) (r : ClassElement N) → is_binding_rest_element (type_of (class_element_plain plain r)) ≡ false
no_class_element_is_a_binding_rest_element plain r = of_class_element plain is_binding_rest_element false refl refl refl r

pub no_declaration_is_an_assignment_target_rest : {N : Type 0} (plain : N → Tree) (r : OtherDeclaration N) → is_assignment_target_rest (type_of (declaration_plain plain r.declaration)) ≡ false
no_declaration_is_an_assignment_target_rest plain r = of_declaration plain is_assignment_target_rest false refl r.declaration r.other

pub no_binding_pattern_is_an_assignment_target_rest : {N : Type 0} (plain : N → Tree) (r : BindingPattern N) → is_assignment_target_rest (type_of (binding_pattern_plain plain r)) ≡ false
no_binding_pattern_is_an_assignment_target_rest plain r = of_binding_pattern plain is_assignment_target_rest false refl refl refl refl r

pub no_statement_is_an_assignment_target_rest : {N : Type 0} (plain : N → Tree) (r : OtherStatement N) → is_assignment_target_rest (type_of (statement_plain plain r.statement)) ≡ false
no_statement_is_an_assignment_target_rest plain r = of_statement plain is_assignment_target_rest false refl refl refl refl refl refl refl refl refl refl refl refl refl refl refl refl refl refl refl refl refl refl refl r.statement r.other

pub no_expression_is_an_assignment_target_rest : {N : Type 0} (plain : N → Tree) (r : OtherExpression N) → is_assignment_target_rest (type_of (expression_plain plain r.expression)) ≡ false
no_expression_is_an_assignment_target_rest plain r = of_expression plain is_assignment_target_rest false refl refl refl refl refl refl refl refl refl refl refl refl refl refl refl refl refl refl refl refl refl refl refl refl refl refl refl refl refl refl r.expression r.other

pub no_assignment_target_is_an_assignment_target_rest : {N : Type 0} (plain : N → Tree) (r : OtherAssignmentTarget N) → is_assignment_target_rest (type_of (assignment_target_plain plain r.assignment_target)) ≡ false
no_assignment_target_is_an_assignment_target_rest plain r = of_assignment_target plain is_assignment_target_rest false refl refl r.assignment_target r.other

pub no_class_element_is_an_assignment_target_rest : {N : Type 0} (plain : N → Tree) (r : ClassElement N) → is_assignment_target_rest (type_of (class_element_plain plain r)) ≡ false
no_class_element_is_an_assignment_target_rest plain r = of_class_element plain is_assignment_target_rest false refl refl refl r

pub no_declaration_is_an_identifier_reference : {N : Type 0} (plain : N → Tree) (r : OtherDeclaration N) → is_identifier_reference (type_of (declaration_plain plain r.declaration)) ≡ false
no_declaration_is_an_identifier_reference plain r = of_declaration plain is_identifier_reference false refl r.declaration r.other

pub no_binding_pattern_is_an_identifier_reference : {N : Type 0} (plain : N → Tree) (r : BindingPattern N) → is_identifier_reference (type_of (binding_pattern_plain plain r)) ≡ false
no_binding_pattern_is_an_identifier_reference plain r = of_binding_pattern plain is_identifier_reference false refl refl refl refl r

pub no_statement_is_an_identifier_reference : {N : Type 0} (plain : N → Tree) (r : OtherStatement N) → is_identifier_reference (type_of (statement_plain plain r.statement)) ≡ false
no_statement_is_an_identifier_reference plain r = of_statement plain is_identifier_reference false refl refl refl refl refl refl refl refl refl refl refl refl refl refl refl refl refl refl refl refl refl refl refl r.statement r.other

pub no_expression_is_an_identifier_reference : {N : Type 0} (plain : N → Tree) (r : OtherExpression N) → is_identifier_reference (type_of (expression_plain plain r.expression)) ≡ false
no_expression_is_an_identifier_reference plain r = of_expression plain is_identifier_reference false refl refl refl refl refl refl refl refl refl refl refl refl refl refl refl refl refl refl refl refl refl refl refl refl refl refl refl refl refl refl r.expression r.other

pub no_assignment_target_is_an_identifier_reference : {N : Type 0} (plain : N → Tree) (r : OtherAssignmentTarget N) → is_identifier_reference (type_of (assignment_target_plain plain r.assignment_target)) ≡ false
no_assignment_target_is_an_identifier_reference plain r = of_assignment_target plain is_identifier_reference false refl refl r.assignment_target r.other

pub no_class_element_is_an_identifier_reference : {N : Type 0} (plain : N → Tree) (r : ClassElement N) → is_identifier_reference (type_of (class_element_plain plain r)) ≡ false
no_class_element_is_an_identifier_reference plain r = of_class_element plain is_identifier_reference false refl refl refl r

pub no_declaration_is_a_private_identifier : {N : Type 0} (plain : N → Tree) (r : OtherDeclaration N) → is_private_identifier (type_of (declaration_plain plain r.declaration)) ≡ false
no_declaration_is_a_private_identifier plain r = of_declaration plain is_private_identifier false refl r.declaration r.other

pub no_binding_pattern_is_a_private_identifier : {N : Type 0} (plain : N → Tree) (r : BindingPattern N) → is_private_identifier (type_of (binding_pattern_plain plain r)) ≡ false
no_binding_pattern_is_a_private_identifier plain r = of_binding_pattern plain is_private_identifier false refl refl refl refl r

pub no_statement_is_a_private_identifier : {N : Type 0} (plain : N → Tree) (r : OtherStatement N) → is_private_identifier (type_of (statement_plain plain r.statement)) ≡ false
no_statement_is_a_private_identifier plain r = of_statement plain is_private_identifier false refl refl refl refl refl refl refl refl refl refl refl refl refl refl refl refl refl refl refl refl refl refl refl r.statement r.other

pub no_expression_is_a_private_identifier : {N : Type 0} (plain : N → Tree) (r : OtherExpression N) → is_private_identifier (type_of (expression_plain plain r.expression)) ≡ false
no_expression_is_a_private_identifier plain r = of_expression plain is_private_identifier false refl refl refl refl refl refl refl refl refl refl refl refl refl refl refl refl refl refl refl refl refl refl refl refl refl refl refl refl refl refl r.expression r.other

pub no_assignment_target_is_a_private_identifier : {N : Type 0} (plain : N → Tree) (r : OtherAssignmentTarget N) → is_private_identifier (type_of (assignment_target_plain plain r.assignment_target)) ≡ false
no_assignment_target_is_a_private_identifier plain r = of_assignment_target plain is_private_identifier false refl refl r.assignment_target r.other

pub no_class_element_is_a_private_identifier : {N : Type 0} (plain : N → Tree) (r : ClassElement N) → is_private_identifier (type_of (class_element_plain plain r)) ≡ false
no_class_element_is_a_private_identifier plain r = of_class_element plain is_private_identifier false refl refl refl r

pub no_declaration_is_a_class_body : {N : Type 0} (plain : N → Tree) (r : OtherDeclaration N) → is_class_body (type_of (declaration_plain plain r.declaration)) ≡ false
no_declaration_is_a_class_body plain r = of_declaration plain is_class_body false refl r.declaration r.other

pub no_binding_pattern_is_a_class_body : {N : Type 0} (plain : N → Tree) (r : BindingPattern N) → is_class_body (type_of (binding_pattern_plain plain r)) ≡ false
no_binding_pattern_is_a_class_body plain r = of_binding_pattern plain is_class_body false refl refl refl refl r

pub no_statement_is_a_class_body : {N : Type 0} (plain : N → Tree) (r : OtherStatement N) → is_class_body (type_of (statement_plain plain r.statement)) ≡ false
no_statement_is_a_class_body plain r = of_statement plain is_class_body false refl refl refl refl refl refl refl refl refl refl refl refl refl refl refl refl refl refl refl refl refl refl refl r.statement r.other

pub no_expression_is_a_class_body : {N : Type 0} (plain : N → Tree) (r : OtherExpression N) → is_class_body (type_of (expression_plain plain r.expression)) ≡ false
no_expression_is_a_class_body plain r = of_expression plain is_class_body false refl refl refl refl refl refl refl refl refl refl refl refl refl refl refl refl refl refl refl refl refl refl refl refl refl refl refl refl refl refl r.expression r.other

pub no_assignment_target_is_a_class_body : {N : Type 0} (plain : N → Tree) (r : OtherAssignmentTarget N) → is_class_body (type_of (assignment_target_plain plain r.assignment_target)) ≡ false
no_assignment_target_is_a_class_body plain r = of_assignment_target plain is_class_body false refl refl r.assignment_target r.other

pub no_class_element_is_a_class_body : {N : Type 0} (plain : N → Tree) (r : ClassElement N) → is_class_body (type_of (class_element_plain plain r)) ≡ false
no_class_element_is_a_class_body plain r = of_class_element plain is_class_body false refl refl refl r

pub no_declaration_is_a_function : {N : Type 0} (plain : N → Tree) (r : OtherDeclaration N) → is_function (type_of (declaration_plain plain r.declaration)) ≡ false
no_declaration_is_a_function plain r = of_declaration plain is_function false refl r.declaration r.other

pub no_binding_pattern_is_a_function : {N : Type 0} (plain : N → Tree) (r : BindingPattern N) → is_function (type_of (binding_pattern_plain plain r)) ≡ false
no_binding_pattern_is_a_function plain r = of_binding_pattern plain is_function false refl refl refl refl r

pub no_statement_is_a_function : {N : Type 0} (plain : N → Tree) (r : OtherStatement N) → is_function (type_of (statement_plain plain r.statement)) ≡ false
no_statement_is_a_function plain r = of_statement plain is_function false refl refl refl refl refl refl refl refl refl refl refl refl refl refl refl refl refl refl refl refl refl refl refl r.statement r.other

pub no_expression_is_a_function : {N : Type 0} (plain : N → Tree) (r : OtherExpression N) → is_function (type_of (expression_plain plain r.expression)) ≡ false
no_expression_is_a_function plain r = of_expression plain is_function false refl refl refl refl refl refl refl refl refl refl refl refl refl refl refl refl refl refl refl refl refl refl refl refl refl refl refl refl refl refl r.expression r.other

pub no_assignment_target_is_a_function : {N : Type 0} (plain : N → Tree) (r : OtherAssignmentTarget N) → is_function (type_of (assignment_target_plain plain r.assignment_target)) ≡ false
no_assignment_target_is_a_function plain r = of_assignment_target plain is_function false refl refl r.assignment_target r.other

pub no_class_element_is_a_function : {N : Type 0} (plain : N → Tree) (r : ClassElement N) → is_function (type_of (class_element_plain plain r)) ≡ false
no_class_element_is_a_function plain r = of_class_element plain is_function false refl refl refl r

pub no_declaration_is_a_string_literal : {N : Type 0} (plain : N → Tree) (r : OtherDeclaration N) → is_string_literal (type_of (declaration_plain plain r.declaration)) ≡ false
no_declaration_is_a_string_literal plain r = of_declaration plain is_string_literal false refl r.declaration r.other

pub no_binding_pattern_is_a_string_literal : {N : Type 0} (plain : N → Tree) (r : BindingPattern N) → is_string_literal (type_of (binding_pattern_plain plain r)) ≡ false
no_binding_pattern_is_a_string_literal plain r = of_binding_pattern plain is_string_literal false refl refl refl refl r

pub no_statement_is_a_string_literal : {N : Type 0} (plain : N → Tree) (r : OtherStatement N) → is_string_literal (type_of (statement_plain plain r.statement)) ≡ false
no_statement_is_a_string_literal plain r = of_statement plain is_string_literal false refl refl refl refl refl refl refl refl refl refl refl refl refl refl refl refl refl refl refl refl refl refl refl r.statement r.other

pub no_assignment_target_is_a_string_literal : {N : Type 0} (plain : N → Tree) (r : OtherAssignmentTarget N) → is_string_literal (type_of (assignment_target_plain plain r.assignment_target)) ≡ false
no_assignment_target_is_a_string_literal plain r = of_assignment_target plain is_string_literal false refl refl r.assignment_target r.other

pub no_class_element_is_a_string_literal : {N : Type 0} (plain : N → Tree) (r : ClassElement N) → is_string_literal (type_of (class_element_plain plain r)) ≡ false
no_class_element_is_a_string_literal plain r = of_class_element plain is_string_literal false refl refl refl r

pub no_declaration_is_a_with_clause : {N : Type 0} (plain : N → Tree) (r : OtherDeclaration N) → is_with_clause (type_of (declaration_plain plain r.declaration)) ≡ false
no_declaration_is_a_with_clause plain r = of_declaration plain is_with_clause false refl r.declaration r.other

pub no_binding_pattern_is_a_with_clause : {N : Type 0} (plain : N → Tree) (r : BindingPattern N) → is_with_clause (type_of (binding_pattern_plain plain r)) ≡ false
no_binding_pattern_is_a_with_clause plain r = of_binding_pattern plain is_with_clause false refl refl refl refl r

pub no_statement_is_a_with_clause : {N : Type 0} (plain : N → Tree) (r : OtherStatement N) → is_with_clause (type_of (statement_plain plain r.statement)) ≡ false
no_statement_is_a_with_clause plain r = of_statement plain is_with_clause false refl refl refl refl refl refl refl refl refl refl refl refl refl refl refl refl refl refl refl refl refl refl refl r.statement r.other

pub no_expression_is_a_with_clause : {N : Type 0} (plain : N → Tree) (r : OtherExpression N) → is_with_clause (type_of (expression_plain plain r.expression)) ≡ false
no_expression_is_a_with_clause plain r = of_expression plain is_with_clause false refl refl refl refl refl refl refl refl refl refl refl refl refl refl refl refl refl refl refl refl refl refl refl refl refl refl refl refl refl refl r.expression r.other

pub no_assignment_target_is_a_with_clause : {N : Type 0} (plain : N → Tree) (r : OtherAssignmentTarget N) → is_with_clause (type_of (assignment_target_plain plain r.assignment_target)) ≡ false
no_assignment_target_is_a_with_clause plain r = of_assignment_target plain is_with_clause false refl refl r.assignment_target r.other

pub no_class_element_is_a_with_clause : {N : Type 0} (plain : N → Tree) (r : ClassElement N) → is_with_clause (type_of (class_element_plain plain r)) ≡ false
no_class_element_is_a_with_clause plain r = of_class_element plain is_with_clause false refl refl refl r

pub no_declaration_is_an_import_attribute : {N : Type 0} (plain : N → Tree) (r : OtherDeclaration N) → is_import_attribute (type_of (declaration_plain plain r.declaration)) ≡ false
no_declaration_is_an_import_attribute plain r = of_declaration plain is_import_attribute false refl r.declaration r.other

pub no_binding_pattern_is_an_import_attribute : {N : Type 0} (plain : N → Tree) (r : BindingPattern N) → is_import_attribute (type_of (binding_pattern_plain plain r)) ≡ false
no_binding_pattern_is_an_import_attribute plain r = of_binding_pattern plain is_import_attribute false refl refl refl refl r

pub no_statement_is_an_import_attribute : {N : Type 0} (plain : N → Tree) (r : OtherStatement N) → is_import_attribute (type_of (statement_plain plain r.statement)) ≡ false
no_statement_is_an_import_attribute plain r = of_statement plain is_import_attribute false refl refl refl refl refl refl refl refl refl refl refl refl refl refl refl refl refl refl refl refl refl refl refl r.statement r.other

pub no_expression_is_an_import_attribute : {N : Type 0} (plain : N → Tree) (r : OtherExpression N) → is_import_attribute (type_of (expression_plain plain r.expression)) ≡ false
no_expression_is_an_import_attribute plain r = of_expression plain is_import_attribute false refl refl refl refl refl refl refl refl refl refl refl refl refl refl refl refl refl refl refl refl refl refl refl refl refl refl refl refl refl refl r.expression r.other

pub no_assignment_target_is_an_import_attribute : {N : Type 0} (plain : N → Tree) (r : OtherAssignmentTarget N) → is_import_attribute (type_of (assignment_target_plain plain r.assignment_target)) ≡ false
no_assignment_target_is_an_import_attribute plain r = of_assignment_target plain is_import_attribute false refl refl r.assignment_target r.other

pub no_class_element_is_an_import_attribute : {N : Type 0} (plain : N → Tree) (r : ClassElement N) → is_import_attribute (type_of (class_element_plain plain r)) ≡ false
no_class_element_is_an_import_attribute plain r = of_class_element plain is_import_attribute false refl refl refl r

pub no_declaration_is_an_export_specifier : {N : Type 0} (plain : N → Tree) (r : OtherDeclaration N) → is_export_specifier (type_of (declaration_plain plain r.declaration)) ≡ false
no_declaration_is_an_export_specifier plain r = of_declaration plain is_export_specifier false refl r.declaration r.other

pub no_binding_pattern_is_an_export_specifier : {N : Type 0} (plain : N → Tree) (r : BindingPattern N) → is_export_specifier (type_of (binding_pattern_plain plain r)) ≡ false
no_binding_pattern_is_an_export_specifier plain r = of_binding_pattern plain is_export_specifier false refl refl refl refl r

pub no_statement_is_an_export_specifier : {N : Type 0} (plain : N → Tree) (r : OtherStatement N) → is_export_specifier (type_of (statement_plain plain r.statement)) ≡ false
no_statement_is_an_export_specifier plain r = of_statement plain is_export_specifier false refl refl refl refl refl refl refl refl refl refl refl refl refl refl refl refl refl refl refl refl refl refl refl r.statement r.other

pub no_expression_is_an_export_specifier : {N : Type 0} (plain : N → Tree) (r : OtherExpression N) → is_export_specifier (type_of (expression_plain plain r.expression)) ≡ false
no_expression_is_an_export_specifier plain r = of_expression plain is_export_specifier false refl refl refl refl refl refl refl refl refl refl refl refl refl refl refl refl refl refl refl refl refl refl refl refl refl refl refl refl refl refl r.expression r.other

pub no_assignment_target_is_an_export_specifier : {N : Type 0} (plain : N → Tree) (r : OtherAssignmentTarget N) → is_export_specifier (type_of (assignment_target_plain plain r.assignment_target)) ≡ false
no_assignment_target_is_an_export_specifier plain r = of_assignment_target plain is_export_specifier false refl refl r.assignment_target r.other

pub no_class_element_is_an_export_specifier : {N : Type 0} (plain : N → Tree) (r : ClassElement N) → is_export_specifier (type_of (class_element_plain plain r)) ≡ false
no_class_element_is_an_export_specifier plain r = of_class_element plain is_export_specifier false refl refl refl r

-- ---- which rows a place takes

pub ruleset takes_comments = (no_declaration_is_a_comment, no_binding_pattern_is_a_comment, no_statement_is_a_comment, no_expression_is_a_comment, no_assignment_target_is_a_comment, no_class_element_is_a_comment)

pub ruleset takes_hashbangs = (no_declaration_is_a_hashbang, no_binding_pattern_is_a_hashbang, no_statement_is_a_hashbang, no_expression_is_a_hashbang, no_assignment_target_is_a_hashbang, no_class_element_is_a_hashbang)

pub ruleset takes_directives = (no_declaration_is_a_directive, no_binding_pattern_is_a_directive, no_statement_is_a_directive, no_expression_is_a_directive, no_assignment_target_is_a_directive, no_class_element_is_a_directive)

pub ruleset takes_variable_declarators = (no_declaration_is_a_variable_declarator, no_binding_pattern_is_a_variable_declarator, no_statement_is_a_variable_declarator, no_expression_is_a_variable_declarator, no_assignment_target_is_a_variable_declarator, no_class_element_is_a_variable_declarator)

pub ruleset takes_identifier_names = (no_declaration_is_an_identifier_name, no_binding_pattern_is_an_identifier_name, no_statement_is_an_identifier_name, no_expression_is_an_identifier_name, no_assignment_target_is_an_identifier_name, no_class_element_is_an_identifier_name)

pub ruleset takes_formal_parameters = (no_declaration_is_a_formal_parameter, no_binding_pattern_is_a_formal_parameter, no_statement_is_a_formal_parameter, no_expression_is_a_formal_parameter, no_assignment_target_is_a_formal_parameter, no_class_element_is_a_formal_parameter)

pub ruleset takes_formal_parameter_rests = (no_declaration_is_a_formal_parameter_rest, no_binding_pattern_is_a_formal_parameter_rest, no_statement_is_a_formal_parameter_rest, no_expression_is_a_formal_parameter_rest, no_assignment_target_is_a_formal_parameter_rest, no_class_element_is_a_formal_parameter_rest)

pub ruleset takes_binding_identifiers = (no_declaration_is_a_binding_identifier, no_statement_is_a_binding_identifier, no_expression_is_a_binding_identifier, no_assignment_target_is_a_binding_identifier, no_class_element_is_a_binding_identifier)

pub ruleset takes_formal_parameterss = (no_declaration_is_a_formal_parameters, no_binding_pattern_is_a_formal_parameters, no_statement_is_a_formal_parameters, no_expression_is_a_formal_parameters, no_assignment_target_is_a_formal_parameters, no_class_element_is_a_formal_parameters)

pub ruleset takes_function_bodys = (no_declaration_is_a_function_body, no_binding_pattern_is_a_function_body, no_statement_is_a_function_body, no_expression_is_a_function_body, no_assignment_target_is_a_function_body, no_class_element_is_a_function_body)

pub ruleset takes_template_elements = (no_declaration_is_a_template_element, no_binding_pattern_is_a_template_element, no_statement_is_a_template_element, no_expression_is_a_template_element, no_assignment_target_is_a_template_element, no_class_element_is_a_template_element)

pub ruleset takes_template_literals = (no_declaration_is_a_template_literal, no_binding_pattern_is_a_template_literal, no_statement_is_a_template_literal, no_assignment_target_is_a_template_literal, no_class_element_is_a_template_literal)

pub ruleset takes_label_identifiers = (no_declaration_is_a_label_identifier, no_binding_pattern_is_a_label_identifier, no_statement_is_a_label_identifier, no_expression_is_a_label_identifier, no_assignment_target_is_a_label_identifier, no_class_element_is_a_label_identifier)

pub ruleset takes_switch_cases = (no_declaration_is_a_switch_case, no_binding_pattern_is_a_switch_case, no_statement_is_a_switch_case, no_expression_is_a_switch_case, no_assignment_target_is_a_switch_case, no_class_element_is_a_switch_case)

pub ruleset takes_block_statements = (no_declaration_is_a_block_statement, no_binding_pattern_is_a_block_statement, no_expression_is_a_block_statement, no_assignment_target_is_a_block_statement, no_class_element_is_a_block_statement)

pub ruleset takes_catch_clauses = (no_declaration_is_a_catch_clause, no_binding_pattern_is_a_catch_clause, no_statement_is_a_catch_clause, no_expression_is_a_catch_clause, no_assignment_target_is_a_catch_clause, no_class_element_is_a_catch_clause)

pub ruleset takes_binding_propertys = (no_declaration_is_a_binding_property, no_binding_pattern_is_a_binding_property, no_statement_is_a_binding_property, no_expression_is_a_binding_property, no_assignment_target_is_a_binding_property, no_class_element_is_a_binding_property)

pub ruleset takes_binding_rest_elements = (no_declaration_is_a_binding_rest_element, no_binding_pattern_is_a_binding_rest_element, no_statement_is_a_binding_rest_element, no_expression_is_a_binding_rest_element, no_assignment_target_is_a_binding_rest_element, no_class_element_is_a_binding_rest_element)

pub ruleset takes_assignment_target_rests = (no_declaration_is_an_assignment_target_rest, no_binding_pattern_is_an_assignment_target_rest, no_statement_is_an_assignment_target_rest, no_expression_is_an_assignment_target_rest, no_assignment_target_is_an_assignment_target_rest, no_class_element_is_an_assignment_target_rest)

pub ruleset takes_identifier_references = (no_declaration_is_an_identifier_reference, no_binding_pattern_is_an_identifier_reference, no_statement_is_an_identifier_reference, no_expression_is_an_identifier_reference, no_assignment_target_is_an_identifier_reference, no_class_element_is_an_identifier_reference)

pub ruleset takes_private_identifiers = (no_declaration_is_a_private_identifier, no_binding_pattern_is_a_private_identifier, no_statement_is_a_private_identifier, no_expression_is_a_private_identifier, no_assignment_target_is_a_private_identifier, no_class_element_is_a_private_identifier)

pub ruleset takes_class_bodys = (no_declaration_is_a_class_body, no_binding_pattern_is_a_class_body, no_statement_is_a_class_body, no_expression_is_a_class_body, no_assignment_target_is_a_class_body, no_class_element_is_a_class_body)

pub ruleset takes_functions = (no_declaration_is_a_function, no_binding_pattern_is_a_function, no_statement_is_a_function, no_expression_is_a_function, no_assignment_target_is_a_function, no_class_element_is_a_function)

pub ruleset takes_string_literals = (no_declaration_is_a_string_literal, no_binding_pattern_is_a_string_literal, no_statement_is_a_string_literal, no_assignment_target_is_a_string_literal, no_class_element_is_a_string_literal)

pub ruleset takes_with_clauses = (no_declaration_is_a_with_clause, no_binding_pattern_is_a_with_clause, no_statement_is_a_with_clause, no_expression_is_a_with_clause, no_assignment_target_is_a_with_clause, no_class_element_is_a_with_clause)

pub ruleset takes_import_attributes = (no_declaration_is_an_import_attribute, no_binding_pattern_is_an_import_attribute, no_statement_is_an_import_attribute, no_expression_is_an_import_attribute, no_assignment_target_is_an_import_attribute, no_class_element_is_an_import_attribute)

pub ruleset takes_export_specifiers = (no_declaration_is_an_export_specifier, no_binding_pattern_is_an_export_specifier, no_statement_is_an_export_specifier, no_expression_is_an_export_specifier, no_assignment_target_is_an_export_specifier, no_class_element_is_an_export_specifier)
