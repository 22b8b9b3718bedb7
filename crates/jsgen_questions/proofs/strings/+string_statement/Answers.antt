use Rattle.std.proofs.Common.{rules}
use Rattle.jsgen_tree.proofs.Knot.{plain_expression, plain_declaration, plain_binding_pattern, plain_class_element, plain_statement, plain_assignment_target}
use Rattle.jsgen_questions.proofs.Elsewhere.{no_expression_string, no_declaration_string, no_pattern_string, no_element_string, no_string_statement, no_target_string}
use Rattle.jsgen_questions.proofs.strings.+string_statement.Goals as goal

pub returns-in-Expression : goal.returns-in-Expression
returns-in-Expression t c = rw (c.in-Expression.is, plain_expression c.in-Expression.field-0) (no_expression_string c.in-Expression.field-0)

pub returns-in-AssignmentTarget : goal.returns-in-AssignmentTarget
returns-in-AssignmentTarget t c = rw (c.in-AssignmentTarget.is, plain_assignment_target c.in-AssignmentTarget.field-0) (no_target_string c.in-AssignmentTarget.field-0)

pub returns-in-Declaration : goal.returns-in-Declaration
returns-in-Declaration t c = rw (c.in-Declaration.is, plain_declaration c.in-Declaration.field-0) (no_declaration_string c.in-Declaration.field-0)

pub returns-in-BindingPattern : goal.returns-in-BindingPattern
returns-in-BindingPattern t c = rw (c.in-BindingPattern.is, plain_binding_pattern c.in-BindingPattern.field-0) (no_pattern_string c.in-BindingPattern.field-0)

pub returns-in-Declaration-statement : goal.returns-in-Declaration-statement
returns-in-Declaration-statement t c = search (rules, plain_statement)

pub returns-in-ExpressionStatement : goal.returns-in-ExpressionStatement
returns-in-ExpressionStatement t c = search (rules, plain_statement)

pub returns-in_default : goal.returns-in_default
returns-in_default t c = rw (c.in-Statement.is, plain_statement c.in-Statement.statement) (no_string_statement c.in-Statement.statement c.in_default.not-Declaration c.in_default.not-ExpressionStatement)

pub returns-in-ClassElement : goal.returns-in-ClassElement
returns-in-ClassElement t c = rw (c.in-ClassElement.is, plain_class_element c.in-ClassElement.field-0) (no_element_string c.in-ClassElement.field-0)
