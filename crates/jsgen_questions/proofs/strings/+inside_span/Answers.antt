use Rattle.std.proofs.Common.{rules, ◌∙◌}
use Rattle.jsgen_tree.proofs.Knot.{plain_expression, plain_declaration, plain_binding_pattern, plain_class_element, plain_statement, plain_assignment_target}
use Rattle.jsgen_questions.proofs.Elsewhere.{expression_itself, declaration_itself, pattern_itself, element_itself, statement_itself, target_itself}
use Rattle.jsgen_questions.proofs.strings.+inside_span.Goals as goal

pub returns-in-Expression : goal.returns-in-Expression
returns-in-Expression t c = c.span.ensures ∙ rw (c.in-Expression.is, plain_expression c.in-Expression.field-0) (expression_itself c.in-Expression.field-0)

pub returns-in-AssignmentTarget : goal.returns-in-AssignmentTarget
returns-in-AssignmentTarget t c = c.span-in-AssignmentTarget.ensures ∙ rw (c.in-AssignmentTarget.is, plain_assignment_target c.in-AssignmentTarget.field-0) (target_itself c.in-AssignmentTarget.field-0)

pub returns-in-Declaration : goal.returns-in-Declaration
returns-in-Declaration t c = c.span-in-Declaration.ensures ∙ rw (c.in-Declaration.is, plain_declaration c.in-Declaration.field-0) (declaration_itself c.in-Declaration.field-0)

pub returns-in-BindingPattern : goal.returns-in-BindingPattern
returns-in-BindingPattern t c = c.span-in-BindingPattern.ensures ∙ rw (c.in-BindingPattern.is, plain_binding_pattern c.in-BindingPattern.field-0) (pattern_itself c.in-BindingPattern.field-0)

pub returns-in-ClassElement : goal.returns-in-ClassElement
returns-in-ClassElement t c = c.span-in-ClassElement.ensures ∙ rw (c.in-ClassElement.is, plain_class_element c.in-ClassElement.field-0) (element_itself c.in-ClassElement.field-0)

pub returns-in-Declaration-statement : goal.returns-in-Declaration-statement
returns-in-Declaration-statement t c = search (rules, plain_statement)

pub returns-in-ExpressionStatement : goal.returns-in-ExpressionStatement
returns-in-ExpressionStatement t c = search (rules, plain_statement)

pub returns-in_default : goal.returns-in_default
returns-in_default t c = c.span-in_default.ensures ∙ rw (c.in-Statement.is, plain_statement c.in-Statement.statement) (statement_itself c.in-Statement.statement c.in_default.not-Declaration c.in_default.not-ExpressionStatement)
