use Rattle.std.proofs.Common.{rules, sym}
use Rattle.jsgen_tree.proofs.Knot.{plain_expression, plain_assignment_target, plain_statement, plain_declaration, plain_binding_pattern, plain_class_element}
use Rattle.jsgen_check.proofs.Misfits.{expression_misfit, target_misfit}
use Rattle.jsgen_check.proofs.heads.+misfits_left.Goals as goal

pub returns-in-Expression : goal.returns-in-Expression
returns-in-Expression t c = rw (c.in-Expression.is, plain_expression c.in-Expression.expression, sym (expression_misfit c.in-Expression.expression)) c.expression_has_optional_link.ensures

pub returns-in-AssignmentTarget : goal.returns-in-AssignmentTarget
returns-in-AssignmentTarget t c = rw (c.in-AssignmentTarget.is, plain_assignment_target c.in-AssignmentTarget.target, sym (target_misfit c.in-AssignmentTarget.target)) c.assigned_has_optional_link.ensures

pub returns-in-Declaration-statement : goal.returns-in-Declaration-statement
returns-in-Declaration-statement t c = search (rules, plain_statement)

pub returns-in_default : goal.returns-in_default
returns-in_default t c = search (rules, plain_statement)

pub returns-in-VariableDeclaration : goal.returns-in-VariableDeclaration
returns-in-VariableDeclaration t c = search (rules, plain_declaration)

pub returns-in-Function : goal.returns-in-Function
returns-in-Function t c = search (rules, plain_declaration)

pub returns-in-BindingPattern : goal.returns-in-BindingPattern
returns-in-BindingPattern t c = search (rules, plain_binding_pattern)

pub returns-in-ClassElement : goal.returns-in-ClassElement
returns-in-ClassElement t c = search (rules, plain_class_element)

pub returns-in-Class : goal.returns-in-Class
returns-in-Class t c = search (rules, plain_declaration)
