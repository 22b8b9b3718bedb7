use Rattle.std.proofs.Common.{rules}
use Rattle.jsgen_tree.proofs.Knot.{plain_expression, plain_statement, plain_declaration, plain_binding_pattern, plain_class_element, plain_assignment_target}
use Rattle.jsgen_tree.proofs.Given.{name_given}
use Rattle.jsgen_asked.proofs.kinds.+class_head.Goals as goal

pub returns-in-Class : goal.returns-in-Class
returns-in-Class t c = search (rules, plain_expression, name_given)

pub returns-in_default : goal.returns-in_default
returns-in_default t c = search (rules, plain_expression)

pub returns-in-Declaration-statement : goal.returns-in-Declaration-statement
returns-in-Declaration-statement t c = search (rules, plain_statement)

pub returns-in_default-statement : goal.returns-in_default-statement
returns-in_default-statement t c = search (rules, plain_statement)

pub returns-in-Class-declaration : goal.returns-in-Class-declaration
returns-in-Class-declaration t c = search (rules, plain_declaration, name_given)

pub returns-in_default-declaration : goal.returns-in_default-declaration
returns-in_default-declaration t c = search (rules, plain_declaration)

pub returns-in-BindingPattern : goal.returns-in-BindingPattern
returns-in-BindingPattern t c = search (rules, plain_binding_pattern)

pub returns-in-ClassElement : goal.returns-in-ClassElement
returns-in-ClassElement t c = search (rules, plain_class_element)

pub returns-in-AssignmentTarget : goal.returns-in-AssignmentTarget
returns-in-AssignmentTarget t c = search (rules, plain_assignment_target)
