use Rattle.std.proofs.Common.{rules}
use Rattle.jsgen_tree.proofs.Knot.{plain_expression, plain_statement, plain_declaration, plain_binding_pattern, plain_class_element, plain_assignment_target}
use Rattle.jsgen_check.proofs.links.+has_optional_link.Goals as goal

pub has_optional_link-returns-in-Expression : goal.has_optional_link-returns-in-Expression
has_optional_link-returns-in-Expression t c = search (rules, plain_expression)

pub has_optional_link-returns-in-AssignmentTarget : goal.has_optional_link-returns-in-AssignmentTarget
has_optional_link-returns-in-AssignmentTarget t c = search (rules, plain_assignment_target)

pub has_optional_link-returns-in-Declaration-statement : goal.has_optional_link-returns-in-Declaration-statement
has_optional_link-returns-in-Declaration-statement t c = search (rules, plain_statement)

pub has_optional_link-returns-in_default : goal.has_optional_link-returns-in_default
has_optional_link-returns-in_default t c = search (rules, plain_statement)

pub has_optional_link-returns-in-Declaration : goal.has_optional_link-returns-in-Declaration
has_optional_link-returns-in-Declaration t c = search (rules, plain_declaration)

pub has_optional_link-returns-in-BindingPattern : goal.has_optional_link-returns-in-BindingPattern
has_optional_link-returns-in-BindingPattern t c = search (rules, plain_binding_pattern)

pub has_optional_link-returns-in-ClassElement : goal.has_optional_link-returns-in-ClassElement
has_optional_link-returns-in-ClassElement t c = search (rules, plain_class_element)
