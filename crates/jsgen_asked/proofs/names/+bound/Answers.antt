use Rattle.std.proofs.Common.{rules, refl}
use Rattle.jsgen_tree.proofs.Knot.{plain_expression, plain_statement, plain_declaration, plain_binding_pattern, plain_class_element, plain_assignment_target}
use Rattle.jsgen_asked.proofs.BoundNames.{bound_row}
use Rattle.jsgen_asked.proofs.names.+bound.Goals as goal

pub returns-in-Expression : goal.returns-in-Expression
returns-in-Expression t c = search (rules, plain_expression)

pub returns-in-Declaration-statement : goal.returns-in-Declaration-statement
returns-in-Declaration-statement t c = search (rules, plain_statement)

pub returns-in_default : goal.returns-in_default
returns-in_default t c = search (rules, plain_statement)

pub returns-in-Declaration : goal.returns-in-Declaration
returns-in-Declaration t c = search (rules, plain_declaration)

pub returns-in-BindingIdentifier : goal.returns-in-BindingIdentifier
returns-in-BindingIdentifier t c = rw (c.in-BindingPattern.is, plain_binding_pattern c.in-BindingPattern.pattern, c.in-BindingIdentifier.is, c.deref-in-BindingIdentifier.ensures) (bound_row c.in-BindingIdentifier.node.value)

pub returns-in-AssignmentPattern : goal.returns-in-AssignmentPattern
returns-in-AssignmentPattern t c = rw (c.in-BindingPattern.is, plain_binding_pattern c.in-BindingPattern.pattern, c.in-AssignmentPattern.is, ← c.deref-in-AssignmentPattern.ensures, ← c.get-in-AssignmentPattern.ensures) c.bound-in-AssignmentPattern.ensures

pub returns-in-ObjectPattern : goal.returns-in-ObjectPattern
returns-in-ObjectPattern t c = rw (c.in-BindingPattern.is, plain_binding_pattern c.in-BindingPattern.pattern, c.in-ObjectPattern.is) refl

pub returns-in-ArrayPattern : goal.returns-in-ArrayPattern
returns-in-ArrayPattern t c = rw (c.in-BindingPattern.is, plain_binding_pattern c.in-BindingPattern.pattern, c.in-ArrayPattern.is) refl

pub returns-in-AssignmentTarget : goal.returns-in-AssignmentTarget
returns-in-AssignmentTarget t c = search (rules, plain_assignment_target)

pub returns-in-ClassElement : goal.returns-in-ClassElement
returns-in-ClassElement t c = search (rules, plain_class_element)
