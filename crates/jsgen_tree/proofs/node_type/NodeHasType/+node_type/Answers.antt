-- Generated from tools/nodes/table.txt; edit that and run tools/nodes/generate.
-- Each set's own lemma.
use Rattle.std.proofs.Common.{rules}
use Rattle.jsgen_tree.proofs.Knot.{plain_expression, plain_assignment_target, plain_declaration, plain_statement, plain_binding_pattern, plain_class_element}
use Rattle.jsgen_tree.proofs.node_type.NodeHasType.+node_type.Goals as goal

pub returns-in-Expression : goal.returns-in-Expression
returns-in-Expression t c = search (rules, plain_expression)

pub returns-in-AssignmentTarget : goal.returns-in-AssignmentTarget
returns-in-AssignmentTarget t c = search (rules, plain_assignment_target)

pub returns-in-Declaration : goal.returns-in-Declaration
returns-in-Declaration t c = search (rules, plain_declaration)

pub returns-in-Statement : goal.returns-in-Statement
returns-in-Statement t c = search (rules, plain_statement)

pub returns-in-BindingPattern : goal.returns-in-BindingPattern
returns-in-BindingPattern t c = search (rules, plain_binding_pattern)

pub returns-in-ClassElement : goal.returns-in-ClassElement
returns-in-ClassElement t c = search (rules, plain_class_element)
