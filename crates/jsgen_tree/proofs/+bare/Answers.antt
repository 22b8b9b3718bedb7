use Rattle.std.proofs.Common.{rules, refl}
use Rattle.jsgen_tree.specs.Plain.{node_plain}
use Rattle.jsgen_tree.specs.declared.nodes.Node.TheVariants.{outs-Statement}
use Rattle.jsgen_tree.proofs.Knot.{plain_expression, plain_statement, plain_declaration, plain_binding_pattern, plain_class_element, plain_assignment_target}
use Rattle.jsgen_tree.proofs.Stripped.{bare_target, bare_declaration, bare_statement, bare_pattern, bare_element}
use Rattle.jsgen_tree.proofs.+bare.Goals as goal

pub nodes::Node::without_parentheses-returns-in-Expression-clause-bare : goal.nodes::Node::without_parentheses-returns-in-Expression-clause-bare
nodes::Node::without_parentheses-returns-in-Expression-clause-bare t c = rw (c.in-Expression.is, plain_expression c.in-Expression.expression) c.without_parentheses.ensures.bare

pub nodes::Node::without_parentheses-returns-in-AssignmentTarget-clause-bare : goal.nodes::Node::without_parentheses-returns-in-AssignmentTarget-clause-bare
nodes::Node::without_parentheses-returns-in-AssignmentTarget-clause-bare t c = rw (c.in-AssignmentTarget.is, plain_assignment_target c.in-AssignmentTarget.field-0) (bare_target node_plain c.in-AssignmentTarget.field-0)

pub nodes::Node::without_parentheses-returns-in-Declaration-statement-clause-bare : goal.nodes::Node::without_parentheses-returns-in-Declaration-statement-clause-bare
nodes::Node::without_parentheses-returns-in-Declaration-statement-clause-bare t c = search (rules, plain_statement)

pub nodes::Node::without_parentheses-returns-in_default-clause-bare : goal.nodes::Node::without_parentheses-returns-in_default-clause-bare
nodes::Node::without_parentheses-returns-in_default-clause-bare t c = rw (c.in-Statement.is, plain_statement c.in-Statement.statement) (bare_statement node_plain c.in-Statement.statement c.in_default.not-Declaration)

pub nodes::Node::without_parentheses-returns-in-Declaration-clause-bare : goal.nodes::Node::without_parentheses-returns-in-Declaration-clause-bare
nodes::Node::without_parentheses-returns-in-Declaration-clause-bare t c = rw (c.in-Declaration.is, plain_declaration c.in-Declaration.field-0) (bare_declaration node_plain c.in-Declaration.field-0)

pub nodes::Node::without_parentheses-returns-in-BindingPattern-clause-bare : goal.nodes::Node::without_parentheses-returns-in-BindingPattern-clause-bare
nodes::Node::without_parentheses-returns-in-BindingPattern-clause-bare t c = rw (c.in-BindingPattern.is, plain_binding_pattern c.in-BindingPattern.field-0) (bare_pattern node_plain c.in-BindingPattern.field-0)

pub nodes::Node::without_parentheses-returns-in-ClassElement-clause-bare : goal.nodes::Node::without_parentheses-returns-in-ClassElement-clause-bare
nodes::Node::without_parentheses-returns-in-ClassElement-clause-bare t c = rw (c.in-ClassElement.is, plain_class_element c.in-ClassElement.field-0) (bare_element node_plain c.in-ClassElement.field-0)

pub nodes::Node::without_parentheses-returns-in_default-clause-stripped : goal.nodes::Node::without_parentheses-returns-in_default-clause-stripped
nodes::Node::without_parentheses-returns-in_default-clause-stripped t c = rw (c.in-Statement.is, outs-Statement c.in-Statement.statement) refl
