use Rattle.jsgen_tree.proofs.Knot.{plain_expression, plain_statement, plain_declaration, plain_binding_pattern, plain_class_element, plain_assignment_target}
use Rattle.jsgen_check.proofs.NodeCheckNode.+node.Goals as goal

pub returns-in-Expression : goal.returns-in-Expression
returns-in-Expression t c = record { found = rw (c.in-Expression.is, plain_expression c.in-Expression.expression) c.check_expression_set.ensures.found; number = rw (c.in-Expression.is, plain_expression c.in-Expression.expression) c.check_expression_set.ensures.number }

pub returns-in-AssignmentTarget : goal.returns-in-AssignmentTarget
returns-in-AssignmentTarget t c = record { found = rw (c.in-AssignmentTarget.is, plain_assignment_target c.in-AssignmentTarget.target) c.check_assignment_target_set.ensures.found; number = rw (c.in-AssignmentTarget.is, plain_assignment_target c.in-AssignmentTarget.target) c.check_assignment_target_set.ensures.number }

pub returns-in-Statement : goal.returns-in-Statement
returns-in-Statement t c = record { found = rw (c.in-Statement.is, plain_statement c.in-Statement.statement) c.check_statement_set.ensures.found; number = rw (c.in-Statement.is, plain_statement c.in-Statement.statement) c.check_statement_set.ensures.number }

pub returns-in-Declaration : goal.returns-in-Declaration
returns-in-Declaration t c = record { found = rw (c.in-Declaration.is, plain_declaration c.in-Declaration.declaration) c.check_declaration_set.ensures.found; number = rw (c.in-Declaration.is, plain_declaration c.in-Declaration.declaration) c.check_declaration_set.ensures.number }

pub returns-in-BindingPattern : goal.returns-in-BindingPattern
returns-in-BindingPattern t c = record { found = rw (c.in-BindingPattern.is, plain_binding_pattern c.in-BindingPattern.pattern) c.check_binding_pattern_set.ensures.found; number = rw (c.in-BindingPattern.is, plain_binding_pattern c.in-BindingPattern.pattern) c.check_binding_pattern_set.ensures.number }

pub returns-in-ClassElement : goal.returns-in-ClassElement
returns-in-ClassElement t c = record { found = rw (c.in-ClassElement.is, plain_class_element c.in-ClassElement.element) c.check_class_element_set.ensures.found; number = rw (c.in-ClassElement.is, plain_class_element c.in-ClassElement.element) c.check_class_element_set.ensures.number }
