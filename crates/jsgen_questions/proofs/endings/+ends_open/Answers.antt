use Rattle.std.proofs.Common.{rules}
use Rattle.jsgen_tree.proofs.Knot.{plain_expression, plain_declaration, plain_binding_pattern, plain_class_element, plain_statement, plain_assignment_target}
use Rattle.jsgen_questions.proofs.Elsewhere.{no_open_expression, no_open_declaration, no_open_pattern, no_open_element, no_open_statement, no_open_target}
use Rattle.jsgen_questions.proofs.endings.+ends_open.Goals as goal

pub ends_open-returns-in-Expression : goal.ends_open-returns-in-Expression
ends_open-returns-in-Expression t c = rw (c.in-Expression.is, plain_expression c.in-Expression.field-0) (no_open_expression c.in-Expression.field-0)

pub ends_open-returns-in-AssignmentTarget : goal.ends_open-returns-in-AssignmentTarget
ends_open-returns-in-AssignmentTarget t c = rw (c.in-AssignmentTarget.is, plain_assignment_target c.in-AssignmentTarget.field-0) (no_open_target c.in-AssignmentTarget.field-0)

pub ends_open-returns-in-Declaration : goal.ends_open-returns-in-Declaration
ends_open-returns-in-Declaration t c = rw (c.in-Declaration.is, plain_declaration c.in-Declaration.field-0) (no_open_declaration c.in-Declaration.field-0)

pub ends_open-returns-in-BindingPattern : goal.ends_open-returns-in-BindingPattern
ends_open-returns-in-BindingPattern t c = rw (c.in-BindingPattern.is, plain_binding_pattern c.in-BindingPattern.field-0) (no_open_pattern c.in-BindingPattern.field-0)

pub ends_open-returns-in-Declaration-statement : goal.ends_open-returns-in-Declaration-statement
ends_open-returns-in-Declaration-statement t c = search (rules, plain_statement)

pub ends_open-returns-in-IfStatement : goal.ends_open-returns-in-IfStatement
ends_open-returns-in-IfStatement t c = search (rules, plain_statement)

pub ends_open-returns-in-ForStatement : goal.ends_open-returns-in-ForStatement
ends_open-returns-in-ForStatement t c = search (rules, plain_statement)

pub ends_open-returns-in-ForInStatement : goal.ends_open-returns-in-ForInStatement
ends_open-returns-in-ForInStatement t c = search (rules, plain_statement)

pub ends_open-returns-in-ForOfStatement : goal.ends_open-returns-in-ForOfStatement
ends_open-returns-in-ForOfStatement t c = search (rules, plain_statement)

pub ends_open-returns-in-WhileStatement : goal.ends_open-returns-in-WhileStatement
ends_open-returns-in-WhileStatement t c = search (rules, plain_statement)

pub ends_open-returns-in-LabeledStatement : goal.ends_open-returns-in-LabeledStatement
ends_open-returns-in-LabeledStatement t c = search (rules, plain_statement)

pub ends_open-returns-in_default : goal.ends_open-returns-in_default
ends_open-returns-in_default t c = rw (c.in-Statement.is, plain_statement c.in-Statement.statement) (no_open_statement c.in-Statement.statement c.in_default.not-Declaration c.in_default.not-IfStatement c.in_default.not-ForStatement c.in_default.not-ForInStatement c.in_default.not-ForOfStatement c.in_default.not-WhileStatement c.in_default.not-LabeledStatement)

pub ends_open-returns-in-ClassElement : goal.ends_open-returns-in-ClassElement
ends_open-returns-in-ClassElement t c = rw (c.in-ClassElement.is, plain_class_element c.in-ClassElement.field-0) (no_open_element c.in-ClassElement.field-0)
