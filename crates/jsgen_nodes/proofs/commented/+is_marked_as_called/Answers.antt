use Rattle.std.proofs.Common.{rules, ap}
use Rattle.jsgen_tree.proofs.Knot.{plain_expression, plain_assignment_target, plain_declaration, plain_binding_pattern, plain_statement, plain_class_element}
use Rattle.jsgen_nodes.proofs.BeforeIt.{expression_unmarked, statement_unmarked, declaration_unmarked, target_unmarked, pattern_unmarked, element_unmarked}
use Rattle.jsgen_nodes.proofs.commented.+is_marked_as_called.Goals as goal

pub returns-in-Function : goal.returns-in-Function
returns-in-Function t c = rw (c.in-Expression.is, plain_expression c.in-Expression.expression, c.in-Function.is) (ap (λ (f : _). f.pife) c.deref.ensures)

pub returns-in-ArrowFunctionExpression : goal.returns-in-ArrowFunctionExpression
returns-in-ArrowFunctionExpression t c = rw (c.in-Expression.is, plain_expression c.in-Expression.expression, c.in-ArrowFunctionExpression.is) (ap (λ (f : _). f.pife) c.deref-in-ArrowFunctionExpression.ensures)

pub returns-in_default : goal.returns-in_default
returns-in_default t c = rw (c.in-Expression.is, plain_expression c.in-Expression.expression) (expression_unmarked c.in-Expression.expression c.in_default.not-Function c.in_default.not-ArrowFunctionExpression)

pub returns-in-Declaration-statement : goal.returns-in-Declaration-statement
returns-in-Declaration-statement t c = search (rules, plain_statement)

pub returns-in_default-statement : goal.returns-in_default-statement
returns-in_default-statement t c = rw (c.in-Statement.is, plain_statement c.in-Statement.statement) (statement_unmarked c.in-Statement.statement c.in_default-statement.not-Declaration)

pub returns-in-Function-declaration : goal.returns-in-Function-declaration
returns-in-Function-declaration t c = rw (c.in-Declaration.is, plain_declaration c.in-Declaration.declaration, c.in-Function-declaration.is) (ap (λ (f : _). f.pife) c.deref-in-Function-declaration.ensures)

pub returns-in_default-declaration : goal.returns-in_default-declaration
returns-in_default-declaration t c = rw (c.in-Declaration.is, plain_declaration c.in-Declaration.declaration) (declaration_unmarked c.in-Declaration.declaration c.in_default-declaration.not-Function)

pub returns-in-AssignmentTarget : goal.returns-in-AssignmentTarget
returns-in-AssignmentTarget t c = rw (c.in-AssignmentTarget.is, plain_assignment_target c.in-AssignmentTarget.field-0) (target_unmarked c.in-AssignmentTarget.field-0)

pub returns-in-BindingPattern : goal.returns-in-BindingPattern
returns-in-BindingPattern t c = rw (c.in-BindingPattern.is, plain_binding_pattern c.in-BindingPattern.field-0) (pattern_unmarked c.in-BindingPattern.field-0)

pub returns-in-ClassElement : goal.returns-in-ClassElement
returns-in-ClassElement t c = rw (c.in-ClassElement.is, plain_class_element c.in-ClassElement.field-0) (element_unmarked c.in-ClassElement.field-0)
