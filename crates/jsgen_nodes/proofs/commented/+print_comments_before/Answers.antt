use Rattle.std.proofs.Common.{sym}
use Rattle.jsgen_tree.proofs.Knot.{plain_expression, plain_assignment_target, plain_declaration, plain_binding_pattern, plain_statement, plain_class_element}
use Rattle.jsgen_printer.specs.Printer.{manner_of}
use Rattle.jsgen_printer.proofs.Sequence.{◌⨾◌}
use Rattle.jsgen_nodes.proofs.BeforeIt.{expression_own, statement_own, target_own, declaration_own, pattern_own, element_own}
use Rattle.jsgen_nodes.proofs.commented.+print_comments_before.Goals as goal

pub returns-in-ParenthesizedExpression : goal.returns-in-ParenthesizedExpression
returns-in-ParenthesizedExpression t c = rw (c.in-Expression.is, plain_expression c.in-Expression.expression, c.in-ParenthesizedExpression.is) ((rw c.deref.ensures at c.print_comments_before.ensures) ⨾ (rw (c.get.ensures, c.deref-in-ParenthesizedExpression.ensures) at c.print_comments_before-in-ParenthesizedExpression.ensures))

pub returns-in-Declaration-statement : goal.returns-in-Declaration-statement
returns-in-Declaration-statement t c = rw (c.in-Statement.is, plain_statement c.in-Statement.statement, c.in-Declaration-statement.is) (rw (c.get-in-Declaration-statement.ensures, c.deref-in-Declaration-statement.ensures) at c.print_comments_before-in-Declaration-statement.ensures)

pub returns-in_default : goal.returns-in_default
returns-in_default t c = rw (c.in-Expression.is, plain_expression c.in-Expression.expression, sym (expression_own (manner_of c.args.which) c.in-Expression.expression c.in_default.not-ParenthesizedExpression)) (rw (c.in-Expression.is, plain_expression c.in-Expression.expression) at c.print_own.ensures)

pub returns-in_default-statement : goal.returns-in_default-statement
returns-in_default-statement t c = rw (c.in-Statement.is, plain_statement c.in-Statement.statement, sym (statement_own (manner_of c.args.which) c.in-Statement.statement c.in_default-statement.not-Declaration)) (rw (c.in-Statement.is, plain_statement c.in-Statement.statement) at c.print_own-in_default-statement.ensures)

pub returns-in-AssignmentTarget : goal.returns-in-AssignmentTarget
returns-in-AssignmentTarget t c = rw (c.in-AssignmentTarget.is, plain_assignment_target c.in-AssignmentTarget.field-0, sym (target_own (manner_of c.args.which) c.in-AssignmentTarget.field-0)) (rw (c.in-AssignmentTarget.is, plain_assignment_target c.in-AssignmentTarget.field-0) at c.print_own-in-AssignmentTarget.ensures)

pub returns-in-Declaration : goal.returns-in-Declaration
returns-in-Declaration t c = rw (c.in-Declaration.is, plain_declaration c.in-Declaration.field-0, sym (declaration_own (manner_of c.args.which) c.in-Declaration.field-0)) (rw (c.in-Declaration.is, plain_declaration c.in-Declaration.field-0) at c.print_own-in-Declaration.ensures)

pub returns-in-BindingPattern : goal.returns-in-BindingPattern
returns-in-BindingPattern t c = rw (c.in-BindingPattern.is, plain_binding_pattern c.in-BindingPattern.field-0, sym (pattern_own (manner_of c.args.which) c.in-BindingPattern.field-0)) (rw (c.in-BindingPattern.is, plain_binding_pattern c.in-BindingPattern.field-0) at c.print_own-in-BindingPattern.ensures)

pub returns-in-ClassElement : goal.returns-in-ClassElement
returns-in-ClassElement t c = rw (c.in-ClassElement.is, plain_class_element c.in-ClassElement.field-0, sym (element_own (manner_of c.args.which) c.in-ClassElement.field-0)) (rw (c.in-ClassElement.is, plain_class_element c.in-ClassElement.field-0) at c.print_own-in-ClassElement.ensures)
