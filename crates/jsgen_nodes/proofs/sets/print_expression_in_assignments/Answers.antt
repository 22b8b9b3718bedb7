-- Generated from tools/nodes/table.txt; edit that and run tools/nodes/generate.
-- What this part prints is printed as it is elsewhere, and what it doesn't is in a later one.
use Rattle.jsgen_nodes.proofs.Parts.{expression_past_3}
use Rattle.jsgen_nodes.proofs.sets.print_expression_in_assignments.Goals as goal

pub returns-in-ConditionalExpression : goal.returns-in-ConditionalExpression
returns-in-ConditionalExpression g c = rw c.in-ConditionalExpression.is (rw c.deref.ensures at c.print_conditional_expression.ensures)

pub returns-in-SequenceExpression : goal.returns-in-SequenceExpression
returns-in-SequenceExpression g c = rw c.in-SequenceExpression.is (rw c.deref-in-SequenceExpression.ensures at c.print_sequence_expression.ensures)

pub returns-in-AssignmentExpression : goal.returns-in-AssignmentExpression
returns-in-AssignmentExpression g c = rw c.in-AssignmentExpression.is (rw c.deref-in-AssignmentExpression.ensures at c.print_assignment_expression.ensures)

pub returns-in_default : goal.returns-in_default
returns-in_default g c = c.print_expression_in_functions.ensures

pub print_expression_in_functions-requires : goal.print_expression_in_functions-requires
print_expression_in_functions-requires g c = expression_past_3 c.args.node.now c.requires c.in_default.not-ConditionalExpression c.in_default.not-SequenceExpression c.in_default.not-AssignmentExpression
