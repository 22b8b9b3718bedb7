-- Generated from tools/nodes/table.txt; edit that and run tools/nodes/generate.
-- What this part prints is printed as it is elsewhere, and what it doesn't is in a later one.
use Rattle.jsgen_nodes.proofs.Parts.{expression_past_4}
use Rattle.jsgen_nodes.proofs.sets.print_expression_in_functions.Goals as goal

pub returns-in-Function : goal.returns-in-Function
returns-in-Function g c = rw c.in-Function.is (rw c.deref.ensures at c.print_function.ensures)

pub returns-in-ArrowFunctionExpression : goal.returns-in-ArrowFunctionExpression
returns-in-ArrowFunctionExpression g c = rw c.in-ArrowFunctionExpression.is (rw c.deref-in-ArrowFunctionExpression.ensures at c.print_arrow_function_expression.ensures)

pub returns-in-AwaitExpression : goal.returns-in-AwaitExpression
returns-in-AwaitExpression g c = rw c.in-AwaitExpression.is (rw c.deref-in-AwaitExpression.ensures at c.print_await_expression.ensures)

pub returns-in-YieldExpression : goal.returns-in-YieldExpression
returns-in-YieldExpression g c = rw c.in-YieldExpression.is (rw c.deref-in-YieldExpression.ensures at c.print_yield_expression.ensures)

pub returns-in_default : goal.returns-in_default
returns-in_default g c = c.print_expression_in_templates.ensures

pub print_expression_in_templates-requires : goal.print_expression_in_templates-requires
print_expression_in_templates-requires g c = expression_past_4 c.args.node.now c.requires c.in_default.not-Function c.in_default.not-ArrowFunctionExpression c.in_default.not-AwaitExpression c.in_default.not-YieldExpression
