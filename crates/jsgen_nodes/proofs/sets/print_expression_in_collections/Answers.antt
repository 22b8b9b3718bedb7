-- Generated from tools/nodes/table.txt; edit that and run tools/nodes/generate.
-- What this part prints is printed as it is elsewhere, and what it doesn't is in a later one.
use Rattle.jsgen_nodes.proofs.Parts.{expression_past_1}
use Rattle.jsgen_nodes.proofs.sets.print_expression_in_collections.Goals as goal

pub returns-in-ArrayExpression : goal.returns-in-ArrayExpression
returns-in-ArrayExpression g c = rw c.in-ArrayExpression.is (rw c.deref.ensures at c.print_array_expression.ensures)

pub returns-in-ObjectExpression : goal.returns-in-ObjectExpression
returns-in-ObjectExpression g c = rw c.in-ObjectExpression.is (rw c.deref-in-ObjectExpression.ensures at c.print_object_expression.ensures)

pub returns-in_default : goal.returns-in_default
returns-in_default g c = c.print_expression_in_operations.ensures

pub print_expression_in_operations-requires : goal.print_expression_in_operations-requires
print_expression_in_operations-requires g c = expression_past_1 c.args.node.now c.requires c.in_default.not-ArrayExpression c.in_default.not-ObjectExpression
