-- Generated from tools/nodes/table.txt; edit that and run tools/nodes/generate.
-- What this part prints is printed as it is elsewhere, and what it doesn't is in a later one.
use Rattle.jsgen_nodes.proofs.Parts.{expression_past_2}
use Rattle.jsgen_nodes.proofs.sets.print_expression_in_operations.Goals as goal

pub returns-in-UnaryExpression : goal.returns-in-UnaryExpression
returns-in-UnaryExpression g c = rw c.in-UnaryExpression.is (rw c.deref.ensures at c.print_unary_expression.ensures)

pub returns-in-NewTarget : goal.returns-in-NewTarget
returns-in-NewTarget g c = rw c.in-NewTarget.is (rw c.deref-in-NewTarget.ensures at c.print_new_target.ensures)

pub returns-in-UpdateExpression : goal.returns-in-UpdateExpression
returns-in-UpdateExpression g c = rw c.in-UpdateExpression.is (rw c.deref-in-UpdateExpression.ensures at c.print_update_expression.ensures)

pub returns-in-NewExpression : goal.returns-in-NewExpression
returns-in-NewExpression g c = rw c.in-NewExpression.is (rw c.deref-in-NewExpression.ensures at c.print_new_expression.ensures)

pub returns-in-Super : goal.returns-in-Super
returns-in-Super g c = rw c.in-Super.is (rw c.deref-in-Super.ensures at c.print_super.ensures)

pub returns-in-ImportMeta : goal.returns-in-ImportMeta
returns-in-ImportMeta g c = rw c.in-ImportMeta.is (rw c.deref-in-ImportMeta.ensures at c.print_import_meta.ensures)

pub returns-in_default : goal.returns-in_default
returns-in_default g c = c.print_expression_in_assignments.ensures

pub print_expression_in_assignments-requires : goal.print_expression_in_assignments-requires
print_expression_in_assignments-requires g c = expression_past_2 c.args.node.now c.requires c.in_default.not-UnaryExpression c.in_default.not-NewTarget c.in_default.not-UpdateExpression c.in_default.not-NewExpression c.in_default.not-Super c.in_default.not-ImportMeta
