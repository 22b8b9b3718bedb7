-- Generated from tools/nodes/table.txt; edit that and run tools/nodes/generate.
-- What it prints is printed as it is elsewhere.
use Rattle.jsgen_nodes.proofs.sets.print_member_expression.Goals as goal

pub returns-in-StaticMemberExpression : goal.returns-in-StaticMemberExpression
returns-in-StaticMemberExpression g c = rw c.in-StaticMemberExpression.is (rw c.deref.ensures at c.print_static_member_expression.ensures)

pub returns-in-ComputedMemberExpression : goal.returns-in-ComputedMemberExpression
returns-in-ComputedMemberExpression g c = rw c.in-ComputedMemberExpression.is (rw c.deref-in-ComputedMemberExpression.ensures at c.print_computed_member_expression.ensures)

pub returns-in-PrivateFieldExpression : goal.returns-in-PrivateFieldExpression
returns-in-PrivateFieldExpression g c = rw c.in-PrivateFieldExpression.is (rw c.deref-in-PrivateFieldExpression.ensures at c.print_private_field_expression.ensures)
