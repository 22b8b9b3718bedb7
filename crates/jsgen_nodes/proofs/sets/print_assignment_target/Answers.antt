-- Generated from tools/nodes/table.txt; edit that and run tools/nodes/generate.
-- What this part prints is printed as it is elsewhere, and what it doesn't is in a later one.
use Rattle.jsgen_nodes.proofs.Parts.{assignment_target_past_0}
use Rattle.jsgen_nodes.proofs.sets.print_assignment_target.Goals as goal

pub returns-in-IdentifierReference : goal.returns-in-IdentifierReference
returns-in-IdentifierReference g c = rw c.in-IdentifierReference.is (rw c.deref.ensures at c.print_identifier_reference.ensures)

pub returns-in-StaticMemberExpression : goal.returns-in-StaticMemberExpression
returns-in-StaticMemberExpression g c = rw c.in-StaticMemberExpression.is (rw c.deref-in-StaticMemberExpression.ensures at c.print_static_member_expression.ensures)

pub returns-in-ComputedMemberExpression : goal.returns-in-ComputedMemberExpression
returns-in-ComputedMemberExpression g c = rw c.in-ComputedMemberExpression.is (rw c.deref-in-ComputedMemberExpression.ensures at c.print_computed_member_expression.ensures)

pub returns-in_default : goal.returns-in_default
returns-in_default g c = c.print_assignment_target_in_targets.ensures

pub print_assignment_target_in_targets-requires : goal.print_assignment_target_in_targets-requires
print_assignment_target_in_targets-requires g c = assignment_target_past_0 c.args.node.now c.in_default.not-IdentifierReference c.in_default.not-StaticMemberExpression c.in_default.not-ComputedMemberExpression
