-- Generated from tools/nodes/table.txt; edit that and run tools/nodes/generate.
-- What this part prints is printed as it is elsewhere, and what it doesn't is in a later one.
use Rattle.jsgen_nodes.proofs.Parts.{expression_past_6}
use Rattle.jsgen_nodes.proofs.sets.print_expression_in_classes.Goals as goal

pub returns-in-PrivateFieldExpression : goal.returns-in-PrivateFieldExpression
returns-in-PrivateFieldExpression g c = rw c.in-PrivateFieldExpression.is (rw c.deref.ensures at c.print_private_field_expression.ensures)

pub returns-in-PrivateInExpression : goal.returns-in-PrivateInExpression
returns-in-PrivateInExpression g c = rw c.in-PrivateInExpression.is (rw c.deref-in-PrivateInExpression.ensures at c.print_private_in_expression.ensures)

pub returns-in-Class : goal.returns-in-Class
returns-in-Class g c = rw c.in-Class.is (rw c.deref-in-Class.ensures at c.print_class.ensures)

pub unreachable-requires : goal.unreachable-requires
unreachable-requires g c = expression_past_6 c.args.node.now c.requires c.in_default.not-PrivateFieldExpression c.in_default.not-PrivateInExpression c.in_default.not-Class
