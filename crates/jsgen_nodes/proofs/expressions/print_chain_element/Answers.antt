use Rattle.jsgen_nodes.proofs.expressions.print_chain_element.Goals as goal

pub returns-in-StaticMemberExpression : goal.returns-in-StaticMemberExpression
returns-in-StaticMemberExpression g c = rw (c.in-StaticMemberExpression.is, ← c.deref.ensures) c.print_static_member_expression.ensures

pub returns-in-ComputedMemberExpression : goal.returns-in-ComputedMemberExpression
returns-in-ComputedMemberExpression g c = rw (c.in-ComputedMemberExpression.is, ← c.deref-in-ComputedMemberExpression.ensures) c.print_computed_member_expression.ensures

pub returns-in-CallExpression : goal.returns-in-CallExpression
returns-in-CallExpression g c = rw (c.in-CallExpression.is, ← c.deref-in-CallExpression.ensures) c.print_call_expression.ensures

pub returns-in-PrivateFieldExpression : goal.returns-in-PrivateFieldExpression
returns-in-PrivateFieldExpression g c = rw (c.in-PrivateFieldExpression.is, ← c.deref-in-PrivateFieldExpression.ensures) c.print_private_field_expression.ensures
