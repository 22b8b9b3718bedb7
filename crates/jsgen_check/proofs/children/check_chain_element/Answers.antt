-- Generated from tools/nodes/table.txt; edit that and run tools/nodes/generate.
-- A member of one type is of the set.
use Rattle.std.proofs.Common.{refl, sym, ◌∙◌}
use Rattle.jsgen_check.proofs.Verdicts.{of_right_set}
use Rattle.jsgen_tree.specs.declared.types.NodeSet.TheVariants as sets
use Rattle.jsgen_check.proofs.children.check_chain_element.Goals as goal

pub returns-in-StaticMemberExpression : goal.returns-in-StaticMemberExpression
returns-in-StaticMemberExpression g c = record { found = rw c.in-StaticMemberExpression.is ((rw c.deref.ensures at c.check_static_member_expression.ensures.found) ∙ sym (of_right_set _ _ sets.ChainElement _ refl)); number = rw c.in-StaticMemberExpression.is (rw (c.deref.ensures) at c.check_static_member_expression.ensures.number) }

pub returns-in-ComputedMemberExpression : goal.returns-in-ComputedMemberExpression
returns-in-ComputedMemberExpression g c = record { found = rw c.in-ComputedMemberExpression.is ((rw c.deref-in-ComputedMemberExpression.ensures at c.check_computed_member_expression.ensures.found) ∙ sym (of_right_set _ _ sets.ChainElement _ refl)); number = rw c.in-ComputedMemberExpression.is (rw (c.deref-in-ComputedMemberExpression.ensures) at c.check_computed_member_expression.ensures.number) }

pub returns-in-PrivateFieldExpression : goal.returns-in-PrivateFieldExpression
returns-in-PrivateFieldExpression g c = record { found = rw c.in-PrivateFieldExpression.is ((rw c.deref-in-PrivateFieldExpression.ensures at c.check_private_field_expression.ensures.found) ∙ sym (of_right_set _ _ sets.ChainElement _ refl)); number = rw c.in-PrivateFieldExpression.is (rw (c.deref-in-PrivateFieldExpression.ensures) at c.check_private_field_expression.ensures.number) }

pub returns-in-CallExpression : goal.returns-in-CallExpression
returns-in-CallExpression g c = record { found = rw c.in-CallExpression.is ((rw c.deref-in-CallExpression.ensures at c.check_call_expression.ensures.found) ∙ sym (of_right_set _ _ sets.ChainElement _ refl)); number = rw c.in-CallExpression.is (rw (c.deref-in-CallExpression.ensures) at c.check_call_expression.ensures.number) }
