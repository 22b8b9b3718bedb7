-- Generated from tools/nodes/table.txt; edit that and run tools/nodes/generate.
-- What this part prints is printed as it is elsewhere, and what it doesn't is in a later one.
use Rattle.jsgen_nodes.proofs.Parts.{expression_past_0}
use Rattle.jsgen_nodes.proofs.sets.print_expression.Goals as goal

pub returns-in-IdentifierReference : goal.returns-in-IdentifierReference
returns-in-IdentifierReference g c = rw c.in-IdentifierReference.is (rw c.deref.ensures at c.print_identifier_reference.ensures)

pub returns-in-ThisExpression : goal.returns-in-ThisExpression
returns-in-ThisExpression g c = rw c.in-ThisExpression.is (rw c.deref-in-ThisExpression.ensures at c.print_this_expression.ensures)

pub returns-in-NullLiteral : goal.returns-in-NullLiteral
returns-in-NullLiteral g c = rw c.in-NullLiteral.is (rw c.deref-in-NullLiteral.ensures at c.print_null_literal.ensures)

pub returns-in-BooleanLiteral : goal.returns-in-BooleanLiteral
returns-in-BooleanLiteral g c = rw c.in-BooleanLiteral.is (rw c.deref-in-BooleanLiteral.ensures at c.print_boolean_literal.ensures)

pub returns-in-NumericLiteral : goal.returns-in-NumericLiteral
returns-in-NumericLiteral g c = rw c.in-NumericLiteral.is (rw c.deref-in-NumericLiteral.ensures at c.print_numeric_literal.ensures)

pub returns-in-BigIntLiteral : goal.returns-in-BigIntLiteral
returns-in-BigIntLiteral g c = rw c.in-BigIntLiteral.is (rw c.deref-in-BigIntLiteral.ensures at c.print_big_int_literal.ensures)

pub returns-in-StringLiteral : goal.returns-in-StringLiteral
returns-in-StringLiteral g c = rw c.in-StringLiteral.is (rw c.deref-in-StringLiteral.ensures at c.print_string_literal.ensures)

pub returns-in-RegExpLiteral : goal.returns-in-RegExpLiteral
returns-in-RegExpLiteral g c = rw c.in-RegExpLiteral.is (rw c.deref-in-RegExpLiteral.ensures at c.print_reg_exp_literal.ensures)

pub returns-in-ParenthesizedExpression : goal.returns-in-ParenthesizedExpression
returns-in-ParenthesizedExpression g c = rw c.in-ParenthesizedExpression.is (rw c.deref-in-ParenthesizedExpression.ensures at c.print_parenthesized_expression.ensures)

pub returns-in-BinaryExpression : goal.returns-in-BinaryExpression
returns-in-BinaryExpression g c = rw c.in-BinaryExpression.is (rw c.deref-in-BinaryExpression.ensures at c.print_binary_expression.ensures)

pub returns-in-LogicalExpression : goal.returns-in-LogicalExpression
returns-in-LogicalExpression g c = rw c.in-LogicalExpression.is (rw c.deref-in-LogicalExpression.ensures at c.print_logical_expression.ensures)

pub returns-in-StaticMemberExpression : goal.returns-in-StaticMemberExpression
returns-in-StaticMemberExpression g c = rw c.in-StaticMemberExpression.is (rw c.deref-in-StaticMemberExpression.ensures at c.print_static_member_expression.ensures)

pub returns-in-ComputedMemberExpression : goal.returns-in-ComputedMemberExpression
returns-in-ComputedMemberExpression g c = rw c.in-ComputedMemberExpression.is (rw c.deref-in-ComputedMemberExpression.ensures at c.print_computed_member_expression.ensures)

pub returns-in-CallExpression : goal.returns-in-CallExpression
returns-in-CallExpression g c = rw c.in-CallExpression.is (rw c.deref-in-CallExpression.ensures at c.print_call_expression.ensures)

pub returns-in-ChainExpression : goal.returns-in-ChainExpression
returns-in-ChainExpression g c = rw c.in-ChainExpression.is (rw c.deref-in-ChainExpression.ensures at c.print_chain_expression.ensures)

pub returns-in_default : goal.returns-in_default
returns-in_default g c = c.print_expression_in_collections.ensures

pub print_expression_in_collections-requires : goal.print_expression_in_collections-requires
print_expression_in_collections-requires g c = expression_past_0 c.args.node.now c.in_default.not-IdentifierReference c.in_default.not-ThisExpression c.in_default.not-NullLiteral c.in_default.not-BooleanLiteral c.in_default.not-NumericLiteral c.in_default.not-BigIntLiteral c.in_default.not-StringLiteral c.in_default.not-RegExpLiteral c.in_default.not-ParenthesizedExpression c.in_default.not-BinaryExpression c.in_default.not-LogicalExpression c.in_default.not-StaticMemberExpression c.in_default.not-ComputedMemberExpression c.in_default.not-CallExpression c.in_default.not-ChainExpression
