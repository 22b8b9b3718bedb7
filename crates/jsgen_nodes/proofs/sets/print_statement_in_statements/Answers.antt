-- Generated from tools/nodes/table.txt; edit that and run tools/nodes/generate.
-- What this part prints is printed as it is elsewhere, and what it doesn't is in a later one.
use Rattle.jsgen_nodes.proofs.Parts.{statement_past_1}
use Rattle.jsgen_nodes.proofs.sets.print_statement_in_statements.Goals as goal

pub returns-in-ExpressionStatement : goal.returns-in-ExpressionStatement
returns-in-ExpressionStatement g c = rw c.in-ExpressionStatement.is (rw c.deref.ensures at c.print_expression_statement.ensures)

pub returns-in-BlockStatement : goal.returns-in-BlockStatement
returns-in-BlockStatement g c = rw c.in-BlockStatement.is (rw c.deref-in-BlockStatement.ensures at c.print_block_statement.ensures)

pub returns-in-IfStatement : goal.returns-in-IfStatement
returns-in-IfStatement g c = rw c.in-IfStatement.is (rw c.deref-in-IfStatement.ensures at c.print_if_statement.ensures)

pub returns-in-EmptyStatement : goal.returns-in-EmptyStatement
returns-in-EmptyStatement g c = rw c.in-EmptyStatement.is (rw c.deref-in-EmptyStatement.ensures at c.print_empty_statement.ensures)

pub returns-in_default : goal.returns-in_default
returns-in_default g c = c.print_statement_in_loops.ensures

pub print_statement_in_loops-requires : goal.print_statement_in_loops-requires
print_statement_in_loops-requires g c = statement_past_1 c.args.node.now c.requires c.in_default.not-ExpressionStatement c.in_default.not-BlockStatement c.in_default.not-IfStatement c.in_default.not-EmptyStatement
