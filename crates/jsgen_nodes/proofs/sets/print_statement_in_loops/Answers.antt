-- Generated from tools/nodes/table.txt; edit that and run tools/nodes/generate.
-- What this part prints is printed as it is elsewhere, and what it doesn't is in a later one.
use Rattle.jsgen_nodes.proofs.Parts.{statement_past_2}
use Rattle.jsgen_nodes.proofs.sets.print_statement_in_loops.Goals as goal

pub returns-in-ForStatement : goal.returns-in-ForStatement
returns-in-ForStatement g c = rw c.in-ForStatement.is (rw c.deref.ensures at c.print_for_statement.ensures)

pub returns-in-ForInStatement : goal.returns-in-ForInStatement
returns-in-ForInStatement g c = rw c.in-ForInStatement.is (rw c.deref-in-ForInStatement.ensures at c.print_for_in_statement.ensures)

pub returns-in-ForOfStatement : goal.returns-in-ForOfStatement
returns-in-ForOfStatement g c = rw c.in-ForOfStatement.is (rw c.deref-in-ForOfStatement.ensures at c.print_for_of_statement.ensures)

pub returns-in-WhileStatement : goal.returns-in-WhileStatement
returns-in-WhileStatement g c = rw c.in-WhileStatement.is (rw c.deref-in-WhileStatement.ensures at c.print_while_statement.ensures)

pub returns-in-DoWhileStatement : goal.returns-in-DoWhileStatement
returns-in-DoWhileStatement g c = rw c.in-DoWhileStatement.is (rw c.deref-in-DoWhileStatement.ensures at c.print_do_while_statement.ensures)

pub returns-in-LabeledStatement : goal.returns-in-LabeledStatement
returns-in-LabeledStatement g c = rw c.in-LabeledStatement.is (rw c.deref-in-LabeledStatement.ensures at c.print_labeled_statement.ensures)

pub returns-in-ContinueStatement : goal.returns-in-ContinueStatement
returns-in-ContinueStatement g c = rw c.in-ContinueStatement.is (rw c.deref-in-ContinueStatement.ensures at c.print_continue_statement.ensures)

pub returns-in-BreakStatement : goal.returns-in-BreakStatement
returns-in-BreakStatement g c = rw c.in-BreakStatement.is (rw c.deref-in-BreakStatement.ensures at c.print_break_statement.ensures)

pub returns-in-ReturnStatement : goal.returns-in-ReturnStatement
returns-in-ReturnStatement g c = rw c.in-ReturnStatement.is (rw c.deref-in-ReturnStatement.ensures at c.print_return_statement.ensures)

pub returns-in-ThrowStatement : goal.returns-in-ThrowStatement
returns-in-ThrowStatement g c = rw c.in-ThrowStatement.is (rw c.deref-in-ThrowStatement.ensures at c.print_throw_statement.ensures)

pub returns-in-DebuggerStatement : goal.returns-in-DebuggerStatement
returns-in-DebuggerStatement g c = rw c.in-DebuggerStatement.is (rw c.deref-in-DebuggerStatement.ensures at c.print_debugger_statement.ensures)

pub returns-in_default : goal.returns-in_default
returns-in_default g c = c.print_statement_in_choices.ensures

pub print_statement_in_choices-requires : goal.print_statement_in_choices-requires
print_statement_in_choices-requires g c = statement_past_2 c.args.node.now c.requires c.in_default.not-ForStatement c.in_default.not-ForInStatement c.in_default.not-ForOfStatement c.in_default.not-WhileStatement c.in_default.not-DoWhileStatement c.in_default.not-LabeledStatement c.in_default.not-ContinueStatement c.in_default.not-BreakStatement c.in_default.not-ReturnStatement c.in_default.not-ThrowStatement c.in_default.not-DebuggerStatement
