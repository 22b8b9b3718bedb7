-- Generated from tools/nodes/table.txt; edit that and run tools/nodes/generate.
-- What this part prints is printed as it is elsewhere, and what it doesn't is in a later one.
use Rattle.jsgen_nodes.proofs.Parts.{statement_past_3}
use Rattle.jsgen_nodes.proofs.sets.print_statement_in_choices.Goals as goal

pub returns-in-SwitchStatement : goal.returns-in-SwitchStatement
returns-in-SwitchStatement g c = rw c.in-SwitchStatement.is (rw c.deref.ensures at c.print_switch_statement.ensures)

pub returns-in-TryStatement : goal.returns-in-TryStatement
returns-in-TryStatement g c = rw c.in-TryStatement.is (rw c.deref-in-TryStatement.ensures at c.print_try_statement.ensures)

pub returns-in_default : goal.returns-in_default
returns-in_default g c = c.print_statement_in_modules.ensures

pub print_statement_in_modules-requires : goal.print_statement_in_modules-requires
print_statement_in_modules-requires g c = statement_past_3 c.args.node.now c.requires c.in_default.not-SwitchStatement c.in_default.not-TryStatement
