-- Generated from tools/nodes/table.txt; edit that and run tools/nodes/generate.
-- What this part prints is printed as it is elsewhere, and what it doesn't is in a later one.
use Rattle.jsgen_nodes.proofs.Parts.{statement_past_0}
use Rattle.jsgen_nodes.proofs.sets.print_statement.Goals as goal

pub returns-in-Declaration : goal.returns-in-Declaration
returns-in-Declaration g c = rw c.in-Declaration.is (rw (c.get.ensures, c.deref.ensures) at c.print.ensures)

pub returns-in_default : goal.returns-in_default
returns-in_default g c = c.print_statement_in_statements.ensures

pub print_statement_in_statements-requires : goal.print_statement_in_statements-requires
print_statement_in_statements-requires g c = statement_past_0 c.args.node.now c.in_default.not-Declaration
