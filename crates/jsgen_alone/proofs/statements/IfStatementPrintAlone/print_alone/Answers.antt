-- Generated from tools/nodes/table.txt; edit that and run tools/nodes/generate.
-- It is printed by itself as it is at its place.
use Rattle.jsgen_tree.specs.Rows.{if_statement_row}
use Rattle.jsgen_alone.proofs.Placed.{placed_as}
use Rattle.jsgen_alone.proofs.statements.IfStatementPrintAlone.print_alone.Goals as goal

pub returns : goal.returns
returns g c = placed_as (if_statement_row g.N.PrintNode.plain c.args.self.now) c.among_statements.ensures c.print_if_statement.ensures
