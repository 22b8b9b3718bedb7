-- Generated from tools/nodes/table.txt; edit that and run tools/nodes/generate.
-- It is printed by itself as it is at its place.
use Rattle.jsgen_tree.specs.Rows.{continue_statement_row}
use Rattle.jsgen_alone.proofs.Placed.{placed_as}
use Rattle.jsgen_alone.proofs.loops.ContinueStatementPrintAlone.print_alone.Goals as goal

pub returns : goal.returns
returns c = placed_as (continue_statement_row c.args.self.now) c.among_statements.ensures c.print_continue_statement.ensures
