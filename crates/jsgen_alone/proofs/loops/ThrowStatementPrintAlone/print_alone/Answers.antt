-- Generated from tools/nodes/table.txt; edit that and run tools/nodes/generate.
-- It is printed by itself as it is at its place.
use Rattle.jsgen_tree.specs.Rows.{throw_statement_row}
use Rattle.jsgen_alone.proofs.Placed.{placed_as}
use Rattle.jsgen_alone.proofs.loops.ThrowStatementPrintAlone.print_alone.Goals as goal

pub returns : goal.returns
returns g c = placed_as (throw_statement_row g.N.PrintNode.plain c.args.self.now) c.among_statements.ensures c.print_throw_statement.ensures
