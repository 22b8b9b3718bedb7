-- Generated from tools/nodes/table.txt; edit that and run tools/nodes/generate.
-- It is printed by itself as it is at its place.
use Rattle.jsgen_tree.specs.Rows.{spread_element_row}
use Rattle.jsgen_alone.proofs.Placed.{placed_as}
use Rattle.jsgen_alone.proofs.collections.SpreadElementPrintAlone.print_alone.Goals as goal

pub returns : goal.returns
returns g c = placed_as (spread_element_row g.N.PrintNode.plain c.args.self.now) c.at_level.ensures c.print_spread_element.ensures
