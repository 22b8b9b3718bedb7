-- Generated from tools/nodes/table.txt; edit that and run tools/nodes/generate.
-- It is printed by itself as it is at its place.
use Rattle.jsgen_tree.specs.Rows.{spread_element_row}
use Rattle.jsgen_alone.proofs.Placed.{placed_as}
use Rattle.jsgen_alone.proofs.sets.ArgumentPrintAlone.print_alone.Goals as goal

pub returns-in-SpreadElement : goal.returns-in-SpreadElement
returns-in-SpreadElement g c = rw (c.in-SpreadElement.is, ← c.deref.ensures) (placed_as (spread_element_row g.N.PrintNode.plain c.deref.result.now) c.in_brackets-place.ensures c.print_spread_element.ensures)

pub returns-in-Expression : goal.returns-in-Expression
returns-in-Expression g c = rw c.in-Expression.is (rw (c.get.ensures, c.deref-in-Expression.ensures, c.in_brackets-place.ensures) at c.print.ensures)
