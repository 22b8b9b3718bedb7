-- Generated from tools/nodes/table.txt; edit that and run tools/nodes/generate.
-- It is printed by itself as it is at its place.
use Rattle.jsgen_tree.specs.Rows.{spread_element_row, object_property_row}
use Rattle.jsgen_alone.proofs.Placed.{placed_as}
use Rattle.jsgen_alone.proofs.sets.ObjectPropertyKindPrintAlone.print_alone.Goals as goal

pub returns-in-ObjectProperty : goal.returns-in-ObjectProperty
returns-in-ObjectProperty g c = rw (c.in-ObjectProperty.is, ← c.deref.ensures) (placed_as (object_property_row g.N.PrintNode.plain c.deref.result.now) c.in_brackets-place.ensures c.print_object_property.ensures)

pub returns-in-SpreadElement : goal.returns-in-SpreadElement
returns-in-SpreadElement g c = rw (c.in-SpreadElement.is, ← c.deref-in-SpreadElement.ensures) (placed_as (spread_element_row g.N.PrintNode.plain c.deref-in-SpreadElement.result.now) c.in_brackets-place.ensures c.print_spread_element.ensures)
