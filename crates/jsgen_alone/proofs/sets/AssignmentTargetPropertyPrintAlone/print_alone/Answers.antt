-- Generated from tools/nodes/table.txt; edit that and run tools/nodes/generate.
-- It is printed by itself as it is at its place.
use Rattle.jsgen_tree.specs.Rows.{assignment_target_property_identifier_row, assignment_target_property_property_row}
use Rattle.jsgen_alone.proofs.Placed.{placed_as}
use Rattle.jsgen_alone.proofs.sets.AssignmentTargetPropertyPrintAlone.print_alone.Goals as goal

pub returns-in-AssignmentTargetPropertyIdentifier : goal.returns-in-AssignmentTargetPropertyIdentifier
returns-in-AssignmentTargetPropertyIdentifier g c = rw (c.in-AssignmentTargetPropertyIdentifier.is, ← c.deref.ensures) (placed_as (assignment_target_property_identifier_row g.N.PrintNode.plain c.deref.result.now) c.at_level-place.ensures c.print_assignment_target_property_identifier.ensures)

pub returns-in-AssignmentTargetPropertyProperty : goal.returns-in-AssignmentTargetPropertyProperty
returns-in-AssignmentTargetPropertyProperty g c = rw (c.in-AssignmentTargetPropertyProperty.is, ← c.deref-in-AssignmentTargetPropertyProperty.ensures) (placed_as (assignment_target_property_property_row g.N.PrintNode.plain c.deref-in-AssignmentTargetPropertyProperty.result.now) c.at_level-place.ensures c.print_assignment_target_property_property.ensures)
