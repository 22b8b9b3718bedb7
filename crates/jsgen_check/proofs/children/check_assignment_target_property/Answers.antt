-- Generated from tools/nodes/table.txt; edit that and run tools/nodes/generate.
-- A member of one type is of the set.
use Rattle.std.proofs.Common.{refl, sym, ◌∙◌}
use Rattle.jsgen_check.proofs.Verdicts.{of_right_set}
use Rattle.jsgen_tree.specs.declared.types.NodeSet.TheVariants as sets
use Rattle.jsgen_check.proofs.children.check_assignment_target_property.Goals as goal

pub returns-in-AssignmentTargetPropertyIdentifier : goal.returns-in-AssignmentTargetPropertyIdentifier
returns-in-AssignmentTargetPropertyIdentifier g c = record { found = rw c.in-AssignmentTargetPropertyIdentifier.is ((rw c.deref.ensures at c.check_assignment_target_property_identifier.ensures.found) ∙ sym (of_right_set _ _ sets.AssignmentTargetProperty _ refl)); number = rw c.in-AssignmentTargetPropertyIdentifier.is (rw (c.deref.ensures) at c.check_assignment_target_property_identifier.ensures.number) }

pub returns-in-AssignmentTargetPropertyProperty : goal.returns-in-AssignmentTargetPropertyProperty
returns-in-AssignmentTargetPropertyProperty g c = record { found = rw c.in-AssignmentTargetPropertyProperty.is ((rw c.deref-in-AssignmentTargetPropertyProperty.ensures at c.check_assignment_target_property_property.ensures.found) ∙ sym (of_right_set _ _ sets.AssignmentTargetProperty _ refl)); number = rw c.in-AssignmentTargetPropertyProperty.is (rw (c.deref-in-AssignmentTargetPropertyProperty.ensures) at c.check_assignment_target_property_property.ensures.number) }
