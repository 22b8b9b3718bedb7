use Rattle.jsgen_nodes.proofs.targets.PropertiesPrintMemberAssignmentTargetProperty.print_member.Goals as goal

pub returns-in-AssignmentTargetPropertyIdentifier : goal.returns-in-AssignmentTargetPropertyIdentifier
returns-in-AssignmentTargetPropertyIdentifier g c = rw (c.in-AssignmentTargetPropertyIdentifier.is, ← c.deref.ensures) c.print_assignment_target_property_identifier.ensures

pub returns-in-AssignmentTargetPropertyProperty : goal.returns-in-AssignmentTargetPropertyProperty
returns-in-AssignmentTargetPropertyProperty g c = rw (c.in-AssignmentTargetPropertyProperty.is, ← c.deref-in-AssignmentTargetPropertyProperty.ensures) c.print_assignment_target_property_property.ensures
