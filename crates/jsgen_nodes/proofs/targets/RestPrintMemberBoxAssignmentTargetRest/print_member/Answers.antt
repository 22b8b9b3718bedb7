use Rattle.jsgen_nodes.proofs.targets.RestPrintMemberBoxAssignmentTargetRest.print_member.Goals as goal

pub returns : goal.returns
returns g c = rw c.deref.ensures at c.print_assignment_target_rest.ensures
