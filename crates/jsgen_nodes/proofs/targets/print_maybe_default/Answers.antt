use Rattle.jsgen_nodes.proofs.targets.print_maybe_default.Goals as goal

pub returns-in-AssignmentTarget : goal.returns-in-AssignmentTarget
returns-in-AssignmentTarget g c = rw c.in-AssignmentTarget.is (rw (c.get.ensures, c.deref.ensures) at c.print.ensures)

pub returns-in-AssignmentTargetWithDefault : goal.returns-in-AssignmentTargetWithDefault
returns-in-AssignmentTargetWithDefault g c = rw c.in-AssignmentTargetWithDefault.is (rw c.deref-in-AssignmentTargetWithDefault.ensures at c.print_assignment_target_with_default.ensures)
