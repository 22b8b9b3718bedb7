use Rattle.jsgen_nodes.proofs.targets.is_target_said.Goals as goal

pub returns-in-AssignmentTarget : goal.returns-in-AssignmentTarget
returns-in-AssignmentTarget g c = rw c.in-AssignmentTarget.is (rw (c.get.ensures, c.deref.ensures) at c.is_bare_said.ensures.target)

pub returns-in-AssignmentTargetWithDefault : goal.returns-in-AssignmentTargetWithDefault
returns-in-AssignmentTargetWithDefault g c = rw c.in-AssignmentTargetWithDefault.is (rw (c.get-in-AssignmentTargetWithDefault.ensures, c.deref-in-AssignmentTargetWithDefault.ensures) at c.is_bare_said-in-AssignmentTargetWithDefault.ensures.reference)
