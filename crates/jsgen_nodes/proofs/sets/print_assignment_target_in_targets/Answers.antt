-- Generated from tools/nodes/table.txt; edit that and run tools/nodes/generate.
-- What this part prints is printed as it is elsewhere, and what it doesn't is in a later one.
use Rattle.jsgen_nodes.proofs.Parts.{assignment_target_past_1}
use Rattle.jsgen_nodes.proofs.sets.print_assignment_target_in_targets.Goals as goal

pub returns-in-ArrayAssignmentTarget : goal.returns-in-ArrayAssignmentTarget
returns-in-ArrayAssignmentTarget g c = rw c.in-ArrayAssignmentTarget.is (rw c.deref.ensures at c.print_array_assignment_target.ensures)

pub returns-in-ObjectAssignmentTarget : goal.returns-in-ObjectAssignmentTarget
returns-in-ObjectAssignmentTarget g c = rw c.in-ObjectAssignmentTarget.is (rw c.deref-in-ObjectAssignmentTarget.ensures at c.print_object_assignment_target.ensures)

pub returns-in_default : goal.returns-in_default
returns-in_default g c = c.print_assignment_target_in_classes.ensures

pub print_assignment_target_in_classes-requires : goal.print_assignment_target_in_classes-requires
print_assignment_target_in_classes-requires g c = assignment_target_past_1 c.args.node.now c.requires c.in_default.not-ArrayAssignmentTarget c.in_default.not-ObjectAssignmentTarget
