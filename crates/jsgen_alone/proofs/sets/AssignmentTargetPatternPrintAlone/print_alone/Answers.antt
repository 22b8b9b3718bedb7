-- Generated from tools/nodes/table.txt; edit that and run tools/nodes/generate.
-- It is printed by itself as it is at its place.
use Rattle.jsgen_tree.specs.Rows.{array_assignment_target_row, object_assignment_target_row}
use Rattle.jsgen_alone.proofs.Placed.{placed_as}
use Rattle.jsgen_alone.proofs.sets.AssignmentTargetPatternPrintAlone.print_alone.Goals as goal

pub returns-in-ArrayAssignmentTarget : goal.returns-in-ArrayAssignmentTarget
returns-in-ArrayAssignmentTarget g c = rw (c.in-ArrayAssignmentTarget.is, ← c.deref.ensures) (placed_as (array_assignment_target_row g.N.PrintNode.plain c.deref.result.now) c.at_level-place.ensures c.print_array_assignment_target.ensures)

pub returns-in-ObjectAssignmentTarget : goal.returns-in-ObjectAssignmentTarget
returns-in-ObjectAssignmentTarget g c = rw (c.in-ObjectAssignmentTarget.is, ← c.deref-in-ObjectAssignmentTarget.ensures) (placed_as (object_assignment_target_row g.N.PrintNode.plain c.deref-in-ObjectAssignmentTarget.result.now) c.at_level-place.ensures c.print_object_assignment_target.ensures)
