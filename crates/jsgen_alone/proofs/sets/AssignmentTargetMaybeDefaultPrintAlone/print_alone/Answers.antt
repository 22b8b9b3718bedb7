-- Generated from tools/nodes/table.txt; edit that and run tools/nodes/generate.
-- It is printed by itself as it is at its place.
use Rattle.jsgen_tree.specs.Rows.{assignment_target_with_default_row}
use Rattle.jsgen_alone.proofs.Placed.{placed_as}
use Rattle.jsgen_alone.proofs.sets.AssignmentTargetMaybeDefaultPrintAlone.print_alone.Goals as goal

pub returns-in-AssignmentTarget : goal.returns-in-AssignmentTarget
returns-in-AssignmentTarget g c = rw c.in-AssignmentTarget.is (rw (c.get.ensures, c.deref.ensures, c.in_brackets-place.ensures) at c.print.ensures)

pub returns-in-AssignmentTargetWithDefault : goal.returns-in-AssignmentTargetWithDefault
returns-in-AssignmentTargetWithDefault g c = rw (c.in-AssignmentTargetWithDefault.is, ← c.deref-in-AssignmentTargetWithDefault.ensures) (placed_as (assignment_target_with_default_row g.N.PrintNode.plain c.deref-in-AssignmentTargetWithDefault.result.now) c.in_brackets-place.ensures c.print_assignment_target_with_default.ensures)
