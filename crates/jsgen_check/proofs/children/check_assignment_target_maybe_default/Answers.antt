-- Generated from tools/nodes/table.txt; edit that and run tools/nodes/generate.
-- A member of one type is of the set.
use Rattle.std.proofs.Common.{refl, sym, ◌∙◌}
use Rattle.jsgen_check.proofs.Verdicts.{of_right_set}
use Rattle.jsgen_tree.specs.declared.types.NodeSet.TheVariants as sets
use Rattle.jsgen_check.proofs.children.check_assignment_target_maybe_default.Goals as goal

pub returns-in-AssignmentTargetWithDefault : goal.returns-in-AssignmentTargetWithDefault
returns-in-AssignmentTargetWithDefault g c = record { found = rw c.in-AssignmentTargetWithDefault.is ((rw c.deref-in-AssignmentTargetWithDefault.ensures at c.check_assignment_target_with_default.ensures.found) ∙ sym (of_right_set _ _ sets.AssignmentTargetMaybeDefault _ refl)); number = rw c.in-AssignmentTargetWithDefault.is (rw (c.deref-in-AssignmentTargetWithDefault.ensures) at c.check_assignment_target_with_default.ensures.number) }
