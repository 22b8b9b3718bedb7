-- Generated from tools/nodes/table.txt; edit that and run tools/nodes/generate.
-- What this part prints is printed as it is elsewhere, and what it doesn't is in a later one.
use Rattle.jsgen_nodes.proofs.Parts.{binding_pattern_past_1}
use Rattle.jsgen_nodes.proofs.sets.print_binding_pattern_in_patterns.Goals as goal

pub returns-in-ObjectPattern : goal.returns-in-ObjectPattern
returns-in-ObjectPattern g c = rw c.in-ObjectPattern.is (rw c.deref.ensures at c.print_object_pattern.ensures)

pub returns-in-ArrayPattern : goal.returns-in-ArrayPattern
returns-in-ArrayPattern g c = rw c.in-ArrayPattern.is (rw c.deref-in-ArrayPattern.ensures at c.print_array_pattern.ensures)

pub returns-in-AssignmentPattern : goal.returns-in-AssignmentPattern
returns-in-AssignmentPattern g c = rw c.in-AssignmentPattern.is (rw c.deref-in-AssignmentPattern.ensures at c.print_assignment_pattern.ensures)

pub unreachable-requires : goal.unreachable-requires
unreachable-requires g c = binding_pattern_past_1 c.args.node.now c.requires c.in_default.not-ObjectPattern c.in_default.not-ArrayPattern c.in_default.not-AssignmentPattern
