-- Generated from tools/nodes/table.txt; edit that and run tools/nodes/generate.
-- What this part prints is printed as it is elsewhere, and what it doesn't is in a later one.
use Rattle.jsgen_nodes.proofs.Parts.{binding_pattern_past_0}
use Rattle.jsgen_nodes.proofs.sets.print_binding_pattern.Goals as goal

pub returns-in-BindingIdentifier : goal.returns-in-BindingIdentifier
returns-in-BindingIdentifier g c = rw c.in-BindingIdentifier.is (rw c.deref.ensures at c.print_binding_identifier.ensures)

pub returns-in_default : goal.returns-in_default
returns-in_default g c = c.print_binding_pattern_in_patterns.ensures

pub print_binding_pattern_in_patterns-requires : goal.print_binding_pattern_in_patterns-requires
print_binding_pattern_in_patterns-requires g c = binding_pattern_past_0 c.args.node.now c.in_default.not-BindingIdentifier
