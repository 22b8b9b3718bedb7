-- Generated from tools/nodes/table.txt; edit that and run tools/nodes/generate.
-- What this part prints is printed as it is elsewhere, and what it doesn't is in a later one.
use Rattle.jsgen_nodes.proofs.Parts.{declaration_past_2}
use Rattle.jsgen_nodes.proofs.sets.print_declaration_in_classes.Goals as goal

pub returns : goal.returns
returns g c = rw c.in-Class.is (rw c.deref.ensures at c.print_class.ensures)

pub unreachable-requires : goal.unreachable-requires
unreachable-requires g c = declaration_past_2 c.args.node.now c.requires c.in_default.not-Class
