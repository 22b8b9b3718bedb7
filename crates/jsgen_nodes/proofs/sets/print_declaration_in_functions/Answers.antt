-- Generated from tools/nodes/table.txt; edit that and run tools/nodes/generate.
-- What this part prints is printed as it is elsewhere, and what it doesn't is in a later one.
use Rattle.jsgen_nodes.proofs.Parts.{declaration_past_1}
use Rattle.jsgen_nodes.proofs.sets.print_declaration_in_functions.Goals as goal

pub returns-in-Function : goal.returns-in-Function
returns-in-Function g c = rw c.in-Function.is (rw c.deref.ensures at c.print_function.ensures)

pub returns-in_default : goal.returns-in_default
returns-in_default g c = c.print_declaration_in_classes.ensures

pub print_declaration_in_classes-requires : goal.print_declaration_in_classes-requires
print_declaration_in_classes-requires g c = declaration_past_1 c.args.node.now c.requires c.in_default.not-Function
