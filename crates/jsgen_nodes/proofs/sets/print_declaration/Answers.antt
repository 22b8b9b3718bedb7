-- Generated from tools/nodes/table.txt; edit that and run tools/nodes/generate.
-- What this part prints is printed as it is elsewhere, and what it doesn't is in a later one.
use Rattle.jsgen_nodes.proofs.Parts.{declaration_past_0}
use Rattle.jsgen_nodes.proofs.sets.print_declaration.Goals as goal

pub returns-in-VariableDeclaration : goal.returns-in-VariableDeclaration
returns-in-VariableDeclaration g c = rw c.in-VariableDeclaration.is (rw c.deref.ensures at c.print_variable_declaration.ensures)

pub returns-in_default : goal.returns-in_default
returns-in_default g c = c.print_declaration_in_functions.ensures

pub print_declaration_in_functions-requires : goal.print_declaration_in_functions-requires
print_declaration_in_functions-requires g c = declaration_past_0 c.args.node.now c.in_default.not-VariableDeclaration
