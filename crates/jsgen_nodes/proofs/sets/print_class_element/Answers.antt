-- Generated from tools/nodes/table.txt; edit that and run tools/nodes/generate.
-- What it prints is printed as it is elsewhere.
use Rattle.jsgen_nodes.proofs.sets.print_class_element.Goals as goal

pub returns-in-StaticBlock : goal.returns-in-StaticBlock
returns-in-StaticBlock g c = rw c.in-StaticBlock.is (rw c.deref.ensures at c.print_static_block.ensures)

pub returns-in-MethodDefinition : goal.returns-in-MethodDefinition
returns-in-MethodDefinition g c = rw c.in-MethodDefinition.is (rw c.deref-in-MethodDefinition.ensures at c.print_method_definition.ensures)

pub returns-in-PropertyDefinition : goal.returns-in-PropertyDefinition
returns-in-PropertyDefinition g c = rw c.in-PropertyDefinition.is (rw c.deref-in-PropertyDefinition.ensures at c.print_property_definition.ensures)
