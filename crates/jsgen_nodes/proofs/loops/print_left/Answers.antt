use Rattle.jsgen_nodes.proofs.loops.print_left.Goals as goal

pub returns-in-VariableDeclaration : goal.returns-in-VariableDeclaration
returns-in-VariableDeclaration g c = rw c.in-VariableDeclaration.is (rw (c.loop_head.ensures, c.deref.ensures) at c.print_variable_declaration.ensures)

pub returns-in-AssignmentTarget : goal.returns-in-AssignmentTarget
returns-in-AssignmentTarget g c = rw c.in-AssignmentTarget.is (rw (c.get.ensures, c.deref-in-AssignmentTarget.ensures) at c.print_target.ensures)
