use Rattle.jsgen_nodes.proofs.loops.InitsPrintMemberForStatementInit.print_member.Goals as goal

pub returns-in-VariableDeclaration : goal.returns-in-VariableDeclaration
returns-in-VariableDeclaration g c = rw c.in-VariableDeclaration.is (rw c.deref.ensures at c.print_variable_declaration.ensures)

pub returns-in-Expression : goal.returns-in-Expression
returns-in-Expression g c = rw c.in-Expression.is (rw (c.get.ensures, c.deref-in-Expression.ensures) at c.print.ensures)
