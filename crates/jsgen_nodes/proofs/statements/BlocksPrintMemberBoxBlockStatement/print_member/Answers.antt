use Rattle.jsgen_nodes.proofs.statements.BlocksPrintMemberBoxBlockStatement.print_member.Goals as goal

pub returns : goal.returns
returns g c = rw c.deref.ensures at c.print_block_statement.ensures
