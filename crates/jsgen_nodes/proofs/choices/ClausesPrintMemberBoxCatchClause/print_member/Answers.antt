use Rattle.jsgen_nodes.proofs.choices.ClausesPrintMemberBoxCatchClause.print_member.Goals as goal

pub returns : goal.returns
returns g c = rw c.deref.ensures at c.print_catch_clause.ensures
