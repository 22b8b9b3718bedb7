use Rattle.jsgen_nodes.proofs.functions.RestPrintMemberBoxFormalParameterRest.print_member.Goals as goal

pub returns : goal.returns
returns g c = rw c.deref.ensures at c.print_formal_parameter_rest.ensures
