use Rattle.jsgen_nodes.proofs.functions.ParametersPrintMemberFormalParameter.print_member.Goals as goal

pub returns : goal.returns
returns g c = c.print_formal_parameter.ensures
