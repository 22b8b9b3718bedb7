use Rattle.jsgen_nodes.proofs.functions.BodiesPrintMemberBoxFunctionBody.print_member.Goals as goal

pub returns : goal.returns
returns g c = rw (← c.deref.ensures) c.print_function_body.ensures
