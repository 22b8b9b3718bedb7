use Rattle.jsgen_nodes.proofs.patterns.RestPrintMemberBoxBindingRestElement.print_member.Goals as goal

pub returns : goal.returns
returns g c = rw c.deref.ensures at c.print_binding_rest_element.ensures
