use Rattle.jsgen_nodes.proofs.functions.NamesPrintMemberBoxBindingIdentifier.print_member.Goals as goal

pub returns : goal.returns
returns c = rw c.deref.ensures at c.print_binding_identifier.ensures
