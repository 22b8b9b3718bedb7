use Rattle.jsgen_nodes.proofs.patterns.BoundPrintMemberBindingProperty.print_member.Goals as goal

pub returns : goal.returns
returns g c = c.print_binding_property.ensures
