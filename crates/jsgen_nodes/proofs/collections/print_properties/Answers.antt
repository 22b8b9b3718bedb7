use Rattle.jsgen_nodes.proofs.collections.print_properties.Goals as goal

pub returns : goal.returns
returns g c = rw c.in_brackets.ensures at c.print_object.ensures
