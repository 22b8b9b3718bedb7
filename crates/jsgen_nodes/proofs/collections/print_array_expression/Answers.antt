use Rattle.jsgen_nodes.proofs.collections.print_array_expression.Goals as goal

pub returns : goal.returns
returns g c = rw (c.deref.ensures.value, c.in_brackets-within.ensures) at c.print_array.ensures
