use Rattle.jsgen_nodes.proofs.choices.print_switch_case.Goals as goal

pub returns : goal.returns
returns g c = rw c.deref.ensures.value at c.print_case.ensures
