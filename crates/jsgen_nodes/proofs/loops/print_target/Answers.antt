use Rattle.jsgen_nodes.proofs.loops.print_target.Goals as goal

pub returns : goal.returns
returns g c = rw (c.left_place.ensures, c.node_type.ensures) at c.print.ensures
