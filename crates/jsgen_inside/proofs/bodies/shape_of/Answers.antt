use Rattle.jsgen_inside.proofs.bodies.shape_of.Goals as goal

pub returns : goal.returns
returns g c = rw c.node_type.ensures at c.shape.ensures
