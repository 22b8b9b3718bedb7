use Rattle.jsgen_printer.proofs.Sequence.{◌⨾◌}
use Rattle.jsgen_inside.proofs.bodies.print_behind_one_space.Goals as goal

pub returns : goal.returns
returns g c = c.begin_body.ensures.lays ⨾ (rw c.among_statements.ensures at c.print.ensures)
