use Rattle.jsgen_printer.proofs.Sequence.{◌⨾◌}
use Rattle.jsgen_inside.proofs.bodies.print_at_link.Goals as goal

pub returns : goal.returns
returns g c = c.print.ensures ⨾ (rw (c.is_at_link.ensures, c.span.ensures) at c.print_link_if.ensures)
