use Rattle.jsgen_printer.proofs.Sequence.{◌⨾◌}
use Rattle.jsgen_nodes.proofs.assignments.print_from_target.Goals as goal

pub returns : goal.returns
returns g c = c.print_mark.ensures ⨾ ((rw (c.quoted_plainly.ensures, c.in_brackets-target.ensures, c.is_key_of_exports-plain.ensures, c.get.ensures, c.get-2.ensures) at c.print.ensures) ⨾ (c.print_soft_space.ensures ⨾ (c.print_assignment_sign.ensures ⨾ (c.print_soft_space-2.ensures ⨾ (rw (c.child.ensures, c.get-3.ensures) at c.print-2.ensures)))))
