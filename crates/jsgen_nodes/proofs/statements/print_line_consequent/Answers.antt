use Rattle.jsgen_printer.proofs.Sequence.{◌⨾◌}
use Rattle.jsgen_nodes.proofs.statements.print_line_consequent.Goals as goal

pub returns : goal.returns
returns g c = c.begin_body.ensures.lays ⨾ ((rw c.among_statements.ensures at c.print.ensures) ⨾ c.print_body_end.ensures)
