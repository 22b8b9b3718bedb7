use Rattle.jsgen_printer.proofs.Sequence.{◌⨾◌}
use Rattle.jsgen_nodes.proofs.modules.print_undeclared.Goals as goal

pub returns : goal.returns
returns g c = c.begin_default_export.ensures.lays ⨾ ((rw c.in_brackets.ensures at c.print.ensures) ⨾ c.print_statement_end.ensures)
