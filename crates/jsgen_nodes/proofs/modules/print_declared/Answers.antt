use Rattle.jsgen_printer.proofs.Sequence.{◌⨾◌}
use Rattle.jsgen_nodes.proofs.modules.print_declared.Goals as goal

pub returns : goal.returns
returns g c = (rw c.within_statement.ensures at c.print.ensures) ⨾ c.print_soft_line.ensures
