use Rattle.jsgen_printer.proofs.Sequence.{◌⨾◌}
use Rattle.jsgen_nodes.proofs.choices.print_led.Goals as goal

pub returns-in-Block : goal.returns-in-Block
returns-in-Block g c = rw c.in-Block.is ((rw c.within_statement.ensures at c.print.ensures) ⨾ c.print_soft_line.ensures)
