use Rattle.jsgen_printer.proofs.Sequence.{◌⨾◌}
use Rattle.jsgen_lists.proofs.statements.print_ended.Goals as goal

pub returns : goal.returns
returns g c = (rw c.among_statements.ensures at c.print_statement.ensures) ⨾ c.print_due_semicolon.ensures
