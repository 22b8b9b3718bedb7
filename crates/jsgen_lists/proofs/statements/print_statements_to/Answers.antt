use Rattle.jsgen_printer.proofs.Sequence.{◌⨾◌}
use Rattle.jsgen_lists.proofs.statements.print_statements_to.Goals as goal

pub returns : goal.returns
returns g c = c.print_statements.ensures ⨾ c.print_orphans.ensures
