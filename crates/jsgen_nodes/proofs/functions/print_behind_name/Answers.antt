use Rattle.jsgen_printer.proofs.Sequence.{◌⨾◌}
use Rattle.jsgen_nodes.proofs.functions.print_behind_name.Goals as goal

pub returns : goal.returns
returns g c = (rw (c.with_calls-parameters.ensures, c.child.ensures, c.deref.ensures) at c.print_parameters_in_brackets.ensures) ⨾ (rw c.within_statement.ensures at c.print_apart.ensures)
