use Rattle.jsgen_printer.proofs.Sequence.{◌⨾◌}
use Rattle.jsgen_nodes.proofs.statements.print_first_statement.Goals as goal

pub returns-in-Some : goal.returns-in-Some
returns-in-Some g c = rw (← c.in-Some.ensures) ((rw c.span-line.ensures at c.print_comments.ensures) ⨾ ((rw c.span-line.ensures at c.print_marked_indentation.ensures) ⨾ ((rw c.inside_span.ensures at c.print_first_string.ensures) ⨾ c.print_statement_end.ensures)))

pub returns-in-None : goal.returns-in-None
returns-in-None g c = rw (← c.in-None.ensures) c.print.ensures
