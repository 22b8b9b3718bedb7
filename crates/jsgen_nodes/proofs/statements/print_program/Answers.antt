use Rattle.jsgen_printer.proofs.Sequence.{◌⨾◌}
use Rattle.jsgen_nodes.proofs.statements.print_program.Goals as goal

pub returns : goal.returns
returns g c = c.print_comments.ensures ⨾ (c.print_if_given.ensures ⨾ ((rw c.deref.ensures.value at c.print_directives.ensures) ⨾ ((rw c.deref-2.ensures.value at c.print_body.ensures) ⨾ (c.print_orphans.ensures ⨾ (c.print_due_semicolon.ensures ⨾ c.print_comments-2.ensures)))))
