use Rattle.jsgen_printer.proofs.Sequence.{◌⨾◌}
use Rattle.jsgen_nodes.proofs.statements.print_block_statement.Goals as goal

pub returns : goal.returns
returns g c = c.print_comments_if.ensures ⨾ (c.print_indentation_if.ensures ⨾ ((rw c.deref.ensures.value at c.print_block_braces.ensures) ⨾ c.print_soft_line_if.ensures))
