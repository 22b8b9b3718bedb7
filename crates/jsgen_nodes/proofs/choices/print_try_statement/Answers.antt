use Rattle.jsgen_printer.proofs.Sequence.{◌⨾◌}
use Rattle.jsgen_nodes.proofs.choices.print_try_statement.Goals as goal

pub returns : goal.returns
returns g c = c.print_comments.ensures ⨾ (c.print_indentation.ensures ⨾ (c.print_marked_word.ensures ⨾ (c.print_soft_space.ensures ⨾ ((rw (c.within_statement-within.ensures, c.deref.ensures) at c.print_block_statement.ensures) ⨾ ((rw c.within_statement-within.ensures at c.print_if_given.ensures) ⨾ (c.print_finalizer.ensures ⨾ c.print_soft_line.ensures))))))
