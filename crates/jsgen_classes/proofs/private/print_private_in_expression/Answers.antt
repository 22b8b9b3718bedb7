use Rattle.jsgen_printer.proofs.Sequence.{◌⨾◌, wrapped_laid}
use Rattle.jsgen_classes.proofs.private.print_private_in_expression.Goals as goal

pub returns : goal.returns
returns g c = rw c.wraps_binary-wrap.ensures at (wrapped_laid c.wraps_binary-wrap.result c.print_opening_if.ensures (c.print_mark.ensures ⨾ ((rw c.deref.ensures at c.print_private_identifier.ensures) ⨾ (c.print_hard_space.ensures ⨾ (c.print_word.ensures ⨾ (c.print_hard_space-2.ensures ⨾ (rw (c.behind_private.ensures, c.get.ensures) at c.print.ensures)))))) c.print_closing_if.ensures)
