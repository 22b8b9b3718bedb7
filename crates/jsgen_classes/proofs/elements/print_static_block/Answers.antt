use Rattle.jsgen_printer.proofs.Sequence.{◌⨾◌}
use Rattle.jsgen_classes.proofs.elements.print_static_block.Goals as goal

pub returns : goal.returns
returns g c = c.begin_line_if.ensures ⨾ ((c.print_mark.ensures ⨾ (c.print_key_word.ensures ⨾ (rw c.deref.ensures.value at c.print_block.ensures))) ⨾ c.print_soft_line_if.ensures)
