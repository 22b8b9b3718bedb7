use Rattle.jsgen_printer.proofs.Sequence.{◌⨾◌}
use Rattle.jsgen_classes.proofs.elements.print_method_definition.Goals as goal

pub returns : goal.returns
returns g c = c.begin_line_if.ensures ⨾ ((c.print_mark.ensures ⨾ (c.print_static_if.ensures ⨾ (c.print_method_kind.ensures ⨾ ((rw c.deref.ensures at c.print_method_words.ensures) ⨾ (c.print_key.ensures ⨾ (rw c.deref-2.ensures at c.print_method.ensures)))))) ⨾ c.print_soft_line_if.ensures)
