use Rattle.jsgen_printer.proofs.Sequence.{◌⨾◌}
use Rattle.jsgen_classes.proofs.elements.print_property_definition.Goals as goal

pub returns : goal.returns
returns g c = c.begin_line_if.ensures ⨾ ((c.print_mark.ensures ⨾ (c.print_static_if.ensures ⨾ (c.print_key.ensures ⨾ (rw c.in_brackets.ensures at c.print_initializer.ensures)))) ⨾ c.print_statement_end_if.ensures)
