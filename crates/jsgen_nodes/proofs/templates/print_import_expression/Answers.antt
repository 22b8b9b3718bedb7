use Rattle.jsgen_printer.proofs.Sequence.{◌⨾◌, wrapped_laid}
use Rattle.jsgen_nodes.proofs.templates.print_import_expression.Goals as goal

pub returns : goal.returns
returns g c = rw c.wraps_call-wrap.ensures at (wrapped_laid c.wraps_call-wrap.result c.print_opening_if.ensures (c.print_marked_word.ensures ⨾ c.print_imported.ensures) c.print_closing_if.ensures)
