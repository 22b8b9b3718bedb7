use Rattle.jsgen_printer.proofs.Sequence.{◌⨾◌}
use Rattle.jsgen_modules.proofs.imports.print_import_declaration.Goals as goal

pub returns : goal.returns
returns c = c.begin_module_word.ensures ⨾ (c.print_specifiers.ensures ⨾ ((rw c.deref.ensures at c.print_plain_string.ensures) ⨾ ((rw c.is_empty_list.ensures at c.print_attributes.ensures) ⨾ c.print_statement_end.ensures)))
