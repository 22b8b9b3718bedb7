use Rattle.jsgen_printer.proofs.Sequence.{◌⨾◌}
use Rattle.jsgen_modules.proofs.exports.print_export_all_declaration.Goals as goal

pub returns : goal.returns
returns c = c.begin_module_word.ensures ⨾ (c.print_soft_space.ensures ⨾ (c.print_star.ensures ⨾ (c.print_exported.ensures ⨾ (c.print_word.ensures ⨾ (c.print_soft_space-2.ensures ⨾ ((rw c.deref.ensures at c.print_plain_string.ensures) ⨾ (c.print_attributes.ensures ⨾ c.print_statement_end.ensures)))))))
