use Rattle.jsgen_printer.proofs.Sequence.{◌⨾◌}
use Rattle.jsgen_modules.proofs.exports.print_export_named_declaration.Goals as goal

pub returns : goal.returns
returns c = c.begin_module_word.ensures ⨾ (c.print_soft_space.ensures ⨾ ((rw c.deref.ensures.value at c.print_spaced_braces.ensures) ⨾ c.print_statement_end.ensures))
