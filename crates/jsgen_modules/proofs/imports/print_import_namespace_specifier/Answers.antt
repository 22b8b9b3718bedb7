use Rattle.jsgen_printer.proofs.Sequence.{◌⨾◌}
use Rattle.jsgen_modules.proofs.imports.print_import_namespace_specifier.Goals as goal

pub returns : goal.returns
returns c = c.print_star.ensures ⨾ (c.print_soft_space.ensures ⨾ (c.print_word.ensures ⨾ (c.print_hard_space.ensures ⨾ (rw c.deref.ensures at c.print_binding_identifier.ensures))))
