use Rattle.jsgen_printer.proofs.Sequence.{◌⨾◌}
use Rattle.jsgen_modules.proofs.imports.print_all.Goals as goal

pub returns : goal.returns
returns c = c.print_import_namespace_specifier.ensures ⨾ c.print_hard_space.ensures
