use Rattle.jsgen_printer.proofs.Sequence.{◌⨾◌}
use Rattle.jsgen_modules.proofs.imports.print_name_first.Goals as goal

pub returns : goal.returns
returns c = c.print_module_export_name.ensures ⨾ c.print_as_local.ensures
