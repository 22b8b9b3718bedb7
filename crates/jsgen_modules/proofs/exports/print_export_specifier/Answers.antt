use Rattle.jsgen_printer.proofs.Sequence.{◌⨾◌}
use Rattle.jsgen_modules.proofs.exports.print_export_specifier.Goals as goal

pub returns : goal.returns
returns c = c.print_name_comments.ensures ⨾ (c.print_module_export_name.ensures ⨾ c.print_as_exported.ensures)
