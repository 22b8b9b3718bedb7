use Rattle.jsgen_printer.proofs.Sequence.{◌⨾◌}
use Rattle.jsgen_modules.proofs.exports.print_exported.Goals as goal

pub returns-in-Some : goal.returns-in-Some
returns-in-Some c = rw c.in-Some.is (c.print_soft_space.ensures ⨾ (c.print_word.ensures ⨾ (c.print_soft_space-in-Some.ensures ⨾ (c.print_module_export_name.ensures ⨾ c.print_hard_space.ensures))))
