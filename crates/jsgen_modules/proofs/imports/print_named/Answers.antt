use Rattle.jsgen_printer.proofs.Sequence.{◌⨾◌}
use Rattle.jsgen_modules.proofs.imports.print_named.Goals as goal

pub returns : goal.returns
returns c = c.print_filled_braces.ensures ⨾ c.print_soft_space.ensures
