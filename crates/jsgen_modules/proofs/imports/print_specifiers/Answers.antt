use Rattle.jsgen_printer.proofs.Sequence.{◌⨾◌}
use Rattle.jsgen_modules.proofs.imports.print_specifiers.Goals as goal

pub returns-in-Some : goal.returns-in-Some
returns-in-Some c = rw c.in-Some.is ((rw c.deref.ensures.value at c.print_clause.ensures) ⨾ (c.print_word.ensures ⨾ c.print_soft_space.ensures))
