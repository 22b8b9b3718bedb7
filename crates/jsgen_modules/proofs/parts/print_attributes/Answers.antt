use Rattle.jsgen_printer.proofs.Sequence.{◌⨾◌}
use Rattle.jsgen_modules.proofs.parts.print_attributes.Goals as goal

pub returns-in-Some : goal.returns-in-Some
returns-in-Some c = rw c.in-Some.is (c.print_space_by.ensures ⨾ (rw c.deref.ensures at c.print_with_clause.ensures))
