use Rattle.std.proofs.Common.{refl}
use Rattle.jsgen_printer.proofs.printer.Printer.name_ending.Goals as goal

pub returns-then-has_escapes : goal.returns-then-has_escapes
returns-then-has_escapes c = rw c.if-has_escapes.true refl
