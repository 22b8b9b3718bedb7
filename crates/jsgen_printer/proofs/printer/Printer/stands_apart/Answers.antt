use Rattle.std.proofs.Common.{rules}
use Rattle.jsgen_printer.proofs.printer.Printer.stands_apart.Goals as goal

pub returns-in-In : goal.returns-in-In
returns-in-In c = search rules

pub returns-in-Subtraction : goal.returns-in-Subtraction
returns-in-Subtraction c = rw c.in-Subtraction.is c.ends_in_minus.ensures
