use Rattle.jsgen_printer.proofs.Sequence.{nothing_laid}
use Rattle.jsgen_printer.proofs.printer.Printer.print_mark_if.Goals as goal

pub returns-then-test : goal.returns-then-test
returns-then-test c = rw c.if-test.true c.print_mark.ensures

pub returns-else-test : goal.returns-else-test
returns-else-test c = rw c.if-test.false (nothing_laid _)
