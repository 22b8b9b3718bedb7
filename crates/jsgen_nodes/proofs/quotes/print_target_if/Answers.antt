use Rattle.jsgen_printer.proofs.Sequence.{nothing_laid}
use Rattle.jsgen_nodes.proofs.quotes.print_target_if.Goals as goal

pub returns-then-test : goal.returns-then-test
returns-then-test g c = rw c.if-test.true (rw (c.quoted_plainly.ensures, c.at_level-place.ensures) at c.print_assignment_target.ensures)

pub returns-else-test : goal.returns-else-test
returns-else-test g c = rw c.if-test.false (nothing_laid _)
