use Rattle.jsgen_printer.proofs.Sequence.{◌⨾◌, nothing_laid}
use Rattle.jsgen_nodes.proofs.statements.print_alternate.Goals as goal

pub returns-in-Some : goal.returns-in-Some
returns-in-Some g c = rw c.in-Some.is (c.print_due_semicolon.ensures ⨾ (c.print_word.ensures ⨾ (rw c.get.ensures at c.print_behind_else.ensures)))

pub returns-in-None : goal.returns-in-None
returns-in-None g c = rw c.in-None.is (nothing_laid _)
