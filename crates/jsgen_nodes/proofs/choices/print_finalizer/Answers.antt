use Rattle.jsgen_printer.proofs.Sequence.{◌⨾◌, nothing_laid}
use Rattle.jsgen_nodes.proofs.choices.print_finalizer.Goals as goal

pub returns-in-Some : goal.returns-in-Some
returns-in-Some g c = rw c.in-Some.is (c.print_soft_space.ensures ⨾ (c.print_word.ensures ⨾ (rw c.within_statement.ensures at c.print_behind_space.ensures)))

pub returns-in-None : goal.returns-in-None
returns-in-None g c = rw c.in-None.is (nothing_laid _)
