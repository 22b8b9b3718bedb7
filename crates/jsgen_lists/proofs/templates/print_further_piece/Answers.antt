use Rattle.std.proofs.lemmas.List.{nil_from_length}
use Rattle.jsgen_printer.proofs.Sequence.{nothing_laid}
use Rattle.jsgen_lists.proofs.templates.print_further_piece.Goals as goal

pub returns-in-Some : goal.returns-in-Some
returns-in-Some c = rw c.in-Some.ensures.cases.0 (rw c.further_part.ensures at c.print_part.ensures)

pub returns-in-None : goal.returns-in-None
returns-in-None c = rw (nil_from_length c.args.pieces.now c.in-None.ensures.cases) (nothing_laid _)
