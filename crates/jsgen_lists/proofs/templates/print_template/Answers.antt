use Rattle.jsgen_printer.proofs.Sequence.{◌⨾◌}
use Rattle.jsgen_lists.proofs.templates.print_template.Goals as goal

pub returns : goal.returns
returns g c = c.print_opening_piece.ensures ⨾ (rw c.other_pieces.ensures at c.print_substitutions.ensures)
