use Rattle.jsgen_model.specs.Punctuator.{Square}
use Rattle.jsgen_printer.proofs.Sequence.{◌⨾◌, in_brackets_laid}
use Rattle.jsgen_lists.proofs.elements.print_array.Goals as goal

pub returns : goal.returns
returns g c = rw c.are_more-lines.ensures at (c.print_mark.ensures ⨾ in_brackets_laid Square c.print_opening.ensures (c.print_lines.ensures ⨾ c.print_end_mark.ensures) c.print_closing.ensures)
