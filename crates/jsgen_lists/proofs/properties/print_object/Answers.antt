use Rattle.jsgen_model.specs.Punctuator.{Brace}
use Rattle.jsgen_printer.proofs.Sequence.{◌⨾◌, in_brackets_laid}
use Rattle.jsgen_lists.proofs.properties.print_object.Goals as goal

pub returns : goal.returns
returns g c = c.print_mark.ensures ⨾ in_brackets_laid Brace c.print_opening.ensures (c.print_inside.ensures ⨾ c.print_end_mark.ensures) c.print_closing.ensures
