use Rattle.jsgen_model.specs.Punctuator.{Brace}
use Rattle.jsgen_printer.proofs.Sequence.{◌⨾◌, in_brackets_laid}
use Rattle.jsgen_modules.proofs.parts.print_filled_braces.Goals as goal

pub returns : goal.returns
returns g c = in_brackets_laid Brace c.print_opening.ensures (c.print_soft_space.ensures ⨾ ((rw c.plainly.ensures at c.print_list.ensures) ⨾ c.print_soft_space-2.ensures)) c.print_closing.ensures
