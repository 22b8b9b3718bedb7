use Rattle.jsgen_model.specs.Punctuator.{Brace}
use Rattle.jsgen_printer.proofs.Sequence.{nothing_laid, in_brackets_laid}
use Rattle.jsgen_modules.proofs.parts.print_empty_braces.Goals as goal

pub returns : goal.returns
returns c = in_brackets_laid Brace c.print_opening.ensures (nothing_laid _) c.print_closing.ensures
