use Rattle.jsgen_model.specs.Punctuator.{Round}
use Rattle.jsgen_printer.proofs.Sequence.{in_brackets_laid}
use Rattle.jsgen_lists.proofs.arguments.print_arguments.Goals as goal

pub returns : goal.returns
returns g c = in_brackets_laid Round c.print_opening.ensures c.print_argument_lines.ensures c.print_closing.ensures
