use Rattle.jsgen_printer.specs.Printer.{bracket_of}
use Rattle.jsgen_printer.proofs.Sequence.{in_brackets_laid}
use Rattle.jsgen_lists.proofs.members.print_in_brackets.Goals as goal

pub returns : goal.returns
returns g c = in_brackets_laid (bracket_of c.args.bracket) c.print_opening.ensures c.print_list.ensures c.print_closing.ensures
