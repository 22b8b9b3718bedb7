use Rattle.jsgen_model.specs.Punctuator.{Square}
use Rattle.jsgen_printer.proofs.Sequence.{◌⨾◌, in_brackets_laid}
use Rattle.jsgen_lists.proofs.patterns.print_pattern_brackets.Goals as goal

pub returns : goal.returns
returns g c = in_brackets_laid Square c.print_opening.ensures (c.print_elements.ensures ⨾ c.print_behind_elements.ensures) c.print_closing.ensures
