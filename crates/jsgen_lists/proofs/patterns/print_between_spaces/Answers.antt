use Rattle.jsgen_model.specs.Punctuator.{Brace}
use Rattle.jsgen_printer.proofs.Sequence.{◌⨾◌, in_brackets_laid}
use Rattle.jsgen_lists.proofs.patterns.print_between_spaces.Goals as goal

pub returns : goal.returns
returns g c = in_brackets_laid Brace c.print_opening.ensures (c.print_soft_space.ensures ⨾ ((c.print_list.ensures ⨾ (c.print_comma_between.ensures ⨾ c.print_if_given.ensures)) ⨾ c.print_soft_space-2.ensures)) c.print_closing.ensures
