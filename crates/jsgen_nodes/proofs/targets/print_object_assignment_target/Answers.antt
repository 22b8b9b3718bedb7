use Rattle.jsgen_printer.proofs.Sequence.{◌⨾◌, in_brackets_laid}
use Rattle.jsgen_model.specs.Punctuator.{Brace}
use Rattle.jsgen_nodes.proofs.targets.print_object_assignment_target.Goals as goal

pub returns : goal.returns
returns g c = c.print_mark.ensures ⨾ in_brackets_laid Brace c.print_opening.ensures ((rw (c.deref.ensures.value, c.in_brackets-within.ensures) at c.print_list.ensures) ⨾ ((rw c.deref-2.ensures.value at c.print_comma_between.ensures) ⨾ (rw c.in_brackets-within.ensures at c.print_if_given.ensures))) c.print_closing.ensures
