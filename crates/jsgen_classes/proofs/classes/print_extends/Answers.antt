use Rattle.jsgen_printer.proofs.Sequence.{◌⨾◌}
use Rattle.jsgen_classes.proofs.classes.print_extends.Goals as goal

pub returns : goal.returns
returns g c = c.print_soft_space.ensures ⨾ (c.print_word.ensures ⨾ (c.print_hard_space.ensures ⨾ (rw c.in_brackets.ensures at c.print_linked.ensures)))
