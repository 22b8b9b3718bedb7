use Rattle.jsgen_printer.proofs.Sequence.{◌⨾◌}
use Rattle.jsgen_classes.proofs.classes.print_behind_word.Goals as goal

pub returns : goal.returns
returns c = c.print_hard_space.ensures ⨾ c.print_binding_identifier.ensures
