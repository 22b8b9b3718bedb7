use Rattle.jsgen_printer.proofs.Sequence.{◌⨾◌}
use Rattle.jsgen_lists.proofs.heads.print_behind_word.Goals as goal

pub returns : goal.returns
returns g c = c.print_word.ensures ⨾ c.print_behind_space.ensures
