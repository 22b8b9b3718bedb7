use Rattle.jsgen_printer.proofs.Sequence.{◌⨾◌}
use Rattle.jsgen_lists.proofs.heads.print_key_word.Goals as goal

pub returns : goal.returns
returns c = c.print_word.ensures ⨾ c.print_soft_space.ensures
