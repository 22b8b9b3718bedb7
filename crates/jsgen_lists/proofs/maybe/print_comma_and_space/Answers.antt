use Rattle.jsgen_printer.proofs.Sequence.{◌⨾◌}
use Rattle.jsgen_lists.proofs.maybe.print_comma_and_space.Goals as goal

pub returns : goal.returns
returns c = c.print_comma.ensures ⨾ c.print_soft_space.ensures
