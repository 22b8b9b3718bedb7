use Rattle.jsgen_printer.proofs.Sequence.{◌⨾◌}
use Rattle.jsgen_lists.proofs.maybe.print_behind_space.Goals as goal

pub returns : goal.returns
returns g c = c.print_soft_space.ensures ⨾ c.print_member.ensures
