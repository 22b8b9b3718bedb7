use Rattle.jsgen_printer.proofs.Sequence.{◌⨾◌}
use Rattle.jsgen_lists.proofs.maybe.print_behind_equal.Goals as goal

pub returns : goal.returns
returns g c = c.print_soft_space.ensures ⨾ (c.print_equal.ensures ⨾ (c.print_soft_space-2.ensures ⨾ c.print_member.ensures))
