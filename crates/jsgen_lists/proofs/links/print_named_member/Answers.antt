use Rattle.jsgen_printer.proofs.Sequence.{◌⨾◌}
use Rattle.jsgen_lists.proofs.links.print_named_member.Goals as goal

pub returns : goal.returns
returns g c = c.print_linked.ensures ⨾ c.print_member_name.ensures
