use Rattle.jsgen_printer.proofs.Sequence.{◌⨾◌}
use Rattle.jsgen_lists.proofs.maybe.print_second.Goals as goal

pub returns : goal.returns
returns g c = c.print_comma.ensures ⨾ (c.print_options_break.ensures ⨾ c.print_member.ensures)
