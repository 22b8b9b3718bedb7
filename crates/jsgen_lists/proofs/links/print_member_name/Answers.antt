use Rattle.jsgen_printer.proofs.Sequence.{◌⨾◌}
use Rattle.jsgen_lists.proofs.links.print_member_name.Goals as goal

pub returns : goal.returns
returns c = c.print_name_link.ensures ⨾ (rw c.as_str.ensures.value at c.print_name.ensures)
