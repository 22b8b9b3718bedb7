use Rattle.jsgen_printer.proofs.Sequence.{◌⨾◌}
use Rattle.jsgen_nodes.proofs.targets.print_renamed.Goals as goal

pub returns : goal.returns
returns c = (rw c.as_str.ensures.value at c.print_name.ensures) ⨾ (c.print_colon.ensures ⨾ (c.print_soft_space.ensures ⨾ (rw c.as_str-2.ensures.value at c.print_reference.ensures)))
