use Rattle.jsgen_printer.proofs.Sequence.{◌⨾◌}
use Rattle.jsgen_nodes.proofs.collections.print_valued_property.Goals as goal

pub returns : goal.returns
returns g c = c.print_before_value.ensures ⨾ ((rw c.get.ensures at c.print_comments_before.ensures) ⨾ (rw (c.in_brackets.ensures, c.get-2.ensures) at c.print.ensures))
