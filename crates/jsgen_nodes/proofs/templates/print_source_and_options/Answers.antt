use Rattle.jsgen_printer.proofs.Sequence.{◌⨾◌}
use Rattle.jsgen_nodes.proofs.templates.print_source_and_options.Goals as goal

pub returns : goal.returns
returns g c = (rw (c.span.ensures, c.get.ensures) at c.print_source_break.ensures) ⨾ ((rw (c.in_brackets-within.ensures, c.get-2.ensures) at c.print.ensures) ⨾ (rw c.in_brackets-within.ensures at c.print_behind_comma.ensures))
