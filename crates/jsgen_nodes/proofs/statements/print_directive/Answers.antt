use Rattle.jsgen_printer.proofs.Sequence.{◌⨾◌}
use Rattle.jsgen_nodes.proofs.statements.print_directive.Goals as goal

pub returns : goal.returns
returns c = c.print_comments.ensures ⨾ (c.print_indentation.ensures ⨾ (c.print_mark.ensures ⨾ ((rw c.as_str.ensures.value at c.print_directive.ensures) ⨾ (c.print_semicolon.ensures ⨾ c.print_soft_line.ensures))))
