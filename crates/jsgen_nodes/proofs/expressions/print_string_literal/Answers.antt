use Rattle.jsgen_printer.proofs.Sequence.{◌⨾◌}
use Rattle.jsgen_nodes.proofs.expressions.print_string_literal.Goals as goal

pub returns : goal.returns
returns c = c.print_key_comments.ensures ⨾ (c.print_mark.ensures ⨾ c.print_string.ensures)
