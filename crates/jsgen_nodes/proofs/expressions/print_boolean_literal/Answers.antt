use Rattle.jsgen_printer.proofs.Sequence.{◌⨾◌}
use Rattle.jsgen_nodes.proofs.expressions.print_boolean_literal.Goals as goal

pub returns : goal.returns
returns c = c.print_mark.ensures ⨾ c.print_truth.ensures
