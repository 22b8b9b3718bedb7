use Rattle.jsgen_nodes.proofs.expressions.print_whole.Goals as goal

pub returns-then-negative : goal.returns-then-negative
returns-then-negative c = rw c.if-negative.true (rw c.wraps.ensures at c.print_negative_whole_number.ensures)
