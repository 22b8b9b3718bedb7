-- Generated from tools/nodes/table.txt; edit that and run tools/nodes/generate.
-- The steps in a row.
use Rattle.jsgen_spelled.proofs.expressions.print_parenthesized_expression.Goals as goal

pub returns : goal.returns
returns g c = (rw c.get.ensures at c.print_at_link.ensures)
