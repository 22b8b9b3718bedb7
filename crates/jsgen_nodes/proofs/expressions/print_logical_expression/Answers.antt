use Rattle.jsgen_printer.proofs.Sequence.{◌⨾◌, wrapped_laid}
use Rattle.jsgen_nodes.proofs.expressions.print_logical_expression.Goals as goal

pub returns : goal.returns
returns g c =
    let left = rw (c.left_operand.ensures, c.unmixed-before.ensures (g.N.PrintNode.plain c.get-left.result.now) c.operand.ensures, c.lower_precedence.ensures, c.get-left.ensures) at c.print.ensures in
    let right = rw (c.child.ensures, c.unmixed-behind.ensures (g.N.PrintNode.plain c.get-right.result.now) c.operand-2.ensures, c.precedence.ensures, c.get-right.ensures) at c.print-2.ensures in
    let before = rw c.get-right.ensures at c.print_comments_before.ensures in
    rw (c.within-within.ensures, c.wraps_logical-wrap.ensures) at (wrapped_laid c.wraps_logical-wrap.result c.print_opening_if.ensures (left ⨾ (c.print_soft_space.ensures ⨾ (c.print_logical_sign.ensures ⨾ (c.print_soft_space-2.ensures ⨾ (before ⨾ right))))) c.print_closing_if.ensures)
