use Rattle.jsgen_printer.proofs.Sequence.{◌⨾◌, wrapped_laid}
use Rattle.jsgen_nodes.proofs.expressions.print_binary_expression.Goals as goal

pub returns : goal.returns
returns g c =
    let left = rw (c.quoted_plainly.ensures, c.left_operand-before.ensures, c.is_mark.ensures, c.left_level-level.ensures (g.N.PrintNode.plain c.get-left.result.now) c.operand.ensures, c.get-left.ensures) at c.print.ensures in
    let right = rw (c.quoted_plainly-2.ensures, c.child-behind.ensures, c.right_level.ensures, c.is_mark-2.ensures, c.get-right.ensures) at c.print-2.ensures in
    rw (c.within-within.ensures, c.wraps_binary-wrap.ensures) at (wrapped_laid c.wraps_binary-wrap.result c.print_opening_if.ensures (left ⨾ (c.print_soft_space.ensures ⨾ (c.print_operator.ensures ⨾ (c.print_soft_space-2.ensures ⨾ right)))) c.print_closing_if.ensures)
