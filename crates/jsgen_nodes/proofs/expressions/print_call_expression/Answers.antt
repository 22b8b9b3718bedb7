use Rattle.jsgen_printer.proofs.Commented.{annotated_laid}
use Rattle.jsgen_nodes.proofs.expressions.print_call_expression.Goals as goal

pub returns : goal.returns
returns g c =
    let node = c.args.node.now in
    rw (c.wraps-lifted.ensures, c.within.ensures, c.wraps_call-wrap.ensures) at (annotated_laid (record { wrapped = c.wraps_call-wrap.result; lifted = c.wraps-lifted.result; pure = node.pure; span = node.span; start = node.span.start }) c.begin_call-wraps.result c.begin_call-wraps.ensures.wraps c.begin_call-wraps.ensures.goes c.print_from_callee.ensures c.print_closing_if.ensures)
