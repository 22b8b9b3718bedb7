use Rattle.jsgen_model.specs.Spell.{unmarked}
use Rattle.jsgen_printer.proofs.Commented.{annotated_laid}
use Rattle.jsgen_printer.proofs.Sequence.{◌⨾◌}
use Rattle.jsgen_nodes.proofs.operations.print_new_expression.Goals as goal

pub returns : goal.returns
returns g c =
    let node = c.args.node.now in
    let inside = c.print_marked_word.ensures ⨾ (c.print_soft_space.ensures ⨾ ((rw (c.constructed.ensures, c.get.ensures) at c.print.ensures) ⨾ (rw c.deref.ensures.value at c.print_new_arguments.ensures))) in
    rw (c.within-within.ensures, c.wraps-lifted.ensures, c.wraps-wrap.ensures) at (annotated_laid (record { wrapped = c.wraps-wrap.result; lifted = c.wraps-lifted.result; pure = node.pure; span = unmarked; start = node.span.start }) c.begin_call-wraps.result c.begin_call-wraps.ensures.wraps c.begin_call-wraps.ensures.goes inside c.print_closing_if.ensures)
