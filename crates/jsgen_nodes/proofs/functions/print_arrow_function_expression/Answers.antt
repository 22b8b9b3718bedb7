use Rattle.jsgen_printer.proofs.Sequence.{◌⨾◌, wrapped_laid}
use Rattle.jsgen_nodes.proofs.functions.print_arrow_function_expression.Goals as goal

pub returns : goal.returns
returns g c =
    let body = rw (c.child.ensures) at c.print_arrow_function_body.ensures in
    let inside = c.print_comments_within.ensures ⨾ (c.print_marked_async_if.ensures ⨾ (c.print_arrow_parameters.ensures ⨾ (c.print_soft_space.ensures ⨾ (c.print_arrow.ensures ⨾ (c.print_soft_space-2.ensures ⨾ ((rw c.body_type.ensures at c.begin_body.ensures) ⨾ body)))))) in
    c.print_annotation_if.ensures ⨾ (rw (c.within-within.ensures, c.wraps_arrow-wrap.ensures) at (wrapped_laid c.wraps_arrow-wrap.result c.print_opening_if.ensures (rw c.deref.ensures at inside) c.print_closing_if.ensures))
