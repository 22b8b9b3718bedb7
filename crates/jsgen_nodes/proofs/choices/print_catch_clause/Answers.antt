use Rattle.jsgen_printer.proofs.Sequence.{◌⨾◌}
use Rattle.jsgen_printer.proofs.Commented.{caught_laid}
use Rattle.jsgen_nodes.proofs.choices.print_catch_clause.Goals as goal

pub returns : goal.returns
returns g c =
    let head = c.print_word.ensures ⨾ ((rw c.child.ensures at c.print_caught.ensures) ⨾ c.print_soft_space-2.ensures) in
    c.print_soft_space.ensures ⨾ (caught_laid c.args.node.now.span.start _ c.begin_catch-stood.result c.begin_catch-stood.ensures.stood c.begin_catch-stood.ensures.goes head (rw c.deref.ensures at c.print_before_block.ensures) ⨾ (rw (c.within_statement.ensures, c.deref-2.ensures) at c.print_block_statement.ensures))
