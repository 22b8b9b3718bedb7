use Rattle.jsgen_printer.proofs.Sequence.{◌⨾◌, in_brackets_laid}
use Rattle.jsgen_model.specs.Punctuator.{Round}
use Rattle.jsgen_nodes.proofs.loops.print_for_statement.Goals as goal

pub returns : goal.returns
returns g c =
    let parts = (rw c.loop_head-first.ensures at c.print_if_given.ensures) ⨾ (c.print_semicolon.ensures ⨾ ((rw c.in_brackets-within.ensures at c.print_apart.ensures) ⨾ (c.print_semicolon-2.ensures ⨾ (rw c.in_brackets-within.ensures at c.print_apart-2.ensures)))) in
    c.print_comments.ensures ⨾ (c.print_indentation.ensures ⨾ (c.print_marked_word.ensures ⨾ (c.print_soft_space.ensures ⨾ (in_brackets_laid Round c.print_opening.ensures parts c.print_closing.ensures ⨾ (rw c.get.ensures at c.print_body.ensures)))))
