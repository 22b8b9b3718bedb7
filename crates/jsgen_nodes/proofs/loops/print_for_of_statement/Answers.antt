use Rattle.jsgen_printer.proofs.Sequence.{◌⨾◌, in_brackets_laid}
use Rattle.jsgen_model.specs.Punctuator.{Round}
use Rattle.jsgen_nodes.proofs.loops.print_for_of_statement.Goals as goal

pub returns : goal.returns
returns g c =
    let parts = c.print_before_of.ensures ⨾ (c.print_soft_space-2.ensures ⨾ (c.print_word.ensures ⨾ (c.print_soft_space-3.ensures ⨾ (rw (c.in_brackets.ensures, c.get.ensures) at c.print.ensures)))) in
    c.print_comments.ensures ⨾ (c.print_indentation.ensures ⨾ (c.print_marked_word.ensures ⨾ (c.print_await_if.ensures ⨾ (c.print_soft_space.ensures ⨾ (in_brackets_laid Round c.print_opening.ensures parts c.print_closing.ensures ⨾ (rw c.get-2.ensures at c.print_body.ensures))))))
