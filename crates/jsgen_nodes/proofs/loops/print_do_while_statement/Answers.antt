use Rattle.jsgen_printer.proofs.Sequence.{◌⨾◌, in_brackets_laid}
use Rattle.jsgen_model.specs.Punctuator.{Round}
use Rattle.jsgen_nodes.proofs.loops.print_do_while_statement.Goals as goal

pub returns : goal.returns
returns g c = c.print_comments.ensures ⨾ (c.print_indentation.ensures ⨾ (c.print_marked_word.ensures ⨾ (c.print_do_body.ensures ⨾ (c.print_word.ensures ⨾ (c.print_soft_space.ensures ⨾ (in_brackets_laid Round c.print_opening.ensures (rw (c.in_brackets.ensures, c.get.ensures) at c.print.ensures) c.print_closing.ensures ⨾ c.print_statement_end.ensures))))))
