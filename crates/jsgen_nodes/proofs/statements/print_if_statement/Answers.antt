use Rattle.jsgen_printer.proofs.Sequence.{◌⨾◌, in_brackets_laid}
use Rattle.jsgen_model.specs.Punctuator.{Round}
use Rattle.jsgen_nodes.proofs.statements.print_if_statement.Goals as goal

pub returns : goal.returns
returns g c = c.begin_line_if.ensures ⨾ (c.print_marked_word.ensures ⨾ (c.print_soft_space.ensures ⨾ (in_brackets_laid Round c.print_opening.ensures (rw (c.in_brackets.ensures, c.get.ensures) at c.print.ensures) c.print_closing.ensures ⨾ ((rw (c.has_alternate.ensures, c.get-2.ensures) at c.print_consequent.ensures) ⨾ c.print_alternate.ensures))))
