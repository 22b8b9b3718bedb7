-- Generated from tools/nodes/table.txt; edit that and run tools/nodes/generate.
-- The steps in a row.
use Rattle.jsgen_model.specs.Punctuator.{Round}
use Rattle.jsgen_printer.proofs.Sequence.{◌⨾◌, in_brackets_laid}
use Rattle.jsgen_spelled.proofs.loops.print_while_statement.Goals as goal

pub returns : goal.returns
returns g c = c.print_comments.ensures ⨾ (c.print_indentation.ensures ⨾ (c.print_marked_word.ensures ⨾ (c.print_soft_space.ensures ⨾ (in_brackets_laid Round c.print_opening.ensures (rw (c.in_brackets.ensures, c.get.ensures) at c.print.ensures) c.print_closing.ensures ⨾ (rw c.get-2.ensures at c.print_body.ensures)))))
