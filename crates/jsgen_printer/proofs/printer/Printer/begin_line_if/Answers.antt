use Rattle.jsgen_printer.proofs.Sequence.{◌⨾◌}
use Rattle.jsgen_printer.proofs.printer.Printer.begin_line_if.Goals as goal

pub returns-then-test : goal.returns-then-test
returns-then-test c = rw c.if-test.true (c.print_comments.ensures ⨾ c.print_indentation.ensures)
