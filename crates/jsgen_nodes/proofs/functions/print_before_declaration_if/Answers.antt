use Rattle.jsgen_printer.proofs.Sequence.{◌⨾◌}
use Rattle.jsgen_nodes.proofs.functions.print_before_declaration_if.Goals as goal

pub returns-then-test : goal.returns-then-test
returns-then-test c = rw c.if-test.true (c.print_comments.ensures ⨾ c.print_annotation_line_if.ensures)
