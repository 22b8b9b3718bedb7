use Rattle.jsgen_printer.proofs.Sequence.{◌⨾◌}
use Rattle.jsgen_nodes.proofs.functions.print_marked_async_if.Goals as goal

pub returns-then-test : goal.returns-then-test
returns-then-test c = rw c.if-test.true (c.print_marked_word.ensures ⨾ c.print_soft_space.ensures)
