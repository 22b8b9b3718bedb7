use Rattle.jsgen_printer.proofs.Sequence.{nothing_laid}
use Rattle.jsgen_nodes.proofs.statements.print_body_end.Goals as goal

pub returns-then-else_follows : goal.returns-then-else_follows
returns-then-else_follows c = rw c.if-else_follows.true c.print_indentation.ensures

pub returns-else-else_follows : goal.returns-else-else_follows
returns-else-else_follows c = rw c.if-else_follows.false (nothing_laid _)
