use Rattle.jsgen_nodes.proofs.statements.print_braces_end.Goals as goal

pub returns-then-else_follows : goal.returns-then-else_follows
returns-then-else_follows c = rw c.if-else_follows.true c.print_soft_space.ensures

pub returns-else-else_follows : goal.returns-else-else_follows
returns-else-else_follows c = rw c.if-else_follows.false c.print_soft_line.ensures
