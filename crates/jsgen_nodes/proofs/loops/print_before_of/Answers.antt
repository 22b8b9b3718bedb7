use Rattle.jsgen_nodes.proofs.loops.print_before_of.Goals as goal

pub returns-then-is_await : goal.returns-then-is_await
returns-then-is_await g c = rw c.if-is_await.true c.print_left.ensures

pub returns-else-is_await : goal.returns-else-is_await
returns-else-is_await g c = rw c.if-is_await.false c.print_apart_from_of.ensures
