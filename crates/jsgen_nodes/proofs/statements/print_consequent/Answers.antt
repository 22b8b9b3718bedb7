use Rattle.std.proofs.Common.{sym, ◌∙◌}
use Rattle.jsgen_nodes.proofs.statements.print_consequent.Goals as goal

pub returns-then-ends_open : goal.returns-then-ends_open
returns-then-ends_open g c = rw (sym c.ends_open.ensures ∙ c.if-ends_open.true) c.print_braced.ensures

pub returns-else-ends_open : goal.returns-else-ends_open
returns-else-ends_open g c = rw (sym c.ends_open.ensures ∙ c.if-ends_open.false) c.print_closed_consequent.ensures
