use Rattle.jsgen_printer.proofs.Sequence.{◌⨾◌}
use Rattle.std.proofs.Common.{sym, ◌∙◌}
use Rattle.jsgen_nodes.proofs.statements.print_behind_else.Goals as goal

pub returns-in-If : goal.returns-in-If
returns-in-If g c = rw (sym c.shape_of.ensures ∙ c.in-If.is) (c.print_hard_space.ensures ⨾ (rw c.within_statement.ensures at c.print.ensures))

pub returns-in-Block : goal.returns-in-Block
returns-in-Block g c = rw (sym c.shape_of.ensures ∙ c.in-Block.is) (rw (sym c.shape_of.ensures ∙ c.in-Block.is) at c.print_body.ensures)

pub returns-in-Empty : goal.returns-in-Empty
returns-in-Empty g c = rw (sym c.shape_of.ensures ∙ c.in-Empty.is) (rw (sym c.shape_of.ensures ∙ c.in-Empty.is) at c.print_body-in-Empty.ensures)

pub returns-in-Other : goal.returns-in-Other
returns-in-Other g c = rw (sym c.shape_of.ensures ∙ c.in-Other.is) (rw (sym c.shape_of.ensures ∙ c.in-Other.is) at c.print_body-in-Other.ensures)
