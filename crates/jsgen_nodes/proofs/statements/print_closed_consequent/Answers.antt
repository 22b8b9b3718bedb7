use Rattle.jsgen_printer.proofs.Sequence.{◌⨾◌}
use Rattle.std.proofs.Common.{sym, ◌∙◌}
use Rattle.jsgen_nodes.proofs.statements.print_closed_consequent.Goals as goal

pub returns-in-Block : goal.returns-in-Block
returns-in-Block g c = rw (sym c.shape_of.ensures ∙ c.in-Block.is) (c.print_soft_space.ensures ⨾ ((rw c.within_statement.ensures at c.print.ensures) ⨾ c.print_braces_end.ensures))

pub returns-in-Empty : goal.returns-in-Empty
returns-in-Empty g c = rw (sym c.shape_of.ensures ∙ c.in-Empty.is) (c.print_semicolon.ensures ⨾ (c.print_soft_line.ensures ⨾ c.print_body_end.ensures))

pub returns-in-If : goal.returns-in-If
returns-in-If g c = rw (sym c.shape_of.ensures ∙ c.in-If.is) c.print_line_consequent.ensures

pub returns-in-Other : goal.returns-in-Other
returns-in-Other g c = rw (sym c.shape_of.ensures ∙ c.in-Other.is) c.print_line_consequent-in-Other.ensures
