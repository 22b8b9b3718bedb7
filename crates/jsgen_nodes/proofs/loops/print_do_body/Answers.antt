use Rattle.jsgen_printer.proofs.Sequence.{◌⨾◌}
use Rattle.std.proofs.Common.{sym, ◌∙◌}
use Rattle.jsgen_nodes.proofs.loops.print_do_body.Goals as goal

pub returns-in-Block : goal.returns-in-Block
returns-in-Block g c = rw (sym (rw c.get-statement.ensures at c.shape_of.ensures) ∙ c.in-Block.is) (c.print_soft_space.ensures ⨾ ((rw (c.within_statement.ensures, c.get-statement.ensures) at c.print.ensures) ⨾ c.print_soft_space-in-Block.ensures))

pub returns-in-Empty : goal.returns-in-Empty
returns-in-Empty g c = rw (sym (rw c.get-statement.ensures at c.shape_of.ensures) ∙ c.in-Empty.is) ((rw (c.span-span.ensures, c.get-statement.ensures) at c.print_comments.ensures) ⨾ ((rw (c.span-span.ensures, c.get-statement.ensures) at c.print_mark.ensures) ⨾ (c.print_semicolon.ensures ⨾ (c.print_soft_line.ensures ⨾ c.print_indentation.ensures))))

pub returns-in-If : goal.returns-in-If
returns-in-If g c = rw (sym (rw c.get-statement.ensures at c.shape_of.ensures) ∙ c.in-If.is) c.print_deeper_body.ensures

pub returns-in-Other : goal.returns-in-Other
returns-in-Other g c = rw (sym (rw c.get-statement.ensures at c.shape_of.ensures) ∙ c.in-Other.is) c.print_deeper_body-in-Other.ensures
