use Rattle.std.proofs.Common.{sym, ◌∙◌}
use Rattle.jsgen_nodes.proofs.functions.print_arrow_parameters.Goals as goal

pub returns-then-is_name_alone : goal.returns-then-is_name_alone
returns-then-is_name_alone g c = rw (sym c.is_name_alone.ensures ∙ c.if-is_name_alone.true) (rw (c.child-below.ensures, c.within.ensures) at c.print_unless_minified.ensures)

pub returns-else-is_name_alone : goal.returns-else-is_name_alone
returns-else-is_name_alone g c = rw (sym c.is_name_alone.ensures ∙ c.if-is_name_alone.false) (rw (c.child-below.ensures, c.within.ensures) at c.print_parameters_in_brackets.ensures)
