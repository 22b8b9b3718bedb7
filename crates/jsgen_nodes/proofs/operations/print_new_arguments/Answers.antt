use Rattle.std.proofs.Common.{sym, ◌∙◌}
use Rattle.jsgen_nodes.proofs.operations.print_new_arguments.Goals as goal

pub returns-then-needs_arguments : goal.returns-then-needs_arguments
returns-then-needs_arguments g c = rw (sym c.needs_arguments.ensures ∙ c.if-needs_arguments.true) (rw c.in_brackets-within.ensures at c.print_arguments.ensures)

pub returns-else-needs_arguments : goal.returns-else-needs_arguments
returns-else-needs_arguments g c = rw (sym c.needs_arguments.ensures ∙ c.if-needs_arguments.false) (rw c.in_brackets-within.ensures at c.print_unless_minified.ensures)
