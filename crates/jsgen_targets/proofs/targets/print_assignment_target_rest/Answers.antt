-- Generated from tools/nodes/table.txt; edit that and run tools/nodes/generate.
-- The steps in a row.
use Rattle.jsgen_printer.proofs.Sequence.{◌⨾◌}
use Rattle.jsgen_targets.proofs.targets.print_assignment_target_rest.Goals as goal

pub returns : goal.returns
returns g c = c.print_mark.ensures ⨾ (c.print_ellipsis.ensures ⨾ (rw (c.in_brackets.ensures, c.get.ensures) at c.print.ensures))
