-- Generated from tools/nodes/table.txt; edit that and run tools/nodes/generate.
-- The steps in a row.
use Rattle.jsgen_printer.proofs.Sequence.{◌⨾◌}
use Rattle.jsgen_targets.proofs.targets.print_assignment_target_with_default.Goals as goal

pub returns : goal.returns
returns g c = (rw (c.in_brackets.ensures, c.get.ensures) at c.print.ensures) ⨾ (c.print_soft_space.ensures ⨾ (c.print_equal.ensures ⨾ (c.print_soft_space-2.ensures ⨾ (rw (c.in_brackets-2.ensures, c.get-2.ensures) at c.print-2.ensures))))
