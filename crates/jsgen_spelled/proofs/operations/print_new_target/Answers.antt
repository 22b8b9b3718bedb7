-- Generated from tools/nodes/table.txt; edit that and run tools/nodes/generate.
-- The steps in a row.
use Rattle.jsgen_printer.proofs.Sequence.{◌⨾◌}
use Rattle.jsgen_spelled.proofs.operations.print_new_target.Goals as goal

pub returns : goal.returns
returns c = c.print_marked_word.ensures ⨾ (c.print_member_dot.ensures ⨾ c.print_word.ensures)
