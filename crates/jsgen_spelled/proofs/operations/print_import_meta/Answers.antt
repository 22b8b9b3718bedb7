-- Generated from tools/nodes/table.txt; edit that and run tools/nodes/generate.
-- The steps in a row.
use Rattle.jsgen_spelled.proofs.operations.print_import_meta.Goals as goal

pub returns : goal.returns
returns c = c.print_marked_word.ensures
