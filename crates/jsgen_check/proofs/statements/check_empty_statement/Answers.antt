-- Generated from tools/nodes/table.txt; edit that and run tools/nodes/generate.
-- What is found of a row, from its parts.
use Rattle.jsgen_tree.specs.Rows.{empty_statement_row}
use Rattle.jsgen_check.specs.Verdict.{surroundings_plain}
use Rattle.jsgen_check.proofs.Steps.{no_rules, of_row, all_checked}
use Rattle.jsgen_check.proofs.statements.check_empty_statement.Goals as goal

pub returns : goal.returns
returns c =
    let row = of_row (surroundings_plain c.args.around.now c.args.classes) c.args.next.now (empty_statement_row c.args.node.now) c.check_node.ensures no_rules all_checked in
    record { found = row.found; number = row.number }
