-- Generated from tools/nodes/table.txt; edit that and run tools/nodes/generate.
-- What is found of a row, from its parts.
use Rattle.jsgen_tree.specs.Rows.{comment_row}
use Rattle.jsgen_check.specs.Verdict.{surroundings_plain}
use Rattle.jsgen_check.proofs.Steps.{of_row, all_checked}
use Rattle.jsgen_check.proofs.statements.check_comment.Goals as goal

pub returns : goal.returns
returns c =
    let row = of_row (surroundings_plain c.args.around.now c.args.classes) c.args.next.now (comment_row c.args.node.now) c.check_node.ensures c.check_comment_rules-rules.ensures all_checked in
    record { found = row.found; number = row.number }
