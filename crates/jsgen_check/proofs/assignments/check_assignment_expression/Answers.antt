-- Generated from tools/nodes/table.txt; edit that and run tools/nodes/generate.
-- What is found of a row, from its parts.
use Rattle.std.proofs.Common.{refl}
use Rattle.jsgen_tree.specs.Rows.{assignment_expression_row}
use Rattle.jsgen_check.specs.Verdict.{surroundings_plain}
use Rattle.jsgen_check.proofs.Steps.{of_row, then_one, none_behind, all_checked}
use Rattle.jsgen_check.proofs.assignments.check_assignment_expression.Goals as goal

pub returns : goal.returns
returns g c =
    let row = of_row (surroundings_plain c.args.around.now c.args.classes) c.args.next.now (assignment_expression_row g.N.CheckNode.plain c.args.node.now) c.check_node.ensures c.check_assignment_expression_rules-rules.ensures (then_one refl c.higher.ensures (rw (c.get.ensures) at c.check_child-left.ensures.found) (rw (c.get.ensures) at c.check_child-left.ensures.number) (then_one refl (none_behind _) (rw (c.get-2.ensures) at c.check_child-right.ensures.found) (rw (c.get-2.ensures) at c.check_child-right.ensures.number) all_checked)) in
    record { found = row.found; number = row.number }
