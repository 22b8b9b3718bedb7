-- Generated from tools/nodes/table.txt; edit that and run tools/nodes/generate.
-- What is found of a row, from its parts.
use Rattle.std.proofs.Common.{refl}
use Rattle.jsgen_tree.specs.Rows.{new_expression_row}
use Rattle.jsgen_check.specs.Verdict.{surroundings_plain}
use Rattle.jsgen_check.proofs.Steps.{no_rules, of_row, then_one, then_many, none_behind, all_checked}
use Rattle.jsgen_check.proofs.operations.check_new_expression.Goals as goal

pub returns : goal.returns
returns g c =
    let row = of_row (surroundings_plain c.args.around.now c.args.classes) c.args.next.now (new_expression_row g.N.CheckNode.plain c.args.node.now) c.check_node.ensures no_rules (then_one refl c.higher.ensures (rw (c.get.ensures) at c.check_child-callee.ensures.found) (rw (c.get.ensures) at c.check_child-callee.ensures.number) (then_many refl (none_behind _) (rw (c.deref.ensures.value) at c.check_arguments-arguments.ensures.found) (rw (c.deref.ensures.value) at c.check_arguments-arguments.ensures.number) all_checked)) in
    record { found = row.found; number = row.number }
