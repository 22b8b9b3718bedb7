-- Generated from tools/nodes/table.txt; edit that and run tools/nodes/generate.
-- What is found of a row, from its parts.
use Rattle.std.proofs.Common.{refl}
use Rattle.jsgen_tree.specs.Rows.{switch_statement_row}
use Rattle.jsgen_check.specs.Verdict.{surroundings_plain}
use Rattle.jsgen_check.proofs.Steps.{of_row, then_one, then_many, none_behind, all_checked}
use Rattle.jsgen_check.proofs.choices.check_switch_statement.Goals as goal

pub returns : goal.returns
returns g c =
    let row = of_row (surroundings_plain c.args.around.now c.args.classes) c.args.next.now (switch_statement_row g.N.CheckNode.plain c.args.node.now) c.check_node.ensures c.check_switch_statement_rules-rules.ensures (then_one refl c.higher.ensures (rw (c.get.ensures) at c.check_child-discriminant.ensures.found) (rw (c.get.ensures) at c.check_child-discriminant.ensures.number) (then_many refl (none_behind _) (rw (c.deref.ensures.value) at c.check_switch_cases-cases.ensures.found) (rw (c.deref.ensures.value) at c.check_switch_cases-cases.ensures.number) all_checked)) in
    record { found = row.found; number = row.number }
