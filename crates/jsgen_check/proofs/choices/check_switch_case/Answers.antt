-- Generated from tools/nodes/table.txt; edit that and run tools/nodes/generate.
-- What is found of a row, from its parts.
use Rattle.std.proofs.Common.{refl}
use Rattle.jsgen_tree.specs.Rows.{switch_case_row}
use Rattle.jsgen_check.specs.Verdict.{surroundings_plain}
use Rattle.jsgen_check.proofs.Steps.{no_rules, of_row, then_maybe, then_many, none_behind, all_checked}
use Rattle.jsgen_check.proofs.choices.check_switch_case.Goals as goal

pub returns : goal.returns
returns g c =
    let row = of_row (surroundings_plain c.args.around.now c.args.classes) c.args.next.now (switch_case_row g.N.CheckNode.plain c.args.node.now) c.check_node.ensures no_rules (then_maybe refl c.higher.ensures c.check_optional_expression-test.ensures.found c.check_optional_expression-test.ensures.number (then_many refl (none_behind _) (rw (c.deref.ensures.value) at c.check_statements-consequent.ensures.found) (rw (c.deref.ensures.value) at c.check_statements-consequent.ensures.number) all_checked)) in
    record { found = row.found; number = row.number }
