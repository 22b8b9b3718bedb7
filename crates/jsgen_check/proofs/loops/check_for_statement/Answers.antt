-- Generated from tools/nodes/table.txt; edit that and run tools/nodes/generate.
-- What is found of a row, from its parts.
use Rattle.std.proofs.Common.{refl}
use Rattle.jsgen_tree.specs.Rows.{for_statement_row}
use Rattle.jsgen_check.specs.Verdict.{surroundings_plain}
use Rattle.jsgen_check.proofs.Steps.{of_row, then_one, then_maybe, none_behind, all_checked}
use Rattle.jsgen_check.proofs.loops.check_for_statement.Goals as goal

pub returns : goal.returns
returns g c =
    let row = of_row (surroundings_plain c.args.around.now c.args.classes) c.args.next.now (for_statement_row g.N.CheckNode.plain c.args.node.now) c.check_node.ensures c.check_for_statement_rules-rules.ensures (then_maybe refl c.higher-3.ensures c.check_optional_for_statement_init-init.ensures.found c.check_optional_for_statement_init-init.ensures.number (then_maybe refl c.higher-2.ensures c.check_optional_expression-test.ensures.found c.check_optional_expression-test.ensures.number (then_maybe refl c.higher.ensures c.check_optional_expression-update.ensures.found c.check_optional_expression-update.ensures.number (then_one refl (none_behind _) (rw (c.get.ensures) at c.check_child-body.ensures.found) (rw (c.get.ensures) at c.check_child-body.ensures.number) all_checked)))) in
    record { found = row.found; number = row.number }
