-- Generated from tools/nodes/table.txt; edit that and run tools/nodes/generate.
-- What is found of a row, from its parts.
use Rattle.std.proofs.Common.{refl}
use Rattle.jsgen_tree.specs.Rows.{if_statement_row}
use Rattle.jsgen_check.specs.Verdict.{surroundings_plain}
use Rattle.jsgen_check.proofs.Steps.{of_row, then_one, then_maybe, none_behind, all_checked}
use Rattle.jsgen_check.proofs.statements.check_if_statement.Goals as goal

pub returns : goal.returns
returns g c =
    let row = of_row (surroundings_plain c.args.around.now c.args.classes) c.args.next.now (if_statement_row g.N.CheckNode.plain c.args.node.now) c.check_node.ensures c.check_if_statement_rules-rules.ensures (then_one refl c.higher-2.ensures (rw (c.get.ensures) at c.check_child-test.ensures.found) (rw (c.get.ensures) at c.check_child-test.ensures.number) (then_one refl c.higher.ensures (rw (c.get-2.ensures) at c.check_child-consequent.ensures.found) (rw (c.get-2.ensures) at c.check_child-consequent.ensures.number) (then_maybe refl (none_behind _) c.check_optional_statement-alternate.ensures.found c.check_optional_statement-alternate.ensures.number all_checked))) in
    record { found = row.found; number = row.number }
