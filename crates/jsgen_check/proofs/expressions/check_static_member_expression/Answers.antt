-- Generated from tools/nodes/table.txt; edit that and run tools/nodes/generate.
-- What is found of a row, from its parts.
use Rattle.std.proofs.Common.{refl, sym, ◌∙◌}
use Rattle.jsgen_tree.specs.Rows.{static_member_expression_row}
use Rattle.jsgen_check.specs.Verdict.{surroundings_plain}
use Rattle.jsgen_check.proofs.Verdicts.{of_right_set}
use Rattle.jsgen_check.proofs.Steps.{of_row, then_one, none_behind, all_checked}
use Rattle.jsgen_tree.specs.declared.types.NodeSet.TheVariants as sets
use Rattle.jsgen_check.proofs.expressions.check_static_member_expression.Goals as goal

pub returns : goal.returns
returns g c =
    let row = of_row (surroundings_plain c.args.around.now c.args.classes) c.args.next.now (static_member_expression_row g.N.CheckNode.plain c.args.node.now) c.check_node.ensures c.check_static_member_expression_rules-rules.ensures (then_one refl c.higher.ensures (rw (c.get.ensures) at c.check_child-object.ensures.found) (rw (c.get.ensures) at c.check_child-object.ensures.number) (then_one refl (none_behind _) ((rw (c.deref.ensures) at c.check_identifier_name-property.ensures.found) ∙ sym (of_right_set _ _ sets.IdentifierName _ refl)) c.check_identifier_name-property.ensures.number all_checked)) in
    record { found = row.found; number = row.number }
