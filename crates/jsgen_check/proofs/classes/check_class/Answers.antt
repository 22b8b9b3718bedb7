-- Generated from tools/nodes/table.txt; edit that and run tools/nodes/generate.
-- What is found of a row, from its parts.
use Rattle.std.proofs.Common.{refl, sym, ◌∙◌}
use Rattle.jsgen_tree.specs.Rows.{class_row}
use Rattle.jsgen_check.specs.Verdict.{surroundings_plain}
use Rattle.jsgen_check.proofs.Verdicts.{of_right_set}
use Rattle.jsgen_check.proofs.Steps.{no_rules, of_row, then_one, then_maybe, none_behind, all_checked}
use Rattle.jsgen_tree.specs.declared.types.NodeSet.TheVariants as sets
use Rattle.jsgen_check.proofs.classes.check_class.Goals as goal

pub returns : goal.returns
returns g c =
    let row = of_row (surroundings_plain c.args.around.now c.args.classes) c.args.next.now (class_row g.N.CheckNode.plain c.args.node.now) c.check_node.ensures no_rules (then_maybe refl c.higher-2.ensures c.check_optional_binding_identifier-id.ensures.found c.check_optional_binding_identifier-id.ensures.number (then_maybe refl c.higher.ensures c.check_optional_expression-heritage.ensures.found c.check_optional_expression-heritage.ensures.number (then_one refl (none_behind _) ((rw (c.deref.ensures) at c.check_class_body-body.ensures.found) ∙ sym (of_right_set _ _ sets.ClassBody _ refl)) (rw (c.deref.ensures) at c.check_class_body-body.ensures.number) all_checked))) in
    record { found = row.found; number = row.number }
