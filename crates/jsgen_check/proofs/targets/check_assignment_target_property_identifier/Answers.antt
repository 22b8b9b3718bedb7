-- Generated from tools/nodes/table.txt; edit that and run tools/nodes/generate.
-- What is found of a row, from its parts.
use Rattle.std.proofs.Common.{refl, sym, ◌∙◌}
use Rattle.jsgen_tree.specs.Rows.{assignment_target_property_identifier_row}
use Rattle.jsgen_check.specs.Verdict.{surroundings_plain}
use Rattle.jsgen_check.proofs.Verdicts.{of_right_set}
use Rattle.jsgen_check.proofs.Steps.{of_row, then_one, then_maybe, none_behind, all_checked}
use Rattle.jsgen_tree.specs.declared.types.NodeSet.TheVariants as sets
use Rattle.jsgen_check.proofs.targets.check_assignment_target_property_identifier.Goals as goal

pub returns : goal.returns
returns g c =
    let row = of_row (surroundings_plain c.args.around.now c.args.classes) c.args.next.now (assignment_target_property_identifier_row g.N.CheckNode.plain c.args.node.now) c.check_node.ensures c.check_assignment_target_property_identifier_rules-rules.ensures (then_one refl c.higher.ensures ((rw (c.deref.ensures) at c.check_identifier_reference-binding.ensures.found) ∙ sym (of_right_set _ _ sets.IdentifierReference _ refl)) c.check_identifier_reference-binding.ensures.number (then_maybe refl (none_behind _) c.check_optional_expression-init.ensures.found c.check_optional_expression-init.ensures.number all_checked)) in
    record { found = row.found; number = row.number }
