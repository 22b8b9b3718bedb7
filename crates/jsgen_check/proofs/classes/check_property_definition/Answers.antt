-- Generated from tools/nodes/table.txt; edit that and run tools/nodes/generate.
-- What is found of a row, from its parts.
use Rattle.std.proofs.Common.{refl}
use Rattle.jsgen_tree.specs.Rows.{property_definition_row}
use Rattle.jsgen_check.specs.Verdict.{surroundings_plain}
use Rattle.jsgen_check.proofs.Steps.{of_row, then_one, then_maybe, none_behind, all_checked}
use Rattle.jsgen_check.proofs.classes.check_property_definition.Goals as goal

pub returns : goal.returns
returns g c =
    let row = of_row (surroundings_plain c.args.around.now c.args.classes) c.args.next.now (property_definition_row g.N.CheckNode.plain c.args.node.now) c.check_node.ensures c.check_property_definition_rules-rules.ensures (then_one refl c.higher.ensures c.check_property_key-key.ensures.found c.check_property_key-key.ensures.number (then_maybe refl (none_behind _) (rw (c.within_nothing-outside.ensures c.args.classes) at c.check_optional_expression-value.ensures.found) (rw (c.within_nothing-outside.ensures c.args.classes) at c.check_optional_expression-value.ensures.number) all_checked)) in
    record { found = row.found; number = row.number }
