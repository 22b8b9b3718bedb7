-- Generated from tools/nodes/table.txt; edit that and run tools/nodes/generate.
-- What is found of a row, from its parts.
use Rattle.std.proofs.Common.{refl}
use Rattle.jsgen_tree.specs.Rows.{method_definition_row}
use Rattle.jsgen_check.specs.Verdict.{surroundings_plain}
use Rattle.jsgen_check.proofs.Steps.{of_row, then_one, none_behind, all_checked}
use Rattle.jsgen_check.proofs.classes.check_method_definition.Goals as goal

pub returns : goal.returns
returns g c =
    let row = of_row (surroundings_plain c.args.around.now c.args.classes) c.args.next.now (method_definition_row g.N.CheckNode.plain c.args.node.now) c.check_node.ensures c.check_method_definition_rules-rules.ensures (then_one refl c.higher.ensures c.check_property_key-key.ensures.found c.check_property_key-key.ensures.number (then_one refl (none_behind _) (rw (c.deref.ensures) at c.check_function_expression-value.ensures.found) (rw (c.deref.ensures) at c.check_function_expression-value.ensures.number) all_checked)) in
    record { found = row.found; number = row.number }
