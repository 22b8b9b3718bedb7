-- Generated from tools/nodes/table.txt; edit that and run tools/nodes/generate.
-- What is found of a row, from its parts.
use Rattle.std.proofs.Common.{refl}
use Rattle.jsgen_tree.specs.Rows.{object_pattern_row}
use Rattle.jsgen_check.specs.Verdict.{surroundings_plain}
use Rattle.jsgen_check.proofs.Steps.{of_row, then_maybe, then_many, none_behind, all_checked}
use Rattle.jsgen_check.proofs.patterns.check_object_pattern.Goals as goal

pub returns : goal.returns
returns g c =
    let row = of_row (surroundings_plain c.args.around.now c.args.classes) c.args.next.now (object_pattern_row g.N.CheckNode.plain c.args.node.now) c.check_node.ensures c.check_object_pattern_rules-rules.ensures (then_many refl c.higher.ensures (rw (c.deref.ensures.value) at c.check_binding_properties-properties.ensures.found) (rw (c.deref.ensures.value) at c.check_binding_properties-properties.ensures.number) (then_maybe refl (none_behind _) c.check_optional_binding_rest_element-rest.ensures.found c.check_optional_binding_rest_element-rest.ensures.number all_checked)) in
    record { found = row.found; number = row.number }
