-- Generated from tools/nodes/table.txt; edit that and run tools/nodes/generate.
-- What is found of a row, from its parts.
use Rattle.std.proofs.Common.{refl}
use Rattle.jsgen_tree.specs.Rows.{array_pattern_row}
use Rattle.jsgen_check.specs.Verdict.{surroundings_plain}
use Rattle.jsgen_check.proofs.Steps.{no_rules, of_row, then_maybe, then_many, none_behind, all_checked}
use Rattle.jsgen_check.proofs.patterns.check_array_pattern.Goals as goal

pub returns : goal.returns
returns g c =
    let row = of_row (surroundings_plain c.args.around.now c.args.classes) c.args.next.now (array_pattern_row g.N.CheckNode.plain c.args.node.now) c.check_node.ensures no_rules (then_many refl c.higher.ensures (rw (c.deref.ensures.value) at c.check_binding_elements_or_holes-elements.ensures.found) (rw (c.deref.ensures.value) at c.check_binding_elements_or_holes-elements.ensures.number) (then_maybe refl (none_behind _) c.check_optional_binding_rest_element-rest.ensures.found c.check_optional_binding_rest_element-rest.ensures.number all_checked)) in
    record { found = row.found; number = row.number }
