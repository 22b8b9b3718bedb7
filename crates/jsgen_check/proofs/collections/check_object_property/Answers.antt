-- Generated from tools/nodes/table.txt; edit that and run tools/nodes/generate.
-- What is found of a row, from its parts.
use Rattle.std.proofs.Common.{refl}
use Rattle.jsgen_tree.specs.Rows.{object_property_row}
use Rattle.jsgen_check.specs.Verdict.{surroundings_plain}
use Rattle.jsgen_check.proofs.Steps.{of_row, then_one, none_behind, all_checked}
use Rattle.jsgen_check.proofs.collections.check_object_property.Goals as goal

pub returns : goal.returns
returns g c =
    let row = of_row (surroundings_plain c.args.around.now c.args.classes) c.args.next.now (object_property_row g.N.CheckNode.plain c.args.node.now) c.check_node.ensures c.check_object_property_rules-rules.ensures (then_one refl c.higher.ensures c.check_property_key-key.ensures.found c.check_property_key-key.ensures.number (then_one refl (none_behind _) (rw (c.get.ensures) at c.check_child-value.ensures.found) (rw (c.get.ensures) at c.check_child-value.ensures.number) all_checked)) in
    record { found = row.found; number = row.number }
