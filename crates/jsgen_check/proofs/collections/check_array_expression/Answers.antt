-- Generated from tools/nodes/table.txt; edit that and run tools/nodes/generate.
-- What is found of a row, from its parts.
use Rattle.std.proofs.Common.{refl}
use Rattle.jsgen_tree.specs.Rows.{array_expression_row}
use Rattle.jsgen_check.specs.Verdict.{surroundings_plain}
use Rattle.jsgen_check.proofs.Steps.{no_rules, of_row, then_many, none_behind, all_checked}
use Rattle.jsgen_check.proofs.collections.check_array_expression.Goals as goal

pub returns : goal.returns
returns g c =
    let row = of_row (surroundings_plain c.args.around.now c.args.classes) c.args.next.now (array_expression_row g.N.CheckNode.plain c.args.node.now) c.check_node.ensures no_rules (then_many refl (none_behind _) (rw (c.deref.ensures.value) at c.check_array_expression_elements_or_holes-elements.ensures.found) (rw (c.deref.ensures.value) at c.check_array_expression_elements_or_holes-elements.ensures.number) all_checked) in
    record { found = row.found; number = row.number }
