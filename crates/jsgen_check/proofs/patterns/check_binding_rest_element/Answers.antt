-- Generated from tools/nodes/table.txt; edit that and run tools/nodes/generate.
-- What is found of a row, from its parts.
use Rattle.std.proofs.Common.{refl}
use Rattle.jsgen_tree.specs.Rows.{binding_rest_element_row}
use Rattle.jsgen_check.specs.Verdict.{surroundings_plain}
use Rattle.jsgen_check.proofs.Steps.{no_rules, of_row, then_one, none_behind, all_checked}
use Rattle.jsgen_check.proofs.patterns.check_binding_rest_element.Goals as goal

pub returns : goal.returns
returns g c =
    let row = of_row (surroundings_plain c.args.around.now c.args.classes) c.args.next.now (binding_rest_element_row g.N.CheckNode.plain c.args.node.now) c.check_node.ensures no_rules (then_one refl (none_behind _) (rw (c.get.ensures) at c.check_child-argument.ensures.found) (rw (c.get.ensures) at c.check_child-argument.ensures.number) all_checked) in
    record { found = row.found; number = row.number }
