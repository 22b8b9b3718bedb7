-- Generated from tools/nodes/table.txt; edit that and run tools/nodes/generate.
-- The loop, turn by turn.
use Rattle.jsgen_tree.specs.Rows.{in_binding_pattern}
use Rattle.jsgen_check.specs.Verdict.{surroundings_plain}
use Rattle.jsgen_check.proofs.Steps.{begun_or_holes, turn_or_hole, turns_or_holes_end}
use Rattle.jsgen_tree.specs.declared.types.NodeSet.TheVariants as sets
use Rattle.jsgen_check.proofs.lists.check_binding_elements_or_holes.Goals as goal

pub loop-node-init : goal.loop-node-init
loop-node-init g c = begun_or_holes _ _ _ _ _

pub loop-node-preserved : goal.loop-node-preserved
loop-node-preserved g c = turn_or_hole c.loop-node.below c.args.next.now c.loop-node.next _ (surroundings_plain c.args.around.now c.args.classes) sets.BindingElement (in_binding_pattern g.N.CheckNode.plain) c.args.nodes.now c.loop-node.node-index c.node-item.result c.loop-node-test.true c.node-item.is c.loop-node.invariant c.higher-below.ensures c.check_optional_binding_element-found.ensures.found c.check_optional_binding_element-found.ensures.number

pub returns : goal.returns
returns g c =
    let all = turns_or_holes_end c.args.next.now c.loop-node.next (surroundings_plain c.args.around.now c.args.classes) sets.BindingElement (in_binding_pattern g.N.CheckNode.plain) c.args.nodes.now c.loop-node.node-index c.loop-node-test.false c.loop-node.invariant in
    record { found = all.0; number = all.1 }
