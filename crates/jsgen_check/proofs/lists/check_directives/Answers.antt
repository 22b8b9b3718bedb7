-- Generated from tools/nodes/table.txt; edit that and run tools/nodes/generate.
-- The loop, turn by turn.
use Rattle.std.proofs.Common.{refl, sym, ◌∙◌}
use Rattle.jsgen_tree.specs.Rows.{directive_row}
use Rattle.jsgen_check.specs.Verdict.{surroundings_plain}
use Rattle.jsgen_check.proofs.Verdicts.{of_right_set}
use Rattle.jsgen_check.proofs.Steps.{begun, turn, turns_end}
use Rattle.jsgen_tree.specs.declared.types.NodeSet.TheVariants as sets
use Rattle.jsgen_check.proofs.lists.check_directives.Goals as goal

pub loop-node-init : goal.loop-node-init
loop-node-init c = begun _ _ _ _ _

pub loop-node-preserved : goal.loop-node-preserved
loop-node-preserved c = turn c.loop-node.below c.args.next.now c.loop-node.next _ (surroundings_plain c.args.around.now c.args.classes) sets.Directive directive_row c.args.nodes.now c.loop-node.node-index c.node-item.result c.loop-node-test.true c.node-item.is c.loop-node.invariant c.higher-below.ensures (c.check_directive-found.ensures.found ∙ sym (of_right_set _ _ sets.Directive _ refl)) c.check_directive-found.ensures.number

pub returns : goal.returns
returns c =
    let all = turns_end c.args.next.now c.loop-node.next (surroundings_plain c.args.around.now c.args.classes) sets.Directive directive_row c.args.nodes.now c.loop-node.node-index c.loop-node-test.false c.loop-node.invariant in
    record { found = all.0; number = all.1 }
