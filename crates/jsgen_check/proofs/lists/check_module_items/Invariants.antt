-- Generated from tools/nodes/table.txt; edit that and run tools/nodes/generate.
-- What holds in the loop.
use Rattle.jsgen_tree.specs.Rows.{in_statement}
use Rattle.jsgen_check.specs.Verdict.{surroundings_plain}
use Rattle.jsgen_check.proofs.Steps.{Left}
use Rattle.jsgen_tree.specs.declared.types.NodeSet.TheVariants as sets
use Rattle.jsgen_check.proofs.lists.check_module_items.Given as goal

-- what is found so far, and of the nodes left, is what is found of all of them
abbrev pub invariant-loop-node : goal.invariant-loop-node
invariant-loop-node g l = Left (surroundings_plain l.around l.classes) sets.ModuleItem (in_statement g.N.CheckNode.plain) l.nodes l.fn.next l.below l.next l.node-index
