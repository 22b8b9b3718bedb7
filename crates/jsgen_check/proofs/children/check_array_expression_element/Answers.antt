-- Generated from tools/nodes/table.txt; edit that and run tools/nodes/generate.
-- A member of one type is of the set.
use Rattle.std.proofs.Common.{refl, sym, ◌∙◌}
use Rattle.jsgen_check.proofs.Verdicts.{of_right_set}
use Rattle.jsgen_tree.specs.declared.types.NodeSet.TheVariants as sets
use Rattle.jsgen_check.proofs.children.check_array_expression_element.Goals as goal

pub returns-in-SpreadElement : goal.returns-in-SpreadElement
returns-in-SpreadElement g c = record { found = rw c.in-SpreadElement.is ((rw c.deref.ensures at c.check_spread_element.ensures.found) ∙ sym (of_right_set _ _ sets.ArrayExpressionElement _ refl)); number = rw c.in-SpreadElement.is (rw (c.deref.ensures) at c.check_spread_element.ensures.number) }
