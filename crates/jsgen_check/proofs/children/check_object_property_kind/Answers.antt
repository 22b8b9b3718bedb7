-- Generated from tools/nodes/table.txt; edit that and run tools/nodes/generate.
-- A member of one type is of the set.
use Rattle.std.proofs.Common.{refl, sym, ◌∙◌}
use Rattle.jsgen_check.proofs.Verdicts.{of_right_set}
use Rattle.jsgen_tree.specs.declared.types.NodeSet.TheVariants as sets
use Rattle.jsgen_check.proofs.children.check_object_property_kind.Goals as goal

pub returns-in-ObjectProperty : goal.returns-in-ObjectProperty
returns-in-ObjectProperty g c = record { found = rw c.in-ObjectProperty.is ((rw c.deref.ensures at c.check_object_property.ensures.found) ∙ sym (of_right_set _ _ sets.ObjectPropertyKind _ refl)); number = rw c.in-ObjectProperty.is (rw (c.deref.ensures) at c.check_object_property.ensures.number) }

pub returns-in-SpreadElement : goal.returns-in-SpreadElement
returns-in-SpreadElement g c = record { found = rw c.in-SpreadElement.is ((rw c.deref-in-SpreadElement.ensures at c.check_spread_element.ensures.found) ∙ sym (of_right_set _ _ sets.ObjectPropertyKind _ refl)); number = rw c.in-SpreadElement.is (rw (c.deref-in-SpreadElement.ensures) at c.check_spread_element.ensures.number) }
