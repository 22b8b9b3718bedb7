-- Generated from tools/nodes/table.txt; edit that and run tools/nodes/generate.
-- A child of one type is of its set.
use Rattle.std.proofs.Common.{refl, sym, ◌∙◌}
use Rattle.jsgen_check.proofs.Verdicts.{of_right_set}
use Rattle.jsgen_tree.specs.declared.types.NodeSet.TheVariants as sets
use Rattle.jsgen_check.proofs.children.check_optional_hashbang.Goals as goal

pub returns-in-Some : goal.returns-in-Some
returns-in-Some c = record { found = rw c.in-Some.is ((rw c.deref.ensures at c.check_hashbang.ensures.found) ∙ sym (of_right_set _ _ sets.Hashbang _ refl)); number = rw c.in-Some.is c.check_hashbang.ensures.number }
