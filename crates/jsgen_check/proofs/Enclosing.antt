-- What surrounds the members of a class, with its table or without.
use Rattle.std.proofs.Common.{◌≡◌, ℕ, true, false, ◌∷◌, Option, Some, Result, refl, ap, subst, ◌∙◌}
use Rattle.std.specs.Borrow.{Bor}
use Rattle.jsgen_tree.specs.Scoping.{tables_plain}
use Rattle.jsgen_tree.specs.Tree.{Trees}
use Rattle.jsgen_tree.specs.declared.types.NodeSet.{NodeSet}
use Rattle.jsgen_model.specs.Private.{has_table}
use Rattle.jsgen_model.specs.Valid.{within_class}
use Rattle.jsgen_rules.specs.Classes.{class_numbers, numbers}
use Rattle.jsgen_rules.specs.declared.private.Classes.{Classes}
use Rattle.jsgen_check.specs.declared.surroundings.Surroundings.{Surroundings}
use Rattle.jsgen_model.specs.declared.fault.TreeFault.{TreeFault}
use Rattle.jsgen_check.specs.Verdict.{surroundings_plain, children_verdict, SameNumber}

pub with_table : (around : Surroundings) (classes : Option (Bor Classes)) (number : ℕ) (class : Bor Classes) → has_table (tables_plain around.tables) number ≡ true → class_numbers class.now ≡ number ∷ numbers classes → surroundings_plain around (Some class) ≡ within_class number (surroundings_plain around classes)
unfolding surroundings_plain
with_table around classes number class h e = rw (h, e) refl

pub without_table : (around : Surroundings) (classes : Option (Bor Classes)) (number : ℕ) → has_table (tables_plain around.tables) number ≡ false → surroundings_plain around classes ≡ within_class number (surroundings_plain around classes)
unfolding surroundings_plain
without_table around classes number h = rw h refl

-- what is found with the table of the class, and the number behind it
pub found_with : {r : Result ℕ TreeFault} (around : Surroundings) (classes : Option (Bor Classes)) (number : ℕ) (class : Bor Classes) (next : ℕ) (set : NodeSet) (ts : Trees) → has_table (tables_plain around.tables) number ≡ true → class_numbers class.now ≡ number ∷ numbers classes → r ≡ children_verdict (surroundings_plain around (Some class)) next set ts → r ≡ children_verdict (within_class number (surroundings_plain around classes)) next set ts
found_with around classes number class next set ts h e found = found ∙ ap (λ here. children_verdict here next set ts) (with_table around classes number class h e)

pub number_with : (around : Surroundings) (classes : Option (Bor Classes)) (number : ℕ) (class : Bor Classes) (m n : ℕ) → has_table (tables_plain around.tables) number ≡ true → class_numbers class.now ≡ number ∷ numbers classes → SameNumber (surroundings_plain around (Some class)) m n → SameNumber (within_class number (surroundings_plain around classes)) m n
number_with around classes number class m n h e same = subst (λ here. SameNumber here m n) (with_table around classes number class h e) same
