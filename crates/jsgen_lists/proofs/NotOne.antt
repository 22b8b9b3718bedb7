-- What follows a case, by whether it has one statement alone.
use Rattle.std.proofs.Common.{◌≡◌, ℕ, List, [], ◌∷◌, map, length, refl, ap, sym, arith}
use Rattle.std.proofs.Math.ListN.{get_or}
use Rattle.jsgen_tree.specs.Tree.{Tree, more, no_trees, trees}
use Rattle.jsgen_model.specs.Items.{Items, ◌⊕◌, soft_line, deeper}
use Rattle.jsgen_model.specs.Spell.{case_items, spell_only}

pub other_cases : {A : Type 0} (f : A → Tree) (xs : List A) (only statements : Items) → (length xs ≡ 1 → ⊥) → case_items (trees (map f xs)) only statements ≡ soft_line ⊕ deeper statements
other_cases f [] only statements not_one = refl
other_cases f (y ∷ []) only statements not_one = absurd (not_one refl)
other_cases f (y ∷ z ∷ zs) only statements not_one = refl

pub one_case : {A : Type 0} (f g : A → Tree) (end : ℕ) (xs : List A) (x : A) (statements : Items) → length xs ≡ 1 → x ≡ get_or xs 0 x → case_items (trees (map f xs)) (spell_only end (trees (map g xs))) statements ≡ spell_only end (more (g x) no_trees)
one_case f g end [] x statements one e = absurd (omega (arith, one))
one_case f g end (y ∷ []) x statements one e = ap (λ z. spell_only end (more (g z) no_trees)) (sym e)
one_case f g end (y ∷ z ∷ zs) x statements one e = absurd (omega (arith, one))
