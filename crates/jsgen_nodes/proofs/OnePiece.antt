-- A template of one piece.
use Rattle.std.proofs.Common.{◌≡◌, ℕ, suc, false, List, [], ◌∷◌, map, length, refl, arith}
use Rattle.std.specs.Bool.{◌==◌}
use Rattle.std.proofs.lemmas.Bool.Decides.{nat_tests}
use Rattle.jsgen_tree.specs.Tree.{Tree, trees}
use Rattle.jsgen_model.specs.Spell.{is_one}

more_than_one : (n : ℕ) → (suc (suc n) == 1) ≡ false
more_than_one n = grind (arith, nat_tests)

pub one_piece : {A : Type 0} (f : A → Tree) (xs : List A) → (length xs == 1) ≡ is_one (trees (map f xs))
one_piece f [] = refl
one_piece f (x ∷ []) = refl
one_piece f (x ∷ y ∷ xs) = more_than_one (length xs)
