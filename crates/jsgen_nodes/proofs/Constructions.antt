-- What a constructor is given.
use Rattle.std.proofs.Common.{◌≡◌, ℕ, suc, ◌==◌, true, not, List, [], ◌∷◌, length, map, refl, arith}
use Rattle.std.proofs.lemmas.Bool.Decides.{nat_tests}
use Rattle.jsgen_tree.specs.Tree.{Tree, trees}
use Rattle.jsgen_model.specs.Spell.{any_given}

some : (n : ℕ) → not (suc n == 0) ≡ true
some n = grind (arith, nat_tests)

-- a list is empty exactly where none is given
pub given_by_count : {A : Type 0} (f : A → Tree) (xs : List A) → not (length xs == 0) ≡ any_given (trees (map f xs))
given_by_count f [] = refl
given_by_count f (x ∷ xs) = some (length xs)
