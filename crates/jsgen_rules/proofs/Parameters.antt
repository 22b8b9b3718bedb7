-- Parameters of accessors, by how many there are.
use Rattle.std.proofs.Common.{◌≡◌, ℕ, suc, ◌==◌, List, [], ◌∷◌, length, map, false, not, ◌&&◌, Option, Some, None, option_map, is_some, refl, arith}
use Rattle.std.proofs.lemmas.Bool.Decides.{nat_tests}
use Rattle.jsgen_tree.specs.Nodes as tree
use Rattle.jsgen_tree.specs.Tree.{Tree, Atoms, trees, optional}
use Rattle.jsgen_tree.specs.declared.collections.PropertyKind.TheVariants as property_kinds
use Rattle.jsgen_model.specs.Valid.{fits_accessor}

some_are : (n : ℕ) → (suc n == 0) ≡ false
some_are n = grind (arith, nat_tests)

several_are : (n : ℕ) → (suc (suc n) == 1) ≡ false
several_are n = grind (arith, nat_tests)

pub of_getter : {A B : Type 0} (a : Atoms) (f : A → Tree) (g : B → Tree) (xs : List A) (o : Option B) → fits_accessor property_kinds.Get (tree.formal_parameters a (trees (map f xs)) (optional (option_map g o))) ≡ ((length xs == 0) && not (is_some o))
of_getter a f g [] None = refl
of_getter a f g [] (Some r) = refl
of_getter a f g (x ∷ xs) None = rw (some_are (length xs)) refl
of_getter a f g (x ∷ xs) (Some r) = rw (some_are (length xs)) refl

pub of_setter : {A B : Type 0} (a : Atoms) (f : A → Tree) (g : B → Tree) (xs : List A) (o : Option B) → fits_accessor property_kinds.Set (tree.formal_parameters a (trees (map f xs)) (optional (option_map g o))) ≡ ((length xs == 1) && not (is_some o))
of_setter a f g [] None = refl
of_setter a f g [] (Some r) = refl
of_setter a f g (x ∷ []) None = refl
of_setter a f g (x ∷ []) (Some r) = refl
of_setter a f g (x ∷ y ∷ xs) None = rw (several_are (length xs)) refl
of_setter a f g (x ∷ y ∷ xs) (Some r) = rw (several_are (length xs)) refl

pub ruleset counted = (of_getter, of_setter)
