-- Braces with a space on each side of what is in them.
use Rattle.std.proofs.Common.{◌≡◌, ℕ, true, false, List, [], ◌∷◌, map, length, suc, refl, arith}
use Rattle.std.specs.Bool.{◌==◌}
use Rattle.std.proofs.lemmas.Bool.{both_ways, eqb-true}
use Rattle.std.proofs.lemmas.Bool.Decides.{nat_tests}
use Rattle.jsgen_tree.specs.Tree.{Tree, trees, listed}
use Rattle.jsgen_model.specs.Punctuator.{Brace}
use Rattle.jsgen_model.specs.Items.{Items, ◌⊕◌, nothing, brackets, soft_space}
use Rattle.jsgen_model.specs.Spell.{spaced_braces, is_empty_list}

pub no_spaced : {A : Type 0} (f : A → Tree) (xs : List A) (items : Items) → (length xs == 0) ≡ true → spaced_braces (trees (map f xs)) items ≡ brackets Brace nothing
no_spaced f [] items e = refl
no_spaced f (x ∷ xs) items e = absurd (omega (arith, eqb-true (suc (length xs)) 0 e))

pub some_spaced : {A : Type 0} (f : A → Tree) (xs : List A) (items : Items) → (length xs == 0) ≡ false → spaced_braces (trees (map f xs)) items ≡ brackets Brace (soft_space ⊕ (items ⊕ soft_space))
some_spaced f [] items e = absurd (both_ways true e refl)
some_spaced f (x ∷ xs) items e = refl

more_than_none : (n : ℕ) → (suc n == 0) ≡ false
more_than_none n = grind (arith, nat_tests)

pub is_empty_where_none : {A : Type 0} (f : A → Tree) (xs : List A) → (length xs == 0) ≡ is_empty_list (listed (trees (map f xs)))
is_empty_where_none f [] = refl
is_empty_where_none f (x ∷ xs) = more_than_none (length xs)
