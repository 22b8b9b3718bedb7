-- The pieces of a template that are left.
use Rattle.std.proofs.Common.{◌≡◌, true, false, List, [], ◌∷◌, map, length, suc, refl, arith}
use Rattle.std.specs.Bool.{◌==◌}
use Rattle.std.proofs.lemmas.Bool.{both_ways, eqb-true}
use Rattle.jsgen_tree.specs.Tree.{Tree, trees}
use Rattle.jsgen_model.specs.Items.{whole_part, head_part, middle_part, tail_part}
use Rattle.jsgen_model.specs.Spell.{opening_part, further_part}

pub opens_alone : {A : Type 0} (f : A → Tree) (xs : List A) → (length xs == 0) ≡ true → whole_part ≡ opening_part (trees (map f xs))
opens_alone f [] e = refl
opens_alone f (x ∷ xs) e = absurd (omega (arith, eqb-true (suc (length xs)) 0 e))

pub opens_others : {A : Type 0} (f : A → Tree) (xs : List A) → (length xs == 0) ≡ false → head_part ≡ opening_part (trees (map f xs))
opens_others f [] e = absurd (both_ways true e refl)
opens_others f (x ∷ xs) e = refl

pub ends_alone : {A : Type 0} (f : A → Tree) (xs : List A) → (length xs == 0) ≡ true → tail_part ≡ further_part (trees (map f xs))
ends_alone f [] e = refl
ends_alone f (x ∷ xs) e = absurd (omega (arith, eqb-true (suc (length xs)) 0 e))

pub goes_on : {A : Type 0} (f : A → Tree) (xs : List A) → (length xs == 0) ≡ false → middle_part ≡ further_part (trees (map f xs))
goes_on f [] e = absurd (both_ways true e refl)
goes_on f (x ∷ xs) e = refl
