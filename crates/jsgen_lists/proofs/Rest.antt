-- The comma between members and what takes the rest.
use Rattle.std.proofs.Common.{◌≡◌, true, false, List, [], ◌∷◌, map, length, suc, refl, arith}
use Rattle.std.specs.Bool.{◌==◌}
use Rattle.std.proofs.lemmas.Bool.{both_ways, eqb-true}
use Rattle.jsgen_tree.specs.Tree.{Tree, Trees, no_trees, more, hole, absent, given, trees}
use Rattle.jsgen_model.specs.Punctuator.{comma}
use Rattle.jsgen_model.specs.Items.{nothing, ◌⊕◌, punctuator, soft_space}
use Rattle.jsgen_model.specs.Spell.{comma_between}

pub no_rest : (ts : Trees) → comma_between ts absent ≡ nothing
no_rest no_trees = refl
no_rest (more t ts) = refl
no_rest (hole ts) = refl

pub no_members : {A : Type 0} (f : A → Tree) (xs : List A) (rest : Tree) → length xs == 0 ≡ true → comma_between (trees (map f xs)) (given rest) ≡ nothing
no_members f [] rest e = refl
no_members f (x ∷ xs) rest e = absurd (omega (arith, eqb-true (suc (length xs)) 0 e))

pub some_members : {A : Type 0} (f : A → Tree) (xs : List A) (rest : Tree) → length xs == 0 ≡ false → comma_between (trees (map f xs)) (given rest) ≡ punctuator comma ⊕ soft_space
some_members f [] rest e = absurd (both_ways true e refl)
some_members f (x ∷ xs) rest e = refl
