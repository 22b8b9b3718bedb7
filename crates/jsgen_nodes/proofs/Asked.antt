-- Strings among arguments.
use Rattle.std.proofs.Common.{◌≡◌, Bool, true, false, List, [], ◌∷◌, map, length, suc, ◌&&◌, nat_lt, refl, sym, arith}
use Rattle.std.specs.Bool.{◌==◌}
use Rattle.std.proofs.lemmas.Bool.{both_ways, eqb-true, lt-ltb}
use Rattle.jsgen_tree.specs.Tree.{Tree, trees}
use Rattle.jsgen_model.specs.Quotes.{is_string, is_one_string, has_second_string}

pub one_string : {A : Type 0} (f : A → Tree) (x : A) (xs : List A) → ((length xs == 0) && is_string (f x)) ≡ is_one_string (trees (map f (x ∷ xs)))
one_string f x [] = refl
one_string f x (y ∷ ys) = go (length (y ∷ ys) == 0) refl
  where
    go : (e : Bool) → (length (y ∷ ys) == 0) ≡ e → ((length (y ∷ ys) == 0) && is_string (f x)) ≡ false
    go true h = absurd (omega (arith, eqb-true (suc (length ys)) 0 h))
    go false h = rw h refl

pub no_string : {A : Type 0} (f : A → Tree) (xs : List A) → length xs ≡ 0 → false ≡ is_one_string (trees (map f xs))
no_string f [] h = refl
no_string f (y ∷ ys) h = absurd (omega arith)

pub no_second : {A : Type 0} (f : A → Tree) (xs : List A) → false ≡ nat_lt 1 (length xs) → false ≡ has_second_string (trees (map f xs))
no_second f [] h = refl
no_second f (y ∷ []) h = refl
no_second f (y ∷ z ∷ zs) h = absurd (both_ways (nat_lt 1 (length (y ∷ z ∷ zs))) (sym h) (lt-ltb 1 (suc (suc (length zs))) (omega arith)))
