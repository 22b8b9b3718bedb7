-- Members and what takes the rest of them.
use Rattle.std.proofs.Common.{◌≡◌, Bool, true, false, ◌&&◌, Option, Some, None, is_none, option_map, List, [], ◌∷◌, map, length, suc, refl, arith}
use Rattle.std.specs.Bool.{◌==◌}
use Rattle.std.proofs.lemmas.Bool.{both_ways, eqb-true}
use Rattle.jsgen_tree.specs.Tree.{Tree, trees, holed, optional}
use Rattle.jsgen_model.specs.Punctuator.{Brace, comma}
use Rattle.jsgen_model.specs.Items.{Items, nothing, ◌⊕◌, brackets, punctuator, soft_space}
use Rattle.jsgen_model.specs.Spell.{pattern_braces, comma_if_any}

-- there is no property, and nothing takes the rest
pub none_braced : {A B : Type 0} (f : A → Tree) (g : B → Tree) (xs : List A) (rest : Option B) (items : Items) → ((length xs == 0) && is_none rest) ≡ true → pattern_braces (trees (map f xs)) (optional (option_map g rest)) items ≡ brackets Brace nothing
none_braced f g [] None items e = refl
none_braced f g [] (Some y) items e = absurd (both_ways false refl e)
none_braced f g (x ∷ xs) rest items e = by (length (x ∷ xs) == 0) refl e
  where
    by : (b : Bool) → (length (x ∷ xs) == 0) ≡ b → (b && is_none rest) ≡ true → pattern_braces (trees (map f (x ∷ xs))) (optional (option_map g rest)) items ≡ brackets Brace nothing
    by true h k = absurd (omega (arith, eqb-true (suc (length xs)) 0 h))
    by false h k = absurd (both_ways false refl k)

pub some_braced : {A B : Type 0} (f : A → Tree) (g : B → Tree) (xs : List A) (rest : Option B) (items : Items) → ((length xs == 0) && is_none rest) ≡ false → pattern_braces (trees (map f xs)) (optional (option_map g rest)) items ≡ brackets Brace (soft_space ⊕ (items ⊕ soft_space))
some_braced f g [] None items e = absurd (both_ways true e refl)
some_braced f g [] (Some y) items e = refl
some_braced f g (x ∷ xs) None items e = refl
some_braced f g (x ∷ xs) (Some y) items e = refl

-- ---- the comma before what takes the rest

pub no_comma : {A : Type 0} (f : A → Option Tree) (xs : List A) → length xs == 0 ≡ true → comma_if_any (holed (map f xs)) ≡ nothing
no_comma f [] e = refl
no_comma f (x ∷ xs) e = absurd (omega (arith, eqb-true (suc (length xs)) 0 e))

one_comma : (o : Option Tree) (os : List (Option Tree)) → comma_if_any (holed (o ∷ os)) ≡ punctuator comma ⊕ soft_space
one_comma None os = refl
one_comma (Some t) os = refl

pub some_comma : {A : Type 0} (f : A → Option Tree) (xs : List A) → length xs == 0 ≡ false → comma_if_any (holed (map f xs)) ≡ punctuator comma ⊕ soft_space
some_comma f [] e = absurd (both_ways true e refl)
some_comma f (x ∷ xs) e = one_comma (f x) (map f xs)
