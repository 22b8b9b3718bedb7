-- Lists in which members may be left out.
use Rattle.std.proofs.Common.{◌≡◌, ℕ, Bool, true, Option, Some, None, is_some, List, [], ◌∷◌, map, length, slice_get, zero, suc, ◌-◌, nat_lt, refl, ap, sym, ◌∙◌, arith, not}
use Rattle.std.proofs.lemmas.Bool.{both_ways}
use Rattle.std.proofs.lemmas.Option.{same_Some}
use Rattle.jsgen_tree.specs.Tree.{Tree, holed}
use Rattle.jsgen_model.specs.Punctuator.{comma}
use Rattle.jsgen_model.specs.Items.{◌⊕◌, punctuator}
use Rattle.jsgen_model.specs.Lay.{lay}
use Rattle.jsgen_model.specs.Layout.{Pen}
use Rattle.jsgen_place.specs.declared.place.Place.{Place}
use Rattle.jsgen_model.specs.Spell.{spell_elements, spell_more_elements, line_or_space, are_more, count, ends_in_hole}
use Rattle.jsgen_lists.specs.Lists.{element_items}

-- ---- the first of the members

pub elements_first : (lines : Bool) (o : Option Tree) (os : List (Option Tree)) (place : Place) (at : Pen) → lay (element_items o place ⊕ spell_more_elements lines (holed os) place) at ≡ lay (spell_elements lines (holed (o ∷ os)) place) at
elements_first lines None os place at = refl
elements_first lines (Some t) os place at = refl

pub more_first : (lines : Bool) (o : Option Tree) (os : List (Option Tree)) (place : Place) (at : Pen) → lay (spell_more_elements lines (holed (o ∷ os)) place) at ≡ lay (punctuator comma ⊕ (line_or_space lines ⊕ (element_items o place ⊕ spell_more_elements lines (holed os) place))) at
more_first lines None os place at = refl
more_first lines (Some t) os place at = refl

-- ---- how many there are, and whether the last is left out

counted : (os : List (Option Tree)) → count (holed os) ≡ length os
counted [] = refl
counted (None ∷ os) = ap suc (counted os)
counted (Some t ∷ os) = ap suc (counted os)

mapped : {A : Type 0} (f : A → Option Tree) (xs : List A) → length (map f xs) ≡ length xs
mapped f [] = refl
mapped f (x ∷ xs) = ap suc (mapped f xs)

pub are_more_than : {A : Type 0} (n : ℕ) (f : A → Option Tree) (xs : List A) → are_more n (holed (map f xs)) ≡ nat_lt n (length xs)
are_more_than n f xs = ap (nat_lt n) (counted (map f xs) ∙ mapped f xs)

one_left_out : (o : Option Tree) → ends_in_hole (holed (o ∷ [])) ≡ not (is_some o)
one_left_out None = refl
one_left_out (Some t) = refl

ends_as_behind : (o p : Option Tree) (os : List (Option Tree)) → ends_in_hole (holed (o ∷ p ∷ os)) ≡ ends_in_hole (holed (p ∷ os))
ends_as_behind None None os = refl
ends_as_behind None (Some t) os = refl
ends_as_behind (Some t) p os = refl

at_last : {A : Type 0} (f : A → Option Tree) (xs : List A) (n : ℕ) (x : A) → length xs ≡ suc n → Some x ≡ slice_get xs n → ends_in_hole (holed (map f xs)) ≡ not (is_some (f x))
at_last f [] n x l e = absurd (omega (arith, l))
at_last f (y ∷ []) zero x l e = one_left_out (f y) ∙ ap (λ z. not (is_some (f z))) (sym (same_Some x y e))
at_last f (y ∷ []) (suc n) x l e = absurd (omega (arith, l))
at_last f (y ∷ z ∷ zs) zero x l e = absurd (omega (arith, l))
at_last f (y ∷ z ∷ zs) (suc n) x l e = ends_as_behind (f y) (f z) (map f zs) ∙ at_last f (z ∷ zs) n x (omega (arith, l)) e

pub last_left_out : {A : Type 0} (f : A → Option Tree) (xs : List A) (x : A) → Some x ≡ slice_get xs (length xs - 1) → ends_in_hole (holed (map f xs)) ≡ not (is_some (f x))
last_left_out f [] x e = absurd (both_ways true (ap is_some e) refl)
last_left_out f (y ∷ ys) x e = at_last f (y ∷ ys) (length ys) x refl (e ∙ ap (slice_get (y ∷ ys)) (omega arith))
