-- An object by how many properties it has, and arguments where no comment waits.
use Rattle.std.proofs.Common.{◌≡◌, ℕ, true, false, List, [], ◌∷◌, map, length, suc, nat_lt, Bool, ◌&&◌, ◌||◌, Option, Some, None, refl, ap, sym, ◌∙◌, arith}
use Rattle.std.specs.Bool.{◌==◌}
use Rattle.std.proofs.lemmas.Bool.{both_ways, lt-ltb}
use Rattle.jsgen_tree.specs.Tree.{Tree, trees, span_of}
use Rattle.jsgen_model.specs.Comments.{are_any, empty_store, there}
use Rattle.jsgen_model.specs.Groups.{any_group, are_lined, ending_at, last_byte, may_be_lined}
use Rattle.jsgen_model.specs.Items.{◌⊕◌, deeper, member_line, Lines}
use Rattle.jsgen_model.specs.Lay.{lay}
use Rattle.jsgen_model.specs.Layout.{Pen}
use Rattle.jsgen_model.specs.Spell.{spell, spell_properties, spell_more_properties, object_inside, next_line, are_more, count, ends_in_hole, comma_if}
use Rattle.jsgen_place.specs.declared.place.Place.{Place}
use Rattle.jsgen_lists.specs.Lists.{all_properties}

none_left_out : {A : Type 0} (f : A → Tree) (xs : List A) → ends_in_hole (trees (map f xs)) ≡ false
none_left_out f [] = refl
none_left_out f (x ∷ xs) = none_left_out f xs

more_than_one : (n : ℕ) → nat_lt 1 (suc (suc n)) ≡ true
more_than_one n = lt-ltb 1 (suc (suc n)) (omega arith)

-- more than one, each on a line of its own
pub lined_inside : {A : Type 0} (f : A → Tree) (x : A) (xs : List A) (place : Place) → length xs == 0 ≡ false → (pen : Pen) → lay (deeper (member_line (span_of (f x)).start ⊕ (spell (f x) place ⊕ spell_more_properties true (trees (map f xs)) place)) ⊕ next_line) pen ≡ lay (object_inside (trees (map f (x ∷ xs))) (all_properties (are_more 1 (trees (map f (x ∷ xs)))) (trees (map f (x ∷ xs))) place)) pen
lined_inside f x [] place e pen = absurd (both_ways true e refl)
lined_inside f x (y ∷ ys) place e pen =
    let more = sym (more_than_one (count (trees (map f ys)))) in
    let none = sym (none_left_out f (x ∷ y ∷ ys)) in
    λ i. lay (deeper (spell_properties (more i) (trees (map f (x ∷ y ∷ ys))) place ⊕ comma_if (none i)) ⊕ next_line) pen

-- ---- where no comment waits, no argument stands on a line of its own

no_group : (os : List ℕ) (pen : Pen) → pen.store ≡ empty_store → any_group os pen ≡ false
no_group [] pen e = refl
no_group (o ∷ os) pen e = let rest = no_group os pen e in λ i. are_any (there o (e i).groups) || rest i

none_ending : (last : Option ℕ) (pen : Pen) → pen.store ≡ empty_store → are_any (ending_at last pen) ≡ false
none_ending None pen e = refl
none_ending (Some o) pen e = ap (λ store. are_any (there o store.groups)) e

and_false : (b : Bool) → (b && false) ≡ false
and_false true = refl
and_false false = refl

pub not_lined : (lines : Lines) (starts : List ℕ) (end : ℕ) (pen : Pen) → pen.store ≡ empty_store → are_lined lines starts end pen ≡ false
not_lined lines starts end pen e =
    let ending = none_ending (last_byte end) pen e in
    let group = no_group starts pen e in
    (λ i. may_be_lined lines pen.style && (ending i || group i)) ∙ and_false (may_be_lined lines pen.style)
