-- Lists of values, and the last entry of a list.
use Rattle.std.proofs.Common.{◌≡◌, ◌∙◌, ◌+◌, ℕ, zero, suc, ◌-◌, arith, List, [], ◌∷◌, ◌++◌, drop, length, map, option_map, Some, slice_get, refl, ap, sub-one, add-one}
use Rattle.std.proofs.lemmas.List.{length-append, length-map}
use Rattle.std.proofs.lemmas.Option.{slice_get-map}
use Rattle.serde_json.specs.Data.{Data}
use Rattle.serde_json.specs.View.{items_of}
use Rattle.jsgen_fields.specs.Values.{listed}

pub listed-items_of : (ds : List Data) → listed (items_of ds) ≡ ds
listed-items_of [] = refl
listed-items_of (d ∷ ds) = ap (λ es. d ∷ es) (listed-items_of ds)

slice_get-pushed : {X : Type 0} (es : List X) (e : X) → slice_get (es ++ e ∷ []) (length es) ≡ Some e
slice_get-pushed [] e = refl
slice_get-pushed (x ∷ es) e = slice_get-pushed es e

pub slice_get-last : {X : Type 0} (es : List X) (e : X) → slice_get (es ++ e ∷ []) (length (es ++ e ∷ []) - 1) ≡ Some e
slice_get-last es e = simp (length-append, add-one, sub-one) (slice_get-pushed es e)

pub length-last : {X : Type 0} (es : List X) (e : X) → length (es ++ e ∷ []) - 1 ≡ length es
length-last es e = simp (length-append, add-one, sub-one)

-- what is left of a list from a place on is what stands there, and what is left behind it
left_from : {X : Type 0} (xs : List X) (i : ℕ) (x : X) → Some x ≡ slice_get xs i → drop i xs ≡ x ∷ drop (suc i) xs
left_from [] i x e = absurd (grind arith)
left_from (y ∷ ys) zero x e = ap (λ z. z ∷ ys) (grind arith)
left_from (y ∷ ys) (suc i) x e = left_from ys i x e

next_place : (i : ℕ) → suc i ≡ i + 1
next_place i = grind arith

pub left_behind : {X : Type 0} (xs : List X) (i : ℕ) (x : X) → Some x ≡ slice_get xs i → drop i xs ≡ x ∷ drop (i + 1) xs
left_behind xs i x e = left_from xs i x e ∙ ap (λ n. x ∷ drop n xs) (next_place i)

pub mapped_length : {X Y : Type 0} (f : X → Y) (xs : List X) → length (map f xs) ≡ length xs
mapped_length f xs = length-map xs f

pub mapped_at : {X Y : Type 0} (f : X → Y) (xs : List X) (i : ℕ) → slice_get (map f xs) i ≡ option_map f (slice_get xs i)
mapped_at f xs i = slice_get-map f xs i

pub ruleset lists = (listed-items_of)
