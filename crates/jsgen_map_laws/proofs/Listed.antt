-- The list of names that marks make, and the names of tokens by it.
use Rattle.std.proofs.Common.{◌≡◌, ℕ, suc, ◌+◌, Bool, true, false, ◌||◌, inl, inr, List, [], ◌∷◌, ◌++◌, Option, Some, None, map, slice_get, option_and_then, refl, ap, sym, subst, ◌∙◌, arith, if◌then◌else◌}
use Rattle.std.specs.Prelude.{All, Contains}
use Rattle.std.specs.Option.{IfSome}
use Rattle.std.specs.Str.{bytes_eq}
use Rattle.std.proofs.lemmas.Bool.{both_ways}
use Rattle.std.proofs.lemmas.List.Elements.{All-head, All-tail, All-push, Contains-append_left, Contains-append_right, Contains-append_cases, Contains-push}
use Rattle.std.proofs.lemmas.Slice.Eq.{bytes_eq-Decides}
use Rattle.jsgen_map.specs.declared.source_map.Token.{Token}
use Rattle.jsgen_map.specs.Marks.{Mark, MapOf, is_among, with_name, names_from, number_from, number_of, token_of}
use Rattle.jsgen_map_laws.specs.Law.{name_of}
use Rattle.jsgen_map_laws.proofs.Kept.{is_it}

-- ---- what holds of the names of marks holds of the list of names that they make

module _ (P : List ℕ → Type 0) where
  pushed : (b : Bool) (names : List (List ℕ)) (w : List ℕ) → P w → All P names → All P (if b then names else names ++ w ∷ [])
  pushed true names w h k = k
  pushed false names w h k = All-push P names w k h

  with_one : (names : List (List ℕ)) (w : Option (List ℕ)) → IfSome w P → All P names → All P (with_name names w)
  with_one names None h k = k
  with_one names (Some w) h k = pushed (is_among names w) names w h k

  pub all_from : (names : List (List ℕ)) (ms : List Mark) → All P names → All (λ (m : Mark). IfSome m.name P) ms → All P (names_from names ms)
  all_from names [] h k = h
  all_from names (m ∷ ms) h k = all_from (with_name names m.name) ms (with_one names m.name (All-head (λ (m : Mark). IfSome m.name P) m ms k) h) (All-tail (λ (m : Mark). IfSome m.name P) m ms k)

-- ---- the name of a mark is in the list

among_is : (names : List (List ℕ)) (w : List ℕ) → is_among names w ≡ true → Contains names w
among_is [] w h = absurd (both_ways false refl h)
among_is (v ∷ vs) w h = by (bytes_eq v w) refl (among_is vs w)
  where
    by : (b : Bool) → bytes_eq v w ≡ b → (is_among vs w ≡ true → Contains vs w) → Contains (v ∷ vs) w
    by true e later = (0, omega arith, (bytes_eq-Decides v w).0 e)
    by false e later = Contains-append_right (v ∷ []) vs w (later (sym (ap (λ b. b || is_among vs w) e) ∙ h))

has_one : (names : List (List ℕ)) (w : List ℕ) → Contains (with_name names (Some w)) w
has_one names w = by (is_among names w) refl
  where
    by : (b : Bool) → is_among names w ≡ b → Contains (if b then names else names ++ w ∷ []) w
    by true e = among_is names w e
    by false e = Contains-push names w

with_one_kept : (names : List (List ℕ)) (w : Option (List ℕ)) (v : List ℕ) → Contains names v → Contains (with_name names w) v
with_one_kept names None v h = h
with_one_kept names (Some w) v h = by (is_among names w)
  where
    by : (b : Bool) → Contains (if b then names else names ++ w ∷ []) v
    by true = h
    by false = Contains-append_left names (w ∷ []) v h

all_kept : (names : List (List ℕ)) (ms : List Mark) (v : List ℕ) → Contains names v → Contains (names_from names ms) v
all_kept names [] v h = h
all_kept names (m ∷ ms) v h = all_kept (with_name names m.name) ms v (with_one_kept names m.name v h)

pub name_from : (names : List (List ℕ)) (ms : List Mark) (m : Mark) (w : List ℕ) → Contains ms m → m.name ≡ Some w → Contains (names_from names ms) w
name_from names [] m w h e = absurd (omega (arith, h.1))
name_from names (k ∷ ms) m w h e = elim (Contains-append_cases (k ∷ []) ms m h) [
  | inl a ↦ all_kept (with_name names k.name) ms w (subst (λ called. Contains (with_name names called) w) (sym (ap (λ (j : Mark). j.name) (is_it k m a) ∙ e)) (has_one names w))
  | inr b ↦ name_from (with_name names k.name) ms m w b e
]

-- ---- a number leads to its name

-- a name's number, from one that the list begins with, and its place in the list
record Numbered (n : ℕ) (names : List (List ℕ)) (w : List ℕ) : Type 0 where
  pub place : ℕ
  pub number : number_from n names w ≡ Some (n + place)
  pub there : slice_get names place ≡ Some w

numbered : (n : ℕ) (names : List (List ℕ)) (w : List ℕ) → Contains names w → Numbered n names w
numbered n [] w h = absurd (omega (arith, h.1))
numbered n (v ∷ vs) w h = by (bytes_eq v w) refl (numbered (suc n) vs w)
  where
    later : bytes_eq v w ≡ false → Contains vs w
    later e = elim (Contains-append_cases (v ∷ []) vs w h) [ inl a ↦ absurd (both_ways (bytes_eq v w) e ((bytes_eq-Decides v w).1 (is_it v w a))) | inr b ↦ b ]

    by : (b : Bool) → bytes_eq v w ≡ b → (Contains vs w → Numbered (suc n) vs w) → Numbered n (v ∷ vs) w
    by true e next = record { place = 0; number = ap (λ b. if b then Some n else number_from (suc n) vs w) e ∙ ap Some (omega arith); there = ap Some ((bytes_eq-Decides v w).0 e) }
    by false e next =
        let k = next (later e) in
        record { place = suc k.place; number = ap (λ b. if b then Some n else number_from (suc n) vs w) e ∙ (k.number ∙ ap Some (omega arith)); there = k.there }

found : (names : List (List ℕ)) (w : Option (List ℕ)) → ((v : List ℕ) → w ≡ Some v → Contains names v) → option_and_then (λ n. slice_get names n) (number_of names w) ≡ w
found names None h = refl
found names (Some w) h =
    let k = numbered 0 names w (h w refl) in
    ap (λ o. option_and_then (λ n. slice_get names n) o) (k.number ∙ ap Some (omega arith)) ∙ k.there

each_found : (names : List (List ℕ)) (output source : List ℕ) (ms : List Mark) → ((m : Mark) (v : List ℕ) → Contains ms m → m.name ≡ Some v → Contains names v) → map (name_of names) (map (token_of names output source) ms) ≡ map (λ (m : Mark). m.name) ms
each_found names output source [] h = refl
each_found names output source (m ∷ ms) h =
    let first = found names m.name (λ v e. h m v (Contains-append_left (m ∷ []) ms m (Contains-push [] m)) e) in
    let rest = each_found names output source ms (λ k v c e. h k v (Contains-append_right (m ∷ []) ms k c) e) in
    λ i. first i ∷ rest i

pub theirs : (output source : List ℕ) (ms : List Mark) → map (name_of (names_from [] ms)) (map (token_of (names_from [] ms) output source) ms) ≡ map (λ (m : Mark). m.name) ms
theirs output source ms = each_found (names_from [] ms) output source ms (λ m v c e. name_from [] ms m v c e)

pub tokens_have_names : (output source : List ℕ) (marks : List Mark) (names : List (List ℕ)) (tokens : List Token) → MapOf output source marks names tokens → map (name_of names) tokens ≡ map (λ (m : Mark). m.name) marks
tokens_have_names output source marks names tokens h =
    ap (map (name_of names)) h.are
    ∙ (ap (λ ws. map (name_of ws) (map (token_of ws output source) marks)) h.named ∙ theirs output source marks)
