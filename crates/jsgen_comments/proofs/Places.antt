-- Entries of a map by their offsets, whose values have comments.
use Rattle.std.proofs.Common.{◌≡◌, ℕ, ◌<◌, Bool, true, false, cond, ◌==◌, nat_lt, if◌then◌else◌, ◌⊎◌, inl, inr, List, [], ◌∷◌, map, Some, None, refl, sym, ap, ◌∙◌, arith}
use Rattle.std.specs.BTreeMap.{is_at, insert_entry}
use Rattle.std.specs.Map.{lookup, remove_entry}
use Rattle.std.specs.Option.{option_map_or}
use Rattle.std.specs.declared.cmp.Ordering.TheVariants.{Less, Equal, Greater}
use Rattle.std.specs.Ordering.{nat_cmp, match_ordering}
use Rattle.std.proofs.lemmas.Bool.{cases_order, eqb-true, eq-eqb, ne_eqb, lt-ltb, le-ltb}
use Rattle.jsgen_model.specs.Comments.{Comment, Groups, there, without, with_group}

abbrev pub groups_of : {V : Type 0} → (V → List Comment) → List (ℕ × V) → Groups
groups_of f es = map (λ e. (e.0, f e.1)) es

abbrev pub at : ℕ → ℕ → Bool
at o k = is_at (nat_cmp o) k

equal : (o k : ℕ) → at o k ≡ (k == o)
equal o k = by (cases_order o k)
  where
    by : (o ≡ k) ⊎ ((o < k) ⊎ (k < o)) → at o k ≡ (k == o)
    by (inl e) = rw (le-ltb o k (omega arith), eq-eqb o k e, eq-eqb k o (sym e)) refl
    by (inr (inl l)) = rw (lt-ltb o k l, ne_eqb k o (λ e. omega arith)) refl
    by (inr (inr l)) = rw (le-ltb o k (omega arith), ne_eqb o k (λ e. omega arith), ne_eqb k o (λ e. omega arith)) refl

at_offset : {V : Type 0} (f : V → List Comment) (o : ℕ) (es : List (ℕ × V)) → option_map_or f (lookup (at o) es) [] ≡ there o (groups_of f es)
at_offset f o [] = refl
at_offset f o (e ∷ es) = ap (λ b. option_map_or f (cond b (Some e.1) (lookup (at o) es)) []) (equal o e.0) ∙ by (at_offset f o es) (e.0 == o)
  where
    by : option_map_or f (lookup (at o) es) [] ≡ there o (groups_of f es) → (b : Bool) → option_map_or f (cond b (Some e.1) (lookup (at o) es)) [] ≡ (if b then f e.1 else there o (groups_of f es))
    by rest true = refl
    by rest false = rest

pub found : {V : Type 0} (f : V → List Comment) (o : ℕ) (es : List (ℕ × V)) (v : V) → Some v ≡ lookup (at o) es → f v ≡ there o (groups_of f es)
found f o es v h = ap (λ r. option_map_or f r []) h ∙ at_offset f o es

pub absent : {V : Type 0} (f : V → List Comment) (o : ℕ) (es : List (ℕ × V)) → None ≡ lookup (at o) es → [] ≡ there o (groups_of f es)
absent f o es h = ap (λ r. option_map_or f r []) h ∙ at_offset f o es

pub left : {V : Type 0} (f : V → List Comment) (o : ℕ) (es : List (ℕ × V)) → groups_of f (remove_entry (at o) es) ≡ without o (groups_of f es)
left f o [] = refl
left f o (e ∷ es) = ap (λ b. groups_of f (cond b es (e ∷ remove_entry (at o) es))) (equal o e.0) ∙ by (left f o es) (e.0 == o)
  where
    by : groups_of f (remove_entry (at o) es) ≡ without o (groups_of f es) → (b : Bool) → groups_of f (cond b es (e ∷ remove_entry (at o) es)) ≡ (if b then groups_of f es else (e.0, f e.1) ∷ without o (groups_of f es))
    by rest true = refl
    by rest false = ap (λ gs. (e.0, f e.1) ∷ gs) rest

pub inserted : {V : Type 0} (f : V → List Comment) (o : ℕ) (es : List (ℕ × V)) (v : V) → groups_of f (insert_entry nat_cmp es o v) ≡ with_group o (f v) (groups_of f es)
inserted f o [] v = refl
inserted f o (e ∷ es) v = by (inserted f o es v) (nat_lt o e.0) (o == e.0) (λ q. sym (eqb-true o e.0 q))
  where
    by : groups_of f (insert_entry nat_cmp es o v) ≡ with_group o (f v) (groups_of f es) → (b d : Bool) → (d ≡ true → e.0 ≡ o) → groups_of f (match_ordering (cond b Less (cond d Equal Greater)) ((o, v) ∷ e ∷ es) ((e.0, v) ∷ es) (e ∷ insert_entry nat_cmp es o v)) ≡ (if b then (o, f v) ∷ ((e.0, f e.1) ∷ groups_of f es) else (if d then (o, f v) ∷ groups_of f es else (e.0, f e.1) ∷ with_group o (f v) (groups_of f es)))
    by rest true d h = refl
    by rest false true h = ap (λ k. (k, f v) ∷ groups_of f es) (h refl)
    by rest false false h = ap (λ gs. (e.0, f e.1) ∷ gs) rest

-- no entry is there where no group is
pub none_there : {V : Type 0} (f : V → List Comment) (es : List (ℕ × V)) → groups_of f es ≡ [] → es ≡ []
none_there f [] h = refl
none_there f (e ∷ es) h = absurd (cc)
