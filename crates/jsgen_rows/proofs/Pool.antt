-- The rows that are kept, from the trees of all rows and the numbers of those that are children already.
use Rattle.std.proofs.Common.{◌≡◌, ℕ, zero, suc, ◌==◌, ◌||◌, List, [], ◌∷◌, ◌++◌, length, set, Bool, true, false, Option, Some, None, option_map, unwrap_or, Ok, Err, slice_get, refl, sym, ap, ap₂, ◌∙◌, arith, if◌then◌else◌}
use Rattle.std.proofs.lemmas.Bool.Decides.{nat_tests}
use Rattle.jsgen_tree.specs.Tree.{Tree, type_of}
use Rattle.jsgen_tree.specs.Sets.{in_set}
use Rattle.jsgen_tree.specs.declared.types.NodeSet.{NodeSet}
use Rattle.jsgen_pool.specs.Pool.{Entry, there, taken, take_row, take_found, take_entry}
use Rattle.jsgen_pool.specs.declared.TakeFault.TheVariants.{Absent}
use Rattle.jsgen_fields.specs.declared.At.{At}
use Rattle.jsgen_fields.specs.declared.InputFault.TheVariants.{Child, Shared}
use Rattle.jsgen_fields.specs.Reads.{told}
use Rattle.jsgen_fields.specs.Meaning.{is_used, found_faults, unless, no_tree}

-- an entry whose tree is t, used or not
abbrev pub seen : Bool → Tree → Entry
seen true t = taken (type_of t)
seen false t = there t

-- what is kept after the trees e, where f says which are used
abbrev pub pool_by : (ℕ → Bool) → List Tree → List Entry
pool_by f [] = []
pool_by f (t ∷ ts) = seen (f 0) t ∷ pool_by (λ i. f (suc i)) ts

abbrev pub pool : List Tree → List ℕ → List Entry
pool e u = pool_by (is_used u) e

pub pool-length : (f : ℕ → Bool) (e : List Tree) → length (pool_by f e) ≡ length e
pool-length f [] = refl
pool-length f (t ∷ ts) = ap suc (pool-length (λ i. f (suc i)) ts)

pub pool-get : (f : ℕ → Bool) (e : List Tree) (c : ℕ) → slice_get (pool_by f e) c ≡ option_map (seen (f c)) (slice_get e c)
pool-get f [] c = refl
pool-get f (t ∷ ts) zero = refl
pool-get f (t ∷ ts) (suc c) = pool-get (λ i. f (suc i)) ts c

pool-same : (f g : ℕ → Bool) (e : List Tree) → ((i : ℕ) → f i ≡ g i) → pool_by f e ≡ pool_by g e
pool-same f g [] h = refl
pool-same f g (t ∷ ts) h = ap₂ (λ b es. seen b t ∷ es) (h 0) (pool-same (λ i. f (suc i)) (λ i. g (suc i)) ts (λ i. h (suc i)))

zero_not_suc : (i : ℕ) → suc i ≡ 0 → ⊥
zero_not_suc i e = omega arith

pool-take : (f g : ℕ → Bool) (e : List Tree) (c : ℕ) (t : Tree) → slice_get e c ≡ Some t → g c ≡ true → ((i : ℕ) → (i ≡ c → ⊥) → f i ≡ g i)
    → set (pool_by f e) c (taken (type_of t)) ≡ pool_by g e
pool-take f g [] c t q y h = cc
pool-take f g (x ∷ ts) zero t q y h =
    let s : x ≡ t = cc in
    ap₂ (λ b z. seen b z ∷ pool_by (λ i. f (suc i)) ts) (sym y) (sym s) ∙ ap (λ es. seen (g 0) x ∷ es) (pool-same (λ i. f (suc i)) (λ i. g (suc i)) ts (λ i. h (suc i) (zero_not_suc i)))
pool-take f g (x ∷ ts) (suc c) t q y h =
    ap₂ (λ b es. seen b x ∷ es) (h 0 (λ e. omega arith)) (pool-take (λ i. f (suc i)) (λ i. g (suc i)) ts c t q y (λ i n. h (suc i) (λ e. n (omega arith))))

pub pool-push : (f : ℕ → Bool) (e : List Tree) (t : Tree) → f (length e) ≡ false → pool_by f (e ++ t ∷ []) ≡ pool_by f e ++ there t ∷ []
pool-push f [] t h = ap (λ b. seen b t ∷ []) h
pool-push f (x ∷ e) t h = ap (λ es. seen (f 0) x ∷ es) (pool-push (λ i. f (suc i)) e t h)

same_eq : (c : ℕ) → (c == c) ≡ true
same_eq c = grind (arith, nat_tests)

pub other_eq : (i c : ℕ) → (i ≡ c → ⊥) → (i == c) ≡ false
other_eq i c h = grind (arith, nat_tests)

or_true : (a b : Bool) → a ≡ true → (a || b) ≡ true
or_true a b h = rw h

or_false : (a b : Bool) → a ≡ false → b ≡ (a || b)
or_false a b h = rw h

chosen : (b used : Bool) (a : At) (c : ℕ) (t : Tree) (k l : List Entry) → set k c (taken (type_of t)) ≡ l
    → told a (if b then take_entry c (seen used t) k else Err Absent) ≡ unless (if b then (if used then Shared c ∷ [] else []) else Child a ∷ []) (t, l)
chosen true true a c t k l h = refl
chosen true false a c t k l h = ap (λ x. Ok (t, x)) h
chosen false used a c t k l h = refl

found_unless : (a : At) (s : NodeSet) (c : ℕ) (o : Option Tree) (used : Bool) (k l : List Entry) → ((t : Tree) → o ≡ Some t → set k c (taken (type_of t)) ≡ l)
    → told a (take_found s c (option_map (seen used) o) k) ≡ unless (found_faults a s c o used) (unwrap_or o no_tree, l)
found_unless a s c None used k l h = refl
found_unless a s c (Some t) true k l h = chosen (in_set s (type_of t)) true a c t k l (h t refl)
found_unless a s c (Some t) false k l h = chosen (in_set s (type_of t)) false a c t k l (h t refl)

pub taken_unless : (a : At) (s : NodeSet) (c : ℕ) (e : List Tree) (u : List ℕ)
    → told a (take_row s c (pool e u)) ≡ unless (found_faults a s c (slice_get e c) (is_used u c)) (unwrap_or (slice_get e c) no_tree, pool e (c ∷ u))
taken_unless a s c e u =
    ap (λ o. told a (take_found s c o (pool e u))) (pool-get (is_used u) e c)
    ∙ found_unless a s c (slice_get e c) (is_used u c) (pool e u) (pool e (c ∷ u))
    (λ t q. pool-take (is_used u) (is_used (c ∷ u)) e c t q (or_true (c == c) (is_used u c) (same_eq c)) (λ i n. or_false (i == c) (is_used u i) (other_eq i c n)))
