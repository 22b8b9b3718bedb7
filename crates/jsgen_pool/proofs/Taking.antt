-- What comes out of the rows, by its number.
use Rattle.std.proofs.Common.{◌≡◌, ℕ, ◌<◌, List, length, get_or, set, true, Some, option_map, Ok, Err, sym, ap, ◌∙◌, slice_get}
use Rattle.std.proofs.lemmas.Option.{slice_get-map, slice_get-get_or}
use Rattle.std.proofs.lemmas.List.{map-set}
use Rattle.jsgen_tree.specs.Tree.{Tree, type_of}
use Rattle.jsgen_tree.specs.Sets.{in_set}
use Rattle.jsgen_tree.specs.declared.types.NodeSet.{NodeSet}
use Rattle.jsgen_tree.specs.declared.types.NodeType.{NodeType}
use Rattle.jsgen_pool.specs.Pool.{entry, entries, entry_type, taken, take_row, take_entry}
use Rattle.jsgen_pool.specs.declared.Kept.{Kept}
use Rattle.jsgen_pool.specs.declared.Kept.TheVariants.{There, Taken}
use Rattle.jsgen_pool.specs.declared.TakeFault.TheVariants as faults

found : {R : Type 0} (ks : List (Kept R)) (c : ℕ) (k : Kept R) → c < length ks → k ≡ get_or ks c k → slice_get ks c ≡ Some k
found ks c k h e = slice_get-get_or ks c k h ∙ ap Some (sym e)

same_place : {R : Type 0} (ks : List (Kept R)) (c : ℕ) (j k : Kept R) → c < length ks → j ≡ get_or ks c j → k ≡ get_or ks c k → j ≡ k
same_place ks c j k h e f = let a = found ks c j h e in let b = found ks c k h f in cc

-- j is what was read at first, k what was taken out
taking : {R : Type 0} (plain : R → Tree) (s : NodeSet) (ks : List (Kept R)) (c : ℕ) (j k : Kept R) (t : NodeType) → c < length ks
    → j ≡ get_or ks c j → k ≡ get_or ks c k → t ≡ entry_type (entry plain j) → true ≡ in_set s t
    → take_row s c (entries plain ks) ≡ take_entry c (entry plain k) (entries plain ks)
taking plain s ks c j k t h i f m n =
    let g : slice_get (entries plain ks) c ≡ Some (entry plain k) = slice_get-map (entry plain) ks c ∙ ap (option_map (entry plain)) (found ks c k h f) in
    let q : in_set s (entry_type (entry plain k)) ≡ true = ap (λ x. in_set s (entry_type (entry plain x))) (sym (same_place ks c j k h i f)) ∙ ap (in_set s) (sym m) ∙ sym n in
    rw (g, q)

pub taking_there : {R : Type 0} (plain : R → Tree) (s : NodeSet) (ks : List (Kept R)) (c : ℕ) (j : Kept R) (r : R) (t : NodeType) → c < length ks
    → j ≡ get_or ks c j → There r ≡ get_or ks c (There r) → t ≡ entry_type (entry plain j) → true ≡ in_set s t
    → take_row s c (entries plain ks) ≡ Ok (plain r, entries plain (set ks c (Taken t)))
taking_there plain s ks c j r t h i f m n =
    let u : t ≡ type_of (plain r) = m ∙ ap (λ x. entry_type (entry plain x)) (same_place ks c j (There r) h i f) in
    taking plain s ks c j (There r) t h i f m n ∙ ap (λ x. Ok (plain r, set (entries plain ks) c (taken x))) (sym u) ∙ ap (λ x. Ok (plain r, x)) (sym (map-set (entry plain) ks c (Taken t)))

pub taking_taken : {R : Type 0} (plain : R → Tree) (s : NodeSet) (ks : List (Kept R)) (c : ℕ) (j : Kept R) (r t : NodeType) → c < length ks
    → j ≡ get_or ks c j → Taken r ≡ get_or ks c (Taken r) → t ≡ entry_type (entry plain j) → true ≡ in_set s t
    → take_row s c (entries plain ks) ≡ Err (faults.Taken c)
taking_taken plain s ks c j r t h i f m n = taking plain s ks c j (Taken r) t h i f m n
