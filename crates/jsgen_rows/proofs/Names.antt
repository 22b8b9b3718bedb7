-- The names of a class, put into a map one after another: an object has its keys in the map's order.
use Rattle.std.proofs.Common.{◌≡◌, ℕ, List, [], ◌∷◌, ◌++◌, map, String, Global, Result, Ok, Err, Less, Greater, string_bytes, string_cmp, nat_cmp, refl, sym, ap, ap₂, ◌∙◌, append_assoc}
use Rattle.std.proofs.lemmas.Cmp.{nat_list_cmp_total}
use Rattle.std.specs.BTreeMap.{insert_entry}
use Rattle.std.specs.Cmp.Lexicographic.{slice_cmp}
use Rattle.std.specs.List.{AllByRecursion}
use Rattle.std.specs.List.Sorted.{IsStrictlySortedBy}
use Rattle.std.specs.Map.{keys_of}
use Rattle.std.specs.Ordering.{ordering_reverse}
use Rattle.std.specs.Str.{chars}
use Rattle.serde_json.specs.Data.{Data, Members, member}
use Rattle.serde_json.proofs.Views.{Entry}
use Rattle.jsgen_fields.specs.declared.At.{At}
use Rattle.jsgen_fields.specs.declared.InputFault.{InputFault}
use Rattle.jsgen_fields.specs.Values.{after, text_in, names_in}

abbrev pub Name : Type 0
Name = String Global × String Global

-- the bytes of a key
abbrev pub key : {X : Type 0} → String Global × X → List ℕ
key e = string_bytes e.0

below : (first : Entry) (es : List Entry) (e : Entry) (more : List Entry) → AllByRecursion (λ y. string_cmp first.0 y ≡ Less) (keys_of (es ++ e ∷ more)) → string_cmp first.0 e.0 ≡ Less
below first [] e more h = h.0
below first (x ∷ es) e more h = below first es e more h.1

heads : (x y : List ℕ) (xs ys : List (List ℕ)) → x ∷ xs ≡ y ∷ ys → x ≡ y
heads x y xs ys h = cc

tails : (x y : List ℕ) (xs ys : List (List ℕ)) → x ∷ xs ≡ y ∷ ys → xs ≡ ys
tails x y xs ys h = cc

-- among names with the keys before e's, a name with e's key goes last
pub named_last : (done : List Entry) (e : Entry) (more : List Entry) (names : List Name) (k v : String Global)
    → IsStrictlySortedBy string_cmp (keys_of (done ++ e ∷ more)) → map key names ≡ map key done → string_bytes k ≡ string_bytes e.0
    → insert_entry string_cmp names k v ≡ names ++ (k, v) ∷ []
unfolding IsStrictlySortedBy
named_last [] e more [] k v h same is = refl
named_last [] e more (n ∷ names) k v h same is = cc
named_last (d ∷ done) e more [] k v h same is = cc
named_last (d ∷ done) e more (n ∷ names) k v h same is =
    let above : slice_cmp nat_cmp (string_bytes k) (string_bytes n.0) ≡ Greater =
    ap₂ (slice_cmp nat_cmp) is (heads (key n) (key d) (map key names) (map key done) same) ∙ nat_list_cmp_total.antisymm (string_bytes e.0) (string_bytes d.0) ∙ ap ordering_reverse (below d done e more h.0) in
    rw above (ap (λ ns. n ∷ ns) (named_last done e more names k v h.1 (tails (key n) (key d) (map key names) (map key done) same) is))

-- what was read so far, and then what comes, with one more read
pub one_more : {P : Type 0} (done : List P) (x : P) (left : Result (List P) InputFault)
    → after (after left (λ xs. Ok (x ∷ xs))) (λ xs. Ok (done ++ xs)) ≡ after left (λ xs. Ok ((done ++ x ∷ []) ++ xs))
one_more done x (Ok xs) = ap Ok (sym (append_assoc done (x ∷ []) xs))
one_more done x (Err e) = refl

-- a member more, whose text is t
pub read_one : (a : At) (n t : List ℕ) (d : Data) (ms : Members) (done : List (List ℕ × List ℕ)) → text_in a d ≡ Ok t
    → after (names_in a ms) (λ ns. Ok ((done ++ (chars n, chars t) ∷ []) ++ ns)) ≡ after (names_in a (member n d ms)) (λ ns. Ok (done ++ ns))
read_one a n t d ms done h = rw h (sym (one_more done (chars n, chars t) (names_in a ms)))
