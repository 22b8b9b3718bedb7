-- The items of a list, one by one.
use Rattle.std.proofs.Common.{◌≡◌, ℕ, zero, suc, ◌+◌, ◌<◌, arith, map, List, length, slice_get, Some, refl, ap, ◌∙◌}
use Rattle.serde_json.specs.Data.{Data}
use Rattle.jsgen_flat.specs.Flat.{word, words_from}

pub count_of : (f : ℕ → Data) (s : List ℕ) (n count : ℕ) → length (map f (words_from s n count)) ≡ count
count_of f s n zero = refl
count_of f s n (suc count) = ap suc (count_of f s (suc n) count)

pub among : (f : ℕ → Data) (s : List ℕ) (n count i : ℕ) → i < count → slice_get (map f (words_from s n count)) i ≡ Some (f (word s (n + i)))
among f s n zero i h = absurd (grind arith)
among f s n (suc count) zero h = ap (λ m. Some (f (word s m))) (grind arith)
among f s n (suc count) (suc i) h = among f s (suc n) count i (grind arith) ∙ ap (λ m. Some (f (word s m))) (grind arith)
