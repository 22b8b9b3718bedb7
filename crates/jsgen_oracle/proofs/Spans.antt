-- The longest front that passes, and words at the front of a text.
use Rattle.std.proofs.Common.{◌≡◌, ℕ, ◌+◌, Bool, true, false, cond, List, [], ◌∷◌, ◌++◌, take, drop, refl, sym}
use Rattle.std.specs.List.{list_all, prefix_len}
use Rattle.std.proofs.Math.Numerals.{one-add}
use Rattle.std.proofs.lemmas.Bool.{and_from}
use Rattle.jsgen_model.specs.Tokens.{Word, is_spelled, ends_before}
use Rattle.jsgen_token_laws.proofs.OneList.{Stops}
use Rattle.jsgen_oracle.specs.Steps.{StandsAt}

pub front_passes : (f : ℕ → Bool) (xs : List ℕ) → list_all f (take (prefix_len f xs) xs) ≡ true
front_passes f [] = refl
front_passes f (x ∷ xs) = go (front_passes f xs) (f x) refl
  where
    go : list_all f (take (prefix_len f xs) xs) ≡ true → (b : Bool) → f x ≡ b → list_all f (take (cond b (1 + prefix_len f xs) 0) (x ∷ xs)) ≡ true
    go ih true e = rw one-add (and_from (f x) _ e ih)
    go ih false e = refl

pub rest_stops : (f : ℕ → Bool) (xs : List ℕ) → Stops f (drop (prefix_len f xs) xs)
rest_stops f [] = tt
rest_stops f (x ∷ xs) = go (rest_stops f xs) (f x) refl
  where
    go : Stops f (drop (prefix_len f xs) xs) → (b : Bool) → f x ≡ b → Stops f (drop (cond b (1 + prefix_len f xs) 0) (x ∷ xs))
    go ih true e = rw one-add ih
    go ih false e = e

-- ---- words

word_ends : (w rest : List ℕ) → ends_before (Word []) rest ≡ true → ends_before (Word w) rest ≡ true
word_ends w [] h = refl
word_ends w (c ∷ cs) h = h

pub word_stands : (text w rest : List ℕ) → is_spelled (Word w) ≡ true → ends_before (Word []) rest ≡ true → w ++ rest ≡ text → StandsAt text (Word w) rest
word_stands text w rest h e f = record { plain = refl; text_is = sym f; spelled = h; ends = word_ends w rest e }
