-- A text, character by character.
use Rattle.std.proofs.Common.{◌≡◌, ℕ, ◌+◌, ◌<◌, List, [], ◌∷◌, length, get_or, drop, sym, ap, ◌∙◌, arith}
use Rattle.std.proofs.lemmas.List.{at_drop_more, at_drop_all}

-- the next character, and behind it the others
pub next_character : {X : Type 0} (f : List ℕ → X) (cs : List ℕ) (n c : ℕ) → (n < length cs) × (c ≡ get_or cs n c) → f (drop n cs) ≡ f (c ∷ drop (n + 1) cs)
next_character f cs n c h = at_drop_more f cs n c h.0 ∙ ap (λ x. f (x ∷ drop (n + 1) cs)) (sym h.1)

-- and behind the last nothing
pub no_character : {X : Type 0} (f : List ℕ → X) (cs : List ℕ) (n : ℕ) → n ≡ length cs → f (drop n cs) ≡ f []
no_character f cs n e = at_drop_all f cs n (omega arith)
