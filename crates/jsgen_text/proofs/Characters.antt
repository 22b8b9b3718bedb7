-- A text, character by character.
use Rattle.std.proofs.Common.{◌≡◌, ℕ, suc, zero, ◌+◌, ◌<◌, true, List, [], ◌∷◌, length, get_or, drop, sym, ap, ◌∙◌, subst, arith}
use lib.Utf8.{scalar, scalars}
use Rattle.std.proofs.lemmas.Bool.{and_parts}
use Rattle.std.proofs.lemmas.List.{at_drop_more}

-- the next character, and behind it the others
pub next_character : {X : Type 0} (f : List ℕ → X) (cs : List ℕ) (n c : ℕ) → (n < length cs) × (c ≡ get_or cs n c) → f (drop n cs) ≡ f (c ∷ drop (n + 1) cs)
next_character f cs n c h = at_drop_more f cs n c h.0 ∙ ap (λ x. f (x ∷ drop (n + 1) cs)) (sym h.1)

scalar_get : (cs : List ℕ) (n c : ℕ) → scalars cs ≡ true → n < length cs → scalar (get_or cs n c) ≡ true
scalar_get [] n c s l = absurd (omega arith)
scalar_get (d ∷ cs) zero c s l = (and_parts (scalar d) (scalars cs) s).0
scalar_get (d ∷ cs) (suc n) c s l = scalar_get cs n c (and_parts (scalar d) (scalars cs) s).1 (omega arith)

pub scalar_at : (cs : List ℕ) (n c : ℕ) → scalars cs ≡ true → (n < length cs) × (c ≡ get_or cs n c) → scalar c ≡ true
scalar_at cs n c s h = subst (λ x. scalar x ≡ true) (sym h.1) (scalar_get cs n c s h.0)
