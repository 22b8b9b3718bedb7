-- Texts and their characters.
use Rattle.std.proofs.Common.{◌≡◌, ◌≢◌, ◌==◌, ℕ, List, [], ◌∷◌, Bool, true, false, Option, Some, None, option_map, MatchOption, Bor, if◌then◌else◌, bytes_eq, refl, sym, ap, ◌∙◌}
use Rattle.std.specs.Str.{chars, IsUtf8}
use Rattle.std.proofs.Math.Utf8.{encode}
use Rattle.std.proofs.lemmas.Bool.{both_ways, false_from_ne_true, eqb-true}
use Rattle.std.proofs.lemmas.Slice.Eq.{bytes_eq-Decides}
use Rattle.std.proofs.lemmas.Str.{encodes-chars}
use Rattle.std.proofs.Common.{encode_utf8_all}
use Rattle.jsgen_tree.specs.Inside.{after_minus}

-- two texts are the same where their characters are
pub same_characters : (a b : List ℕ) → IsUtf8 a → IsUtf8 b → bytes_eq (chars a) (chars b) ≡ bytes_eq a b
same_characters a b u v = go (bytes_eq a b) refl
  where
    go : (x : Bool) → bytes_eq a b ≡ x → bytes_eq (chars a) (chars b) ≡ x
    go true e = (bytes_eq-Decides (chars a) (chars b)).1 (ap chars ((bytes_eq-Decides a b).0 e))
    go false e = false_from_ne_true (bytes_eq (chars a) (chars b)) (λ h. both_ways (bytes_eq a b) e ((bytes_eq-Decides a b).1 (sym (encodes-chars a u) ∙ (ap encode_utf8_all ((bytes_eq-Decides (chars a) (chars b)).0 h) ∙ encodes-chars b v))))

-- a text that begins with a minus, by its characters
past_minus : (bs : List ℕ) → chars (45 ∷ bs) ≡ 45 ∷ chars bs
unfolding chars
past_minus [] = refl
past_minus (b ∷ bs) = refl

minus_first : (bs cs : List ℕ) → IsUtf8 bs → chars bs ≡ 45 ∷ cs → bs ≡ 45 ∷ encode_utf8_all cs
unfolding encode
minus_first bs cs u e = sym (encodes-chars bs u) ∙ ap encode_utf8_all e

pub minus_found : (bs : List ℕ) (r : Option (Bor (List ℕ))) → IsUtf8 bs → MatchOption r ((rest : List ℕ) → bs ≢ 45 ∷ rest) (λ x. bs ≡ 45 ∷ x.now) → option_map (λ s. chars s.now) r ≡ after_minus (chars bs)
minus_found bs (Some x) u h = sym (ap (λ y. after_minus (chars y)) h ∙ ap after_minus (past_minus x.now))
minus_found bs None u h = none (chars bs) refl
  where
    none : (cs : List ℕ) → chars bs ≡ cs → None ≡ after_minus cs
    none [] e = refl
    none (c ∷ cs) e = by (c == 45) refl
      where
        by : (b : Bool) → (c == 45) ≡ b → None ≡ (if b then Some cs else None)
        by true q = absurd (h (encode_utf8_all cs) (minus_first bs cs u (e ∙ ap (λ d. d ∷ cs) (eqb-true c 45 q))))
        by false q = refl
