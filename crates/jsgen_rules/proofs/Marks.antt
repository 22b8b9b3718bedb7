-- What stands behind a mark.
use Rattle.std.proofs.Common.{◌≡◌, ℕ, Bool, true, false, ◌&&◌, ◌==◌, List, [], ◌∷◌, ◌++◌, Option, Some, None, Bor, refl, sym, ap, ◌∙◌, arith}
use Rattle.std.specs.Option.{option_map_or, MatchOption}
use Rattle.std.specs.Str.{chars, encode_utf8_all, IsUtf8}
use Rattle.std.specs.Str.Pattern.{FindsTextPrefix, StripsPrefix}
use Rattle.std.proofs.lemmas.Bool.{eqb-true, both_ways, and_parts}
use Rattle.std.proofs.lemmas.Bool.Decides.{nat_tests}
use Rattle.std.proofs.lemmas.Str.{chars-append, encodes-chars, encodes-append}
use Rattle.jsgen_model.specs.Valid.{begins_with_mark}

equal : (c : ℕ) → (c == c) ≡ true
equal c = grind (arith, nat_tests)

at_mark : (m cs : List ℕ) (holds : List ℕ → Bool) → begins_with_mark m holds (m ++ cs) ≡ holds cs
at_mark [] cs holds = refl
at_mark (c ∷ m) cs holds = ap (λ b. b && begins_with_mark m holds (m ++ cs)) (equal c) ∙ at_mark m cs holds

-- the text begins with the mark
pub behind_mark : (mark text rest : List ℕ) (holds : List ℕ → Bool) → IsUtf8 mark → text ≡ mark ++ rest → begins_with_mark (chars mark) holds (chars text) ≡ holds (chars rest)
behind_mark mark text rest holds utf8 is = ap (λ t. begins_with_mark (chars mark) holds (chars t)) is ∙ ap (begins_with_mark (chars mark) holds) (chars-append mark rest utf8) ∙ at_mark (chars mark) (chars rest) holds

-- characters that don't begin so
splits : (m cs : List ℕ) (holds : List ℕ → Bool) → begins_with_mark m holds cs ≡ true → (rest : List ℕ) × (cs ≡ m ++ rest)
splits [] cs holds h = (cs, refl)
splits (c ∷ m) [] holds h = absurd (both_ways false refl h)
splits (c ∷ m) (d ∷ cs) holds h =
    let parts = and_parts (c == d) (begins_with_mark m holds cs) h in
    let behind = splits m cs holds parts.1 in
    (behind.0, ap (λ l. d ∷ l) behind.1 ∙ ap (λ x. x ∷ m ++ behind.0) (sym (eqb-true c d parts.0)))

pub no_mark : (mark text : List ℕ) (holds : List ℕ → Bool) → IsUtf8 mark → IsUtf8 text → ((rest : List ℕ) → text ≡ mark ++ rest → ⊥) → begins_with_mark (chars mark) holds (chars text) ≡ false
no_mark mark text holds marked utf8 lacks = by (begins_with_mark (chars mark) holds (chars text)) refl
  where
    by : (b : Bool) → begins_with_mark (chars mark) holds (chars text) ≡ b → b ≡ false
    by false e = refl
    by true e =
        let cut = splits (chars mark) (chars text) holds e in
        let bytes = sym (encodes-chars text utf8) ∙ (ap encode_utf8_all cut.1 ∙ (encodes-append (chars mark) cut.0 ∙ ap (λ l. l ++ encode_utf8_all cut.0) (encodes-chars mark marked))) in
        absurd (lacks (encode_utf8_all cut.0) bytes)

pub behind : (mark text : List ℕ) (r : Option (Bor (List ℕ))) → IsUtf8 mark → IsUtf8 text → MatchOption r (FindsTextPrefix mark text None) (λ x. StripsPrefix (FindsTextPrefix mark) text x.now) → (holds : List ℕ → Bool) → begins_with_mark (chars mark) holds (chars text) ≡ option_map_or (λ rest. holds (chars rest.now)) r false
behind mark text None marked utf8 lacks holds = no_mark mark text holds marked utf8 lacks
behind mark text (Some x) marked utf8 found holds = behind_mark mark text x.now holds marked (found.1.1 ∙ ap (λ r. mark ++ r) (sym found.2))

-- ---- marks of ASCII are their own characters

pub line_mark : chars (47 ∷ 47 ∷ []) ≡ 47 ∷ 47 ∷ []
unfolding chars
line_mark = refl

pub block_mark : chars (47 ∷ 42 ∷ []) ≡ 47 ∷ 42 ∷ []
unfolding chars
block_mark = refl

pub open_mark : chars (60 ∷ 33 ∷ 45 ∷ 45 ∷ []) ≡ 60 ∷ 33 ∷ 45 ∷ 45 ∷ []
unfolding chars
open_mark = refl

pub close_mark : chars (45 ∷ 45 ∷ 62 ∷ []) ≡ 45 ∷ 45 ∷ 62 ∷ []
unfolding chars
close_mark = refl
