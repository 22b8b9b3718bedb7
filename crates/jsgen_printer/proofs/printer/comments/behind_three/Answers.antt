use Rattle.std.proofs.Common.{◌≡◌, ℕ, Option, Some, None, List, [], ◌∷◌, length, drop, refl, ap, sym, subst, ◌∙◌, arith}
use Rattle.std.specs.Str.{chars, IsUtf8}
use Rattle.std.specs.Str.Iter.{chars_steps, chars_rest}
use Rattle.std.specs.declared.str.Chars.{Chars}
use Rattle.std.proofs.lemmas.Str.{chars-nil, chars_past_char, IsUtf8-past_char}
use Rattle.jsgen_printer.proofs.printer.comments.behind_three.Goals as goal

none_behind : (bs : List ℕ) → length bs ≡ 0 → chars bs ≡ drop 1 (chars bs)
none_behind [] h = rw chars-nil refl
none_behind (b ∷ bs) h = absurd (omega arith)

-- what follows the first character
one_behind : (s t : Chars) (r : Option ℕ) → IsUtf8 (chars_rest s) → chars_steps s r t → (chars (chars_rest t) ≡ drop 1 (chars (chars_rest s))) × IsUtf8 (chars_rest t)
one_behind s t None u h = (ap (λ x. chars (chars_rest x)) h.0.1 ∙ none_behind (chars_rest s) h.0.0, subst (λ x. IsUtf8 (chars_rest x)) (sym h.0.1) u)
one_behind s t (Some c) u h = (sym (ap (drop 1) (chars_past_char (chars_rest s) (chars_rest t) c u h.0)), IsUtf8-past_char (chars_rest s) (chars_rest t) c u h.0)

three : (xs : List ℕ) → drop 1 (drop 1 (drop 1 xs)) ≡ drop 3 xs
three [] = refl
three (a ∷ []) = refl
three (a ∷ b ∷ []) = refl
three (a ∷ b ∷ d ∷ xs) = refl

pub returns : goal.returns
returns c =
    let text = c.args.text.now in
    let u : IsUtf8 (chars_rest c.chars-rest.result) = subst IsUtf8 (sym c.chars-rest.ensures.rest) c.utf8.text in
    let first = one_behind _ _ _ u c.next.ensures.steps in
    let second = one_behind _ _ _ first.1 c.next-2.ensures.steps in
    let third = one_behind _ _ _ second.1 c.next-3.ensures.steps in
    ap chars c.as_str.ensures ∙ (third.0 ∙ (ap (drop 1) (second.0 ∙ ap (drop 1) (first.0 ∙ ap (λ t. drop 1 (chars t)) c.chars-rest.ensures.rest)) ∙ three (chars text)))
