-- A pattern of a regular expression in ASCII stays as it is.
use Rattle.std.specs.List.{list_all}
use Rattle.std.proofs.Common.{◌≡◌, ℕ, List, [], ◌∷◌, ◌++◌, Bool, true, false, not, ◌&&◌, ◌==◌, nat_lt, if◌then◌else◌, refl, ap, ◌∙◌}
use Rattle.std.proofs.lemmas.Bool.{and_parts, or_from, both_ways, ltb-true, lt-leb, cond_both}
use Rattle.jsgen_syntax.specs.Escapes.{begins, is_past_ascii}
use Rattle.jsgen_syntax.specs.Raw.{Raw, raw_character, raw_text_after, is_left_out, pattern_text}
use Rattle.jsgen_syntax.specs.declared.escape.NonAsciiEscape.TheVariants as modes
use Rattle.jsgen_strings.specs.Points.{are_ascii}
use Rattle.jsgen_text.proofs.AsciiTexts.{texts_ascii}
use Rattle.jsgen_model.specs.Normal.{is_code_point, ascii_pattern}

-- what a pattern changes in ASCII
abbrev in_ascii : Raw
in_ascii = record { mode = modes.RegExp; ascii = true; drops_backslash = false; frees_tags = false }

low_is_ascii : (c : ℕ) → nat_lt c 128 ≡ true → is_past_ascii c ≡ false
low_is_ascii c e = lt-leb 128 c (ltb-true c 128 e)

begins_low : (cs : List ℕ) → are_ascii cs ≡ true → begins is_past_ascii cs ≡ false
begins_low [] h = refl
begins_low (c ∷ cs) h = low_is_ascii c (and_parts (nat_lt c 128) (are_ascii cs) h).0

-- so no character is another one there
same_character : (escaped after_less : Bool) (c : ℕ) (cs : List ℕ) → are_ascii (c ∷ cs) ≡ true → raw_character in_ascii escaped after_less c cs ≡ c ∷ []
same_character escaped after_less c cs h =
    let k = and_parts (nat_lt c 128) (are_ascii cs) h in
    let not_left_out : is_left_out in_ascii cs ≡ false = or_from (begins is_past_ascii cs) false (begins_low cs k.1) refl in
    cond_both (is_past_ascii c) _ _ (λ text. text ≡ c ∷ []) (λ e. absurd (both_ways (is_past_ascii c) (low_is_ascii c k.0) e)) (λ _.
    cond_both ((c == 92) && not escaped && is_left_out in_ascii cs) [] _ (λ text. text ≡ c ∷ [])
    (λ e. absurd (both_ways ((c == 92) && not escaped && is_left_out in_ascii cs) (unmet (c == 92) (not escaped) (is_left_out in_ascii cs) not_left_out) e)) (λ _. refl))
  where
    unmet : (x y z : Bool) → z ≡ false → (x && y && z) ≡ false
    unmet x y z e = ap (λ b. x && y && b) e ∙ none x y
      where
        none : (x y : Bool) → (x && y && false) ≡ false
        none true true = refl
        none true false = refl
        none false y = refl

stays : (escaped after_less : Bool) (w : List ℕ) → are_ascii w ≡ true → raw_text_after in_ascii escaped after_less w ≡ w
unfolding raw_text_after
stays escaped after_less [] h = refl
stays escaped after_less (c ∷ cs) h =
    let e = same_character escaped after_less c cs h in
    let f = stays ((c == 92) && not escaped) (c == 60) cs (and_parts (nat_lt c 128) (are_ascii cs) h).1 in
    λ i. e i ++ f i

-- the pattern in ASCII is so already, and a text that isn't one of code points stays as it is
pub pattern_again : (w : List ℕ) → ascii_pattern (ascii_pattern w) ≡ ascii_pattern w
pattern_again w = cond_both (list_all is_code_point w) (pattern_text true w) w (λ text. ascii_pattern text ≡ text) printed kept
  where
    printed : list_all is_code_point w ≡ true → ascii_pattern (pattern_text true w) ≡ pattern_text true w
    printed h = cond_both (list_all is_code_point (pattern_text true w)) _ _ (λ text. text ≡ pattern_text true w) (λ _. stays false false (pattern_text true w) (texts_ascii.pattern w h)) (λ _. refl)

    kept : list_all is_code_point w ≡ false → ascii_pattern w ≡ w
    kept h = ap (λ b. if b then pattern_text true w else w) h
