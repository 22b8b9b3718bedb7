-- Each text that is to be ASCII is ASCII.
use Rattle.std.proofs.Common.{◌≡◌, ℕ, ◌<◌, Bool, true, false, not, ◌==◌, ◌&&◌, ◌||◌, nat_lt, nat_le, List, [], ◌∷◌, ◌++◌, codes, if◌then◌else◌, refl, sym, ap, ◌∙◌, arith}
use Rattle.std.specs.Char.{is_ascii_digit}
use Rattle.std.specs.List.{list_all}
use Rattle.std.proofs.lemmas.Bool.{and_parts, and_from, lt-ltb, ltb-true, leb-false, cond_both}
use Rattle.jsgen_syntax.specs.declared.quote.Quote.{Quote}
use Rattle.jsgen_syntax.specs.declared.quote.Quote.TheVariants.{Single, Double, Backtick}
use Rattle.jsgen_syntax.specs.declared.escape.NonAsciiEscape.TheVariants as modes
use Rattle.jsgen_syntax.specs.Escapes.{lower_digit, unit_escape, character_escape, is_past_ascii, name_character, name_text}
use Rattle.jsgen_syntax.specs.Raw.{Raw, raw_escape, is_left_out, tag_character, raw_character, raw_text_after, directive_text, template_text, pattern_text}
use Rattle.jsgen_syntax.specs.Strings.{begins, begins_script, quote_char, is_backtick, needs_backslash, control_text, past_ascii_text, point_text, escaped_after, escaped, quoted}
use Rattle.jsgen_syntax.specs.Wtf8.{joined_units, is_surrogate}
use Rattle.jsgen_text.specs.Law.{AsciiTextIsAscii}
use Rattle.jsgen_strings.specs.Points.{is_point, are_ascii}
use Rattle.jsgen_strings.proofs.Ascii.{ascii_append, lower_ascii, four_ascii, character_ascii, units_ascii}

one_ascii : (c : ℕ) (cs : List ℕ) → c < 128 → are_ascii cs ≡ true → are_ascii (c ∷ cs) ≡ true
one_ascii c cs l h = and_from (nat_lt c 128) (are_ascii cs) (lt-ltb c 128 l) h

-- either of two texts
either : (b : Bool) (x y : List ℕ) → are_ascii x ≡ true → are_ascii y ≡ true → are_ascii (if b then x else y) ≡ true
either b x y f g = cond_both b x y (λ text. are_ascii text ≡ true) (λ _. f) (λ _. g)

-- ---- one code point

control_ascii : (q : Quote) (c : ℕ) (rest : List ℕ) → c < 32 → are_ascii (control_text q c rest) ≡ true
control_ascii q c rest l =
    either (c == 0) _ _ (either (begins is_ascii_digit rest) (codes "\\x00") (codes "\\0") refl refl) (
    either (c == 7) (codes "\\x07") _ refl (
    either (c == 8) (codes "\\b") _ refl (
    either (c == 10) _ _ (either (is_backtick q) (10 ∷ []) (codes "\\n") refl refl) (
    either (c == 11) (codes "\\v") _ refl (
    either (c == 12) (codes "\\f") _ refl (
    either (c == 13) (codes "\\r") _ refl (
    either (c == 27) (codes "\\x1B") _ refl (one_ascii c [] (omega arith) refl))))))))

past_ascii : (c : ℕ) → are_ascii (past_ascii_text true c) ≡ true
past_ascii c = cond_both (is_surrogate c) _ _ (λ text. are_ascii text ≡ true) lone (λ _. character_ascii c)
  where
    lone : is_surrogate c ≡ true → are_ascii (unit_escape lower_digit c) ≡ true
    lone e = let m = ltb-true c 0xE000 (and_parts (nat_le 0xD800 c) (nat_lt c 0xE000) e).1 in four_ascii lower_digit lower_ascii c (omega arith)

point_ascii : (q : Quote) (after_less : Bool) (c : ℕ) (rest : List ℕ) → are_ascii (point_text q true after_less c rest) ≡ true
point_ascii q after_less c rest =
    cond_both (nat_lt c 32) _ _ (λ text. are_ascii text ≡ true) (λ e. control_ascii q c rest (ltb-true c 32 e)) (λ _.
    cond_both (nat_lt c 128) _ _ (λ text. are_ascii text ≡ true) (λ e. let alone = one_ascii c [] (ltb-true c 128 e) refl in either (needs_backslash q after_less c rest) (92 ∷ c ∷ []) (c ∷ []) alone alone) (λ _.
    past_ascii c))

-- ---- a string

escaped_ascii : (q : Quote) (after_less : Bool) (cs : List ℕ) → are_ascii (escaped_after q true after_less cs) ≡ true
unfolding escaped_after
escaped_ascii q after_less [] = refl
escaped_ascii q after_less (c ∷ cs) =
    ascii_append (point_text q true after_less c cs) (escaped_after q true (c == 60) cs) (point_ascii q after_less c cs) (escaped_ascii q (c == 60) cs)

quote_ascii : (q : Quote) → quote_char q < 128
quote_ascii Single = omega arith
quote_ascii Double = omega arith
quote_ascii Backtick = omega arith

quoted_ascii : (q : Quote) (us : List ℕ) → are_ascii (quoted q true us) ≡ true
quoted_ascii q us =
    one_ascii (quote_char q) (escaped q true us ++ quote_char q ∷ []) (quote_ascii q) (
    ascii_append (escaped q true us) (quote_char q ∷ []) (escaped_ascii q false (joined_units us)) (one_ascii (quote_char q) [] (quote_ascii q) refl))

-- ---- a name

name_ascii : (name : List ℕ) → are_ascii (name_text true name) ≡ true
name_ascii [] = refl
name_ascii (c ∷ cs) =
    ascii_append (name_character true c) (name_text true cs) (cond_both (is_past_ascii c) _ _ (λ text. are_ascii text ≡ true) (λ _. character_ascii c) (λ e. one_ascii c [] (leb-false 128 c e) refl)) (name_ascii cs)

-- ---- a raw text, whose characters pass a test, so that their escapes are ASCII

tag_ascii : (after_less : Bool) (c : ℕ) (rest : List ℕ) → c < 128 → are_ascii (tag_character after_less c rest) ≡ true
tag_ascii after_less c rest l = let alone = one_ascii c [] l refl in either (after_less && (c == 47) && begins_script rest) (92 ∷ c ∷ []) (c ∷ []) alone alone

module _ (raw : Raw) (is_ascii : raw.ascii ≡ true) (test : ℕ → Bool) (escape_ascii : (escaped : Bool) (c : ℕ) → test c ≡ true → are_ascii (raw_escape raw.mode escaped c) ≡ true) where
  kept_ascii : (escaped after_less : Bool) (c : ℕ) (rest : List ℕ) → test c ≡ true → are_ascii (raw_character raw escaped after_less c rest) ≡ true
  kept_ascii escaped after_less c rest t =
      cond_both (raw.ascii && is_past_ascii c) _ _ (λ text. are_ascii text ≡ true) (λ _. escape_ascii escaped c t) (λ e.
      let low : c < 128 = leb-false 128 c (sym (ap (λ b. b && is_past_ascii c) is_ascii) ∙ e) in
      either ((c == 92) && not escaped && is_left_out raw rest) [] _ refl (tag_ascii (raw.frees_tags && after_less) c rest low))

  raw_ascii : (escaped after_less : Bool) (cs : List ℕ) → list_all test cs ≡ true → are_ascii (raw_text_after raw escaped after_less cs) ≡ true
  unfolding raw_text_after
  raw_ascii escaped after_less [] h = refl
  raw_ascii escaped after_less (c ∷ cs) h =
      let k = and_parts (test c) (list_all test cs) h in
      ascii_append (raw_character raw escaped after_less c cs) (raw_text_after raw ((c == 92) && not escaped) (c == 60) cs) (kept_ascii escaped after_less c cs k.0) (raw_ascii ((c == 92) && not escaped) (c == 60) cs k.1)

-- ---- its kinds

any : ℕ → Bool
any c = true

all_any : (cs : List ℕ) → list_all any cs ≡ true
unfolding any
all_any [] = refl
all_any (c ∷ cs) = all_any cs

line_ascii : (escaped : Bool) (c : ℕ) → are_ascii (raw_escape modes.Directive escaped c) ≡ true
line_ascii escaped c = either (escaped && ((c == 0x2028) || (c == 0x2029))) (92 ∷ 10 ∷ []) (character_escape c) refl (character_ascii c)

directive_ascii : (raw : List ℕ) → are_ascii (directive_text true raw) ≡ true
directive_ascii raw = raw_ascii _ refl any (λ escaped c t. line_ascii escaped c) false false raw (all_any raw)

template_ascii : (minify : Bool) (raw : List ℕ) → are_ascii (template_text false minify true raw) ≡ true
template_ascii minify raw = raw_ascii _ refl any (λ escaped c t. line_ascii escaped c) false false raw (all_any raw)

pattern_ascii : (pattern : List ℕ) → list_all is_point pattern ≡ true → are_ascii (pattern_text true pattern) ≡ true
pattern_ascii pattern h = raw_ascii _ refl is_point (λ escaped c t. units_ascii c (ltb-true c 0x11_0000 t)) false false pattern h

pub texts_ascii : AsciiTextIsAscii
texts_ascii = record {
  string = quoted_ascii;
  name = name_ascii;
  directive = directive_ascii;
  template = template_ascii;
  pattern = pattern_ascii;
}
