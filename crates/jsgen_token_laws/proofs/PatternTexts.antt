-- The text of a regular expression's pattern is the body of one, with escapes for what isn't ASCII or without.
use Rattle.std.proofs.Common.{◌≡◌, ℕ, ◌+◌, ◌-◌, ◌/◌, ◌%◌, ◌<◌, ◌≤◌, Bool, true, false, not, cond, nat_lt, ◌&&◌, ◌||◌, ◌==◌, ◌⊎◌, inl, inr, List, [], ◌∷◌, ◌++◌, flat_map, refl, sym, ap, ap₂, if◌then◌else◌, ◌∙◌, subst, arith}
use Rattle.std.specs.Char.{is_ascii_hexdigit}
use Rattle.std.specs.Char.Escape.{encode_utf16}
use Rattle.std.specs.Str.{all_scalars}
use lib.Utf8.{scalar, low_scalar}
use Rattle.std.proofs.lemmas.Bool.{both_ways, and_parts, and_from, or_parts, not-true, eqb-true, ne_eqb, leb-true, lt-ltb, le-ltb, cases_lt}
use Rattle.jsgen_syntax.specs.declared.escape.NonAsciiEscape.TheVariants as modes
use Rattle.jsgen_syntax.specs.Escapes.{begins, upper_digit, four_digits, unit_escape, is_past_ascii}
use Rattle.jsgen_syntax.specs.Raw.{Raw, is_left_out, raw_text_after, pattern_text}
use Rattle.jsgen_syntax.proofs.Escapes.{hex_passes, upper_digits}
use Rattle.jsgen_syntax.proofs.Raw.{untouched}
use Rattle.jsgen_syntax.proofs.Wtf8.{scalar_below}
use Rattle.jsgen_model.specs.LineEnds.{is_line_terminator}
use Rattle.jsgen_model.specs.RegularExpressions.{are_characters, is_escape, is_class, is_escape_in_class, is_body}
use Rattle.jsgen_token_laws.proofs.Scalars.{scalars_append, hex_scalar}

-- ---- what is printed in ASCII

abbrev in_ascii : Raw
in_ascii = record { mode = modes.RegExp; ascii = true; drops_backslash = false; frees_tags = false }

abbrev spared : Bool → Bool → List ℕ → List ℕ
spared escaped after_less cs = raw_text_after in_ascii escaped after_less cs

-- a backslash, unless it is left out before this text
abbrev lead : List ℕ → List ℕ
lead cs = if is_left_out in_ascii cs then [] else 92 ∷ []

abbrev escapes : List ℕ → List ℕ
escapes units = flat_map (unit_escape upper_digit) units

both_false : (b : Bool) → (b && false) ≡ false
both_false true = refl
both_false false = refl

or_no : (b : Bool) → (b || false) ≡ b
or_no true = refl
or_no false = refl

past_apart : (c d : ℕ) → is_past_ascii c ≡ true → d < 128 → (c == d) ≡ false
past_apart c d h l = let k = leb-true 128 c h in ne_eqb c d (λ e. omega arith)

spared_past : (e l : Bool) (c : ℕ) (cs : List ℕ) → is_past_ascii c ≡ true → spared e l (c ∷ cs) ≡ escapes (encode_utf16 c) ++ spared false (c == 60) cs
unfolding raw_text_after
spared_past e l c cs h =
    ap₂ (λ b n. cond b (escapes (encode_utf16 c)) (if n && not e && is_left_out in_ascii cs then [] else c ∷ []) ++ spared (n && not e) (c == 60) cs) h (past_apart c 92 h (omega arith))

spared_bare : (l : Bool) (c : ℕ) (cs : List ℕ) → is_past_ascii c ≡ false → (c == 92) ≡ false → spared false l (c ∷ cs) ≡ c ∷ spared false (c == 60) cs
unfolding raw_text_after
spared_bare l c cs h k =
    ap₂ (λ b n. cond b (escapes (encode_utf16 c)) (if n && true && is_left_out in_ascii cs then [] else c ∷ []) ++ spared (n && true) (c == 60) cs) h k

spared_behind : (l : Bool) (c : ℕ) (cs : List ℕ) → is_past_ascii c ≡ false → spared true l (c ∷ cs) ≡ c ∷ spared false (c == 60) cs
unfolding raw_text_after
spared_behind l c cs h =
    ap₂ (λ b n. cond b (escapes (encode_utf16 c)) (if n && is_left_out in_ascii cs then [] else c ∷ []) ++ spared n (c == 60) cs) h (both_false (c == 92))

spared_backslash : (l : Bool) (cs : List ℕ) → spared false l (92 ∷ cs) ≡ lead cs ++ spared true false cs
unfolding raw_text_after
spared_backslash l cs = refl

-- ---- digits and escapes

-- a digit is a character of a body, also in a class
abbrev is_special : ℕ → Bool
is_special c = is_line_terminator c || (c == 92) || (c == 91) || (c == 93) || (c == 47)

record Digit (c : ℕ) : Type 0 where
  line : is_line_terminator c ≡ false
  backslash : (c == 92) ≡ false
  opening : (c == 91) ≡ false
  closing : (c == 93) ≡ false
  slash : (c == 47) ≡ false

is_digit : (c : ℕ) → is_ascii_hexdigit c ≡ true → Digit c
is_digit c h =
    let s = not-true (is_special c) (hex_passes (λ n. not (is_special n)) refl c h) in
    let i = or_parts (is_line_terminator c || (c == 92) || (c == 91) || (c == 93)) (c == 47) s in
    let j = or_parts (is_line_terminator c || (c == 92) || (c == 91)) (c == 93) i.0 in
    let k = or_parts (is_line_terminator c || (c == 92)) (c == 91) j.0 in
    let m = or_parts (is_line_terminator c) (c == 92) k.0 in
    record { line = m.0; backslash = m.1; opening = k.1; closing = j.1; slash = i.1 }

digit_character : (c : ℕ) (r : List ℕ) → Digit c → are_characters (c ∷ r) ≡ are_characters r
digit_character c r d = λ i. not (d.line i) && (if d.backslash i then is_escape r else (if d.opening i then is_class r else not (d.slash i) && are_characters r))

digit_in_class : (c : ℕ) (r : List ℕ) → Digit c → is_class (c ∷ r) ≡ is_class r
digit_in_class c r d = λ i. not (d.line i) && (if d.backslash i then is_escape_in_class r else (if d.closing i then are_characters r else is_class r))

-- a test of texts that passes digits and escapes by
record PassesBy (test : List ℕ → Bool) : Type 0 where
  digit : (c : ℕ) (r : List ℕ) → Digit c → test (c ∷ r) ≡ test r
  escape : (r : List ℕ) → test (92 ∷ 117 ∷ r) ≡ test r

characters_pass : PassesBy are_characters
characters_pass = record { digit = digit_character; escape = λ r. refl }

class_passes : PassesBy is_class
class_passes = record { digit = digit_in_class; escape = λ r. refl }

module _ (test : List ℕ → Bool) (t : PassesBy test) where
  number_passed : (n : ℕ) (r : List ℕ) → n < 16 → test (upper_digit n ∷ r) ≡ test r
  number_passed n r h = t.digit (upper_digit n) r (is_digit (upper_digit n) (upper_digits n h).is_digit)

  unit_passed : (u : ℕ) (r : List ℕ) → u < 0x1_0000 → test (unit_escape upper_digit u ++ r) ≡ test r
  unit_passed u r h =
      t.escape (four_digits upper_digit u ++ r)
      ∙ (number_passed (u / 4096) _ (omega arith) ∙ (number_passed (u / 256 % 16) _ (omega arith) ∙ (number_passed (u / 16 % 16) _ (omega arith) ∙ number_passed (u % 16) r (omega arith))))

  -- so the escapes of a character
  escapes_passed : (c : ℕ) (r : List ℕ) → c < 0x11_0000 → test (escapes (encode_utf16 c) ++ r) ≡ test r
  escapes_passed c r h = by (cases_lt c 0x1_0000)
    where
      by : (c < 0x1_0000) ⊎ (0x1_0000 ≤ c) → test (escapes (encode_utf16 c) ++ r) ≡ test r
      by (inl k) = ap (λ b. test (escapes (cond b (c ∷ []) ((0xD800 + (c - 0x1_0000) / 0x400) ∷ (0xDC00 + (c - 0x1_0000) % 0x400) ∷ [])) ++ r)) (lt-ltb c 0x1_0000 k) ∙ unit_passed c r k
      by (inr k) =
          ap (λ b. test (escapes (cond b (c ∷ []) ((0xD800 + (c - 0x1_0000) / 0x400) ∷ (0xDC00 + (c - 0x1_0000) % 0x400) ∷ [])) ++ r)) (le-ltb c 0x1_0000 k)
          ∙ (unit_passed (0xD800 + (c - 0x1_0000) / 0x400) _ (omega arith) ∙ unit_passed (0xDC00 + (c - 0x1_0000) % 0x400) r (omega arith))

-- ---- a body stays one

below : (c : ℕ) (cs : List ℕ) → all_scalars (c ∷ cs) ≡ true → c < 0x11_0000
below c cs s = scalar_below c (and_parts (scalar c) (all_scalars cs) s).0

rest_scalars : (c : ℕ) (cs : List ℕ) → all_scalars (c ∷ cs) ≡ true → all_scalars cs ≡ true
rest_scalars c cs s = (and_parts (scalar c) (all_scalars cs) s).1

-- behind a backslash, what a test asks of one more character: it stays, or it is an escape, and the backslash is left out
escaped : (test : List ℕ → Bool) → PassesBy test → (c : ℕ) (cs : List ℕ) → all_scalars (c ∷ cs) ≡ true → ((r : List ℕ) → test r ≡ true → is_line_terminator c ≡ false → test (92 ∷ c ∷ r) ≡ true) → is_line_terminator c ≡ false → test (spared false (c == 60) cs) ≡ true → test (lead (c ∷ cs) ++ spared true false (c ∷ cs)) ≡ true
escaped test t c cs s f n k = by (is_past_ascii c) refl
  where
    by : (b : Bool) → is_past_ascii c ≡ b → test (lead (c ∷ cs) ++ spared true false (c ∷ cs)) ≡ true
    by true p = ap₂ (λ b x. test (cond b [] (92 ∷ []) ++ x)) (or_no (is_past_ascii c) ∙ p) (spared_past true false c cs p) ∙ (escapes_passed test t c (spared false (c == 60) cs) (below c cs s) ∙ k)
    by false p = ap₂ (λ b x. test (cond b [] (92 ∷ []) ++ x)) (or_no (is_past_ascii c) ∙ p) (spared_behind false c cs p) ∙ f (spared false (c == 60) cs) k n

-- at a character of a body, by what is known of the rest of it
characters_step : (l : Bool) (c : ℕ) (cs : List ℕ) → all_scalars (c ∷ cs) ≡ true → ((k : Bool) → are_characters cs ≡ true → are_characters (spared false k cs) ≡ true) → ((k : Bool) → is_class cs ≡ true → is_class (spared false k cs) ≡ true) → (is_escape cs ≡ true → are_characters (lead cs ++ spared true false cs) ≡ true) → are_characters (c ∷ cs) ≡ true → are_characters (spared false l (c ∷ cs)) ≡ true
unfolding raw_text_after
characters_step l c cs s f g v h = by (is_past_ascii c) refl (c == 92) refl
  where
    parts : (is_line_terminator c ≡ false) × ((if c == 92 then is_escape cs else (if c == 91 then is_class cs else not (c == 47) && are_characters cs)) ≡ true)
    parts = let k = and_parts (not (is_line_terminator c)) _ h in (not-true (is_line_terminator c) k.0, k.1)

    plain : (p : Bool) → (c == 91) ≡ p → (if p then is_class cs else not (c == 47) && are_characters cs) ≡ true → (if p then is_class (spared false (c == 60) cs) else not (c == 47) && are_characters (spared false (c == 60) cs)) ≡ true
    plain true e k = g (c == 60) k
    plain false e k = let m = and_parts (not (c == 47)) (are_characters cs) k in and_from (not (c == 47)) (are_characters (spared false (c == 60) cs)) m.0 (f (c == 60) m.1)

    bare : (c == 92) ≡ false → (if c == 91 then is_class cs else not (c == 47) && are_characters cs) ≡ true
    bare n = subst (λ b. (if b then is_escape cs else (if c == 91 then is_class cs else not (c == 47) && are_characters cs)) ≡ true) n parts.1

    by : (b : Bool) → is_past_ascii c ≡ b → (n : Bool) → (c == 92) ≡ n → are_characters (spared false l (c ∷ cs)) ≡ true
    by true p n k =
        ap are_characters (spared_past false l c cs p)
        ∙ (escapes_passed are_characters characters_pass c (spared false (c == 60) cs) (below c cs s)
        ∙ f (c == 60) (and_parts (not (c == 47)) (are_characters cs) (subst (λ b. (if b then is_class cs else not (c == 47) && are_characters cs) ≡ true) (past_apart c 91 p (omega arith)) (bare (past_apart c 92 p (omega arith))))).1)
    by false p true k = backslash c k parts.1
      where
        backslash : (d : ℕ) → (d == 92) ≡ true → (if d == 92 then is_escape cs else (if d == 91 then is_class cs else not (d == 47) && are_characters cs)) ≡ true → are_characters (spared false l (d ∷ cs)) ≡ true
        backslash d e i = subst (λ x. (if x == 92 then is_escape cs else (if x == 91 then is_class cs else not (x == 47) && are_characters cs)) ≡ true → are_characters (spared false l (x ∷ cs)) ≡ true) (sym (eqb-true d 92 e)) (λ j. ap are_characters (spared_backslash l cs) ∙ v j) i
    by false p false k =
        ap are_characters (spared_bare l c cs p k)
        ∙ and_from (not (is_line_terminator c)) _ (ap not parts.0) (subst (λ b. (if b then is_escape (spared false (c == 60) cs) else (if c == 91 then is_class (spared false (c == 60) cs) else not (c == 47) && are_characters (spared false (c == 60) cs))) ≡ true) (sym k) (plain (c == 91) refl (bare k)))

-- and at one within a class
class_step : (l : Bool) (c : ℕ) (cs : List ℕ) → all_scalars (c ∷ cs) ≡ true → ((k : Bool) → are_characters cs ≡ true → are_characters (spared false k cs) ≡ true) → ((k : Bool) → is_class cs ≡ true → is_class (spared false k cs) ≡ true) → (is_escape_in_class cs ≡ true → is_class (lead cs ++ spared true false cs) ≡ true) → is_class (c ∷ cs) ≡ true → is_class (spared false l (c ∷ cs)) ≡ true
unfolding raw_text_after
class_step l c cs s f g v h = by (is_past_ascii c) refl (c == 92) refl
  where
    parts : (is_line_terminator c ≡ false) × ((if c == 92 then is_escape_in_class cs else (if c == 93 then are_characters cs else is_class cs)) ≡ true)
    parts = let k = and_parts (not (is_line_terminator c)) _ h in (not-true (is_line_terminator c) k.0, k.1)

    plain : (p : Bool) → (c == 93) ≡ p → (if p then are_characters cs else is_class cs) ≡ true → (if p then are_characters (spared false (c == 60) cs) else is_class (spared false (c == 60) cs)) ≡ true
    plain true e k = f (c == 60) k
    plain false e k = g (c == 60) k

    bare : (c == 92) ≡ false → (if c == 93 then are_characters cs else is_class cs) ≡ true
    bare n = subst (λ b. (if b then is_escape_in_class cs else (if c == 93 then are_characters cs else is_class cs)) ≡ true) n parts.1

    by : (b : Bool) → is_past_ascii c ≡ b → (n : Bool) → (c == 92) ≡ n → is_class (spared false l (c ∷ cs)) ≡ true
    by true p n k =
        ap is_class (spared_past false l c cs p)
        ∙ (escapes_passed is_class class_passes c (spared false (c == 60) cs) (below c cs s)
        ∙ g (c == 60) (subst (λ b. (if b then are_characters cs else is_class cs) ≡ true) (past_apart c 93 p (omega arith)) (bare (past_apart c 92 p (omega arith)))))
    by false p true k = backslash c k parts.1
      where
        backslash : (d : ℕ) → (d == 92) ≡ true → (if d == 92 then is_escape_in_class cs else (if d == 93 then are_characters cs else is_class cs)) ≡ true → is_class (spared false l (d ∷ cs)) ≡ true
        backslash d e i = subst (λ x. (if x == 92 then is_escape_in_class cs else (if x == 93 then are_characters cs else is_class cs)) ≡ true → is_class (spared false l (x ∷ cs)) ≡ true) (sym (eqb-true d 92 e)) (λ j. ap is_class (spared_backslash l cs) ∙ v j) i
    by false p false k =
        ap is_class (spared_bare l c cs p k)
        ∙ and_from (not (is_line_terminator c)) _ (ap not parts.0) (subst (λ b. (if b then is_escape_in_class (spared false (c == 60) cs) else (if c == 93 then are_characters (spared false (c == 60) cs) else is_class (spared false (c == 60) cs))) ≡ true) (sym k) (plain (c == 93) refl (bare k)))

mutual
  unfolding raw_text_after

  characters_spared : (l : Bool) (cs : List ℕ) → all_scalars cs ≡ true → are_characters cs ≡ true → are_characters (spared false l cs) ≡ true
  characters_spared l [] s h = refl
  characters_spared l (c ∷ cs) s h = let r = rest_scalars c cs s in characters_step l c cs s (λ k x. characters_spared k cs r x) (λ k x. class_spared k cs r x) (λ x. escape_spared cs r x) h

  escape_spared : (cs : List ℕ) → all_scalars cs ≡ true → is_escape cs ≡ true → are_characters (lead cs ++ spared true false cs) ≡ true
  escape_spared [] s h = absurd (both_ways false refl h)
  escape_spared (c ∷ cs) s h =
      let k = and_parts (not (is_line_terminator c)) (are_characters cs) h in
      escaped are_characters characters_pass c cs s (λ r i n. and_from (not (is_line_terminator c)) (are_characters r) (ap not n) i) (not-true (is_line_terminator c) k.0) (characters_spared (c == 60) cs (rest_scalars c cs s) k.1)

  class_spared : (l : Bool) (cs : List ℕ) → all_scalars cs ≡ true → is_class cs ≡ true → is_class (spared false l cs) ≡ true
  class_spared l [] s h = absurd (both_ways false refl h)
  class_spared l (c ∷ cs) s h = let r = rest_scalars c cs s in class_step l c cs s (λ k x. characters_spared k cs r x) (λ k x. class_spared k cs r x) (λ x. escape_in_class_spared cs r x) h

  escape_in_class_spared : (cs : List ℕ) → all_scalars cs ≡ true → is_escape_in_class cs ≡ true → is_class (lead cs ++ spared true false cs) ≡ true
  escape_in_class_spared [] s h = absurd (both_ways false refl h)
  escape_in_class_spared (c ∷ cs) s h =
      let k = and_parts (not (is_line_terminator c)) (is_class cs) h in
      escaped is_class class_passes c cs s (λ r i n. and_from (not (is_line_terminator c)) (is_class r) (ap not n) i) (not-true (is_line_terminator c) k.0) (class_spared (c == 60) cs (rest_scalars c cs s) k.1)

-- ---- the whole

is_no_star : ℕ → Bool
is_no_star c = not (c == 42)

escapes_begin : (c : ℕ) (r : List ℕ) → begins is_no_star (escapes (encode_utf16 c) ++ r) ≡ true
unfolding is_no_star
escapes_begin c r = by (nat_lt c 0x1_0000)
  where
    by : (b : Bool) → begins is_no_star (escapes (cond b (c ∷ []) ((0xD800 + (c - 0x1_0000) / 0x400) ∷ (0xDC00 + (c - 0x1_0000) % 0x400) ∷ [])) ++ r) ≡ true
    by true = refl
    by false = refl

escaped_begin : (cs : List ℕ) → begins is_no_star (lead cs ++ spared true false cs) ≡ true
unfolding is_no_star
escaped_begin [] = refl
escaped_begin (c ∷ cs) = by (is_past_ascii c) refl
  where
    by : (b : Bool) → is_past_ascii c ≡ b → begins is_no_star (lead (c ∷ cs) ++ spared true false (c ∷ cs)) ≡ true
    by true p = ap₂ (λ b x. begins is_no_star (cond b [] (92 ∷ []) ++ x)) (or_no (is_past_ascii c) ∙ p) (spared_past true false c cs p) ∙ escapes_begin c (spared false (c == 60) cs)
    by false p = ap (λ b. begins is_no_star (cond b [] (92 ∷ []) ++ spared true false (c ∷ cs))) (or_no (is_past_ascii c) ∙ p)

-- what begins with no star begins so in ASCII
spared_begins : (c : ℕ) (cs : List ℕ) → is_no_star c ≡ true → begins is_no_star (spared false false (c ∷ cs)) ≡ true
spared_begins c cs h = by (is_past_ascii c) refl (c == 92) refl
  where
    by : (b : Bool) → is_past_ascii c ≡ b → (n : Bool) → (c == 92) ≡ n → begins is_no_star (spared false false (c ∷ cs)) ≡ true
    by true p n k = ap (begins is_no_star) (spared_past false false c cs p) ∙ escapes_begin c (spared false (c == 60) cs)
    by false p true k = subst (λ x. begins is_no_star (spared false false (x ∷ cs)) ≡ true) (sym (eqb-true c 92 k)) (ap (begins is_no_star) (spared_backslash false cs) ∙ escaped_begin cs)
    by false p false k = ap (begins is_no_star) (spared_bare false c cs p k) ∙ h

body_from : (w : List ℕ) → are_characters w ≡ true → begins is_no_star w ≡ true → is_body w ≡ true
unfolding is_no_star
body_from [] h b = absurd (both_ways false refl b)
body_from (c ∷ cs) h b = and_from (not (c == 42)) (are_characters (c ∷ cs)) b h

pub pattern_is_body : (ascii : Bool) (w : List ℕ) → all_scalars w ≡ true → is_body w ≡ true → is_body (pattern_text ascii w) ≡ true
unfolding is_no_star
pattern_is_body false w s h = ap is_body (untouched modes.RegExp w) ∙ h
pattern_is_body true [] s h = absurd (both_ways false refl h)
pattern_is_body true (c ∷ cs) s h =
    let k = and_parts (not (c == 42)) (are_characters (c ∷ cs)) h in
    body_from (pattern_text true (c ∷ cs)) (characters_spared false (c ∷ cs) s k.1) (spared_begins c cs k.0)
