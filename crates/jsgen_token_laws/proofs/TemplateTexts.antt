-- The text of a piece of a template without a tag stands for what its raw text stands for.
use Rattle.std.proofs.Common.{◌≡◌, ℕ, ◌+◌, ◌*◌, ◌/◌, ◌%◌, ◌<◌, ◌≤◌, ◌⊎◌, inl, inr, codes, Bool, true, false, not, cond, nat_le, nat_lt, ◌&&◌, ◌||◌, ◌==◌, Option, Some, None, List, [], ◌∷◌, ◌++◌, refl, sym, ap, ap₂, if◌then◌else◌, ◌∙◌, subst, arith}
use Rattle.std.specs.Char.{is_ascii_digit, is_ascii_hexdigit, digit_value}
use Rattle.std.specs.Char.Escape.{encode_utf16}
use Rattle.std.specs.Int.{is_in_range}
use Rattle.std.specs.Str.{all_scalars}
use lib.Utf8.{scalar}
use Rattle.std.proofs.lemmas.Bool.{both_ways, and_parts, and_from, and_right, or_parts, or_from, not-true, eqb-true, ne_eqb, leb-true, lt-leb, lt-ltb, le-ltb, cases_lt}
use Rattle.jsgen_syntax.specs.declared.quote.Quote.TheVariants.{Backtick}
use Rattle.jsgen_syntax.specs.declared.escape.NonAsciiEscape.TheVariants as modes
use Rattle.jsgen_syntax.specs.Escapes.{upper_digit, four_digits, leading_digits, unit_escape, code_point_escape, character_escape, is_past_ascii}
use Rattle.jsgen_syntax.specs.Strings.{begins, begins_with, begins_script, ends_line, and_then, stands_bare, bare_units, escape_units, string_value, escape_value, hex_value, code_point_value, digits_value}
use Rattle.jsgen_syntax.specs.Raw.{Raw, raw_escape, is_left_out, begins_with_dollar, raw_character, raw_text_after, raw_text, template_text, begins_close_tag, holds_close_tag}
use Rattle.jsgen_syntax.proofs.Escapes.{hex_passes, upper_digits}
use Rattle.jsgen_syntax.proofs.Induction.{Plain, Steps, of_value, reads, character_value}
use Rattle.jsgen_syntax.proofs.Wtf8.{scalar_below}
use Rattle.jsgen_model.specs.Templates.{is_raw}
use Rattle.jsgen_model.specs.Templates as templates
use Rattle.jsgen_model.specs.Tokens.{is_part}
use Rattle.jsgen_token_laws.proofs.Scalars.{scalars_append, hex_scalar}

-- ---- tests of the first character

both_false : (b : Bool) → (b && false) ≡ false
both_false true = refl
both_false false = refl

past_apart : (c d : ℕ) → is_past_ascii c ≡ true → d < 128 → (c == d) ≡ false
past_apart c d h l = let k = leb-true 128 c h in ne_eqb c d (λ e. omega arith)

-- a test that passes neither a backslash, a slash, `$` nor what is past ASCII
record Low (test : ℕ → Bool) : Type 0 where
  backslash : test 92 ≡ false
  slash : test 47 ≡ false
  dollar : test 36 ≡ false
  past : (c : ℕ) → is_past_ascii c ≡ true → test c ≡ false

low_line_end : Low (λ c. c == 10)
low_line_end = record { backslash = refl; slash = refl; dollar = refl; past = λ c h. past_apart c 10 h (omega arith) }

low_brace : Low (λ c. c == 123)
low_brace = record { backslash = refl; slash = refl; dollar = refl; past = λ c h. past_apart c 123 h (omega arith) }

past_range : (lo hi c : ℕ) → hi < 128 → is_past_ascii c ≡ true → is_in_range lo hi c ≡ false
past_range lo hi c l h = let k = leb-true 128 c h in and_right (nat_le lo c) (nat_le c hi) (lt-leb c hi (omega arith))

low_digit : Low is_ascii_digit
low_digit = record { backslash = refl; slash = refl; dollar = refl; past = λ c h. past_range 48 57 c (omega arith) h }

low_hexdigit : Low is_ascii_hexdigit
low_hexdigit = record { backslash = refl; slash = refl; dollar = refl; past = λ c h. or_from (is_in_range 48 57 c || is_in_range 65 70 c) (is_in_range 97 102 c) (or_from (is_in_range 48 57 c) (is_in_range 65 70 c) (past_range 48 57 c (omega arith) h) (past_range 65 70 c (omega arith) h)) (past_range 97 102 c (omega arith) h) }

escape_begins : (test : ℕ → Bool) (e : Bool) (c : ℕ) (r : List ℕ) → begins test (raw_escape modes.TemplateRaw e c ++ r) ≡ test 92
escape_begins test e c r = by (e && ((c == 0x2028) || (c == 0x2029))) (nat_lt c 0x1_0000)
  where
    by : (b d : Bool) → begins test (cond b (92 ∷ 10 ∷ []) (cond d (unit_escape upper_digit c) (code_point_escape c)) ++ r) ≡ test 92
    by true d = refl
    by false true = refl
    by false false = refl

-- of the line ends two are past ASCII
line_past : (c : ℕ) → is_past_ascii c ≡ true → ends_line c ≡ ((c == 0x2028) || (c == 0x2029))
line_past c h = ap₂ (λ x y. x || y || (c == 8232) || (c == 8233)) (past_apart c 10 h (omega arith)) (past_apart c 13 h (omega arith))

escape_alone : (c : ℕ) → is_past_ascii c ≡ true → escape_units c ≡ encode_utf16 c
escape_alone c h =
    let b = past_apart c 98 h (omega arith) in
    let t = past_apart c 116 h (omega arith) in
    let n = past_apart c 110 h (omega arith) in
    let v = past_apart c 118 h (omega arith) in
    let f = past_apart c 102 h (omega arith) in
    let r = past_apart c 114 h (omega arith) in
    rw (b, t, n, v, f, r)

no_backslash_digit : (c : ℕ) → is_ascii_hexdigit c ≡ true → (c == 92) ≡ false
no_backslash_digit c h = not-true (c == 92) (hex_passes (λ n. not (n == 92)) refl c h)

no_slash_digit : (c : ℕ) → is_ascii_hexdigit c ≡ true → (c == 47) ≡ false
no_slash_digit c h = not-true (c == 47) (hex_passes (λ n. not (n == 47)) refl c h)

low_digits : (c : ℕ) → is_ascii_hexdigit c ≡ true → is_past_ascii c ≡ false
low_digits c h = not-true (is_past_ascii c) (hex_passes (λ n. not (is_past_ascii n)) refl c h)

-- ---- what is printed

module _ (ascii drops : Bool) where
  abbrev changes : Raw
  changes = record { mode = modes.TemplateRaw; ascii = ascii; drops_backslash = drops; frees_tags = true }

  abbrev spared : Bool → Bool → List ℕ → List ℕ
  spared escaped after_less cs = raw_text_after changes escaped after_less cs

  -- a backslash, unless it is left out before this text
  abbrev lead : List ℕ → List ℕ
  lead cs = if is_left_out changes cs then [] else 92 ∷ []

  -- the character is an escape
  abbrev is_escaped : ℕ → Bool
  is_escaped c = ascii && is_past_ascii c

  -- it is the slash of an end tag
  abbrev ends_tag : Bool → ℕ → List ℕ → Bool
  ends_tag after_less c cs = after_less && (c == 47) && begins_script cs

  past : (c : ℕ) → is_escaped c ≡ true → is_past_ascii c ≡ true
  past c h = (and_parts ascii (is_past_ascii c) h).1

  spared_past : (e l : Bool) (c : ℕ) (cs : List ℕ) → is_escaped c ≡ true → spared e l (c ∷ cs) ≡ raw_escape modes.TemplateRaw e c ++ spared false (c == 60) cs
  unfolding raw_text_after
  spared_past e l c cs h =
      let n = past_apart c 92 (past c h) (omega arith) in
      λ i. (if h i then raw_escape modes.TemplateRaw e c else (if (n i && not e) && is_left_out changes cs then [] else (if ends_tag l c cs then 92 ∷ c ∷ [] else c ∷ []))) ++ spared (n i && not e) (c == 60) cs

  spared_bare : (l : Bool) (c : ℕ) (cs : List ℕ) → is_escaped c ≡ false → (c == 92) ≡ false → ends_tag l c cs ≡ false → spared false l (c ∷ cs) ≡ c ∷ spared false (c == 60) cs
  unfolding raw_text_after
  spared_bare l c cs h n m = λ i. (if h i then raw_escape modes.TemplateRaw false c else (if (n i && true) && is_left_out changes cs then [] else (if m i then 92 ∷ c ∷ [] else c ∷ []))) ++ spared (n i && true) (c == 60) cs

  spared_tag : (l : Bool) (c : ℕ) (cs : List ℕ) → is_escaped c ≡ false → (c == 92) ≡ false → ends_tag l c cs ≡ true → spared false l (c ∷ cs) ≡ 92 ∷ c ∷ spared false (c == 60) cs
  unfolding raw_text_after
  spared_tag l c cs h n m = λ i. (if h i then raw_escape modes.TemplateRaw false c else (if (n i && true) && is_left_out changes cs then [] else (if m i then 92 ∷ c ∷ [] else c ∷ []))) ++ spared (n i && true) (c == 60) cs

  spared_behind : (c : ℕ) (cs : List ℕ) → is_escaped c ≡ false → spared true false (c ∷ cs) ≡ c ∷ spared false (c == 60) cs
  unfolding raw_text_after
  spared_behind c cs h = λ i. (if h i then raw_escape modes.TemplateRaw true c else (if both_false (c == 92) i && is_left_out changes cs then [] else c ∷ [])) ++ spared (both_false (c == 92) i) (c == 60) cs

  spared_backslash : (l : Bool) (cs : List ℕ) → spared false l (92 ∷ cs) ≡ lead cs ++ spared true false cs
  unfolding raw_text_after
  spared_backslash l cs = λ i. (if both_false ascii i then raw_escape modes.TemplateRaw false 92 else (if is_left_out changes cs then [] else (if both_false l i && begins_script cs then 92 ∷ 92 ∷ [] else 92 ∷ []))) ++ spared true false cs

  tag_slash : (l : Bool) (c : ℕ) (cs : List ℕ) → ends_tag l c cs ≡ true → (c == 47) ≡ true
  tag_slash l c cs m = (and_parts l (c == 47) (and_parts (l && (c == 47)) (begins_script cs) m).0).1

  -- ---- a test that passes by what is changed

  module _ (test : ℕ → Bool) (t : Low test) where
    -- before what is left out it begins with an escape or with `$`
    lead_begins : (cs : List ℕ) → begins test (lead cs ++ spared true false cs) ≡ false
    unfolding raw_text_after
    lead_begins [] = by ascii drops
      where
        by : (a d : Bool) → begins test ((if (a && false) || (d && false) then [] else 92 ∷ []) ++ []) ≡ false
        by true true = t.backslash
        by true false = t.backslash
        by false true = t.backslash
        by false false = t.backslash
    lead_begins (c ∷ cs) = by (is_escaped c) refl
      where
        dollar : (b : Bool) → (drops && begins_with_dollar (c ∷ cs)) ≡ b → begins test (cond b [] (92 ∷ []) ++ (c ∷ spared false (c == 60) cs)) ≡ false
        dollar true e = ap test (eqb-true c 36 (and_parts (c == 36) (not (begins_with 123 cs)) (and_parts drops (begins_with_dollar (c ∷ cs)) e).1).0) ∙ t.dollar
        dollar false e = t.backslash

        led : (b : Bool) (x : List ℕ) → begins test x ≡ false → begins test (cond b [] (92 ∷ []) ++ x) ≡ false
        led true x e = e
        led false x e = t.backslash

        by : (b : Bool) → is_escaped c ≡ b → begins test (lead (c ∷ cs) ++ spared true false (c ∷ cs)) ≡ false
        by true p = led (is_left_out changes (c ∷ cs)) (spared true false (c ∷ cs)) (ap (begins test) (spared_past true false c cs p) ∙ (escape_begins test true c (spared false (c == 60) cs) ∙ t.backslash))
        by false p = ap₂ (λ b x. begins test (cond (b || (drops && begins_with_dollar (c ∷ cs))) [] (92 ∷ []) ++ x)) p (spared_behind c cs p) ∙ dollar (drops && begins_with_dollar (c ∷ cs)) refl

    -- such a test passes the first character of the printed text just where it passes that of the text
    kept_begins : (l : Bool) (cs : List ℕ) → begins test (spared false l cs) ≡ begins test cs
    unfolding raw_text_after
    kept_begins l [] = refl
    kept_begins l (c ∷ cs) = by (is_escaped c) refl (c == 92) refl (ends_tag l c cs) refl
      where
        by : (b : Bool) → is_escaped c ≡ b → (n : Bool) → (c == 92) ≡ n → (m : Bool) → ends_tag l c cs ≡ m → begins test (spared false l (c ∷ cs)) ≡ test c
        by true h n k m g = ap (begins test) (spared_past false l c cs h) ∙ (escape_begins test false c (spared false (c == 60) cs) ∙ (t.backslash ∙ sym (t.past c (past c h))))
        by false h true k m g = subst (λ x. begins test (spared false l (x ∷ cs)) ≡ test x) (sym (eqb-true c 92 k)) (ap (begins test) (spared_backslash l cs) ∙ (lead_begins cs ∙ sym t.backslash))
        by false h false k true g = ap (begins test) (spared_tag l c cs h k g) ∙ (t.backslash ∙ sym (ap test (eqb-true c 47 (tag_slash l c cs g)) ∙ t.slash))
        by false h false k false g = ap (begins test) (spared_bare l c cs h k g)

  -- ---- the steps

  -- a character that stands bare, and what is known of it
  bare_scalar : (c : ℕ) (cs : List ℕ) → stands_bare Backtick c cs ≡ true → scalar c ≡ true
  bare_scalar c cs h = (and_parts (scalar c) (not (c == 92)) (and_parts (scalar c && not (c == 92)) (not (c == 96)) (and_parts (scalar c && not (c == 92) && not (c == 96)) (not ((c == 36) && begins_with 123 cs)) h).0).0).0

  kept_bare : (c : ℕ) (cs us : List ℕ) → (c == 92) ≡ false → stands_bare Backtick c cs ≡ true → ((l : Bool) → string_value Backtick (spared false l cs) ≡ Some us) → (l : Bool) → string_value Backtick (spared false l (c ∷ cs)) ≡ Some (bare_units c cs ++ us)
  unfolding string_value
  kept_bare c cs us n h v l = by (is_escaped c) refl (ends_tag l c cs) refl
    where
      behind : List ℕ
      behind = spared false (c == 60) cs

      units : bare_units c behind ≡ bare_units c cs
      units = ap (λ b. cond (c == 13) (if b then [] else 10 ∷ []) (encode_utf16 c)) (kept_begins (λ x. x == 10) low_line_end (c == 60) cs)

      bare : stands_bare Backtick c behind ≡ true
      bare = ap (λ b. scalar c && not (c == 92) && not (c == 96) && not ((c == 36) && b)) (kept_begins (λ x. x == 123) low_brace (c == 60) cs) ∙ h

      alone : is_past_ascii c ≡ true → bare_units c cs ≡ encode_utf16 c
      alone p = ap (λ b. cond b (if begins_with 10 cs then [] else 10 ∷ []) (encode_utf16 c)) (past_apart c 13 p (omega arith))

      slash : (d : ℕ) → (d == 47) ≡ true → string_value Backtick (92 ∷ d ∷ behind) ≡ Some (bare_units d cs ++ us)
      slash d e = subst (λ x. string_value Backtick (92 ∷ x ∷ behind) ≡ Some (bare_units x cs ++ us)) (sym (eqb-true d 47 e)) tagged
        where
          tagged : string_value Backtick (92 ∷ 47 ∷ behind) ≡ Some (47 ∷ us)
          tagged = ap (and_then (47 ∷ [])) (v (c == 60))

      by : (b : Bool) → is_escaped c ≡ b → (m : Bool) → ends_tag l c cs ≡ m → string_value Backtick (spared false l (c ∷ cs)) ≡ Some (bare_units c cs ++ us)
      by true p m g =
          ap (string_value Backtick) (spared_past false l c cs p)
          ∙ (character_value Backtick c behind (scalar_below c (bare_scalar c cs h))
          ∙ (ap (and_then (encode_utf16 c)) (v (c == 60)) ∙ ap (λ x. Some (x ++ us)) (sym (alone (past c p)))))
      by false p true g = ap (string_value Backtick) (spared_tag l c cs p n g) ∙ slash c (tag_slash l c cs g)
      by false p false g = ap (string_value Backtick) (spared_bare l c cs p n g) ∙ ((reads Backtick).bare c behind us n bare (v (c == 60)) ∙ ap (λ x. Some (x ++ us)) units)

  -- a backslash stays before a character of ASCII that is no `$`
  behind_low : (c : ℕ) (cs us : List ℕ) → is_escaped c ≡ false → (c == 36) ≡ false → escape_value Backtick (c ∷ spared false (c == 60) cs) ≡ Some us → string_value Backtick (lead (c ∷ cs) ++ spared true false (c ∷ cs)) ≡ Some us
  behind_low c cs us p d e =
      (λ i. string_value Backtick (cond (p i || (drops && (d i && not (begins_with 123 cs)))) [] (92 ∷ []) ++ spared_behind c cs p i))
      ∙ (ap (λ b. string_value Backtick (cond b [] (92 ∷ []) ++ (c ∷ spared false (c == 60) cs))) (both_false drops) ∙ (reads Backtick).backslash (c ∷ spared false (c == 60) cs) us e)

  -- and is left out before an escape
  behind_high : (c : ℕ) (cs : List ℕ) (o : Option (List ℕ)) → is_escaped c ≡ true → string_value Backtick (raw_escape modes.TemplateRaw true c ++ spared false (c == 60) cs) ≡ o → string_value Backtick (lead (c ∷ cs) ++ spared true false (c ∷ cs)) ≡ o
  behind_high c cs o p e = (λ i. string_value Backtick (cond (p i || (drops && begins_with_dollar (c ∷ cs))) [] (92 ∷ []) ++ spared_past true false c cs p i)) ∙ e

  no_escape : (c : ℕ) → is_past_ascii c ≡ false → is_escaped c ≡ false
  no_escape c h = ap (λ b. ascii && b) h ∙ both_false ascii

  -- behind a CR stands an LF
  kept_two_ends : (cs us : List ℕ) → begins_with 10 cs ≡ true → string_value Backtick (lead cs ++ spared true false cs) ≡ Some us → string_value Backtick (lead (13 ∷ cs) ++ spared true false (13 ∷ cs)) ≡ Some us
  unfolding string_value
  kept_two_ends [] us b e = absurd (both_ways false refl b)
  kept_two_ends (c ∷ cs) us b e = behind_low 13 (c ∷ cs) us (no_escape 13 refl) refl ((reads Backtick).two_ends (spared false false (c ∷ cs)) us (kept_begins (λ x. x == 10) low_line_end false (c ∷ cs) ∙ b) (turned c (eqb-true c 10 b) e))
    where
      turned : (d : ℕ) → d ≡ 10 → string_value Backtick (lead (d ∷ cs) ++ spared true false (d ∷ cs)) ≡ Some us → escape_value Backtick (spared false false (d ∷ cs)) ≡ Some us
      turned d k f = subst (λ x. string_value Backtick (lead (x ∷ cs) ++ spared true false (x ∷ cs)) ≡ Some us → escape_value Backtick (spared false false (x ∷ cs)) ≡ Some us) (sym k) line f
        where
          line : string_value Backtick (lead (10 ∷ cs) ++ spared true false (10 ∷ cs)) ≡ Some us → escape_value Backtick (spared false false (10 ∷ cs)) ≡ Some us
          line g =
              let h = no_escape 10 refl in
              ap (escape_value Backtick) (spared_bare false 10 cs h refl refl)
              ∙ (sym ((λ i. string_value Backtick (cond (h i || (drops && false)) [] (92 ∷ []) ++ spared_behind 10 cs h i)) ∙ ap (λ b. string_value Backtick (cond b [] (92 ∷ []) ++ (10 ∷ spared false false cs))) (both_false drops)) ∙ g)

  line_no_dollar : (c : ℕ) → ends_line c ≡ true → (c == 36) ≡ false
  line_no_dollar c h = by (c == 36) refl
    where
      by : (b : Bool) → (c == 36) ≡ b → b ≡ false
      by true e = absurd (both_ways false refl (sym (ap ends_line (eqb-true c 36 e)) ∙ h))
      by false e = refl

  kept_line_end : (c : ℕ) (cs us : List ℕ) → ((c == 13) && begins_with 10 cs) ≡ false → ends_line c ≡ true → ((l : Bool) → string_value Backtick (spared false l cs) ≡ Some us) → string_value Backtick (lead (c ∷ cs) ++ spared true false (c ∷ cs)) ≡ Some us
  unfolding string_value
  kept_line_end c cs us n h v = by (is_escaped c) refl
    where
      by : (b : Bool) → is_escaped c ≡ b → string_value Backtick (lead (c ∷ cs) ++ spared true false (c ∷ cs)) ≡ Some us
      by true p = behind_high c cs (Some us) p (ap (λ b. string_value Backtick (cond b (92 ∷ 10 ∷ []) (character_escape c) ++ spared false (c == 60) cs)) (sym (line_past c (past c p)) ∙ h) ∙ v (c == 60))
      by false p = behind_low c cs us p (line_no_dollar c h) ((reads Backtick).line_end c (spared false (c == 60) cs) us (ap (λ b. (c == 13) && b) (kept_begins (λ x. x == 10) low_line_end (c == 60) cs) ∙ n) h (v (c == 60)))

  kept_itself : (c : ℕ) (cs us : List ℕ) → Plain c → ((l : Bool) → string_value Backtick (spared false l cs) ≡ Some us) → string_value Backtick (lead (c ∷ cs) ++ spared true false (c ∷ cs)) ≡ Some (escape_units c ++ us)
  unfolding string_value
  kept_itself c cs us k v = by (is_escaped c) refl (c == 36) refl
    where
      behind : List ℕ
      behind = spared false (c == 60) cs

      -- before `$` the backslash is left out or stays
      dollar : (b : Bool) → (drops && not (begins_with 123 cs)) ≡ b → string_value Backtick (cond b [] (92 ∷ []) ++ (36 ∷ spared false false cs)) ≡ Some (36 ∷ us)
      dollar true e =
          let m : begins_with 123 (spared false false cs) ≡ false = kept_begins (λ x. x == 123) low_brace false cs ∙ not-true (begins_with 123 cs) (and_parts drops (not (begins_with 123 cs)) e).1 in
          ap (λ b. cond (not b) (and_then (36 ∷ []) (string_value Backtick (spared false false cs))) None) m ∙ ap (and_then (36 ∷ [])) (v false)
      dollar false e = ap (and_then (36 ∷ [])) (v false)

      led : (d : ℕ) → (d == 36) ≡ true → is_escaped d ≡ false → string_value Backtick (lead (d ∷ cs) ++ spared true false (d ∷ cs)) ≡ Some (escape_units d ++ us)
      led d e p = subst (λ x. is_escaped x ≡ false → string_value Backtick (lead (x ∷ cs) ++ spared true false (x ∷ cs)) ≡ Some (escape_units x ++ us)) (sym (eqb-true d 36 e))
          (λ h. (λ i. string_value Backtick (cond (h i || (drops && not (begins_with 123 cs))) [] (92 ∷ []) ++ spared_behind 36 cs h i)) ∙ dollar (drops && not (begins_with 123 cs)) refl) p

      by : (b : Bool) → is_escaped c ≡ b → (d : Bool) → (c == 36) ≡ d → string_value Backtick (lead (c ∷ cs) ++ spared true false (c ∷ cs)) ≡ Some (escape_units c ++ us)
      by true p d e = behind_high c cs (Some (escape_units c ++ us)) p
          (ap (λ b. string_value Backtick (cond b (92 ∷ 10 ∷ []) (character_escape c) ++ behind)) (sym (line_past c (past c p)) ∙ k.no_line)
          ∙ (character_value Backtick c behind (scalar_below c k.is_scalar)
          ∙ (ap (and_then (encode_utf16 c)) (v (c == 60)) ∙ ap (λ x. Some (x ++ us)) (sym (escape_alone c (past c p))))))
      by false p true e = led c e p
      by false p false e = behind_low c cs (escape_units c ++ us) p e ((reads Backtick).itself c behind us k (v (c == 60)))

  -- a digit is printed as it is
  kept_digit : (c : ℕ) (cs : List ℕ) (X : List ℕ → Type 0) → is_ascii_hexdigit c ≡ true → X (c ∷ spared false (c == 60) cs) → (l : Bool) → X (spared false l (c ∷ cs))
  kept_digit c cs X h x l = subst X (sym (spared_bare l c cs (no_escape c (low_digits c h)) (no_backslash_digit c h) (no_tag l))) x
    where
      no_tag : (l : Bool) → ends_tag l c cs ≡ false
      no_tag true = ap (λ b. b && begins_script cs) (no_slash_digit c h)
      no_tag false = refl

  plain_tag : (l : Bool) (c : ℕ) (cs : List ℕ) → (c == 47) ≡ false → ends_tag l c cs ≡ false
  plain_tag true c cs e = ap (λ b. b && begins_script cs) e
  plain_tag false c cs e = refl

  kept_brace : (c : ℕ) (cs us : List ℕ) → begins is_ascii_hexdigit cs ≡ true → ((l : Bool) → digits_value Backtick 0 (spared false l cs) ≡ Some us) → (c == 123) ≡ true → (l : Bool) → code_point_value Backtick (spared false l (c ∷ cs)) ≡ Some us
  kept_brace c cs us b d e l =
      let k = eqb-true c 123 e in
      ap (code_point_value Backtick) (spared_bare l c cs (no_escape c (subst (λ x. is_past_ascii x ≡ false) (sym k) refl)) (subst (λ x. (x == 92) ≡ false) (sym k) refl) (plain_tag l c cs (subst (λ x. (x == 47) ≡ false) (sym k) refl)))
      ∙ (reads Backtick).brace c (spared false (c == 60) cs) us (kept_begins is_ascii_hexdigit low_hexdigit (c == 60) cs ∙ b) (d (c == 60))

  kept_steps : Steps Backtick (λ cs us. (l : Bool) → string_value Backtick (spared false l cs) ≡ Some us) (λ cs us. string_value Backtick (lead cs ++ spared true false cs) ≡ Some us) (λ count n cs us. (l : Bool) → hex_value Backtick count n (spared false l cs) ≡ Some us) (λ cs us. begins_with 123 cs ≡ true → (l : Bool) → code_point_value Backtick (spared false l cs) ≡ Some us) (λ n cs us. (l : Bool) → digits_value Backtick n (spared false l cs) ≡ Some us)
  unfolding raw_text_after
  kept_steps =
      let r = reads Backtick in
      record {
        nothing = λ l. r.nothing;
        bare = kept_bare;
        backslash = λ cs us e l. ap (string_value Backtick) (spared_backslash l cs) ∙ e;
        two_ends = kept_two_ends;
        line_end = kept_line_end;
        two_digits = λ cs us h. behind_low 120 cs us (no_escape 120 refl) refl (r.two_digits (spared false false cs) us (h false));
        opening = λ cs us b p. behind_low 117 cs us (no_escape 117 refl) refl (r.opening (spared false false cs) us (kept_begins (λ x. x == 123) low_brace false cs ∙ b) (p b false));
        four = λ cs us b h. behind_low 117 cs us (no_escape 117 refl) refl (r.four (spared false false cs) us (kept_begins (λ x. x == 123) low_brace false cs ∙ b) (h false));
        nought = λ cs us b v. behind_low 48 cs (0 ∷ us) (no_escape 48 refl) refl (r.nought (spared false false cs) us (kept_begins is_ascii_digit low_digit false cs ∙ b) (v false));
        itself = kept_itself;
        last_digit = λ count n c cs us h k v. kept_digit c cs (λ x. hex_value Backtick count n x ≡ Some (encode_utf16 (n * 16 + digit_value c) ++ us)) h (r.last_digit count n c (spared false (c == 60) cs) us h k (v (c == 60)));
        digit = λ count n c cs us h k v. kept_digit c cs (λ x. hex_value Backtick count n x ≡ Some us) h (r.digit count n c (spared false (c == 60) cs) us h k (v (c == 60)));
        brace = kept_brace;
        closing = λ n cs us v l. subst (λ x. digits_value Backtick n x ≡ Some (encode_utf16 n ++ us)) (sym (spared_bare l 125 cs (no_escape 125 refl) refl (plain_tag l 125 cs refl))) (r.closing n (spared false false cs) us (v false));
        within = λ n c cs us k h m d. kept_digit c cs (λ x. digits_value Backtick n x ≡ Some us) h (r.within n c (spared false (c == 60) cs) us k h m (d (c == 60)));
      }

  -- ---- the whole

  pub spared_value : (raw us : List ℕ) → string_value Backtick raw ≡ Some us → string_value Backtick (spared false false raw) ≡ Some us
  spared_value raw us e = of_value Backtick _ _ _ _ _ kept_steps raw us e false

pub template_value : (minified ascii : Bool) (raw us : List ℕ) → string_value Backtick raw ≡ Some us → string_value Backtick (template_text false minified ascii raw) ≡ Some us
template_value minified ascii raw us e = spared_value (ascii && true) (minified && true) raw us e

-- and so does the text of one behind a tag
pub piece_value : (tagged minified ascii : Bool) (raw us : List ℕ) → string_value Backtick raw ≡ Some us → string_value Backtick (template_text tagged minified ascii raw) ≡ Some us
piece_value tagged minified ascii raw us e = spared_value (ascii && not tagged) (minified && not tagged) raw us e

-- ---- a part of a template stays one

-- a digit stands in a template for itself
record Digit (c : ℕ) : Type 0 where
  backslash : (c == 92) ≡ false
  line : (c == 13) ≡ false
  quote : (c == 96) ≡ false
  dollar : (c == 36) ≡ false

is_digit : (c : ℕ) → is_ascii_hexdigit c ≡ true → Digit c
is_digit c h =
    let s = not-true _ (hex_passes (λ n. not ((n == 92) || (n == 13) || (n == 96) || (n == 36))) refl c h) in
    let i = or_parts ((c == 92) || (c == 13) || (c == 96)) (c == 36) s in
    let j = or_parts ((c == 92) || (c == 13)) (c == 96) i.0 in
    let k = or_parts (c == 92) (c == 13) j.0 in
    record { backslash = k.0; line = k.1; quote = j.1; dollar = i.1 }

digit_raw : (c : ℕ) (r : List ℕ) → Digit c → is_raw (c ∷ r) ≡ is_raw r
digit_raw c r d = λ i. if d.backslash i then templates.is_escaped r else (not (d.line i) && (not (d.quote i) && (not (d.dollar i && begins_with 123 r) && is_raw r)))

number_raw : (n : ℕ) (r : List ℕ) → n < 16 → is_raw (upper_digit n ∷ r) ≡ is_raw r
number_raw n r h = digit_raw (upper_digit n) r (is_digit (upper_digit n) (upper_digits n h).is_digit)

four_raw : (u : ℕ) (r : List ℕ) → u < 0x1_0000 → is_raw (four_digits upper_digit u ++ r) ≡ is_raw r
four_raw u r h =
    let last : List ℕ = upper_digit (u % 16) ∷ r in
    let third : List ℕ = upper_digit (u / 16 % 16) ∷ last in
    number_raw (u / 4096) (upper_digit (u / 256 % 16) ∷ third) (omega arith) ∙ (number_raw (u / 256 % 16) third (omega arith) ∙ (number_raw (u / 16 % 16) last (omega arith) ∙ number_raw (u % 16) r (omega arith)))

leading_raw : (c : ℕ) (r : List ℕ) → 0x1_0000 ≤ c → c < 0x11_0000 → is_raw (leading_digits c ++ r) ≡ is_raw r
leading_raw c r k h = by (cases_lt c 0x10_0000)
  where
    by : (c < 0x10_0000) ⊎ (0x10_0000 ≤ c) → is_raw (leading_digits c ++ r) ≡ is_raw r
    by (inl l) = ap (λ b. is_raw (cond b (upper_digit (c / 65536) ∷ []) (codes "10") ++ r)) (lt-ltb c 0x10_0000 l) ∙ number_raw (c / 65536) r (omega arith)
    by (inr l) = ap (λ b. is_raw (cond b (upper_digit (c / 65536) ∷ []) (codes "10") ++ r)) (le-ltb c 0x10_0000 l)

append_assoc : (a b d : List ℕ) → (a ++ b) ++ d ≡ a ++ (b ++ d)
append_assoc [] b d = refl
append_assoc (x ∷ a) b d = ap (λ y. x ∷ y) (append_assoc a b d)

-- so does an escape
escape_raw : (c : ℕ) (r : List ℕ) → c < 0x11_0000 → is_raw (character_escape c ++ r) ≡ is_raw r
escape_raw c r h = by (cases_lt c 0x1_0000)
  where
    by : (c < 0x1_0000) ⊎ (0x1_0000 ≤ c) → is_raw (character_escape c ++ r) ≡ is_raw r
    by (inl k) = ap (λ b. is_raw (cond b (unit_escape upper_digit c) (code_point_escape c) ++ r)) (lt-ltb c 0x1_0000 k) ∙ four_raw c r k
    by (inr k) =
        ap (λ b. is_raw (cond b (unit_escape upper_digit c) (code_point_escape c) ++ r)) (le-ltb c 0x1_0000 k)
        ∙ (ap is_raw (append_assoc (leading_digits c) (four_digits upper_digit (c % 65536) ++ 125 ∷ []) r ∙ ap (λ x. leading_digits c ++ x) (append_assoc (four_digits upper_digit (c % 65536)) (125 ∷ []) r))
        ∙ (leading_raw c (four_digits upper_digit (c % 65536) ++ (125 ∷ r)) k h ∙ four_raw (c % 65536) (125 ∷ r) (omega arith)))

module _ (ascii drops : Bool) where
  -- what stands behind `$` and a backslash
  raw_dollar : (b : Bool) (c : ℕ) (cs : List ℕ) → (drops && begins_with_dollar (c ∷ cs)) ≡ b → not (c == 13) ≡ true → is_raw (spared ascii drops false (c == 60) cs) ≡ true → is_raw (cond b [] (92 ∷ []) ++ (c ∷ spared ascii drops false (c == 60) cs)) ≡ true
  raw_dollar true c cs e n r =
      let k = and_parts (c == 36) (not (begins_with 123 cs)) (and_parts drops (begins_with_dollar (c ∷ cs)) e).1 in
      let m : begins_with 123 (spared ascii drops false (c == 60) cs) ≡ false = kept_begins ascii drops (λ x. x == 123) low_brace (c == 60) cs ∙ not-true (begins_with 123 cs) k.1 in
      subst (λ x. is_raw (x ∷ spared ascii drops false (c == 60) cs) ≡ true) (sym (eqb-true c 36 k.0)) ((λ i. not (m i) && is_raw (spared ascii drops false (c == 60) cs)) ∙ r)
  raw_dollar false c cs e n r = and_from (not (c == 13)) (is_raw (spared ascii drops false (c == 60) cs)) n r

  raw_behind : (c : ℕ) (cs : List ℕ) → c < 0x11_0000 → not (c == 13) ≡ true → is_raw (spared ascii drops false (c == 60) cs) ≡ true → is_raw (lead ascii drops (c ∷ cs) ++ spared ascii drops true false (c ∷ cs)) ≡ true
  raw_behind c cs h n r = by (ascii && is_past_ascii c) refl
    where
      high : (b : Bool) → is_raw (cond b (92 ∷ 10 ∷ []) (character_escape c) ++ spared ascii drops false (c == 60) cs) ≡ true
      high true = r
      high false = escape_raw c (spared ascii drops false (c == 60) cs) h ∙ r

      by : (b : Bool) → (ascii && is_past_ascii c) ≡ b → is_raw (lead ascii drops (c ∷ cs) ++ spared ascii drops true false (c ∷ cs)) ≡ true
      by true p = (λ i. is_raw (cond (p i || (drops && begins_with_dollar (c ∷ cs))) [] (92 ∷ []) ++ spared_past ascii drops true false c cs p i)) ∙ high ((c == 0x2028) || (c == 0x2029))
      by false p = (λ i. is_raw (cond (p i || (drops && begins_with_dollar (c ∷ cs))) [] (92 ∷ []) ++ spared_behind ascii drops c cs p i)) ∙ raw_dollar (drops && begins_with_dollar (c ∷ cs)) c cs refl n r

  -- at a character, by what is known of the rest
  raw_step : (l : Bool) (c : ℕ) (cs : List ℕ) → c < 0x11_0000 → ((k : Bool) → is_raw cs ≡ true → is_raw (spared ascii drops false k cs) ≡ true) → (templates.is_escaped cs ≡ true → is_raw (lead ascii drops cs ++ spared ascii drops true false cs) ≡ true) → is_raw (c ∷ cs) ≡ true → is_raw (spared ascii drops false l (c ∷ cs)) ≡ true
  raw_step l c cs b f g h = by (ascii && is_past_ascii c) refl (c == 92) refl (ends_tag ascii drops l c cs) refl
    where
      rest : List ℕ
      rest = spared ascii drops false (c == 60) cs

      parts : (c == 92) ≡ false → (not (c == 13) ≡ true) × (not (c == 96) ≡ true) × (not ((c == 36) && begins_with 123 cs) ≡ true) × (is_raw cs ≡ true)
      parts n =
          let k = and_parts (not (c == 13)) _ (subst (λ x. (if x then templates.is_escaped cs else (not (c == 13) && (not (c == 96) && (not ((c == 36) && begins_with 123 cs) && is_raw cs)))) ≡ true) n h) in
          let m = and_parts (not (c == 96)) _ k.1 in
          let o = and_parts (not ((c == 36) && begins_with 123 cs)) (is_raw cs) m.1 in
          (k.0, m.0, o.0, o.1)

      tag : (d : ℕ) → (d == 47) ≡ true → is_raw rest ≡ true → is_raw (92 ∷ d ∷ rest) ≡ true
      tag d e r = subst (λ x. is_raw (92 ∷ x ∷ rest) ≡ true) (sym (eqb-true d 47 e)) r

      by : (p : Bool) → (ascii && is_past_ascii c) ≡ p → (n : Bool) → (c == 92) ≡ n → (t : Bool) → ends_tag ascii drops l c cs ≡ t → is_raw (spared ascii drops false l (c ∷ cs)) ≡ true
      by true p n k t e = ap is_raw (spared_past ascii drops false l c cs p) ∙ (escape_raw c rest b ∙ f (c == 60) (parts (past_apart c 92 (past ascii drops c p) (omega arith))).3)
      by false p true k t e = backslash c k h
        where
          backslash : (d : ℕ) → (d == 92) ≡ true → is_raw (d ∷ cs) ≡ true → is_raw (spared ascii drops false l (d ∷ cs)) ≡ true
          backslash d i j = subst (λ x. is_raw (x ∷ cs) ≡ true → is_raw (spared ascii drops false l (x ∷ cs)) ≡ true) (sym (eqb-true d 92 i)) (λ y. ap is_raw (spared_backslash ascii drops l cs) ∙ g y) j
      by false p false k true e = ap is_raw (spared_tag ascii drops l c cs p k e) ∙ tag c (tag_slash ascii drops l c cs e) (f (c == 60) (parts k).3)
      by false p false k false e =
          let o = parts k in
          ap is_raw (spared_bare ascii drops l c cs p k e)
          ∙ ((λ i. if k i then templates.is_escaped rest else (not (c == 13) && (not (c == 96) && (not ((c == 36) && kept_begins ascii drops (λ x. x == 123) low_brace (c == 60) cs i) && is_raw rest))))
          ∙ and_from (not (c == 13)) _ o.0 (and_from (not (c == 96)) _ o.1 (and_from (not ((c == 36) && begins_with 123 cs)) (is_raw rest) o.2 (f (c == 60) o.3))))

  mutual
    unfolding raw_text_after

    raw_spared : (l : Bool) (cs : List ℕ) → all_scalars cs ≡ true → is_raw cs ≡ true → is_raw (spared ascii drops false l cs) ≡ true
    raw_spared l [] s h = refl
    raw_spared l (c ∷ cs) s h = let k = and_parts (scalar c) (all_scalars cs) s in raw_step l c cs (scalar_below c k.0) (λ m x. raw_spared m cs k.1 x) (λ x. escaped_spared cs k.1 x) h

    escaped_spared : (cs : List ℕ) → all_scalars cs ≡ true → templates.is_escaped cs ≡ true → is_raw (lead ascii drops cs ++ spared ascii drops true false cs) ≡ true
    escaped_spared [] s h = absurd (both_ways false refl h)
    escaped_spared (c ∷ cs) s h = let k = and_parts (scalar c) (all_scalars cs) s in let m = and_parts (not (c == 13)) (is_raw cs) h in raw_behind c cs (scalar_below c k.0) m.0 (raw_spared (c == 60) cs k.1 m.1)

-- ---- the characters of what is printed

upper_scalar : (n : ℕ) → n < 16 → scalar (upper_digit n) ≡ true
upper_scalar n h = hex_scalar (upper_digit n) (upper_digits n h).is_digit

four_scalars : (u : ℕ) → u < 0x1_0000 → all_scalars (four_digits upper_digit u) ≡ true
four_scalars u h = and_from _ _ (upper_scalar (u / 4096) (omega arith)) (and_from _ _ (upper_scalar (u / 256 % 16) (omega arith)) (and_from _ _ (upper_scalar (u / 16 % 16) (omega arith)) (and_from _ true (upper_scalar (u % 16) (omega arith)) refl)))

escape_scalars : (c : ℕ) → c < 0x11_0000 → all_scalars (character_escape c) ≡ true
escape_scalars c h = by (cases_lt c 0x1_0000)
  where
    leading : 0x1_0000 ≤ c → (c < 0x10_0000) ⊎ (0x10_0000 ≤ c) → all_scalars (leading_digits c) ≡ true
    leading k (inl l) = ap (λ b. all_scalars (cond b (upper_digit (c / 65536) ∷ []) (codes "10"))) (lt-ltb c 0x10_0000 l) ∙ and_from _ true (upper_scalar (c / 65536) (omega arith)) refl
    leading k (inr l) = ap (λ b. all_scalars (cond b (upper_digit (c / 65536) ∷ []) (codes "10"))) (le-ltb c 0x10_0000 l)

    by : (c < 0x1_0000) ⊎ (0x1_0000 ≤ c) → all_scalars (character_escape c) ≡ true
    by (inl k) = ap (λ b. all_scalars (cond b (unit_escape upper_digit c) (code_point_escape c))) (lt-ltb c 0x1_0000 k) ∙ four_scalars c k
    by (inr k) = ap (λ b. all_scalars (cond b (unit_escape upper_digit c) (code_point_escape c))) (le-ltb c 0x1_0000 k) ∙ scalars_append (leading_digits c) _ (leading k (cases_lt c 0x10_0000)) (scalars_append (four_digits upper_digit (c % 65536)) (125 ∷ []) (four_scalars (c % 65536) (omega arith)) refl)

module _ (ascii drops : Bool) where
  character_scalars : (e l : Bool) (c : ℕ) (cs : List ℕ) → scalar c ≡ true → all_scalars (raw_character (changes ascii drops) e l c cs) ≡ true
  character_scalars e l c cs h = by (ascii && is_past_ascii c) (e && ((c == 0x2028) || (c == 0x2029))) ((c == 92) && not e && is_left_out (changes ascii drops) cs) (ends_tag ascii drops l c cs)
    where
      by : (p b n t : Bool) → all_scalars (if p then (if b then 92 ∷ 10 ∷ [] else character_escape c) else (if n then [] else (if t then 92 ∷ c ∷ [] else c ∷ []))) ≡ true
      by true true n t = refl
      by true false n t = escape_scalars c (scalar_below c h)
      by false b true t = refl
      by false b false true = and_from (scalar c) true h refl
      by false b false false = and_from (scalar c) true h refl

  scalars_spared : (e l : Bool) (cs : List ℕ) → all_scalars cs ≡ true → all_scalars (spared ascii drops e l cs) ≡ true
  unfolding raw_text_after
  scalars_spared e l [] s = refl
  scalars_spared e l (c ∷ cs) s =
      let k = and_parts (scalar c) (all_scalars cs) s in
      scalars_append (raw_character (changes ascii drops) e l c cs) _ (character_scalars e l c cs k.0) (scalars_spared ((c == 92) && not e) (c == 60) cs k.1)

pub template_is_part : (minified ascii : Bool) (raw : List ℕ) → all_scalars raw ≡ true → is_raw raw ≡ true → is_part (template_text false minified ascii raw) ≡ true
template_is_part minified ascii raw s h = and_from (all_scalars (template_text false minified ascii raw)) (is_raw (template_text false minified ascii raw)) (scalars_spared (ascii && true) (minified && true) false false raw s) (raw_spared (ascii && true) (minified && true) false raw s h)

pub piece_is_part : (tagged minified ascii : Bool) (raw : List ℕ) → all_scalars raw ≡ true → is_raw raw ≡ true → is_part (template_text tagged minified ascii raw) ≡ true
piece_is_part tagged minified ascii raw s h =
    let t : List ℕ = template_text tagged minified ascii raw in
    and_from (all_scalars t) (is_raw t) (scalars_spared (ascii && not tagged) (minified && not tagged) false false raw s) (raw_spared (ascii && not tagged) (minified && not tagged) false raw s h)

-- ---- behind a tag

-- of a text that ends no script nothing is changed
abbrev only_tags : Raw
only_tags = record { mode = modes.TemplateRaw; ascii = false; drops_backslash = false; frees_tags = true }

close_tag_slash : (cs : List ℕ) → begins_close_tag (60 ∷ 47 ∷ cs) ≡ begins_script cs
close_tag_slash cs = refl

untagged : (l : Bool) (c : ℕ) (cs : List ℕ) → holds_close_tag (if l then 60 ∷ c ∷ cs else c ∷ cs) ≡ false → (l && (c == 47) && begins_script cs) ≡ false
unfolding holds_close_tag
untagged false c cs h = refl
untagged true c cs h = by (c == 47) refl
  where
    by : (b : Bool) → (c == 47) ≡ b → (b && begins_script cs) ≡ false
    by true e = subst (λ x. begins_close_tag (60 ∷ x ∷ cs) ≡ false) (eqb-true c 47 e) (or_parts (begins_close_tag (60 ∷ c ∷ cs)) (holds_close_tag (c ∷ cs)) h).0
    by false e = refl

onward : (l : Bool) (c : ℕ) (cs : List ℕ) → holds_close_tag (if l then 60 ∷ c ∷ cs else c ∷ cs) ≡ false → holds_close_tag (if c == 60 then 60 ∷ cs else cs) ≡ false
unfolding holds_close_tag
onward l c cs h = by (c == 60) refl
  where
    whole : (l : Bool) → holds_close_tag (if l then 60 ∷ c ∷ cs else c ∷ cs) ≡ false → holds_close_tag (c ∷ cs) ≡ false
    whole true k = (or_parts (begins_close_tag (60 ∷ c ∷ cs)) (holds_close_tag (c ∷ cs)) k).1
    whole false k = k

    by : (b : Bool) → (c == 60) ≡ b → holds_close_tag (if b then 60 ∷ cs else cs) ≡ false
    by true e = subst (λ x. holds_close_tag (x ∷ cs) ≡ false) (eqb-true c 60 e) (whole l h)
    by false e = (or_parts (begins_close_tag (c ∷ cs)) (holds_close_tag cs) (whole l h)).1

kept_after : (e l : Bool) (cs : List ℕ) → holds_close_tag (if l then 60 ∷ cs else cs) ≡ false → raw_text_after only_tags e l cs ≡ cs
unfolding raw_text_after
kept_after e l [] h = refl
kept_after e l (c ∷ cs) h =
    let t = untagged l c cs h in
    (λ i. (if both_false ((c == 92) && not e) i then [] else (if t i then 92 ∷ c ∷ [] else c ∷ [])) ++ raw_text_after only_tags ((c == 92) && not e) (c == 60) cs)
    ∙ ap (λ x. c ∷ x) (kept_after ((c == 92) && not e) (c == 60) cs (onward l c cs h))

pub tagged_text : (minified ascii : Bool) (raw : List ℕ) → holds_close_tag raw ≡ false → template_text true minified ascii raw ≡ raw
tagged_text minified ascii raw h = (λ i. raw_text (record { mode = modes.TemplateRaw; ascii = both_false ascii i; drops_backslash = both_false minified i; frees_tags = true }) raw) ∙ kept_after false false raw h
