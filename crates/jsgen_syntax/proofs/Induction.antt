-- What holds of each spelling of a string, by the steps in which it is read.
use Rattle.std.proofs.Common.{◌≡◌, ℕ, ◌+◌, ◌-◌, ◌*◌, ◌<◌, Bool, true, false, not, cond, nat_le, ◌&&◌, ◌||◌, ◌==◌, ◌⊎◌, inl, inr, Option, Some, None, List, [], ◌∷◌, ◌++◌, refl, sym, ap, ◌∙◌, if◌then◌else◌, subst}
use Rattle.std.specs.Char.{is_ascii_digit, is_ascii_hexdigit, digit_value}
use Rattle.std.specs.Char.Escape.{encode_utf16}
use lib.Utf8.{scalar}
use Rattle.std.proofs.lemmas.Bool.{and_parts, and_from, and_left, or_parts, not-true, not-false, eqb-true}
use Rattle.jsgen_syntax.specs.declared.quote.Quote.{Quote}
use Rattle.jsgen_syntax.specs.Escapes.{unit_escape, four_digits, character_escape}
use Rattle.jsgen_syntax.proofs.Escapes.{Reader, Digits, character_read, unit_read}
use Rattle.jsgen_syntax.specs.Strings.{begins, begins_with, ends_line, and_then, stands_bare, bare_units, escape_units, string_value, escape_value, hex_value, code_point_value, digits_value}

-- ---- which way a test goes

abbrev pub Way : {X : Type 0} → Bool → X → X → X → Type 0
Way b x y z = ((b ≡ true) × (x ≡ z)) ⊎ ((b ≡ false) × (y ≡ z))

pub way : {X : Type 0} (b : Bool) (x y z : X) → cond b x y ≡ z → Way b x y z
way true x y z e = inl (refl, e)
way false x y z e = inr (refl, e)

pub none_gives : (us : List ℕ) → None ≡ Some us → ⊥
none_gives us e = cc

-- what stands behind the units has a value of its own
behind_gives : (units us : List ℕ) (o : Option (List ℕ)) → and_then units o ≡ Some us → (vs : List ℕ) × (o ≡ Some vs) × (units ++ vs ≡ us)
behind_gives units us None e = absurd (none_gives us e)
behind_gives units us (Some vs) e = (vs, refl, cc)

-- a character that is no digit, no `x`, no `u` and no line end, so that a backslash before it gives its own units
pub record Plain (c : ℕ) : Type 0 where
  pub no_line : ends_line c ≡ false
  pub no_x : (c == 120) ≡ false
  pub no_u : (c == 117) ≡ false
  pub no_digit : is_ascii_digit c ≡ false
  pub is_scalar : scalar c ≡ true

-- Facts of a text and its units, for a text between quotes (V), behind a backslash (E), before the last digits of `\xHH` or `\uHHHH` (H), before the `{` of `\u{H..}` (P), and within its braces (D): each follows from the fact of what stands behind the first character
pub record Steps (q : Quote) (V E : List ℕ → List ℕ → Type 0) (H : ℕ → ℕ → List ℕ → List ℕ → Type 0) (P : List ℕ → List ℕ → Type 0) (D : ℕ → List ℕ → List ℕ → Type 0) : Type 0 where
  pub nothing : V [] []
  pub bare : (c : ℕ) (cs us : List ℕ) → (c == 92) ≡ false → stands_bare q c cs ≡ true → V cs us → V (c ∷ cs) (bare_units c cs ++ us)
  pub backslash : (cs us : List ℕ) → E cs us → V (92 ∷ cs) us
  pub two_ends : (cs us : List ℕ) → begins_with 10 cs ≡ true → E cs us → E (13 ∷ cs) us
  pub line_end : (c : ℕ) (cs us : List ℕ) → ((c == 13) && begins_with 10 cs) ≡ false → ends_line c ≡ true → V cs us → E (c ∷ cs) us
  pub two_digits : (cs us : List ℕ) → H 2 0 cs us → E (120 ∷ cs) us
  pub opening : (cs us : List ℕ) → begins_with 123 cs ≡ true → P cs us → E (117 ∷ cs) us
  pub four : (cs us : List ℕ) → begins_with 123 cs ≡ false → H 4 0 cs us → E (117 ∷ cs) us
  pub nought : (cs us : List ℕ) → begins is_ascii_digit cs ≡ false → V cs us → E (48 ∷ cs) (0 ∷ us)
  pub itself : (c : ℕ) (cs us : List ℕ) → Plain c → V cs us → E (c ∷ cs) (escape_units c ++ us)
  pub last_digit : (count n c : ℕ) (cs us : List ℕ) → is_ascii_hexdigit c ≡ true → (count == 1) ≡ true → V cs us → H count n (c ∷ cs) (encode_utf16 (n * 16 + digit_value c) ++ us)
  pub digit : (count n c : ℕ) (cs us : List ℕ) → is_ascii_hexdigit c ≡ true → (count == 1) ≡ false → H (count - 1) (n * 16 + digit_value c) cs us → H count n (c ∷ cs) us
  pub brace : (c : ℕ) (cs us : List ℕ) → begins is_ascii_hexdigit cs ≡ true → D 0 cs us → P (c ∷ cs) us
  pub closing : (n : ℕ) (cs us : List ℕ) → V cs us → D n (125 ∷ cs) (encode_utf16 n ++ us)
  pub within : (n c : ℕ) (cs us : List ℕ) → (c == 125) ≡ false → is_ascii_hexdigit c ≡ true → nat_le (n * 16 + digit_value c) 0x10FFFF ≡ true → D (n * 16 + digit_value c) cs us → D n (c ∷ cs) us

module _ (q : Quote) (V E : List ℕ → List ℕ → Type 0) (H : ℕ → ℕ → List ℕ → List ℕ → Type 0) (P : List ℕ → List ℕ → Type 0) (D : ℕ → List ℕ → List ℕ → Type 0) where
  record Holds (text : List ℕ) : Type 0 where
    value : (us : List ℕ) → string_value q text ≡ Some us → V text us
    escape : (us : List ℕ) → escape_value q text ≡ Some us → E text us
    hex : (count n : ℕ) (us : List ℕ) → hex_value q count n text ≡ Some us → H count n text us
    point : (us : List ℕ) → code_point_value q text ≡ Some us → P text us
    digits : (n : ℕ) (us : List ℕ) → digits_value q n text ≡ Some us → D n text us

  -- what is known of the rest, and the units before it
  then_so : (units cs us : List ℕ) (X : List ℕ → Type 0) → ((vs : List ℕ) → string_value q cs ≡ Some vs → V cs vs) → ((vs : List ℕ) → V cs vs → X (units ++ vs)) → and_then units (string_value q cs) ≡ Some us → X us
  then_so units cs us X f g e = let k = behind_gives units us (string_value q cs) e in subst X k.2 (g k.0 (f k.0 k.1))

  -- the steps at a text that begins so, by what is known of its rest
  module _ (s : Steps q V E H P D) (c : ℕ) (cs us : List ℕ) (f : Holds cs) where
    at : (X : ℕ → Type 0) (d : ℕ) → (c == d) ≡ true → X d → X c
    at X d e x = subst X (sym (eqb-true c d e)) x

    step_value : string_value q (c ∷ cs) ≡ Some us → V (c ∷ cs) us
    unfolding string_value
    step_value e = first (way (c == 92) _ _ (Some us) e)
      where
        bare : (c == 92) ≡ false → Way (stands_bare q c cs) (and_then (bare_units c cs) (string_value q cs)) None (Some us) → V (c ∷ cs) us
        bare n (inl k) = then_so (bare_units c cs) cs us (V (c ∷ cs)) f.value (λ vs v. s.bare c cs vs n k.0 v) k.1
        bare n (inr k) = absurd (none_gives us k.1)

        first : Way (c == 92) (escape_value q cs) (if stands_bare q c cs then and_then (bare_units c cs) (string_value q cs) else None) (Some us) → V (c ∷ cs) us
        first (inl k) = at (λ x. V (x ∷ cs) us) 92 k.0 (s.backslash cs us (f.escape us k.1))
        first (inr k) = bare k.0 (way (stands_bare q c cs) _ _ (Some us) k.1)

    step_hex : (count n : ℕ) → hex_value q count n (c ∷ cs) ≡ Some us → H count n (c ∷ cs) us
    unfolding string_value
    step_hex count n e = first (way (not (is_ascii_hexdigit c)) _ _ (Some us) e)
      where
        more : is_ascii_hexdigit c ≡ true → Way (count == 1) (and_then (encode_utf16 (n * 16 + digit_value c)) (string_value q cs)) (hex_value q (count - 1) (n * 16 + digit_value c) cs) (Some us) → H count n (c ∷ cs) us
        more h (inl k) = then_so (encode_utf16 (n * 16 + digit_value c)) cs us (H count n (c ∷ cs)) f.value (λ vs v. s.last_digit count n c cs vs h k.0 v) k.1
        more h (inr k) = s.digit count n c cs us h k.0 (f.hex _ _ us k.1)

        first : Way (not (is_ascii_hexdigit c)) None (if count == 1 then and_then (encode_utf16 (n * 16 + digit_value c)) (string_value q cs) else hex_value q (count - 1) (n * 16 + digit_value c) cs) (Some us) → H count n (c ∷ cs) us
        first (inl k) = absurd (none_gives us k.1)
        first (inr k) = more (not-false (is_ascii_hexdigit c) k.0) (way (count == 1) _ _ (Some us) k.1)

    step_point : code_point_value q (c ∷ cs) ≡ Some us → P (c ∷ cs) us
    unfolding string_value
    step_point e = first (way (begins is_ascii_hexdigit cs) _ _ (Some us) e)
      where
        first : Way (begins is_ascii_hexdigit cs) (digits_value q 0 cs) None (Some us) → P (c ∷ cs) us
        first (inl k) = s.brace c cs us k.0 (f.digits 0 us k.1)
        first (inr k) = absurd (none_gives us k.1)

    step_digits : (n : ℕ) → digits_value q n (c ∷ cs) ≡ Some us → D n (c ∷ cs) us
    unfolding string_value
    step_digits n e = first (way (c == 125) _ _ (Some us) e)
      where
        more : (c == 125) ≡ false → Way (is_ascii_hexdigit c && nat_le (n * 16 + digit_value c) 0x10FFFF) (digits_value q (n * 16 + digit_value c) cs) None (Some us) → D n (c ∷ cs) us
        more h (inl k) = let b = and_parts (is_ascii_hexdigit c) (nat_le (n * 16 + digit_value c) 0x10FFFF) k.0 in s.within n c cs us h b.0 b.1 (f.digits _ us k.1)
        more h (inr k) = absurd (none_gives us k.1)

        first : Way (c == 125) (and_then (encode_utf16 n) (string_value q cs)) (if is_ascii_hexdigit c && nat_le (n * 16 + digit_value c) 0x10FFFF then digits_value q (n * 16 + digit_value c) cs else None) (Some us) → D n (c ∷ cs) us
        first (inl k) = at (λ x. D n (x ∷ cs) us) 125 k.0 (then_so (encode_utf16 n) cs us (D n (125 ∷ cs)) f.value (λ vs v. s.closing n cs vs v) k.1)
        first (inr k) = more k.0 (way (is_ascii_hexdigit c && nat_le (n * 16 + digit_value c) 0x10FFFF) _ _ (Some us) k.1)

    -- behind a backslash, test by test from the last
    at_itself : ends_line c ≡ false → (c == 120) ≡ false → (c == 117) ≡ false → is_ascii_digit c ≡ false → Way (scalar c) (and_then (escape_units c) (string_value q cs)) None (Some us) → E (c ∷ cs) us
    at_itself l x u d (inl k) = then_so (escape_units c) cs us (E (c ∷ cs)) f.value (λ vs v. s.itself c cs vs (record { no_line = l; no_x = x; no_u = u; no_digit = d; is_scalar = k.0 }) v) k.1
    at_itself l x u d (inr k) = absurd (none_gives us k.1)

    at_nought : Way ((c == 48) && not (begins is_ascii_digit cs)) (and_then (0 ∷ []) (string_value q cs)) None (Some us) → E (c ∷ cs) us
    at_nought (inl k) =
        let b = and_parts (c == 48) (not (begins is_ascii_digit cs)) k.0 in
        at (λ x. E (x ∷ cs) us) 48 b.0 (then_so (0 ∷ []) cs us (E (48 ∷ cs)) f.value (λ vs v. s.nought cs vs (not-true (begins is_ascii_digit cs) b.1) v) k.1)
    at_nought (inr k) = absurd (none_gives us k.1)

    at_braces : (c == 117) ≡ true → Way (begins_with 123 cs) (code_point_value q cs) (hex_value q 4 0 cs) (Some us) → E (c ∷ cs) us
    at_braces u (inl k) = at (λ x. E (x ∷ cs) us) 117 u (s.opening cs us k.0 (f.point us k.1))
    at_braces u (inr k) = at (λ x. E (x ∷ cs) us) 117 u (s.four cs us k.0 (f.hex 4 0 us k.1))

    behind_digit : Option (List ℕ)
    behind_digit = if scalar c then and_then (escape_units c) (string_value q cs) else None

    behind_u : Option (List ℕ)
    behind_u = if is_ascii_digit c then (if (c == 48) && not (begins is_ascii_digit cs) then and_then (0 ∷ []) (string_value q cs) else None) else behind_digit

    behind_x : Option (List ℕ)
    behind_x = if c == 117 then (if begins_with 123 cs then code_point_value q cs else hex_value q 4 0 cs) else behind_u

    behind_line : Option (List ℕ)
    behind_line = if c == 120 then hex_value q 2 0 cs else behind_x

    step_escape : escape_value q (c ∷ cs) ≡ Some us → E (c ∷ cs) us
    unfolding string_value behind_digit behind_u behind_x behind_line
    step_escape e = first (way ((c == 13) && begins_with 10 cs) _ _ (Some us) e)
      where
        fifth : ends_line c ≡ false → (c == 120) ≡ false → (c == 117) ≡ false → Way (is_ascii_digit c) (if (c == 48) && not (begins is_ascii_digit cs) then and_then (0 ∷ []) (string_value q cs) else None) behind_digit (Some us) → E (c ∷ cs) us
        fifth l x u (inl k) = at_nought (way ((c == 48) && not (begins is_ascii_digit cs)) _ _ (Some us) k.1)
        fifth l x u (inr k) = at_itself l x u k.0 (way (scalar c) _ _ (Some us) k.1)

        fourth : ends_line c ≡ false → (c == 120) ≡ false → Way (c == 117) (if begins_with 123 cs then code_point_value q cs else hex_value q 4 0 cs) behind_u (Some us) → E (c ∷ cs) us
        fourth l x (inl k) = at_braces k.0 (way (begins_with 123 cs) _ _ (Some us) k.1)
        fourth l x (inr k) = fifth l x k.0 (way (is_ascii_digit c) _ _ (Some us) k.1)

        third : ends_line c ≡ false → Way (c == 120) (hex_value q 2 0 cs) behind_x (Some us) → E (c ∷ cs) us
        third l (inl k) = at (λ x. E (x ∷ cs) us) 120 k.0 (s.two_digits cs us (f.hex 2 0 us k.1))
        third l (inr k) = fourth l k.0 (way (c == 117) _ _ (Some us) k.1)

        second : ((c == 13) && begins_with 10 cs) ≡ false → Way (ends_line c) (string_value q cs) behind_line (Some us) → E (c ∷ cs) us
        second n (inl k) = s.line_end c cs us n k.0 (f.value us k.1)
        second n (inr k) = third k.0 (way (c == 120) _ _ (Some us) k.1)

        first : Way ((c == 13) && begins_with 10 cs) (escape_value q cs) (if ends_line c then string_value q cs else behind_line) (Some us) → E (c ∷ cs) us
        first (inl k) =
            let b = and_parts (c == 13) (begins_with 10 cs) k.0 in
            at (λ x. E (x ∷ cs) us) 13 b.0 (s.two_ends cs us b.1 (f.escape us k.1))
        first (inr k) = second k.0 (way (ends_line c) _ _ (Some us) k.1)

  holds : Steps q V E H P D → (text : List ℕ) → Holds text
  unfolding string_value
  holds s [] = record {
    value = λ us e. let k : [] ≡ us = cc in subst (V []) k s.nothing;
    escape = λ us e. absurd (none_gives us e);
    hex = λ count n us e. absurd (none_gives us e);
    point = λ us e. absurd (none_gives us e);
    digits = λ n us e. absurd (none_gives us e);
  }
  holds s (c ∷ cs) =
      let f = holds s cs in
      record {
        value = λ us e. step_value s c cs us f e;
        escape = λ us e. step_escape s c cs us f e;
        hex = λ count n us e. step_hex s c cs us f count n e;
        point = λ us e. step_point s c cs us f e;
        digits = λ n us e. step_digits s c cs us f n e;
      }

  -- what holds of a spelling and its value
  pub of_value : Steps q V E H P D → (text us : List ℕ) → string_value q text ≡ Some us → V text us
  of_value s text us e = (holds s text).value us e

-- ---- the readers go by these steps

module _ (q : Quote) where
  read_bare : (c : ℕ) (cs us : List ℕ) → (c == 92) ≡ false → stands_bare q c cs ≡ true → string_value q cs ≡ Some us → string_value q (c ∷ cs) ≡ Some (bare_units c cs ++ us)
  unfolding string_value
  read_bare c cs us n b e =
      ap (λ x. cond x (escape_value q cs) (cond (stands_bare q c cs) (and_then (bare_units c cs) (string_value q cs)) None)) n
      ∙ (ap (λ x. cond x (and_then (bare_units c cs) (string_value q cs)) None) b ∙ ap (and_then (bare_units c cs)) e)

  read_two_ends : (cs us : List ℕ) → begins_with 10 cs ≡ true → escape_value q cs ≡ Some us → escape_value q (13 ∷ cs) ≡ Some us
  unfolding string_value
  read_two_ends cs us b e = ap (λ x. cond x (escape_value q cs) (string_value q cs)) b ∙ e

  read_line_end : (c : ℕ) (cs us : List ℕ) → ((c == 13) && begins_with 10 cs) ≡ false → ends_line c ≡ true → string_value q cs ≡ Some us → escape_value q (c ∷ cs) ≡ Some us
  unfolding string_value
  read_line_end c cs us n l e = rw (n, l) e

  read_opening : (cs us : List ℕ) → begins_with 123 cs ≡ true → code_point_value q cs ≡ Some us → escape_value q (117 ∷ cs) ≡ Some us
  unfolding string_value
  read_opening cs us b e = ap (λ x. cond x (code_point_value q cs) (hex_value q 4 0 cs)) b ∙ e

  read_four_digits : (cs us : List ℕ) → begins_with 123 cs ≡ false → hex_value q 4 0 cs ≡ Some us → escape_value q (117 ∷ cs) ≡ Some us
  unfolding string_value
  read_four_digits cs us b e = ap (λ x. cond x (code_point_value q cs) (hex_value q 4 0 cs)) b ∙ e

  read_nought : (cs us : List ℕ) → begins is_ascii_digit cs ≡ false → string_value q cs ≡ Some us → escape_value q (48 ∷ cs) ≡ Some (0 ∷ us)
  unfolding string_value
  read_nought cs us b e = ap (λ x. cond (not x) (and_then (0 ∷ []) (string_value q cs)) None) b ∙ ap (and_then (0 ∷ [])) e

  read_itself : (c : ℕ) (cs us : List ℕ) → Plain c → string_value q cs ≡ Some us → escape_value q (c ∷ cs) ≡ Some (escape_units c ++ us)
  unfolding string_value
  read_itself c cs us p e =
      let n : (c == 13) ≡ false = (or_parts (c == 10) (c == 13) (or_parts ((c == 10) || (c == 13)) (c == 8232) (or_parts ((c == 10) || (c == 13) || (c == 8232)) (c == 8233) p.no_line).0).0).1 in
      let l = p.no_line in
      let x = p.no_x in
      let u = p.no_u in
      let d = p.no_digit in
      let s = p.is_scalar in
      rw (and_left (c == 13) (begins_with 10 cs) n, l, x, u, d, s) (ap (and_then (escape_units c)) e)

  read_last_digit : (count n c : ℕ) (cs us : List ℕ) → is_ascii_hexdigit c ≡ true → (count == 1) ≡ true → string_value q cs ≡ Some us → hex_value q count n (c ∷ cs) ≡ Some (encode_utf16 (n * 16 + digit_value c) ++ us)
  unfolding string_value
  read_last_digit count n c cs us h k e =
      ap (λ x. cond (not x) None (cond (count == 1) (and_then (encode_utf16 (n * 16 + digit_value c)) (string_value q cs)) (hex_value q (count - 1) (n * 16 + digit_value c) cs))) h
      ∙ (ap (λ x. cond x (and_then (encode_utf16 (n * 16 + digit_value c)) (string_value q cs)) (hex_value q (count - 1) (n * 16 + digit_value c) cs)) k
      ∙ ap (and_then (encode_utf16 (n * 16 + digit_value c))) e)

  read_digit : (count n c : ℕ) (cs us : List ℕ) → is_ascii_hexdigit c ≡ true → (count == 1) ≡ false → hex_value q (count - 1) (n * 16 + digit_value c) cs ≡ Some us → hex_value q count n (c ∷ cs) ≡ Some us
  unfolding string_value
  read_digit count n c cs us h k e =
      ap (λ x. cond (not x) None (cond (count == 1) (and_then (encode_utf16 (n * 16 + digit_value c)) (string_value q cs)) (hex_value q (count - 1) (n * 16 + digit_value c) cs))) h
      ∙ (ap (λ x. cond x (and_then (encode_utf16 (n * 16 + digit_value c)) (string_value q cs)) (hex_value q (count - 1) (n * 16 + digit_value c) cs)) k ∙ e)

  read_brace : (c : ℕ) (cs us : List ℕ) → begins is_ascii_hexdigit cs ≡ true → digits_value q 0 cs ≡ Some us → code_point_value q (c ∷ cs) ≡ Some us
  unfolding string_value
  read_brace c cs us b e = ap (λ x. cond x (digits_value q 0 cs) None) b ∙ e

  read_within : (n c : ℕ) (cs us : List ℕ) → (c == 125) ≡ false → is_ascii_hexdigit c ≡ true → nat_le (n * 16 + digit_value c) 0x10FFFF ≡ true → digits_value q (n * 16 + digit_value c) cs ≡ Some us → digits_value q n (c ∷ cs) ≡ Some us
  unfolding string_value
  read_within n c cs us k h l e =
      ap (λ x. cond x (and_then (encode_utf16 n) (string_value q cs)) (cond (is_ascii_hexdigit c && nat_le (n * 16 + digit_value c) 0x10FFFF) (digits_value q (n * 16 + digit_value c) cs) None)) k
      ∙ (ap (λ x. cond x (digits_value q (n * 16 + digit_value c) cs) None) (and_from (is_ascii_hexdigit c) _ h l) ∙ e)

  pub reads : Steps q (λ cs us. string_value q cs ≡ Some us) (λ cs us. escape_value q cs ≡ Some us) (λ count n cs us. hex_value q count n cs ≡ Some us) (λ cs us. code_point_value q cs ≡ Some us) (λ n cs us. digits_value q n cs ≡ Some us)
  unfolding string_value
  reads = record {
    nothing = refl;
    bare = read_bare;
    backslash = λ cs us e. e;
    two_ends = read_two_ends;
    line_end = read_line_end;
    two_digits = λ cs us e. e;
    opening = read_opening;
    four = read_four_digits;
    nought = read_nought;
    itself = read_itself;
    last_digit = read_last_digit;
    digit = read_digit;
    brace = read_brace;
    closing = λ n cs us e. ap (and_then (encode_utf16 n)) e;
    within = read_within;
  }

-- what stands behind `\u` in a string
string_reader : (q : Quote) → Reader (λ cs. escape_value q (117 ∷ cs)) (λ n cs. and_then (encode_utf16 n) (string_value q cs))
unfolding string_value
string_reader q = record {
  hex = hex_value q;
  braces = code_point_value q;
  digits = digits_value q;
  unit_is = λ cs. refl;
  hex_is = λ count n c cs. refl;
  braces_is = λ c cs. refl;
  digits_is = λ n c cs. refl;
}

reads_behind : (q : Quote) (cs : List ℕ) → string_value q (92 ∷ 117 ∷ cs) ≡ escape_value q (117 ∷ cs)
unfolding string_value
reads_behind q cs = refl

-- a character by its number
pub character_value : (q : Quote) (c : ℕ) (cs : List ℕ) → c < 0x11_0000 → string_value q (character_escape c ++ cs) ≡ and_then (encode_utf16 c) (string_value q cs)
character_value q c cs l = character_read (string_value q) _ _ (string_reader q) (reads_behind q) c cs l

-- a unit by its number
pub unit_value : (q : Quote) (digit : ℕ → ℕ) → Digits digit → (u : ℕ) (cs : List ℕ) → u < 0x1_0000 → string_value q (unit_escape digit u ++ cs) ≡ and_then (encode_utf16 u) (string_value q cs)
unit_value q digit ds u cs l = reads_behind q (four_digits digit u ++ cs) ∙ unit_read _ _ (string_reader q) digit ds u cs l
