-- Escapes by number are read as the numbers that they were made of, and so a name that is printed with escapes stands for itself.
use Rattle.std.proofs.Common.{◌≡◌, ℕ, ◌+◌, ◌-◌, ◌*◌, ◌/◌, ◌%◌, ◌≤◌, ◌<◌, Bool, true, false, not, cond, nat_le, ◌&&◌, ◌||◌, ◌==◌, ◌⊎◌, inl, inr, Option, Some, None, List, [], ◌∷◌, ◌++◌, codes, refl, ap, if◌then◌else◌, ◌∙◌, arith}
use Rattle.std.specs.Char.{is_ascii_hexdigit, digit_value}
use Rattle.std.specs.Int.{is_in_range}
use Rattle.std.specs.List.{list_all}
use Rattle.std.proofs.lemmas.Bool.{both_ways, and_parts, and_from, not-true, lt-ltb, le-ltb, le-leb, eqb-true, cases_lt, leb-true, or_cases, agree_below, agree_below_at}
use Rattle.jsgen_syntax.specs.Name.{continues_name, spells_name}
use Rattle.jsgen_syntax.specs.Escapes.{begins, begins_with, upper_digit, lower_digit, four_digits, unit_escape, leading_digits, code_point_escape, character_escape, is_past_ascii, name_character, name_text, before_others, word_value, word_escape, word_hex, word_code_point, word_digits}
use Rattle.jsgen_syntax.proofs.Names.{all_continue, continues_scalar, continues_no_backslash}
use Rattle.jsgen_syntax.proofs.Wtf8.{scalar_below}

-- ---- digits

-- d is a digit of the value v
pub record Hex (d v : ℕ) : Type 0 where
  pub is_digit : is_ascii_hexdigit d ≡ true
  pub value : (digit_value d == v) ≡ true
  pub no_opening : (d == 123) ≡ false
  pub no_closing : (d == 125) ≡ false

abbrev pub Digits : (ℕ → ℕ) → Type 0
Digits digit = (v : ℕ) → v < 16 → Hex (digit v) v

pub upper_digits : Digits upper_digit
upper_digits v h = record {
  is_digit = agree_below_at (λ n. is_ascii_hexdigit (upper_digit n)) (λ n. true) 16 v refl h;
  value = agree_below_at (λ n. digit_value (upper_digit n) == n) (λ n. true) 16 v refl h;
  no_opening = agree_below_at (λ n. upper_digit n == 123) (λ n. false) 16 v refl h;
  no_closing = agree_below_at (λ n. upper_digit n == 125) (λ n. false) 16 v refl h;
}

pub lower_digits : Digits lower_digit
lower_digits v h = record {
  is_digit = agree_below_at (λ n. is_ascii_hexdigit (lower_digit n)) (λ n. true) 16 v refl h;
  value = agree_below_at (λ n. digit_value (lower_digit n) == n) (λ n. true) 16 v refl h;
  no_opening = agree_below_at (λ n. lower_digit n == 123) (λ n. false) 16 v refl h;
  no_closing = agree_below_at (λ n. lower_digit n == 125) (λ n. false) 16 v refl h;
}

ranged : (lo hi c : ℕ) → is_in_range lo hi c ≡ true → c ≤ hi
ranged lo hi c h = leb-true c hi (and_parts (nat_le lo c) (nat_le c hi) h).1

hex_below : (c : ℕ) → is_ascii_hexdigit c ≡ true → c < 128
hex_below c h = outer (or_cases (is_in_range 48 57 c || is_in_range 65 70 c) (is_in_range 97 102 c) h)
  where
    inside : (is_in_range 48 57 c ≡ true) ⊎ (is_in_range 65 70 c ≡ true) → c < 128
    inside (inl e) = let k = ranged 48 57 c e in omega arith
    inside (inr e) = let k = ranged 65 70 c e in omega arith

    outer : ((is_in_range 48 57 c || is_in_range 65 70 c) ≡ true) ⊎ (is_in_range 97 102 c ≡ true) → c < 128
    outer (inl e) = inside (or_cases (is_in_range 48 57 c) (is_in_range 65 70 c) e)
    outer (inr e) = let k = ranged 97 102 c e in omega arith

-- a test that all digits below 128 pass
pub hex_passes : (f : ℕ → Bool) → agree_below (λ n. not (is_ascii_hexdigit n) || f n) (λ n. true) 128 ≡ true → (c : ℕ) → is_ascii_hexdigit c ≡ true → f c ≡ true
hex_passes f a c h = by (is_ascii_hexdigit c) (agree_below_at (λ n. not (is_ascii_hexdigit n) || f n) (λ n. true) 128 c a (hex_below c h)) h
  where
    by : (b : Bool) → (not b || f c) ≡ true → b ≡ true → f c ≡ true
    by true e k = e
    by false e k = absurd (both_ways false refl k)

-- ---- what reads an escape

-- A reader of what stands behind `\u`, where `found` goes on with the number: `\uHHHH`, and `\u{H..}` up to 0x10FFFF
pub record Reader (unit : List ℕ → Option (List ℕ)) (found : ℕ → List ℕ → Option (List ℕ)) : Type 0 where
  pub hex : ℕ → ℕ → List ℕ → Option (List ℕ)
  pub braces : List ℕ → Option (List ℕ)
  pub digits : ℕ → List ℕ → Option (List ℕ)
  pub unit_is : (cs : List ℕ) → unit cs ≡ (if begins_with 123 cs then braces cs else hex 4 0 cs)
  pub hex_is : (count n c : ℕ) (cs : List ℕ) → hex count n (c ∷ cs) ≡ (if not (is_ascii_hexdigit c) then None else (if count == 1 then found (n * 16 + digit_value c) cs else hex (count - 1) (n * 16 + digit_value c) cs))
  pub braces_is : (c : ℕ) (cs : List ℕ) → braces (c ∷ cs) ≡ (if begins is_ascii_hexdigit cs then digits 0 cs else None)
  pub digits_is : (n c : ℕ) (cs : List ℕ) → digits n (c ∷ cs) ≡ (if c == 125 then found n cs else (if is_ascii_hexdigit c && nat_le (n * 16 + digit_value c) 0x10FFFF then digits (n * 16 + digit_value c) cs else None))

module _ (unit : List ℕ → Option (List ℕ)) (found : ℕ → List ℕ → Option (List ℕ)) (r : Reader unit found) where
  -- one digit, with others to come, and the last one
  hex_step : (count n d v : ℕ) (cs : List ℕ) → Hex d v → r.hex count n (d ∷ cs) ≡ (if count == 1 then found (n * 16 + v) cs else r.hex (count - 1) (n * 16 + v) cs)
  hex_step count n d v cs h =
      r.hex_is count n d cs
      ∙ (ap (λ b. cond (not b) None (cond (count == 1) (found (n * 16 + digit_value d) cs) (r.hex (count - 1) (n * 16 + digit_value d) cs))) h.is_digit
      ∙ ap (λ x. cond (count == 1) (found (n * 16 + x) cs) (r.hex (count - 1) (n * 16 + x) cs)) (eqb-true (digit_value d) v h.value))

  four : (digit : ℕ → ℕ) → Digits digit → (n : ℕ) (cs : List ℕ) → n < 0x1_0000 → r.hex 4 0 (four_digits digit n ++ cs) ≡ found n cs
  four digit ds n cs h =
      hex_step 4 0 _ (n / 4096) _ (ds (n / 4096) (omega arith))
      ∙ (hex_step 3 _ _ (n / 256 % 16) _ (ds (n / 256 % 16) (omega arith))
      ∙ (hex_step 2 _ _ (n / 16 % 16) _ (ds (n / 16 % 16) (omega arith))
      ∙ (hex_step 1 _ _ (n % 16) cs (ds (n % 16) (omega arith))
      ∙ ap (λ x. found x cs) (omega arith))))

  pub unit_read : (digit : ℕ → ℕ) → Digits digit → (n : ℕ) (cs : List ℕ) → n < 0x1_0000 → unit (four_digits digit n ++ cs) ≡ found n cs
  unit_read digit ds n cs h =
      r.unit_is (four_digits digit n ++ cs)
      ∙ (ap (λ b. cond b (r.braces (four_digits digit n ++ cs)) (r.hex 4 0 (four_digits digit n ++ cs))) (ds (n / 4096) (omega arith)).no_opening ∙ four digit ds n cs h)

  digit_step : (n d v m : ℕ) (cs : List ℕ) → Hex d v → n * 16 + v ≡ m → m ≤ 0x10FFFF → r.digits n (d ∷ cs) ≡ r.digits m cs
  digit_step n d v m cs h e l =
      let w : digit_value d ≡ v = eqb-true (digit_value d) v h.value in
      let small : nat_le (n * 16 + digit_value d) 0x10FFFF ≡ true = le-leb (n * 16 + digit_value d) 0x10FFFF (omega arith) in
      r.digits_is n d cs
      ∙ (ap (λ b. cond b (found n cs) (cond (is_ascii_hexdigit d && nat_le (n * 16 + digit_value d) 0x10FFFF) (r.digits (n * 16 + digit_value d) cs) None)) h.no_closing
      ∙ (ap (λ b. cond b (r.digits (n * 16 + digit_value d) cs) None) (and_from (is_ascii_hexdigit d) _ h.is_digit small)
      ∙ ap (λ x. r.digits x cs) (ap (λ x. n * 16 + x) w ∙ e)))

  closing : (n : ℕ) (cs : List ℕ) → r.digits n (125 ∷ cs) ≡ found n cs
  closing n cs = r.digits_is n 125 cs

  -- the last four digits, and the brace behind them
  last_four : (c : ℕ) (cs : List ℕ) → 0x1_0000 ≤ c → c < 0x11_0000 → r.digits (c / 65536) (four_digits upper_digit (c % 65536) ++ 125 ∷ cs) ≡ found c cs
  last_four c cs h l =
      digit_step (c / 65536) _ (c % 65536 / 4096) (c / 4096) _ (upper_digits _ (omega arith)) (omega arith) (omega arith)
      ∙ (digit_step (c / 4096) _ (c % 65536 / 256 % 16) (c / 256) _ (upper_digits _ (omega arith)) (omega arith) (omega arith)
      ∙ (digit_step (c / 256) _ (c % 65536 / 16 % 16) (c / 16) _ (upper_digits _ (omega arith)) (omega arith) (omega arith)
      ∙ (digit_step (c / 16) _ (c % 65536 % 16) c (125 ∷ cs) (upper_digits _ (omega arith)) (omega arith) (omega arith)
      ∙ closing c cs)))

  -- past U+FFFF, behind the `\u`
  pub braces_read : (c : ℕ) (cs : List ℕ) → 0x1_0000 ≤ c → c < 0x11_0000 → unit (123 ∷ (leading_digits c ++ (four_digits upper_digit (c % 65536) ++ 125 ∷ [])) ++ cs) ≡ found c cs
  braces_read c cs h l = by (cases_lt c 0x10_0000)
    where
      by : (c < 0x10_0000) ⊎ (0x10_0000 ≤ c) → unit (123 ∷ (leading_digits c ++ (four_digits upper_digit (c % 65536) ++ 125 ∷ [])) ++ cs) ≡ found c cs
      by (inl k) =
          let top = upper_digits (c / 65536) (omega arith) in
          ap (λ x. unit (123 ∷ (cond x (upper_digit (c / 65536) ∷ []) (codes "10") ++ (four_digits upper_digit (c % 65536) ++ 125 ∷ [])) ++ cs)) (lt-ltb c 0x10_0000 k)
          ∙ (r.unit_is _
          ∙ (r.braces_is 123 _
          ∙ (ap (λ b. cond b (r.digits 0 (upper_digit (c / 65536) ∷ four_digits upper_digit (c % 65536) ++ 125 ∷ cs)) None) top.is_digit
          ∙ (digit_step 0 _ (c / 65536) (c / 65536) _ top (omega arith) (omega arith)
          ∙ last_four c cs h l))))
      by (inr k) =
          ap (λ x. unit (123 ∷ (cond x (upper_digit (c / 65536) ∷ []) (codes "10") ++ (four_digits upper_digit (c % 65536) ++ 125 ∷ [])) ++ cs)) (le-ltb c 0x10_0000 k)
          ∙ (r.unit_is _
          ∙ (r.braces_is 123 _
          ∙ (digit_step 0 49 1 1 _ (upper_digits 1 (omega arith)) refl (omega arith)
          ∙ (digit_step 1 48 0 (c / 65536) _ (upper_digits 0 (omega arith)) (omega arith) (omega arith)
          ∙ last_four c cs h l))))

-- ---- names

word_reader : Reader (λ cs. word_escape (117 ∷ cs)) (λ n cs. before_others n (word_value cs))
unfolding word_value
word_reader = record {
  hex = word_hex;
  braces = word_code_point;
  digits = word_digits;
  unit_is = λ cs. refl;
  hex_is = λ count n c cs. refl;
  braces_is = λ c cs. refl;
  digits_is = λ n c cs. refl;
}

-- `found` of the reader behind a `\u` goes on with the character of an escape
pub character_read : (text : List ℕ → Option (List ℕ)) (unit : List ℕ → Option (List ℕ)) (found : ℕ → List ℕ → Option (List ℕ)) → Reader unit found → ((cs : List ℕ) → text (92 ∷ 117 ∷ cs) ≡ unit cs) → (c : ℕ) (cs : List ℕ) → c < 0x11_0000 → text (character_escape c ++ cs) ≡ found c cs
character_read text unit found r e c cs l = by (cases_lt c 0x1_0000)
  where
    by : (c < 0x1_0000) ⊎ (0x1_0000 ≤ c) → text (character_escape c ++ cs) ≡ found c cs
    by (inl k) =
        ap (λ b. text (cond b (unit_escape upper_digit c) (code_point_escape c) ++ cs)) (lt-ltb c 0x1_0000 k)
        ∙ (e (four_digits upper_digit c ++ cs) ∙ unit_read unit found r upper_digit upper_digits c cs k)
    by (inr k) =
        ap (λ b. text (cond b (unit_escape upper_digit c) (code_point_escape c) ++ cs)) (le-ltb c 0x1_0000 k)
        ∙ (e (123 ∷ (leading_digits c ++ (four_digits upper_digit (c % 65536) ++ 125 ∷ [])) ++ cs) ∙ braces_read unit found r c cs k l)

word_bare : (c : ℕ) (cs : List ℕ) → not (c == 92) ≡ true → word_value (c ∷ cs) ≡ before_others c (word_value cs)
unfolding word_value
word_bare c cs h = ap (λ b. cond b (word_escape cs) (before_others c (word_value cs))) (not-true (c == 92) h)

word_behind : (cs : List ℕ) → word_value (92 ∷ 117 ∷ cs) ≡ word_escape (117 ∷ cs)
unfolding word_value
word_behind cs = refl

word_end : word_value [] ≡ Some []
unfolding word_value
word_end = refl

word_character : (ascii : Bool) (c : ℕ) (cs : List ℕ) → continues_name c ≡ true → word_value (name_character ascii c ++ cs) ≡ before_others c (word_value cs)
word_character ascii c cs h = by (ascii && is_past_ascii c)
  where
    by : (b : Bool) → word_value (cond b (character_escape c) (c ∷ []) ++ cs) ≡ before_others c (word_value cs)
    by true = character_read word_value _ _ word_reader word_behind c cs (scalar_below c (continues_scalar c h))
    by false = word_bare c cs (continues_no_backslash c h)

word_characters : (ascii : Bool) (w : List ℕ) → list_all continues_name w ≡ true → word_value (name_text ascii w) ≡ Some w
word_characters ascii [] h = word_end
word_characters ascii (c ∷ w) h =
    let k = and_parts (continues_name c) (list_all continues_name w) h in
    word_character ascii c (name_text ascii w) k.0 ∙ ap (before_others c) (word_characters ascii w k.1)

-- a name that is printed stands for itself
pub word_text_value : (ascii : Bool) (w : List ℕ) → spells_name w ≡ true → word_value (name_text ascii w) ≡ Some w
word_text_value ascii w h = word_characters ascii w (all_continue w h)
