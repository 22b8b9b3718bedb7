-- Characters of ASCII are their own bytes, and escapes are of ASCII.
use Rattle.std.proofs.Common.{◌≡◌, ℕ, ◌+◌, ◌-◌, ◌/◌, ◌%◌, ◌≤◌, ◌<◌, true, cond, nat_lt, ◌⊎◌, inl, inr, List, codes, get_or, [], ◌∷◌, ◌++◌, flat_map, refl, sym, ap, ap₂, ◌∙◌, arith}
use Rattle.std.specs.Char.Escape.{encode_utf16}
use Rattle.std.specs.Str.{IsUtf8}
use lib.Utf8.{encodes, scalar, scalars, low_scalar}
use Rattle.std.proofs.lemmas.Bool.{and_parts, and_from, cases_lt, lt-ltb, le-ltb, ltb-true, agree_below_at}
use Rattle.jsgen_syntax.specs.Escapes.{upper_digit, lower_digit, four_digits, unit_escape, leading_digits, code_point_escape, character_escape}
use Rattle.jsgen_syntax.proofs.Wtf8.{encode_one, one_unit, two_units}
use Rattle.jsgen_strings.specs.Points.{are_ascii}

pub encodes_ascii : (cs : List ℕ) → are_ascii cs ≡ true → encodes cs ≡ cs
encodes_ascii [] h = refl
encodes_ascii (c ∷ cs) h =
    let k = and_parts (nat_lt c 128) (are_ascii cs) h in
    ap₂ (λ x y. x ++ y) (encode_one c (ltb-true c 128 k.0)) (encodes_ascii cs k.1)

scalars_ascii : (cs : List ℕ) → are_ascii cs ≡ true → scalars cs ≡ true
scalars_ascii [] h = refl
scalars_ascii (c ∷ cs) h =
    let k = and_parts (nat_lt c 128) (are_ascii cs) h in
    let l = ltb-true c 128 k.0 in
    and_from (scalar c) (scalars cs) (low_scalar c (omega arith)) (scalars_ascii cs k.1)

pub utf8_ascii : (cs : List ℕ) → are_ascii cs ≡ true → IsUtf8 cs
utf8_ascii cs h = (cs, (scalars_ascii cs h, encodes_ascii cs h))

pub ascii_append : (xs ys : List ℕ) → are_ascii xs ≡ true → are_ascii ys ≡ true → are_ascii (xs ++ ys) ≡ true
ascii_append [] ys h k = k
ascii_append (x ∷ xs) ys h k = let a = and_parts (nat_lt x 128) (are_ascii xs) h in and_from (nat_lt x 128) (are_ascii (xs ++ ys)) a.0 (ascii_append xs ys a.1 k)

-- ---- escapes

abbrev AsciiDigits : (ℕ → ℕ) → Type 0
AsciiDigits digit = (v : ℕ) → v < 16 → nat_lt (digit v) 128 ≡ true

pub upper_ascii : AsciiDigits upper_digit
upper_ascii v h = agree_below_at (λ n. nat_lt (upper_digit n) 128) (λ n. true) 16 v refl h

pub lower_ascii : AsciiDigits lower_digit
lower_ascii v h = agree_below_at (λ n. nat_lt (lower_digit n) 128) (λ n. true) 16 v refl h

pub four_ascii : (digit : ℕ → ℕ) → AsciiDigits digit → (n : ℕ) → n < 0x1_0000 → are_ascii (four_digits digit n) ≡ true
four_ascii digit d n h =
    and_from (nat_lt (digit (n / 4096)) 128) _ (d (n / 4096) (omega arith))
    (and_from (nat_lt (digit (n / 256 % 16)) 128) _ (d (n / 256 % 16) (omega arith))
    (and_from (nat_lt (digit (n / 16 % 16)) 128) _ (d (n / 16 % 16) (omega arith))
    (and_from (nat_lt (digit (n % 16)) 128) true (d (n % 16) (omega arith)) refl)))

pub unit_ascii : (digit : ℕ → ℕ) → AsciiDigits digit → (n : ℕ) → n < 0x1_0000 → are_ascii (unit_escape digit n) ≡ true
unit_ascii digit d n h = four_ascii digit d n h

brace_ascii : (c : ℕ) → are_ascii (code_point_escape c) ≡ true
brace_ascii c = ascii_append (leading_digits c) (four_digits upper_digit (c % 65536) ++ 125 ∷ []) (by (cases_lt c 0x10_0000)) (ascii_append (four_digits upper_digit (c % 65536)) (125 ∷ []) (four_ascii upper_digit upper_ascii (c % 65536) (omega arith)) refl)
  where
    by : (c < 0x10_0000) ⊎ (0x10_0000 ≤ c) → are_ascii (leading_digits c) ≡ true
    by (inl k) = ap (λ b. are_ascii (cond b (upper_digit (c / 65536) ∷ []) (codes "10"))) (lt-ltb c 0x10_0000 k) ∙ and_from (nat_lt (upper_digit (c / 65536)) 128) true (upper_ascii (c / 65536) (omega arith)) refl
    by (inr k) = ap (λ b. are_ascii (cond b (upper_digit (c / 65536) ∷ []) (codes "10"))) (le-ltb c 0x10_0000 k)

pub character_ascii : (c : ℕ) → are_ascii (character_escape c) ≡ true
character_ascii c = by (cases_lt c 0x1_0000)
  where
    by : (c < 0x1_0000) ⊎ (0x1_0000 ≤ c) → are_ascii (character_escape c) ≡ true
    by (inl k) = ap (λ b. are_ascii (cond b (unit_escape upper_digit c) (code_point_escape c))) (lt-ltb c 0x1_0000 k) ∙ unit_ascii upper_digit upper_ascii c k
    by (inr k) = ap (λ b. are_ascii (cond b (unit_escape upper_digit c) (code_point_escape c))) (le-ltb c 0x1_0000 k) ∙ brace_ascii c

-- of a code point, by its units
pub units_ascii : (c : ℕ) → c < 0x11_0000 → are_ascii (flat_map (unit_escape upper_digit) (encode_utf16 c)) ≡ true
units_ascii c l = by (cases_lt c 0x1_0000)
  where
    one : (u : ℕ) → u < 0x1_0000 → (us : List ℕ) → are_ascii (flat_map (unit_escape upper_digit) us) ≡ true → are_ascii (flat_map (unit_escape upper_digit) (u ∷ us)) ≡ true
    one u h us e = ascii_append (unit_escape upper_digit u) (flat_map (unit_escape upper_digit) us) (unit_ascii upper_digit upper_ascii u h) e

    two : (u v : ℕ) → u < 0x1_0000 → v < 0x1_0000 → are_ascii (flat_map (unit_escape upper_digit) (u ∷ v ∷ [])) ≡ true
    two u v h k = one u h (v ∷ []) (one v k [] refl)

    by : (c < 0x1_0000) ⊎ (0x1_0000 ≤ c) → are_ascii (flat_map (unit_escape upper_digit) (encode_utf16 c)) ≡ true
    by (inl k) = ap (λ us. are_ascii (flat_map (unit_escape upper_digit) us)) (one_unit c k) ∙ one c k [] refl
    by (inr k) = ap (λ us. are_ascii (flat_map (unit_escape upper_digit) us)) (two_units c k) ∙ two (0xD800 + (c - 0x1_0000) / 0x400) (0xDC00 + (c - 0x1_0000) % 0x400) (omega arith) (omega arith)

-- ---- the bytes of escapes, of which the digits were computed before

abbrev four_of : List ℕ → List ℕ → List ℕ
four_of ds rest = get_or ds 0 0 ∷ get_or ds 1 0 ∷ get_or ds 2 0 ∷ get_or ds 3 0 ∷ rest

pub small_bytes : (ds : List ℕ) (c : ℕ) → c < 0x1_0000 → ds ≡ four_digits upper_digit (c % 0x1_0000) → 92 ∷ 117 ∷ four_of ds [] ≡ encodes (character_escape c)
small_bytes ds c l e =
    let k : c % 0x1_0000 ≡ c = omega arith in
    ap (λ x. 92 ∷ 117 ∷ four_of x []) (e ∙ ap (four_digits upper_digit) k)
    ∙ (sym (ap (λ b. cond b (unit_escape upper_digit c) (code_point_escape c)) (lt-ltb c 0x1_0000 l))
    ∙ sym (encodes_ascii (character_escape c) (character_ascii c)))

brace_bytes : (ds front : List ℕ) (c : ℕ) → 0x1_0000 ≤ c → c < 0x11_0000 → ds ≡ four_digits upper_digit (c % 0x1_0000) → front ≡ leading_digits c → 92 ∷ 117 ∷ 123 ∷ (front ++ four_of ds (125 ∷ [])) ≡ encodes (character_escape c)
brace_bytes ds front c h l e f =
    ap₂ (λ x y. 92 ∷ 117 ∷ 123 ∷ (x ++ four_of y (125 ∷ []))) f e
    ∙ (sym (ap (λ b. cond b (unit_escape upper_digit c) (code_point_escape c)) (le-ltb c 0x1_0000 h))
    ∙ sym (encodes_ascii (character_escape c) (character_ascii c)))

pub large_bytes : (ds : List ℕ) (d c : ℕ) → 0x1_0000 ≤ c → c < 0x10_0000 → ds ≡ four_digits upper_digit (c % 0x1_0000) → d ≡ upper_digit (c / 0x1_0000) → 92 ∷ 117 ∷ 123 ∷ d ∷ four_of ds (125 ∷ []) ≡ encodes (character_escape c)
large_bytes ds d c h l e f = brace_bytes ds (d ∷ []) c h (omega arith) e (ap (λ x. x ∷ []) f ∙ sym (ap (λ b. cond b (upper_digit (c / 65536) ∷ []) (codes "10")) (lt-ltb c 0x10_0000 l)))

pub largest_bytes : (ds : List ℕ) (c : ℕ) → 0x10_0000 ≤ c → c < 0x11_0000 → ds ≡ four_digits upper_digit (c % 0x1_0000) → 92 ∷ 117 ∷ 123 ∷ 49 ∷ 48 ∷ four_of ds (125 ∷ []) ≡ encodes (character_escape c)
largest_bytes ds c h l e = brace_bytes ds (49 ∷ 48 ∷ []) c (omega arith) l e (sym (ap (λ b. cond b (upper_digit (c / 65536) ∷ []) (codes "10")) (le-ltb c 0x10_0000 h)))

pub unit_bytes : (ds : List ℕ) (c : ℕ) → c < 0x1_0000 → ds ≡ four_digits upper_digit c → 92 ∷ 117 ∷ four_of ds [] ≡ encodes (flat_map (unit_escape upper_digit) (encode_utf16 c))
unit_bytes ds c l e =
    ap (λ x. 92 ∷ 117 ∷ four_of x []) e
    ∙ (sym (ap (flat_map (unit_escape upper_digit)) (one_unit c l))
    ∙ sym (encodes_ascii (flat_map (unit_escape upper_digit) (encode_utf16 c)) (units_ascii c (omega (arith, l)))))

pub pair_bytes : (ds es : List ℕ) (c : ℕ) → 0x1_0000 ≤ c → c < 0x11_0000 → ds ≡ four_digits upper_digit (0xD800 + (c - 0x1_0000) / 0x400) → es ≡ four_digits upper_digit (0xDC00 + (c - 0x1_0000) % 0x400) → 92 ∷ 117 ∷ four_of ds (92 ∷ 117 ∷ four_of es []) ≡ encodes (flat_map (unit_escape upper_digit) (encode_utf16 c))
pair_bytes ds es c h l e f =
    ap₂ (λ x y. 92 ∷ 117 ∷ four_of x (92 ∷ 117 ∷ four_of y [])) e f
    ∙ (sym (ap (flat_map (unit_escape upper_digit)) (two_units c h))
    ∙ sym (encodes_ascii (flat_map (unit_escape upper_digit) (encode_utf16 c)) (units_ascii c l)))
