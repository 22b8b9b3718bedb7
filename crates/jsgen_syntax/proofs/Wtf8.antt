-- WTF-8 keeps the units that it is made of.
use Rattle.std.proofs.Common.{◌≡◌, ℕ, zero, suc, ◌+◌, ◌-◌, ◌*◌, ◌/◌, ◌%◌, ◌≤◌, ◌<◌, Bool, true, false, not, cond, nat_lt, nat_le, ◌&&◌, ◌||◌, ◌⊎◌, inl, inr, Some, None, is_some, List, [], ◌∷◌, ◌++◌, flat_map, length, get_or, refl, sym, ap, ap₂, ◌∙◌, append-nil, arith}
use Rattle.std.specs.List.{list_all, list_any}
use Rattle.std.specs.Str.{IsUtf8, chars, chars_after, continuation_len, lead_bits}
use Rattle.std.specs.Char.Escape.{encode_utf16}
use Rattle.std.specs.Char.Utf16.{utf16_chars, lone_unit_char, is_high_surrogate, is_low_surrogate, surrogate_pair_char}
use lib.Utf8.{scalar, scalars, encode, encodes, scalar_cases}
use Rattle.std.proofs.lemmas.Bool.{both_ways, and_parts, and_from, or_parts, cases_lt, lt-ltb, le-ltb, le-leb, lt-leb, ltb-true, leb-true, false_from_ne_true}
use Rattle.std.proofs.lemmas.Str.{chars-nil, encodes-chars, scalars-chars}
use Rattle.jsgen_syntax.specs.Strings.{begins}
use Rattle.jsgen_syntax.specs.Wtf8.{is_unit, are_units, joined_units, is_surrogate, has_lone, wtf8_units}

-- ---- the bytes of one code point

pub encode_one : (c : ℕ) → c < 0x80 → encode c ≡ c ∷ []
unfolding encode
encode_one c h = rw (lt-ltb c 0x80 h) refl

pub encode_two : (c : ℕ) → 0x80 ≤ c → c < 0x800 → encode c ≡ (192 + c / 64) ∷ (128 + c % 64) ∷ []
unfolding encode
encode_two c h l = rw (le-ltb c 0x80 h, lt-ltb c 0x800 l) refl

pub encode_three : (c : ℕ) → 0x800 ≤ c → c < 0x1_0000 → encode c ≡ (224 + c / 4096) ∷ (128 + c / 64 % 64) ∷ (128 + c % 64) ∷ []
unfolding encode
encode_three c h l = let k : 0x80 ≤ c = omega arith in rw (le-ltb c 0x80 k, le-ltb c 0x800 h, lt-ltb c 0x1_0000 l) refl

pub encode_four : (c : ℕ) → 0x1_0000 ≤ c → encode c ≡ (240 + c / 262144) ∷ (128 + c / 4096 % 64) ∷ (128 + c / 64 % 64) ∷ (128 + c % 64) ∷ []
unfolding encode
encode_four c h = let k : 0x80 ≤ c = omega arith in let l : 0x800 ≤ c = omega arith in rw (le-ltb c 0x80 k, le-ltb c 0x800 l, le-ltb c 0x1_0000 h) refl

whole : (c : ℕ) (bs : List ℕ) → chars_after zero c bs ≡ c ∷ chars bs
unfolding chars
whole c [] = refl
whole c (b ∷ bs) = refl

led : (a n v : ℕ) (bs : List ℕ) → n ≡ continuation_len a → v ≡ lead_bits a → chars (a ∷ bs) ≡ chars_after n v bs
unfolding chars
led a n v bs p q = ap₂ (λ m w. chars_after m w bs) (sym p) (sym q)

reads_one : (c : ℕ) (rest : List ℕ) → c < 128 → chars (c ∷ rest) ≡ c ∷ chars rest
reads_one c rest h = led c zero c rest (grind arith) (grind arith) ∙ whole c rest

reads_two : (a b c : ℕ) (rest : List ℕ) → 192 ≤ a → a < 224 → (a - 192) * 64 + (b - 128) ≡ c → chars (a ∷ b ∷ rest) ≡ c ∷ chars rest
reads_two a b c rest h l e = led a (suc zero) (a - 192) (b ∷ rest) (grind arith) (grind arith) ∙ whole _ rest ∙ ap (λ x. x ∷ chars rest) e

reads_three : (a b d c : ℕ) (rest : List ℕ) → 224 ≤ a → a < 240 → ((a - 224) * 64 + (b - 128)) * 64 + (d - 128) ≡ c → chars (a ∷ b ∷ d ∷ rest) ≡ c ∷ chars rest
reads_three a b d c rest h l e = led a (suc (suc zero)) (a - 224) (b ∷ d ∷ rest) (grind arith) (grind arith) ∙ whole _ rest ∙ ap (λ x. x ∷ chars rest) e

reads_four : (a b d f c : ℕ) (rest : List ℕ) → 240 ≤ a → (((a - 240) * 64 + (b - 128)) * 64 + (d - 128)) * 64 + (f - 128) ≡ c → chars (a ∷ b ∷ d ∷ f ∷ rest) ≡ c ∷ chars rest
reads_four a b d f c rest h e = led a (suc (suc (suc zero))) (a - 240) (b ∷ d ∷ f ∷ rest) (grind arith) (grind arith) ∙ whole _ rest ∙ ap (λ x. x ∷ chars rest) e

reads : (c : ℕ) (rest : List ℕ) → chars (encode c ++ rest) ≡ c ∷ chars rest
reads c rest = by (cases_lt c 0x80) (cases_lt c 0x800) (cases_lt c 0x1_0000)
  where
    by : (c < 0x80) ⊎ (0x80 ≤ c) → (c < 0x800) ⊎ (0x800 ≤ c) → (c < 0x1_0000) ⊎ (0x1_0000 ≤ c) → chars (encode c ++ rest) ≡ c ∷ chars rest
    by (inl h) k m = ap (λ x. chars (x ++ rest)) (encode_one c h) ∙ reads_one c rest h
    by (inr h) (inl l) m = ap (λ x. chars (x ++ rest)) (encode_two c h l) ∙ reads_two _ _ c rest (omega arith) (omega arith) (omega arith)
    by (inr h) (inr l) (inl m) = ap (λ x. chars (x ++ rest)) (encode_three c l m) ∙ reads_three _ _ _ c rest (omega arith) (omega arith) (omega arith)
    by (inr h) (inr l) (inr m) = ap (λ x. chars (x ++ rest)) (encode_four c m) ∙ reads_four _ _ _ _ c rest (omega arith) (omega arith)

-- the code points come back, surrogates too
pub chars_encodes : (cs : List ℕ) → chars (encodes cs) ≡ cs
chars_encodes [] = chars-nil
chars_encodes (c ∷ cs) = reads c (encodes cs) ∙ ap (λ l. c ∷ l) (chars_encodes cs)

-- ---- the code points of units

abbrev pub is_pair : ℕ → ℕ → Bool
is_pair u v = is_high_surrogate u && is_low_surrogate v

-- what a pair of surrogates is, as facts
pub record Pair (u v : ℕ) : Type 0 where
  pub high_from : 0xD800 ≤ u
  pub high_below : u < 0xDC00
  pub low_from : 0xDC00 ≤ v
  pub low_below : v < 0xE000

pub pair_facts : (u v : ℕ) → is_pair u v ≡ true → Pair u v
pair_facts u v h =
    let both = and_parts (is_high_surrogate u) (is_low_surrogate v) h in
    let a = and_parts (nat_le 0xD800 u) (nat_lt u 0xDC00) both.0 in
    let b = and_parts (nat_le 0xDC00 v) (nat_lt v 0xE000) both.1 in
    record { high_from = leb-true 0xD800 u a.0; high_below = ltb-true u 0xDC00 a.1; low_from = leb-true 0xDC00 v b.0; low_below = ltb-true v 0xE000 b.1 }

pub joined_pair : (u v : ℕ) (us : List ℕ) → is_pair u v ≡ true → joined_units (u ∷ v ∷ us) ≡ surrogate_pair_char u v ∷ joined_units us
unfolding joined_units
joined_pair u v us h = ap (λ b. cond b (surrogate_pair_char u v ∷ joined_units us) (u ∷ joined_units (v ∷ us))) h

pub joined_single : (u : ℕ) (us : List ℕ) → (is_high_surrogate u && begins is_low_surrogate us) ≡ false → joined_units (u ∷ us) ≡ u ∷ joined_units us
unfolding joined_units
joined_single u [] h = refl
joined_single u (v ∷ us) h = ap (λ b. cond b (surrogate_pair_char u v ∷ joined_units us) (u ∷ joined_units (v ∷ us))) h

none_lone : (u : ℕ) → not (is_some (lone_unit_char u)) ≡ is_surrogate u
none_lone u = by (is_surrogate u)
  where
    by : (b : Bool) → not (is_some (cond b None (Some u))) ≡ b
    by true = refl
    by false = refl

pub lone_pair : (u v : ℕ) (us : List ℕ) → is_pair u v ≡ true → has_lone (u ∷ v ∷ us) ≡ has_lone us
unfolding utf16_chars
lone_pair u v us h = ap (λ b. list_any (λ o. not (is_some o)) (cond b (Some (surrogate_pair_char u v) ∷ utf16_chars us) (lone_unit_char u ∷ utf16_chars (v ∷ us)))) h

pub lone_single : (u : ℕ) (us : List ℕ) → (is_high_surrogate u && begins is_low_surrogate us) ≡ false → has_lone (u ∷ us) ≡ (is_surrogate u || has_lone us)
unfolding utf16_chars
lone_single u [] h = ap (λ b. b || false) (none_lone u)
lone_single u (v ∷ us) h =
    ap (λ b. list_any (λ o. not (is_some o)) (cond b (Some (surrogate_pair_char u v) ∷ utf16_chars us) (lone_unit_char u ∷ utf16_chars (v ∷ us)))) h
    ∙ ap (λ b. b || has_lone (v ∷ us)) (none_lone u)

pub one_unit : (c : ℕ) → c < 0x1_0000 → encode_utf16 c ≡ c ∷ []
one_unit c h = rw (lt-ltb c 0x1_0000 h) refl

pub two_units : (c : ℕ) → 0x1_0000 ≤ c → encode_utf16 c ≡ (0xD800 + (c - 0x1_0000) / 0x400) ∷ (0xDC00 + (c - 0x1_0000) % 0x400) ∷ []
two_units c h = rw (le-ltb c 0x1_0000 h) refl

pair_units : (u v : ℕ) → Pair u v → encode_utf16 (surrogate_pair_char u v) ≡ u ∷ v ∷ []
pair_units u v p =
    two_units (surrogate_pair_char u v) (omega arith) ∙ ap₂ (λ x y. x ∷ y ∷ []) (omega arith) (omega arith)

-- the units come back
pub units_joined : (us : List ℕ) → are_units us ≡ true → flat_map encode_utf16 (joined_units us) ≡ us
unfolding joined_units
units_joined [] h = refl
units_joined (u ∷ []) h = ap (λ l. l ++ []) (one_unit u (ltb-true u 0x1_0000 (and_parts (is_unit u) true h).0))
units_joined (u ∷ v ∷ us) h =
    by (is_pair u v) refl (units_joined us (and_parts (is_unit v) (are_units us) k.1).1) (units_joined (v ∷ us) k.1)
  where
    k : (is_unit u ≡ true) × (are_units (v ∷ us) ≡ true)
    k = and_parts (is_unit u) (are_units (v ∷ us)) h

    by : (b : Bool) → is_pair u v ≡ b → flat_map encode_utf16 (joined_units us) ≡ us → flat_map encode_utf16 (joined_units (v ∷ us)) ≡ v ∷ us → flat_map encode_utf16 (joined_units (u ∷ v ∷ us)) ≡ u ∷ v ∷ us
    by true e f g = ap (flat_map encode_utf16) (joined_pair u v us e) ∙ ap₂ (λ x y. x ++ y) (pair_units u v (pair_facts u v e)) f
    by false e f g = ap (flat_map encode_utf16) (joined_single u (v ∷ us) e) ∙ ap₂ (λ x y. x ++ y) (one_unit u (ltb-true u 0x1_0000 k.0)) g

-- what is kept of units is these units
pub wtf8_units_kept : (us : List ℕ) → are_units us ≡ true → wtf8_units (encodes (joined_units us)) ≡ us
wtf8_units_kept us h = ap (flat_map encode_utf16) (chars_encodes (joined_units us)) ∙ units_joined us h

-- ---- what a step over one code point does

pub no_surrogate : (c : ℕ) → (c < 0xD800) ⊎ (0xE000 ≤ c) → is_surrogate c ≡ false
no_surrogate c (inl h) = ap (λ b. b && nat_lt c 0xE000) (lt-leb 0xD800 c h)
no_surrogate c (inr h) = ap₂ (λ a b. a && b) (le-leb 0xD800 c (omega arith)) (le-ltb c 0xE000 h)

pub step_pair : (u v : ℕ) (behind us : List ℕ) → behind ≡ v ∷ us → is_pair u v ≡ true → (joined_units (u ∷ behind) ≡ surrogate_pair_char u v ∷ joined_units us) × (has_lone (u ∷ behind) ≡ (is_surrogate (surrogate_pair_char u v) || has_lone us))
step_pair u v behind us e h =
    let p = pair_facts u v h in
    let n : is_surrogate (surrogate_pair_char u v) ≡ false = no_surrogate (surrogate_pair_char u v) (inr (omega arith)) in
    (ap (λ l. joined_units (u ∷ l)) e ∙ joined_pair u v us h, ap (λ l. has_lone (u ∷ l)) e ∙ (lone_pair u v us h ∙ ap (λ b. b || has_lone us) (sym n)))

both_false : (b : Bool) → (b && false) ≡ false
both_false true = refl
both_false false = refl

pub step_last : (u : ℕ) (behind : List ℕ) → length behind ≡ 0 → (joined_units (u ∷ behind) ≡ u ∷ joined_units behind) × (has_lone (u ∷ behind) ≡ (is_surrogate u || has_lone behind))
step_last u [] e = (joined_single u [] (both_false (is_high_surrogate u)), lone_single u [] (both_false (is_high_surrogate u)))
step_last u (v ∷ us) e = absurd (omega arith)

pub step_single : (u v : ℕ) (behind us : List ℕ) → behind ≡ v ∷ us → is_pair u v ≡ false → (joined_units (u ∷ behind) ≡ u ∷ joined_units behind) × (has_lone (u ∷ behind) ≡ (is_surrogate u || has_lone behind))
step_single u v behind us e h =
    let k : (is_high_surrogate u && begins is_low_surrogate behind) ≡ false = ap (λ l. is_high_surrogate u && begins is_low_surrogate l) e ∙ h in
    (joined_single u behind k, lone_single u behind k)

-- units of 16 bits
pub are_units_fit : (us : List ℕ) → ((i : ℕ) → get_or us i 0 < 0x1_0000) → are_units us ≡ true
are_units_fit [] h = refl
are_units_fit (u ∷ us) h = and_from (is_unit u) (are_units us) (lt-ltb u 0x1_0000 (h 0)) (are_units_fit us (λ i. h (suc i)))

-- ---- a text has no surrogate

pub scalar_below : (c : ℕ) → scalar c ≡ true → c < 0x11_0000
scalar_below c h = by (scalar_cases c h)
  where
    by : (c < 0xD800) ⊎ ((0xE000 ≤ c) × (c < 0x11_0000)) → c < 0x11_0000
    by (inl l) = omega arith
    by (inr g) = g.1

scalar_apart : (c : ℕ) → scalar c ≡ true → is_surrogate c ≡ false
scalar_apart c h = by (scalar_cases c h)
  where
    by : (c < 0xD800) ⊎ ((0xE000 ≤ c) × (c < 0x11_0000)) → is_surrogate c ≡ false
    by (inl l) = no_surrogate c (inl l)
    by (inr g) = no_surrogate c (inr g.0)

high_is_surrogate : (u : ℕ) → is_surrogate u ≡ false → is_high_surrogate u ≡ false
high_is_surrogate u h = false_from_ne_true (is_high_surrogate u) (λ e.
    let a = and_parts (nat_le 0xD800 u) (nat_lt u 0xDC00) e in
    let low : u < 0xDC00 = ltb-true u 0xDC00 a.1 in
    both_ways (is_surrogate u) h (and_from (nat_le 0xD800 u) (nat_lt u 0xE000) a.0 (lt-ltb u 0xE000 (omega arith))))

-- the units of one character, before others
pub record OneCode (c : ℕ) (us : List ℕ) : Type 0 where
  pub units : are_units (encode_utf16 c ++ us) ≡ are_units us
  pub joined : joined_units (encode_utf16 c ++ us) ≡ c ∷ joined_units us
  pub lone : has_lone (encode_utf16 c ++ us) ≡ has_lone us

one_code : (c : ℕ) (us : List ℕ) → scalar c ≡ true → OneCode c us
one_code c us h = by (cases_lt c 0x1_0000)
  where
    n : is_surrogate c ≡ false
    n = scalar_apart c h

    low : c < 0x1_0000 → OneCode c us
    low l =
        let e = one_unit c l in
        let k : (is_high_surrogate c && begins is_low_surrogate us) ≡ false = ap (λ b. b && begins is_low_surrogate us) (high_is_surrogate c n) in
        record {
          units = ap (λ x. are_units (x ++ us)) e ∙ ap (λ b. b && are_units us) (lt-ltb c 0x1_0000 l);
          joined = ap (λ x. joined_units (x ++ us)) e ∙ joined_single c us k;
          lone = ap (λ x. has_lone (x ++ us)) e ∙ (lone_single c us k ∙ ap (λ b. b || has_lone us) n);
        }

    pair : (u v : ℕ) → Pair u v → encode_utf16 c ≡ u ∷ v ∷ [] → surrogate_pair_char u v ≡ c → OneCode c us
    pair u v p e k =
        let high : is_high_surrogate u ≡ true = and_from (nat_le 0xD800 u) (nat_lt u 0xDC00) (le-leb 0xD800 u p.high_from) (lt-ltb u 0xDC00 p.high_below) in
        let lows : is_low_surrogate v ≡ true = and_from (nat_le 0xDC00 v) (nat_lt v 0xE000) (le-leb 0xDC00 v p.low_from) (lt-ltb v 0xE000 p.low_below) in
        let is = and_from (is_high_surrogate u) (is_low_surrogate v) high lows in
        record {
          units = ap (λ x. are_units (x ++ us)) e ∙ ap₂ (λ a b. a && (b && are_units us)) (lt-ltb u 0x1_0000 (omega arith)) (lt-ltb v 0x1_0000 (omega arith));
          joined = ap (λ x. joined_units (x ++ us)) e ∙ (joined_pair u v us is ∙ ap (λ x. x ∷ joined_units us) k);
          lone = ap (λ x. has_lone (x ++ us)) e ∙ lone_pair u v us is;
        }

    by : (c < 0x1_0000) ⊎ (0x1_0000 ≤ c) → OneCode c us
    by (inl l) = low l
    by (inr l) =
        let b = scalar_below c h in
        pair (0xD800 + (c - 0x1_0000) / 0x400) (0xDC00 + (c - 0x1_0000) % 0x400) (record { high_from = omega arith; high_below = omega arith; low_from = omega arith; low_below = omega arith }) (two_units c l) (omega arith)

pub record OfText (cs : List ℕ) : Type 0 where
  pub units : are_units (flat_map encode_utf16 cs) ≡ true
  pub joined : joined_units (flat_map encode_utf16 cs) ≡ cs
  pub lone : has_lone (flat_map encode_utf16 cs) ≡ false

pub of_text : (cs : List ℕ) → scalars cs ≡ true → OfText cs
unfolding joined_units utf16_chars
of_text [] h = record { units = refl; joined = refl; lone = refl }
of_text (c ∷ cs) h =
    let k = and_parts (scalar c) (scalars cs) h in
    let one = one_code c (flat_map encode_utf16 cs) k.0 in
    let rest = of_text cs k.1 in
    record { units = one.units ∙ rest.units; joined = one.joined ∙ ap (λ l. c ∷ l) rest.joined; lone = one.lone ∙ rest.lone }

-- ---- without a lone surrogate the code points are a text

pub scalar_from : (c : ℕ) → c < 0x11_0000 → is_surrogate c ≡ false → scalar c ≡ true
scalar_from c l h = grind arith

pub scalars_joined : (us : List ℕ) → are_units us ≡ true → has_lone us ≡ false → scalars (joined_units us) ≡ true
unfolding joined_units utf16_chars
scalars_joined [] h n = refl
scalars_joined (u ∷ []) h n =
    let a = lone_single u [] (both_false (is_high_surrogate u)) in
    let s = or_parts (is_surrogate u) false (sym a ∙ n) in
    and_from (scalar u) true (scalar_from u (let l = ltb-true u 0x1_0000 (and_parts (is_unit u) true h).0 in omega arith) s.0) refl
scalars_joined (u ∷ v ∷ us) h n =
    by (is_pair u v) refl (scalars_joined us (and_parts (is_unit v) (are_units us) k.1).1) (scalars_joined (v ∷ us) k.1)
  where
    k : (is_unit u ≡ true) × (are_units (v ∷ us) ≡ true)
    k = and_parts (is_unit u) (are_units (v ∷ us)) h

    by : (b : Bool) → is_pair u v ≡ b → (has_lone us ≡ false → scalars (joined_units us) ≡ true) → (has_lone (v ∷ us) ≡ false → scalars (joined_units (v ∷ us)) ≡ true) → scalars (joined_units (u ∷ v ∷ us)) ≡ true
    by true e f g =
        let p = pair_facts u v e in
        let l : 0xE000 ≤ surrogate_pair_char u v = omega arith in
        ap scalars (joined_pair u v us e) ∙ and_from (scalar (surrogate_pair_char u v)) (scalars (joined_units us)) (scalar_from (surrogate_pair_char u v) (omega arith) (no_surrogate (surrogate_pair_char u v) (inr l))) (f (sym (lone_pair u v us e) ∙ n))
    by false e f g =
        let s = or_parts (is_surrogate u) (has_lone (v ∷ us)) (sym (lone_single u (v ∷ us) e) ∙ n) in
        let l = ltb-true u 0x1_0000 k.0 in
        ap scalars (joined_single u (v ∷ us) e) ∙ and_from (scalar u) (scalars (joined_units (v ∷ us))) (scalar_from u (omega arith) s.0) (g s.1)

-- the code points of units are at most U+10FFFF
abbrev pub is_point : ℕ → Bool
is_point c = nat_lt c 0x11_0000

pub joined_points : (us : List ℕ) → are_units us ≡ true → list_all is_point (joined_units us) ≡ true
unfolding joined_units
joined_points [] h = refl
joined_points (u ∷ []) h = and_from (is_point u) true (let l = ltb-true u 0x1_0000 (and_parts (is_unit u) true h).0 in lt-ltb u 0x11_0000 (omega arith)) refl
joined_points (u ∷ v ∷ us) h =
    by (is_pair u v) refl (joined_points us (and_parts (is_unit v) (are_units us) k.1).1) (joined_points (v ∷ us) k.1)
  where
    k : (is_unit u ≡ true) × (are_units (v ∷ us) ≡ true)
    k = and_parts (is_unit u) (are_units (v ∷ us)) h

    by : (b : Bool) → is_pair u v ≡ b → list_all is_point (joined_units us) ≡ true → list_all is_point (joined_units (v ∷ us)) ≡ true → list_all is_point (joined_units (u ∷ v ∷ us)) ≡ true
    by true e f g =
        let p = pair_facts u v e in
        ap (list_all is_point) (joined_pair u v us e) ∙ and_from (is_point (surrogate_pair_char u v)) (list_all is_point (joined_units us)) (lt-ltb (surrogate_pair_char u v) 0x11_0000 (omega arith)) f
    by false e f g =
        let l = ltb-true u 0x1_0000 k.0 in
        ap (list_all is_point) (joined_single u (v ∷ us) e) ∙ and_from (is_point u) (list_all is_point (joined_units (v ∷ us))) (lt-ltb u 0x11_0000 (omega arith)) g

-- ---- what a string keeps of its units

pub record Kept (bytes : List ℕ) (lone : Bool) (us : List ℕ) : Type 0 where
  pub is : wtf8_units bytes ≡ us
  pub units : are_units (wtf8_units bytes) ≡ true
  pub joined : encodes (joined_units (wtf8_units bytes)) ≡ bytes
  pub exact : has_lone (wtf8_units bytes) ≡ lone

kept : (us bytes : List ℕ) (lone : Bool) → are_units us ≡ true → bytes ≡ encodes (joined_units us) → has_lone us ≡ lone → Kept bytes lone us
kept us bytes lone h e l =
    let is : wtf8_units bytes ≡ us = ap wtf8_units e ∙ wtf8_units_kept us h in
    record { is = is; units = ap are_units is ∙ h; joined = ap (λ x. encodes (joined_units x)) is ∙ sym e; exact = ap has_lone is ∙ l }

pub kept_units : (us bytes rest : List ℕ) (lone : Bool) → ((i : ℕ) → get_or us i 0 < 0x1_0000) → length rest ≡ 0 → bytes ++ encodes (joined_units rest) ≡ encodes (joined_units us) → (lone || has_lone rest) ≡ has_lone us → Kept bytes lone us
unfolding joined_units utf16_chars
kept_units us bytes [] lone h z e l = kept us bytes lone (are_units_fit us h) (sym (append-nil bytes) ∙ e) (sym l ∙ or_no lone)
  where
    or_no : (b : Bool) → (b || false) ≡ b
    or_no true = refl
    or_no false = refl
kept_units us bytes (u ∷ rest) lone h z e l = absurd (omega arith)

pub kept_text : (bytes text : List ℕ) → bytes ≡ text → IsUtf8 text → Kept bytes false (flat_map encode_utf16 (chars text))
kept_text bytes text e u =
    let t = of_text (chars text) (scalars-chars text u) in
    kept (flat_map encode_utf16 (chars text)) bytes false t.units (e ∙ sym (ap encodes t.joined ∙ encodes-chars text u)) t.lone

-- without a lone surrogate the bytes are a text
pub kept_utf8 : (bytes us : List ℕ) → are_units us ≡ true → has_lone us ≡ false → encodes (joined_units us) ≡ bytes → IsUtf8 bytes
kept_utf8 bytes us h n e = (joined_units us, (scalars_joined us h n, e))
