-- What the bytes and the code points of a string tell of its units.
use Rattle.std.proofs.Common.{◌≡◌, ℕ, ◌+◌, ◌-◌, ◌/◌, ◌%◌, ◌≤◌, ◌<◌, Bool, true, false, nat_le, ◌&&◌, ◌||◌, ◌==◌, ◌⊎◌, inl, inr, List, [], ◌∷◌, ◌++◌, flat_map, if◌then◌else◌, refl, sym, ap, ap₂, ◌∙◌, subst, arith}
use Rattle.std.specs.List.{list_all}
use Rattle.std.specs.Char.Escape.{encode_utf16}
use lib.Utf8.{encode, encodes}
use Rattle.std.proofs.lemmas.Bool.{and_parts, and_from, cases_lt, le-leb, leb-true, ne_eqb, or_from}
use Rattle.jsgen_syntax.specs.declared.quote.Quote.{Quote}
use Rattle.jsgen_syntax.specs.declared.quote.Quote.TheVariants.{Single, Double, Backtick}
use Rattle.jsgen_syntax.specs.declared.js_str.JsStr.{JsStr}
use Rattle.jsgen_syntax.specs.Strings.{quote_char, is_backtick, begins_with, costs_more, quote_cost}
use Rattle.jsgen_syntax.specs.Wtf8.{are_units, joined_units}
use Rattle.jsgen_syntax.specs.Units.{js_units}
use Rattle.jsgen_syntax.proofs.Wtf8.{encode_one, encode_two, encode_three, encode_four, one_unit, two_units, units_joined}

-- the units of a string have 16 bits
pub js_units-are_units : (s : JsStr) → are_units (js_units s) ≡ true
js_units-are_units s = s.units

-- ---- what a quote costs is seen from the bytes

abbrev pub are_high : List ℕ → Bool
are_high xs = list_all (λ x. nat_le 128 x) xs

-- at least one, and none is ASCII
pub record High (xs : List ℕ) : Type 0 where
  pub head : ℕ
  pub tail : List ℕ
  pub is : xs ≡ head ∷ tail
  pub none : are_high (head ∷ tail) ≡ true

pub costs_none : (q : Quote) (x : ℕ) (rest : List ℕ) → 128 ≤ x → costs_more q x rest ≡ false
costs_none Single x rest h = or_from (x == 39) (x == 10) (ne_eqb x 39 (λ e. omega arith)) (ne_eqb x 10 (λ e. omega arith))
costs_none Double x rest h = or_from (x == 34) (x == 10) (ne_eqb x 34 (λ e. omega arith)) (ne_eqb x 10 (λ e. omega arith))
costs_none Backtick x rest h = or_from (x == 96) ((x == 36) && begins_with 123 rest) (ne_eqb x 96 (λ e. omega arith)) (ap (λ b. b && begins_with 123 rest) (ne_eqb x 36 (λ e. omega arith)))

high_cost : (q : Quote) (xs ys : List ℕ) → are_high xs ≡ true → quote_cost q (xs ++ ys) ≡ quote_cost q ys
unfolding quote_cost
high_cost q [] ys h = refl
high_cost q (x ∷ xs) ys h =
    let k = and_parts (nat_le 128 x) (are_high xs) h in
    let i = high_cost q xs ys k.1 in
    let z : 0 + quote_cost q (xs ++ ys) ≡ quote_cost q (xs ++ ys) = omega arith in
    ap (λ b. (if b then 1 else 0) + quote_cost q (xs ++ ys)) (costs_none q x (xs ++ ys) (leb-true 128 x k.0)) ∙ (z ∙ i)

high_brace : (x : ℕ) → nat_le 128 x ≡ true → (x == 123) ≡ false
high_brace x h = let l = leb-true 128 x h in ne_eqb x 123 (λ e. omega arith)

-- two texts that cost the same, and go on alike behind a `$`
record Same (q : Quote) (xs ys : List ℕ) : Type 0 where
  pub cost : quote_cost q xs ≡ quote_cost q ys
  pub brace : begins_with 123 xs ≡ begins_with 123 ys

same_low : (q : Quote) (c : ℕ) (xs ys : List ℕ) → Same q xs ys → Same q (c ∷ xs) (c ∷ ys)
unfolding quote_cost
same_low q c xs ys s = record {
  cost = ap₂ (λ b n. (if (c == quote_char q) || (if is_backtick q then (c == 36) && b else c == 10) then 1 else 0) + n) s.brace s.cost;
  brace = refl;
}

same_high : (q : Quote) (a b xs ys : List ℕ) → High a → High b → Same q xs ys → Same q (a ++ xs) (b ++ ys)
same_high q a b xs ys h k s =
    let u = and_parts (nat_le 128 h.head) (are_high h.tail) h.none in
    let v = and_parts (nat_le 128 k.head) (are_high k.tail) k.none in
    record {
      cost = ap (λ t. quote_cost q (t ++ xs)) h.is ∙ (high_cost q (h.head ∷ h.tail) xs h.none ∙ (s.cost ∙ (sym (high_cost q (k.head ∷ k.tail) ys k.none) ∙ ap (λ t. quote_cost q (t ++ ys)) (sym k.is))));
      brace = ap (λ t. begins_with 123 (t ++ xs)) h.is ∙ (high_brace h.head u.0 ∙ (sym (high_brace k.head v.0) ∙ ap (λ t. begins_with 123 (t ++ ys)) (sym k.is)));
    }

one_more : (x : ℕ) (xs : List ℕ) → 128 ≤ x → are_high xs ≡ true → are_high (x ∷ xs) ≡ true
one_more x xs h k = and_from (nat_le 128 x) (are_high xs) (le-leb 128 x h) k

high_two : (xs : List ℕ) (a b : ℕ) → xs ≡ a ∷ b ∷ [] → 128 ≤ a → 128 ≤ b → High xs
high_two xs a b e h k = record { head = a; tail = b ∷ []; is = e; none = one_more a (b ∷ []) h (one_more b [] k refl) }

high_three : (xs : List ℕ) (a b c : ℕ) → xs ≡ a ∷ b ∷ c ∷ [] → 128 ≤ a → 128 ≤ b → 128 ≤ c → High xs
high_three xs a b c e h k l = record { head = a; tail = b ∷ c ∷ []; is = e; none = one_more a (b ∷ c ∷ []) h (one_more b (c ∷ []) k (one_more c [] l refl)) }

high_four : (xs : List ℕ) (a b c d : ℕ) → xs ≡ a ∷ b ∷ c ∷ d ∷ [] → 128 ≤ a → 128 ≤ b → 128 ≤ c → 128 ≤ d → High xs
high_four xs a b c d e h k l m = record { head = a; tail = b ∷ c ∷ d ∷ []; is = e; none = one_more a (b ∷ c ∷ d ∷ []) h (one_more b (c ∷ d ∷ []) k (one_more c (d ∷ []) l (one_more d [] m refl))) }

pub utf8_high : (c : ℕ) → 128 ≤ c → High (encode c)
utf8_high c h = by (cases_lt c 0x800) (cases_lt c 0x1_0000)
  where
    by : (c < 0x800) ⊎ (0x800 ≤ c) → (c < 0x1_0000) ⊎ (0x1_0000 ≤ c) → High (encode c)
    by (inl l) m = high_two (encode c) (192 + c / 64) (128 + c % 64) (encode_two c h l) (omega arith) (omega arith)
    by (inr l) (inl m) = high_three (encode c) (224 + c / 4096) (128 + c / 64 % 64) (128 + c % 64) (encode_three c l m) (omega arith) (omega arith) (omega arith)
    by (inr l) (inr m) = high_four (encode c) (240 + c / 262144) (128 + c / 4096 % 64) (128 + c / 64 % 64) (128 + c % 64) (encode_four c m) (omega arith) (omega arith) (omega arith) (omega arith)

utf16_high : (c : ℕ) → 128 ≤ c → High (encode_utf16 c)
utf16_high c h = by (cases_lt c 0x1_0000)
  where
    by : (c < 0x1_0000) ⊎ (0x1_0000 ≤ c) → High (encode_utf16 c)
    by (inl l) = record { head = c; tail = []; is = one_unit c l; none = one_more c [] h refl }
    by (inr l) = high_two (encode_utf16 c) (0xD800 + (c - 0x1_0000) / 0x400) (0xDC00 + (c - 0x1_0000) % 0x400) (two_units c l) (omega arith) (omega arith)

same_codes : (q : Quote) (cs : List ℕ) → Same q (encodes cs) (flat_map encode_utf16 cs)
same_codes q [] = record { cost = refl; brace = refl }
same_codes q (c ∷ cs) = by (cases_lt c 128) (same_codes q cs)
  where
    by : (c < 128) ⊎ (128 ≤ c) → Same q (encodes cs) (flat_map encode_utf16 cs) → Same q (encode c ++ encodes cs) (encode_utf16 c ++ flat_map encode_utf16 cs)
    by (inl l) s =
        let one = one_unit c (omega arith) in
        subst (λ t. Same q (t ++ encodes cs) (encode_utf16 c ++ flat_map encode_utf16 cs)) (sym (encode_one c l)) (subst (λ t. Same q (c ∷ encodes cs) (t ++ flat_map encode_utf16 cs)) (sym one) (same_low q c (encodes cs) (flat_map encode_utf16 cs) s))
    by (inr l) s = same_high q (encode c) (encode_utf16 c) (encodes cs) (flat_map encode_utf16 cs) (utf8_high c l) (utf16_high c l) s

pub quote_cost-bytes : (q : Quote) (us : List ℕ) → are_units us ≡ true → quote_cost q (encodes (joined_units us)) ≡ quote_cost q us
quote_cost-bytes q us h = (same_codes q (joined_units us)).cost ∙ ap (quote_cost q) (units_joined us h)

-- and from the code points
same_points : (q : Quote) (cs : List ℕ) → Same q cs (flat_map encode_utf16 cs)
same_points q [] = record { cost = refl; brace = refl }
same_points q (c ∷ cs) = by (cases_lt c 128) (same_points q cs)
  where
    by : (c < 128) ⊎ (128 ≤ c) → Same q cs (flat_map encode_utf16 cs) → Same q (c ∷ cs) (encode_utf16 c ++ flat_map encode_utf16 cs)
    by (inl l) s = subst (λ t. Same q (c ∷ cs) (t ++ flat_map encode_utf16 cs)) (sym (one_unit c (omega arith))) (same_low q c cs (flat_map encode_utf16 cs) s)
    by (inr l) s = same_high q (c ∷ []) (encode_utf16 c) cs (flat_map encode_utf16 cs) (record { head = c; tail = []; is = refl; none = one_more c [] l refl }) (utf16_high c l) s

pub quote_cost-points : (q : Quote) (us : List ℕ) → are_units us ≡ true → quote_cost q (joined_units us) ≡ quote_cost q us
quote_cost-points q us h = (same_points q (joined_units us)).cost ∙ ap (quote_cost q) (units_joined us h)
