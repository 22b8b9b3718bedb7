-- What the first bytes tell of the first characters.
use Rattle.std.proofs.Common.{◌≡◌, ℕ, ◌≤◌, ◌<◌, Bool, true, false, not, nat_lt, nat_le, ◌&&◌, ◌==◌, nat_eq, ◌⊎◌, inl, inr, List, [], ◌∷◌, ◌++◌, length, get_or, take, codes, map, refl, sym, ap, ap₂, ◌∙◌, subst, arith}
use Rattle.std.specs.Char.{to_ascii_lowercase, is_ascii_digit}
use Rattle.std.specs.Cmp.Lexicographic.{pointwise}
use Rattle.std.specs.List.{list_all}
use Rattle.std.specs.Str.{chars}
use lib.Utf8.{encode, encodes}
use Rattle.std.proofs.lemmas.Bool.{and_parts, and_left, and_right, cases_lt, le-ltb, ltb-true, leb-true, le-leb, lt-leb, ne_eqb}
use Rattle.std.proofs.lemmas.Str.{chars-nil}
use Rattle.jsgen_syntax.specs.Escapes.{begins, begins_with, is_past_ascii}
use Rattle.jsgen_syntax.specs.Raw.{begins_with_dollar}
use Rattle.jsgen_syntax.specs.Strings.{begins_script}
use Rattle.jsgen_syntax.proofs.Bytes.{are_high, High, utf8_high}
use Rattle.jsgen_syntax.proofs.Wtf8.{encode_one}
use Rattle.jsgen_strings.specs.Points.{ArePoints}
use Rattle.jsgen_strings.proofs.Fronts.{front, is_one}

-- a test that tells nothing past ASCII
pub record Even (test : ℕ → Bool) : Type 0 where
  pub high : Bool
  pub same : (c : ℕ) → 128 ≤ c → test c ≡ high

head_high : (xs : List ℕ) (h : High xs) → 128 ≤ h.head
head_high xs h = leb-true 128 h.head (and_parts (nat_le 128 h.head) (are_high h.tail) h.none).0

first_tells : (test : ℕ → Bool) → Even test → (c : ℕ) (rest : List ℕ) → begins test (encode c ++ rest) ≡ test c
first_tells test t c rest = by (cases_lt c 128)
  where
    by : (c < 128) ⊎ (128 ≤ c) → begins test (encode c ++ rest) ≡ test c
    by (inl l) = ap (λ x. begins test (x ++ rest)) (encode_one c l)
    by (inr l) = let h = utf8_high c l in ap (λ x. begins test (x ++ rest)) h.is ∙ (t.same h.head (head_high (encode c) h) ∙ sym (t.same c l))

-- the first byte tells what the first character does
pub begins_bytes : (test : ℕ → Bool) → Even test → (bytes : List ℕ) → ArePoints bytes → begins test bytes ≡ begins test (chars bytes)
begins_bytes test t [] p = ap (begins test) (sym chars-nil)
begins_bytes test t (b ∷ bs) p =
    let f = front (b ∷ bs) p (omega arith) in
    ap (begins test) f.whole ∙ (first_tells test t f.code f.behind ∙ ap (begins test) (sym f.are))

pub nothing_begins : (test : ℕ → Bool) (bytes : List ℕ) → length bytes ≡ 0 → false ≡ begins test (chars bytes)
nothing_begins test [] e = ap (begins test) (sym chars-nil)
nothing_begins test (b ∷ bs) e = absurd (omega arith)

pub even_at : (d : ℕ) → d < 128 → Even (λ c. c == d)
even_at d l = record { high = false; same = λ c h. ne_eqb c d (λ e. omega arith) }

pub even_digit : Even is_ascii_digit
even_digit = record { high = false; same = λ c h. and_right (nat_le 48 c) (nat_le c 57) (lt-leb c 57 (omega arith)) }

pub even_past : Even is_past_ascii
even_past = record { high = true; same = λ c h. le-leb 128 c h }

-- ---- a `$`

pub record Low (bytes : List ℕ) (b : ℕ) (behind : List ℕ) : Type 0 where
  pub are : chars bytes ≡ b ∷ chars behind
  pub points : ArePoints behind

-- a byte of ASCII is a character
pub low_first : (bytes : List ℕ) (b : ℕ) (behind : List ℕ) → ArePoints bytes → bytes ≡ b ∷ behind → b < 128 → Low bytes b behind
low_first bytes b behind p e l =
    let f = front bytes p (let k = ap length e in omega arith) in
    let g : get_or bytes 0 0 ≡ b = ap (λ x. get_or x 0 0) e in
    let s = is_one bytes f (omega arith) in
    let k : f.code ≡ b = sym s.first ∙ g in
    let w : f.code ∷ f.behind ≡ b ∷ behind = sym (ap (λ x. x ++ f.behind) (encode_one f.code s.high)) ∙ (sym f.whole ∙ e) in
    let d : f.behind ≡ behind = cc in
    record { are = f.are ∙ ap₂ (λ x y. x ∷ chars y) k d; points = subst ArePoints d f.points }

pub dollar_here : (bytes : List ℕ) (b : ℕ) (behind : List ℕ) → ArePoints bytes → bytes ≡ b ∷ behind → b ≡ 36 → not (begins_with 123 (chars behind)) ≡ begins_with_dollar (chars bytes)
dollar_here bytes b behind p e k =
    sym (ap begins_with_dollar (low_first bytes b behind p e (omega arith)).are ∙ ap (λ x. (x == 36) && not (begins_with 123 (chars behind))) k)

-- ---- `script`

lower_high : (c : ℕ) → 128 ≤ c → to_ascii_lowercase c ≡ c
lower_high c h =
    let k : 65 ≤ c = omega arith in
    let l : 91 ≤ c = omega arith in
    rw (le-ltb c 65 k, le-ltb c 91 l)

no_letter : (c w : ℕ) → 128 ≤ c → nat_lt (to_ascii_lowercase w) 128 ≡ true → nat_eq (to_ascii_lowercase c) (to_ascii_lowercase w) ≡ false
no_letter c w h k =
    let l = ltb-true (to_ascii_lowercase w) 128 k in
    ap (λ x. nat_eq x (to_ascii_lowercase w)) (lower_high c h) ∙ ne_eqb c (to_ascii_lowercase w) (λ e. omega arith)

abbrev spells : List ℕ → List ℕ → Bool
spells w text = pointwise nat_eq (map to_ascii_lowercase (take (length w) text)) (map to_ascii_lowercase w)

abbrev are_letters : List ℕ → Bool
are_letters w = list_all (λ c. nat_lt (to_ascii_lowercase c) 128) w

spells_bytes : (w cs : List ℕ) → are_letters w ≡ true → spells w (encodes cs) ≡ spells w cs
spells_bytes [] cs h = refl
spells_bytes (w ∷ ws) [] h = refl
spells_bytes (w ∷ ws) (c ∷ cs) h = by (cases_lt c 128) (spells_bytes ws cs k.1)
  where
    k : (nat_lt (to_ascii_lowercase w) 128 ≡ true) × (are_letters ws ≡ true)
    k = and_parts (nat_lt (to_ascii_lowercase w) 128) (are_letters ws) h

    by : (c < 128) ⊎ (128 ≤ c) → spells ws (encodes cs) ≡ spells ws cs → spells (w ∷ ws) (encode c ++ encodes cs) ≡ spells (w ∷ ws) (c ∷ cs)
    by (inl l) i = ap (λ x. spells (w ∷ ws) (x ++ encodes cs)) (encode_one c l) ∙ ap (λ b. nat_eq (to_ascii_lowercase c) (to_ascii_lowercase w) && b) i
    by (inr l) i =
        let f = utf8_high c l in
        ap (λ x. spells (w ∷ ws) (x ++ encodes cs)) f.is
        ∙ (and_left (nat_eq (to_ascii_lowercase f.head) (to_ascii_lowercase w)) (spells ws (f.tail ++ encodes cs)) (no_letter f.head w (head_high (encode c) f) k.0)
        ∙ sym (and_left (nat_eq (to_ascii_lowercase c) (to_ascii_lowercase w)) (spells ws cs) (no_letter c w l k.0)))

pub script_bytes : (bytes : List ℕ) → ArePoints bytes → begins_script bytes ≡ begins_script (chars bytes)
script_bytes bytes p = ap begins_script (sym p.0) ∙ spells_bytes (codes "script") (chars bytes) refl
