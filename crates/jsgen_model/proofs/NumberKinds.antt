-- Kinds of characters, as far as the productions of numbers tell them apart.
use Rattle.std.proofs.Common.{◌≡◌, ℕ, zero, suc, ◌<◌, ◌≤◌, Bool, true, false, not, nat_le, nat_lt, ◌&&◌, ◌||◌, ◌==◌, ◌⊎◌, inl, inr, List, [], ◌∷◌, codes, refl, sym, ap, ◌∙◌, subst, arith, if◌then◌else◌}
use Rattle.std.specs.Char.{is_ascii_digit, is_ascii_hexdigit, is_ascii_alphanumeric}
use Rattle.std.specs.Int.{is_in_range}
use Rattle.std.specs.List.{list_all, list_any}
use Rattle.std.proofs.Math.Bool.{or-false}
use Rattle.std.proofs.Math.Path.{fun_ext}
use Rattle.std.proofs.lemmas.Bool.{both_ways, and_parts, cases_lt, false_from_ne_true, leb-true, ltb-true, ne_eqb, or_from, or_left, eqb-true}

pub data Kind : Type 0 where
  nought : Kind
  one : Kind
  -- `2` to `7`
  to_seven : Kind
  -- `8` and `9`
  to_nine : Kind
  letter_b : Kind
  letter_e : Kind
  -- the other letters that are hexadecimal digits
  letter_of_hex : Kind
  small_n : Kind
  letter_o : Kind
  letter_x : Kind
  underscore : Kind
  full_stop : Kind
  plus_or_minus : Kind
  other : Kind

abbrev pub is_any : List ℕ → ℕ → Bool
is_any cs c = list_any (λ d. c == d) cs

unfoldable pub kind : ℕ → Kind
kind c =
    if c == 48 then nought else (if c == 49 then one else (if is_in_range 50 55 c then to_seven else (if is_in_range 56 57 c then to_nine else
    (if is_any (codes "bB") c then letter_b else (if is_any (codes "eE") c then letter_e else (if is_any (codes "acdfACDF") c then letter_of_hex else
    (if c == 110 then small_n else (if is_any (codes "oO") c then letter_o else (if is_any (codes "xX") c then letter_x else
    (if c == 95 then underscore else (if c == 46 then full_stop else (if is_any (codes "+-") c then plus_or_minus else other))))))))))))

-- a character of the kind
abbrev pub sample : Kind → ℕ
sample nought = 48
sample one = 49
sample to_seven = 50
sample to_nine = 56
sample letter_b = 98
sample letter_e = 101
sample letter_of_hex = 97
sample small_n = 110
sample letter_o = 111
sample letter_x = 120
sample underscore = 95
sample full_stop = 46
sample plus_or_minus = 43
sample other = 32

-- the tests of the productions
pub data Test : Type 0 where
  decimal : Test
  non_zero : Test
  binary : Test
  octal : Test
  hexadecimal : Test
  a_separator : Test
  a_suffix : Test
  a_point : Test
  a_zero : Test
  a_sign : Test
  an_exponent : Test
  a_binary_mark : Test
  an_octal_mark : Test
  a_hex_mark : Test
  no_dot_mark : Test
  an_end : Test

abbrev pub passes : Test → ℕ → Bool
passes decimal c = is_ascii_digit c
passes non_zero c = is_ascii_digit c && not (c == 48)
passes binary c = is_in_range 48 49 c
passes octal c = is_in_range 48 55 c
passes hexadecimal c = is_ascii_hexdigit c
passes a_separator c = c == 95
passes a_suffix c = is_any (codes "n") c
passes a_point c = is_any (codes ".") c
passes a_zero c = is_any (codes "0") c
passes a_sign c = is_any (codes "+-") c
passes an_exponent c = is_any (codes "eE") c
passes a_binary_mark c = is_any (codes "bB") c
passes an_octal_mark c = is_any (codes "oO") c
passes a_hex_mark c = is_any (codes "xX") c
passes no_dot_mark c = is_any (codes ".eExXoObB") c
passes an_end c = is_any (codes ".n") c

-- ---- characters of one kind pass the same tests

same : Bool → Bool → Bool
same true b = b
same false b = not b

same_is : (a b : Bool) → same a b ≡ true → a ≡ b
unfolding same
same_is true true h = refl
same_is true false h = absurd (both_ways false refl h)
same_is false true h = absurd (both_ways false refl h)
same_is false false h = refl

all_below : ℕ → (ℕ → Bool) → Bool
all_below zero f = true
all_below (suc n) f = f n && all_below n f

below : (n : ℕ) (f : ℕ → Bool) → all_below n f ≡ true → (c : ℕ) → c < n → f c ≡ true
unfolding all_below
below zero f h c l = absurd (omega arith)
below (suc n) f h c l = let k = and_parts (f n) (all_below n f) h in go k.0 (below n f k.1 c) (cases_lt c n)
  where
    go : f n ≡ true → (c < n → f c ≡ true) → (c < n) ⊎ (n ≤ c) → f c ≡ true
    go i j (inl e) = j e
    go i j (inr e) = let m : n ≡ c = omega arith in subst (λ x. f x ≡ true) m i

abbrev agrees : Test → ℕ → Bool
agrees x c = same (passes x c) (passes x (sample (kind c)))

ascii_agrees : (x : Test) → all_below 128 (agrees x) ≡ true
unfolding all_below same kind
ascii_agrees decimal = refl
ascii_agrees x = refl

past_range : (low high c : ℕ) → high < 128 → 128 ≤ c → is_in_range low high c ≡ false
past_range low high c l h = false_from_ne_true (is_in_range low high c) (λ e. let m = leb-true c high (and_parts (nat_le low c) (nat_le c high) e).1 in omega arith)

past : (d c : ℕ) → d < 128 → 128 ≤ c → (c == d) ≡ false
past d c l h = ne_eqb c d (λ e. omega arith)

past_any : (cs : List ℕ) (c : ℕ) → list_all (λ d. nat_lt d 128) cs ≡ true → 128 ≤ c → is_any cs c ≡ false
past_any [] c l h = refl
past_any (d ∷ cs) c l h = let k = and_parts (nat_lt d 128) (list_all (λ e. nat_lt e 128) cs) l in or_from (c == d) (is_any cs c) (past d c (ltb-true d 128 k.0) h) (past_any cs c k.1 h)

pub past_kind : (c : ℕ) → 128 ≤ c → kind c ≡ other
unfolding kind
past_kind c h = rw (past 48 c (omega arith) h, past 49 c (omega arith) h, past_range 50 55 c (omega arith) h, past_range 56 57 c (omega arith) h, past_any (codes "bB") c refl h, past_any (codes "eE") c refl h, past_any (codes "acdfACDF") c refl h, past 110 c (omega arith) h, past_any (codes "oO") c refl h, past_any (codes "xX") c refl h, past 95 c (omega arith) h, past 46 c (omega arith) h, past_any (codes "+-") c refl h) refl

past_fails : (x : Test) (c : ℕ) → 128 ≤ c → passes x c ≡ passes x 32
past_fails decimal c h = past_range 48 57 c (omega arith) h
past_fails non_zero c h = ap (λ b. b && not (c == 48)) (past_range 48 57 c (omega arith) h)
past_fails binary c h = past_range 48 49 c (omega arith) h
past_fails octal c h = past_range 48 55 c (omega arith) h
past_fails hexadecimal c h = or_from (is_ascii_digit c || is_in_range 65 70 c) (is_in_range 97 102 c) (or_from (is_ascii_digit c) (is_in_range 65 70 c) (past_range 48 57 c (omega arith) h) (past_range 65 70 c (omega arith) h)) (past_range 97 102 c (omega arith) h)
past_fails a_separator c h = past 95 c (omega arith) h
past_fails a_suffix c h = past_any (codes "n") c refl h
past_fails a_point c h = past_any (codes ".") c refl h
past_fails a_zero c h = past_any (codes "0") c refl h
past_fails a_sign c h = past_any (codes "+-") c refl h
past_fails an_exponent c h = past_any (codes "eE") c refl h
past_fails a_binary_mark c h = past_any (codes "bB") c refl h
past_fails an_octal_mark c h = past_any (codes "oO") c refl h
past_fails a_hex_mark c h = past_any (codes "xX") c refl h
past_fails no_dot_mark c h = past_any (codes ".eExXoObB") c refl h
past_fails an_end c h = past_any (codes ".n") c refl h

pub agree : (x : Test) (c : ℕ) → passes x c ≡ passes x (sample (kind c))
unfolding same
agree x c = by (cases_lt c 128)
  where
    by : (c < 128) ⊎ (128 ≤ c) → passes x c ≡ passes x (sample (kind c))
    by (inl l) = same_is (passes x c) (passes x (sample (kind c))) (below 128 (agrees x) (ascii_agrees x) c l)
    by (inr h) = past_fails x c h ∙ ap (λ k. passes x (sample k)) (sym (past_kind c h))

-- which tests a character passes
abbrev pub Passing : Type 0
Passing = Test → Bool

pub of_kind : (P : Passing → Kind → Type 0) (c : ℕ) → ((k : Kind) → P (λ x. passes x (sample k)) k) → P (λ x. passes x c) (kind c)
of_kind P c h = subst (λ v. P v (kind c)) (sym (fun_ext (λ x. agree x c))) (h (kind c))

-- ---- what a character's kind tells of it

kind_fact : (g : Kind → Bool) (h : ℕ → Bool) → g other ≡ true → all_below 128 (λ c. g (kind c) || h c) ≡ true → (c : ℕ) → (g (kind c) || h c) ≡ true
kind_fact g h o e c = by (cases_lt c 128)
  where
    by : (c < 128) ⊎ (128 ≤ c) → (g (kind c) || h c) ≡ true
    by (inl l) = below 128 (λ d. g (kind d) || h d) e c l
    by (inr l) = or_left (g (kind c)) (h c) (ap g (past_kind c l) ∙ o)

either_fails : (a b : Bool) → (a || b) ≡ true → a ≡ false → b ≡ true
either_fails true b h e = absurd (both_ways true e refl)
either_fails false b h e = h

-- a letter, a digit, a separator or a dot
abbrev pub in_number : ℕ → Bool
in_number c = is_ascii_alphanumeric c || (c == 95) || (c == 46)

abbrev pub is_outside : Kind → Bool
is_outside plus_or_minus = true
is_outside other = true
is_outside k = false

pub outside : (c : ℕ) → in_number c ≡ false → is_outside (kind c) ≡ true
unfolding all_below kind
outside c h = either_fails (in_number c) (is_outside (kind c)) (swapped (is_outside (kind c)) (in_number c) (kind_fact is_outside in_number refl refl c)) h
  where
    swapped : (a b : Bool) → (a || b) ≡ true → (b || a) ≡ true
    swapped true true e = refl
    swapped true false e = refl
    swapped false true e = refl
    swapped false false e = e

-- a letter or a digit
abbrev pub is_letter_or_digit : Kind → Bool
is_letter_or_digit underscore = false
is_letter_or_digit full_stop = false
is_letter_or_digit plus_or_minus = false
is_letter_or_digit other = false
is_letter_or_digit k = true

pub letter_or_digit : (c : ℕ) → is_letter_or_digit (kind c) ≡ true → is_ascii_alphanumeric c ≡ true
unfolding all_below kind
letter_or_digit c h = either_fails (not (is_letter_or_digit (kind c))) (is_ascii_alphanumeric c) (kind_fact (λ k. not (is_letter_or_digit k)) is_ascii_alphanumeric refl refl c) (ap not h)

pub sign_kind : (c : ℕ) → is_any (codes "+-") c ≡ false → is_outside (kind c) ≡ true → kind c ≡ other
sign_kind c h o = by (kind c) (sym (agree a_sign c) ∙ h) o
  where
    by : (k : Kind) → passes a_sign (sample k) ≡ false → is_outside k ≡ true → k ≡ other
    by plus_or_minus e f = absurd (both_ways true e refl)
    by other e f = refl
    by k e f = absurd (both_ways false refl f)

abbrev pub is_decimal : Kind → Bool
is_decimal nought = true
is_decimal one = true
is_decimal to_seven = true
is_decimal to_nine = true
is_decimal k = false

pub decimal_kind : (c : ℕ) → is_ascii_digit c ≡ is_decimal (kind c)
decimal_kind c = agree decimal c ∙ by (kind c)
  where
    by : (k : Kind) → passes decimal (sample k) ≡ is_decimal k
    by nought = refl
    by k = refl

pub dot_passes : (c : ℕ) → kind c ≡ full_stop → is_any (codes ".") c ≡ true
dot_passes c e = agree a_point c ∙ ap (λ k. passes a_point (sample k)) e

pub dot_kind : (c : ℕ) → kind c ≡ full_stop → c ≡ 46
dot_kind c e = eqb-true c 46 (sym (or-false (c == 46)) ∙ dot_passes c e)
