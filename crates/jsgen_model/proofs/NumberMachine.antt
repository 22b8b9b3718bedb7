-- The machine of NumberStates accepts exactly what spells a number.
use Rattle.std.proofs.Common.{◌≡◌, ℕ, Bool, true, false, ◌&&◌, ◌||◌, ◌==◌, List, [], ◌∷◌, codes, refl, sym, ap, ◌∙◌}
use Rattle.std.specs.Char.{is_ascii_digit, is_ascii_hexdigit}
use Rattle.std.specs.Int.{is_in_range}
use Rattle.std.proofs.Math.Bool.{or-false, and-true, or_assoc}
use Rattle.std.proofs.Math.Path.{fun_ext}
use Rattle.jsgen_model.specs.Numbers.{Production, character, one_of, in_two, ◌∣◌, ◌▸◌, perhaps, separator, suffix, point, digits_of, decimal_digits, decimal_integer, signed_integer, exponent_part, decimal_big_integer, non_decimal_integer, spells_number}
use Rattle.jsgen_model.proofs.NumberKinds.{Kind, nought, one, to_seven, to_nine, letter_e, underscore, full_stop, plus_or_minus, kind, sample, Test, decimal, non_zero, binary, octal, hexadecimal, a_separator, a_suffix, a_point, a_zero, a_sign, an_exponent, a_binary_mark, an_octal_mark, a_hex_mark, passes, is_any, Passing, of_kind}
use Rattle.jsgen_model.proofs.NumberStates.{Radix, two, eight, sixteen, State, start, zero, integer, integer_due, dotted, fraction, fraction_due, exponent_mark, exponent, exponent_due, digits, digits_due, suffixed, dead, accepts, step, run}

-- ---- what is left of a production behind a character

empty : Production
empty [] = true
empty (c ∷ cs) = false

abbrev guard : Bool → Production → Production
guard b f = λ t. b && f t

no_parts : (k : Production) (t : List ℕ) → in_two (λ u. false) k t ≡ false
no_parts k [] = refl
no_parts k (c ∷ t) = no_parts k t

guarded : (b : Bool) (f k : Production) (t : List ℕ) → in_two (guard b f) k t ≡ (b && in_two f k t)
guarded true f k t = refl
guarded false f k t = no_parts k t

empty_parts : (k : Production) (t : List ℕ) → in_two empty k t ≡ k t
unfolding empty
empty_parts k [] = refl
empty_parts k (c ∷ t) = ap (λ b. k (c ∷ t) || b) (no_parts k t) ∙ or-false (k (c ∷ t))

shared : (a b x p q : Bool) → (((a || b) && x) || (p || q)) ≡ (((a && x) || p) || ((b && x) || q))
shared true true true p q = refl
shared true true false p q = refl
shared true false true p q = refl
shared true false false p q = refl
shared false true true true q = refl
shared false true true false q = refl
shared false true false p q = refl
shared false false x p q = refl

either_parts : (f g k : Production) (t : List ℕ) → in_two (f ∣ g) k t ≡ (in_two f k t || in_two g k t)
either_parts f g k [] = first (f []) (g []) (k [])
  where
    first : (a b x : Bool) → ((a || b) && x) ≡ ((a && x) || (b && x))
    first true true true = refl
    first true true false = refl
    first true false true = refl
    first true false false = refl
    first false b x = refl
either_parts f g k (c ∷ t) = ap (λ b. ((f [] || g []) && k (c ∷ t)) || b) (either_parts (λ u. f (c ∷ u)) (λ u. g (c ∷ u)) k t) ∙ shared (f []) (g []) (k (c ∷ t)) (in_two (λ u. f (c ∷ u)) k t) (in_two (λ u. g (c ∷ u)) k t)

same_parts : (f g k : Production) → ((u : List ℕ) → f u ≡ g u) → (t : List ℕ) → in_two f k t ≡ in_two g k t
same_parts f g k h t = ap (λ e. in_two e k t) (fun_ext h)

character_alone : (test : ℕ → Bool) (c : ℕ) (t : List ℕ) → character test (c ∷ t) ≡ (test c && empty t)
unfolding empty
character_alone test c [] = sym (and-true (test c))
character_alone test c (d ∷ t) = none (test c)
  where
    none : (b : Bool) → false ≡ (b && false)
    none true = refl
    none false = refl

character_then : (test : ℕ → Bool) (k : Production) (c : ℕ) (t : List ℕ) → (character test ▸ k) (c ∷ t) ≡ (test c && k t)
character_then test k c t = same_parts (λ u. character test (c ∷ u)) (guard (test c) empty) k (character_alone test c) t ∙ (guarded (test c) empty k t ∙ ap (λ b. test c && b) (empty_parts k t))

-- more digits, or none
more_digits : (ℕ → Bool) → Production
more_digits d [] = true
more_digits d (c ∷ cs) = digits_of d (c ∷ cs) || ((c == 95) && digits_of d cs)

digits_alone : (d : ℕ → Bool) (c : ℕ) (t : List ℕ) → digits_of d (c ∷ t) ≡ (d c && more_digits d t)
unfolding more_digits
digits_alone d c [] = sym (and-true (d c))
digits_alone d c (e ∷ t) = refl

more_alone : (d : ℕ → Bool) (c : ℕ) (t : List ℕ) → more_digits d (c ∷ t) ≡ ((d c && more_digits d t) || ((c == 95) && digits_of d t))
unfolding more_digits
more_alone d c t = ap (λ b. b || ((c == 95) && digits_of d t)) (digits_alone d c t)

digits_then : (d : ℕ → Bool) (k : Production) (c : ℕ) (t : List ℕ) → (digits_of d ▸ k) (c ∷ t) ≡ (d c && (more_digits d ▸ k) t)
digits_then d k c t = same_parts (λ u. digits_of d (c ∷ u)) (guard (d c) (more_digits d)) k (digits_alone d c) t ∙ guarded (d c) (more_digits d) k t

more_then : (d : ℕ → Bool) (k : Production) (c : ℕ) (t : List ℕ) → (more_digits d ▸ k) (c ∷ t) ≡ (k (c ∷ t) || ((d c && (more_digits d ▸ k) t) || ((c == 95) && (digits_of d ▸ k) t)))
unfolding more_digits
more_then d k c t =
    ap (λ b. k (c ∷ t) || b)
    (same_parts (λ u. more_digits d (c ∷ u)) (guard (d c) (more_digits d) ∣ guard (c == 95) (digits_of d)) k (more_alone d c) t
    ∙ (either_parts (guard (d c) (more_digits d)) (guard (c == 95) (digits_of d)) k t
    ∙ (ap (λ b. b || in_two (guard (c == 95) (digits_of d)) k t) (guarded (d c) (more_digits d) k t)
    ∙ ap (λ b. (d c && (more_digits d ▸ k) t) || b) (guarded (c == 95) (digits_of d) k t))))

-- ---- what may stand behind each state

abbrev perhaps_exponent : Production
perhaps_exponent = perhaps exponent_part

abbrev more : Production
more = more_digits is_ascii_digit

-- a dot and what may stand behind it
abbrev dot_part : Production
dot_part = point ▸ perhaps decimal_digits ▸ perhaps_exponent

-- a number behind its zero
abbrev prefixed : Production
prefixed = (one_of (codes "bB") ▸ digits_of (is_in_range 48 49)) ∣ (one_of (codes "oO") ▸ digits_of (is_in_range 48 55)) ∣ (one_of (codes "xX") ▸ digits_of is_ascii_hexdigit)

abbrev digit_test : Radix → Test
digit_test two = binary
digit_test eight = octal
digit_test sixteen = hexadecimal

abbrev digit_in : Radix → ℕ → Bool
digit_in r = passes (digit_test r)

abbrev left : State → Production
left start = spells_number
left zero = dot_part ∣ perhaps_exponent ∣ suffix ∣ prefixed ∣ (prefixed ▸ suffix)
left integer = (more ▸ dot_part) ∣ (more ▸ perhaps_exponent) ∣ (more ▸ suffix)
left integer_due = (decimal_digits ▸ dot_part) ∣ (decimal_digits ▸ perhaps_exponent) ∣ (decimal_digits ▸ suffix)
left dotted = perhaps decimal_digits ▸ perhaps_exponent
left fraction = more ▸ perhaps_exponent
left fraction_due = decimal_digits ▸ perhaps_exponent
left exponent_mark = signed_integer
left exponent = more
left exponent_due = decimal_digits
left (digits r) = more_digits (digit_in r) ∣ (more_digits (digit_in r) ▸ suffix)
left (digits_due r) = digits_of (digit_in r) ∣ (digits_of (digit_in r) ▸ suffix)
left suffixed = empty
left dead = λ t. false

ends : (s : State) → left s [] ≡ accepts s
unfolding spells_number empty more_digits
ends start = refl
ends s = refl

-- ---- a step

-- the tests are of a character, or of its kind
Steps : State → (Passing → List ℕ → Bool) → Type 0
Steps s formula = (c : ℕ) (t : List ℕ) → left s (c ∷ t) ≡ formula (λ x. passes x c) t

Goes : State → (Passing → List ℕ → Bool) → Type 0
Goes s formula = (k : Kind) (t : List ℕ) → formula (λ x. passes x (sample k)) t ≡ left (step s k) t

Follows : State → Type 0
Follows s = (c : ℕ) (t : List ℕ) → left s (c ∷ t) ≡ left (step s (kind c)) t

follows : (s : State) (formula : Passing → List ℕ → Bool) → Steps s formula → Goes s formula → Follows s
unfolding Steps Goes Follows
follows s formula f g c t = f c t ∙ of_kind (λ v k. formula v t ≡ left (step s k) t) c (λ k. g k t)

either_same : (a b x y : Bool) → a ≡ x → b ≡ y → (a || b) ≡ (x || y)
either_same a b x y e f = ap (λ c. c || b) e ∙ ap (λ c. x || c) f

exponent_first : (c : ℕ) (t : List ℕ) → perhaps_exponent (c ∷ t) ≡ (passes an_exponent c && signed_integer t)
exponent_first c t = character_then (passes an_exponent) signed_integer c t

dot_first : (c : ℕ) (t : List ℕ) → dot_part (c ∷ t) ≡ (passes a_point c && left dotted t)
dot_first c t = character_then (passes a_point) (left dotted) c t

dotted_formula : Passing → List ℕ → Bool
dotted_formula v t = (v an_exponent && signed_integer t) || (v decimal && left fraction t)

dotted_steps : Steps dotted dotted_formula
unfolding Steps dotted_formula
dotted_steps c t = either_same _ _ _ _ (exponent_first c t) (digits_then is_ascii_digit perhaps_exponent c t)

dotted_goes : Goes dotted dotted_formula
unfolding Goes dotted_formula
dotted_goes letter_e t = or-false (signed_integer t)
dotted_goes k t = refl

-- more digits, and then something else, of which this is left
abbrev more_formula : Passing → Bool → Production → List ℕ → Bool
more_formula v first k t = first || ((v decimal && (more ▸ k) t) || (v a_separator && (decimal_digits ▸ k) t))

more_steps : (k : Production) (c : ℕ) (t : List ℕ) (first : Bool) → k (c ∷ t) ≡ first → (more ▸ k) (c ∷ t) ≡ more_formula (λ x. passes x c) first k t
more_steps k c t first e = more_then is_ascii_digit k c t ∙ ap (λ b. b || ((is_ascii_digit c && (more ▸ k) t) || ((c == 95) && (decimal_digits ▸ k) t))) e

fraction_formula : Passing → List ℕ → Bool
fraction_formula v t = more_formula v (v an_exponent && signed_integer t) perhaps_exponent t

fraction_steps : Steps fraction fraction_formula
unfolding Steps fraction_formula
fraction_steps c t = more_steps perhaps_exponent c t _ (exponent_first c t)

fraction_goes : Goes fraction fraction_formula
unfolding Goes fraction_formula
fraction_goes letter_e t = or-false (signed_integer t)
fraction_goes underscore t = refl
fraction_goes k t = simp or-false refl

due_formula : Production → Passing → List ℕ → Bool
due_formula k v t = v decimal && (more ▸ k) t

fraction_due_steps : Steps fraction_due (due_formula perhaps_exponent)
unfolding Steps due_formula
fraction_due_steps c t = digits_then is_ascii_digit perhaps_exponent c t

fraction_due_goes : Goes fraction_due (due_formula perhaps_exponent)
unfolding Goes due_formula
fraction_due_goes nought t = refl
fraction_due_goes k t = refl

mark_formula : Passing → List ℕ → Bool
mark_formula v t = (v decimal && more t) || (v a_sign && decimal_digits t)

mark_steps : Steps exponent_mark mark_formula
unfolding Steps mark_formula
mark_steps c t = either_same _ _ _ _ (digits_alone is_ascii_digit c t) (character_then (passes a_sign) decimal_digits c t)

mark_goes : Goes exponent_mark mark_formula
unfolding Goes mark_formula
mark_goes plus_or_minus t = refl
mark_goes k t = simp or-false refl

exponent_formula : Passing → List ℕ → Bool
exponent_formula v t = (v decimal && more t) || (v a_separator && decimal_digits t)

exponent_steps : Steps exponent exponent_formula
unfolding Steps exponent_formula
exponent_steps c t = more_alone is_ascii_digit c t

exponent_goes : Goes exponent exponent_formula
unfolding Goes exponent_formula
exponent_goes underscore t = refl
exponent_goes k t = simp or-false refl

exponent_due_formula : Passing → List ℕ → Bool
exponent_due_formula v t = v decimal && more t

exponent_due_steps : Steps exponent_due exponent_due_formula
unfolding Steps exponent_due_formula
exponent_due_steps c t = digits_alone is_ascii_digit c t

exponent_due_goes : Goes exponent_due exponent_due_formula
unfolding Goes exponent_due_formula
exponent_due_goes nought t = refl
exponent_due_goes k t = refl

-- ---- integers

integer_formula : Passing → List ℕ → Bool
integer_formula v t = more_formula v (v a_point && left dotted t) dot_part t || (more_formula v (v an_exponent && signed_integer t) perhaps_exponent t || more_formula v (v a_suffix && empty t) suffix t)

integer_steps : Steps integer integer_formula
unfolding Steps integer_formula
integer_steps c t = either_same _ _ _ _ (more_steps dot_part c t _ (dot_first c t)) (either_same _ _ _ _ (more_steps perhaps_exponent c t _ (exponent_first c t)) (more_steps suffix c t _ (character_alone (passes a_suffix) c t)))

integer_goes : Goes integer integer_formula
unfolding Goes integer_formula
integer_goes underscore t = refl
integer_goes k t = simp or-false refl

integer_due_formula : Passing → List ℕ → Bool
integer_due_formula v t = (v decimal && (more ▸ dot_part) t) || ((v decimal && (more ▸ perhaps_exponent) t) || (v decimal && (more ▸ suffix) t))

integer_due_steps : Steps integer_due integer_due_formula
unfolding Steps integer_due_formula
integer_due_steps c t = either_same _ _ _ _ (digits_then is_ascii_digit dot_part c t) (either_same _ _ _ _ (digits_then is_ascii_digit perhaps_exponent c t) (digits_then is_ascii_digit suffix c t))

integer_due_goes : Goes integer_due integer_due_formula
unfolding Goes integer_due_formula
integer_due_goes nought t = refl
integer_due_goes k t = refl

-- ---- numbers with a prefix

digits_formula : Radix → Passing → List ℕ → Bool
digits_formula r v t =
    ((v (digit_test r) && more_digits (digit_in r) t) || (v a_separator && digits_of (digit_in r) t))
    || ((v a_suffix && empty t) || ((v (digit_test r) && (more_digits (digit_in r) ▸ suffix) t) || (v a_separator && (digits_of (digit_in r) ▸ suffix) t)))

digits_steps : (r : Radix) → Steps (digits r) (digits_formula r)
unfolding Steps digits_formula
digits_steps r c t =
    either_same _ _ _ _ (more_alone (digit_in r) c t)
    (more_then (digit_in r) suffix c t ∙ ap (λ b. b || ((digit_in r c && (more_digits (digit_in r) ▸ suffix) t) || ((c == 95) && (digits_of (digit_in r) ▸ suffix) t))) (character_alone (passes a_suffix) c t))

digits_goes : (r : Radix) → Goes (digits r) (digits_formula r)
unfolding Goes digits_formula
digits_goes two underscore t = refl
digits_goes two k t = simp or-false refl
digits_goes eight underscore t = refl
digits_goes eight k t = simp or-false refl
digits_goes sixteen underscore t = refl
digits_goes sixteen k t = simp or-false refl

digits_due_formula : Radix → Passing → List ℕ → Bool
digits_due_formula r v t = (v (digit_test r) && more_digits (digit_in r) t) || (v (digit_test r) && (more_digits (digit_in r) ▸ suffix) t)

digits_due_steps : (r : Radix) → Steps (digits_due r) (digits_due_formula r)
unfolding Steps digits_due_formula
digits_due_steps r c t = either_same _ _ _ _ (digits_alone (digit_in r) c t) (digits_then (digit_in r) suffix c t)

digits_due_goes : (r : Radix) → Goes (digits_due r) (digits_due_formula r)
unfolding Goes digits_due_formula
digits_due_goes two nought t = refl
digits_due_goes two k t = refl
digits_due_goes eight nought t = refl
digits_due_goes eight k t = refl
digits_due_goes sixteen nought t = refl
digits_due_goes sixteen k t = refl

-- ---- a zero

prefixed_first : (c : ℕ) (t : List ℕ) → prefixed (c ∷ t) ≡ ((passes a_binary_mark c && digits_of (digit_in two) t) || ((passes an_octal_mark c && digits_of (digit_in eight) t) || (passes a_hex_mark c && digits_of (digit_in sixteen) t)))
prefixed_first c t = either_same _ _ _ _ (character_then (passes a_binary_mark) (digits_of (digit_in two)) c t) (either_same _ _ _ _ (character_then (passes an_octal_mark) (digits_of (digit_in eight)) c t) (character_then (passes a_hex_mark) (digits_of (digit_in sixteen)) c t))

prefixed_then : (k : Production) (c : ℕ) (t : List ℕ) → (prefixed ▸ k) (c ∷ t) ≡ ((passes a_binary_mark c && (digits_of (digit_in two) ▸ k) t) || ((passes an_octal_mark c && (digits_of (digit_in eight) ▸ k) t) || (passes a_hex_mark c && (digits_of (digit_in sixteen) ▸ k) t)))
prefixed_then k c t =
    let f : Production = guard (passes a_binary_mark c) (digits_of (digit_in two)) in
    let g : Production = guard (passes an_octal_mark c) (digits_of (digit_in eight)) in
    let h : Production = guard (passes a_hex_mark c) (digits_of (digit_in sixteen)) in
    same_parts (λ u. prefixed (c ∷ u)) (f ∣ (g ∣ h)) k (prefixed_first c) t
    ∙ (either_parts f (g ∣ h) k t
    ∙ either_same _ _ _ _ (guarded (passes a_binary_mark c) (digits_of (digit_in two)) k t)
    (either_parts g h k t ∙ either_same _ _ _ _ (guarded (passes an_octal_mark c) (digits_of (digit_in eight)) k t) (guarded (passes a_hex_mark c) (digits_of (digit_in sixteen)) k t)))

zero_formula : Passing → List ℕ → Bool
zero_formula v t =
    (v a_point && left dotted t) || ((v an_exponent && signed_integer t) || ((v a_suffix && empty t)
    || (((v a_binary_mark && digits_of (digit_in two) t) || ((v an_octal_mark && digits_of (digit_in eight) t) || (v a_hex_mark && digits_of (digit_in sixteen) t)))
    || ((v a_binary_mark && (digits_of (digit_in two) ▸ suffix) t) || ((v an_octal_mark && (digits_of (digit_in eight) ▸ suffix) t) || (v a_hex_mark && (digits_of (digit_in sixteen) ▸ suffix) t))))))

zero_steps : Steps zero zero_formula
unfolding Steps zero_formula
zero_steps c t =
    either_same _ _ _ _ (dot_first c t) (either_same _ _ _ _ (exponent_first c t) (either_same _ _ _ _ (character_alone (passes a_suffix) c t)
    (either_same _ _ _ _ (prefixed_first c t) (prefixed_then suffix c t))))

zero_goes : Goes zero zero_formula
unfolding Goes zero_formula
zero_goes nought t = refl
zero_goes k t = simp or-false refl

-- ---- the first character

is_underscore : (c : ℕ) → is_any (codes "_") c ≡ (c == 95)
is_underscore c = or-false (c == 95)

separator_then : (k : Production) (c : ℕ) (t : List ℕ) → (separator ▸ k) (c ∷ t) ≡ ((c == 95) && k t)
separator_then k c t = character_then (is_any (codes "_")) k c t ∙ ap (λ b. b && k t) (is_underscore c)

separated : (t : List ℕ) → (empty t || (perhaps separator ▸ decimal_digits) t) ≡ more t
unfolding empty more_digits
separated [] = refl
separated (c ∷ t) = ap (λ b. decimal_digits (c ∷ t) || b) (separator_then decimal_digits c t)

under_guard : (b x y z : Bool) → (x || y) ≡ z → ((b && x) || (b && y)) ≡ (b && z)
under_guard true x y z e = e
under_guard false x y z e = refl

-- an integer is a zero, or another digit and more of them
integer_alone : (c : ℕ) (t : List ℕ) → decimal_integer (c ∷ t) ≡ ((passes a_zero c && empty t) || (passes non_zero c && more t))
integer_alone c t =
    either_same _ _ _ _ (character_alone (passes a_zero) c t)
    (either_same _ _ _ _ (character_alone (passes non_zero) c t) (character_then (passes non_zero) (perhaps separator ▸ decimal_digits) c t)
    ∙ under_guard (passes non_zero c) (empty t) ((perhaps separator ▸ decimal_digits) t) (more t) (separated t))

integer_then : (k : Production) (c : ℕ) (t : List ℕ) → (decimal_integer ▸ k) (c ∷ t) ≡ ((passes a_zero c && k t) || (passes non_zero c && (more ▸ k) t))
integer_then k c t =
    same_parts (λ u. decimal_integer (c ∷ u)) (guard (passes a_zero c) empty ∣ guard (passes non_zero c) more) k (integer_alone c) t
    ∙ (either_parts (guard (passes a_zero c) empty) (guard (passes non_zero c) more) k t
    ∙ either_same _ _ _ _ (guarded (passes a_zero c) empty k t ∙ ap (λ b. passes a_zero c && b) (empty_parts k t)) (guarded (passes non_zero c) more k t))

big_rest : (t : List ℕ) → ((perhaps decimal_digits ▸ suffix) t || (separator ▸ decimal_digits ▸ suffix) t) ≡ (more ▸ suffix) t
unfolding more_digits
big_rest [] = refl
big_rest (c ∷ t) =
    either_same _ _ _ _ (ap (λ b. suffix (c ∷ t) || b) (digits_then is_ascii_digit suffix c t)) (separator_then (decimal_digits ▸ suffix) c t)
    ∙ (or_assoc (suffix (c ∷ t)) (is_ascii_digit c && (more ▸ suffix) t) ((c == 95) && (decimal_digits ▸ suffix) t) ∙ sym (more_then is_ascii_digit suffix c t))

big_first : (c : ℕ) (t : List ℕ) → decimal_big_integer (c ∷ t) ≡ ((passes a_zero c && suffix t) || (passes non_zero c && (more ▸ suffix) t))
big_first c t =
    either_same _ _ _ _ (character_then (passes a_zero) suffix c t)
    (either_same _ _ _ _ (character_then (passes non_zero) (perhaps decimal_digits ▸ suffix) c t) (character_then (passes non_zero) (separator ▸ decimal_digits ▸ suffix) c t)
    ∙ under_guard (passes non_zero c) ((perhaps decimal_digits ▸ suffix) t) ((separator ▸ decimal_digits ▸ suffix) t) ((more ▸ suffix) t) (big_rest t))

base_first : (c : ℕ) (t : List ℕ) → non_decimal_integer (c ∷ t) ≡ (passes a_zero c && prefixed t)
base_first c t =
    let z : Bool = passes a_zero c in
    either_same _ _ _ _ (character_then (passes a_zero) (one_of (codes "bB") ▸ digits_of (digit_in two)) c t)
    (either_same _ _ _ _ (character_then (passes a_zero) (one_of (codes "oO") ▸ digits_of (digit_in eight)) c t) (character_then (passes a_zero) (one_of (codes "xX") ▸ digits_of (digit_in sixteen)) c t)
    ∙ under_guard z _ _ _ refl)
    ∙ under_guard z _ _ _ refl

base_then : (k : Production) (c : ℕ) (t : List ℕ) → (non_decimal_integer ▸ k) (c ∷ t) ≡ (passes a_zero c && (prefixed ▸ k) t)
base_then k c t = same_parts (λ u. non_decimal_integer (c ∷ u)) (guard (passes a_zero c) prefixed) k (base_first c) t ∙ guarded (passes a_zero c) prefixed k t

start_formula : Passing → List ℕ → Bool
start_formula v t =
    (((v a_zero && dot_part t) || (v non_zero && (more ▸ dot_part) t)) || ((v a_point && left fraction_due t) || ((v a_zero && perhaps_exponent t) || (v non_zero && (more ▸ perhaps_exponent) t))))
    || (((v a_zero && suffix t) || (v non_zero && (more ▸ suffix) t)) || ((v a_zero && prefixed t) || (v a_zero && (prefixed ▸ suffix) t)))

start_steps : Steps start start_formula
unfolding Steps start_formula spells_number
start_steps c t =
    either_same _ _ _ _
    (either_same _ _ _ _ (integer_then dot_part c t) (either_same _ _ _ _ (character_then (passes a_point) (left fraction_due) c t) (integer_then perhaps_exponent c t)))
    (either_same _ _ _ _ (big_first c t) (either_same _ _ _ _ (base_first c t) (base_then suffix c t)))

start_goes : Goes start start_formula
unfolding Goes start_formula
start_goes nought t = simp (or-false, or_assoc) refl
start_goes one t = simp (or-false, or_assoc) refl
start_goes to_seven t = simp (or-false, or_assoc) refl
start_goes to_nine t = simp (or-false, or_assoc) refl
start_goes full_stop t = simp or-false refl
start_goes k t = refl

behind_suffix : Follows suffixed
unfolding Follows empty
behind_suffix c t = refl

behind_dead : Follows dead
unfolding Follows
behind_dead c t = refl

-- ---- the whole

a_step : (s : State) → Follows s
a_step start = follows start start_formula start_steps start_goes
a_step zero = follows zero zero_formula zero_steps zero_goes
a_step integer = follows integer integer_formula integer_steps integer_goes
a_step integer_due = follows integer_due integer_due_formula integer_due_steps integer_due_goes
a_step dotted = follows dotted dotted_formula dotted_steps dotted_goes
a_step fraction = follows fraction fraction_formula fraction_steps fraction_goes
a_step fraction_due = follows fraction_due (due_formula perhaps_exponent) fraction_due_steps fraction_due_goes
a_step exponent_mark = follows exponent_mark mark_formula mark_steps mark_goes
a_step exponent = follows exponent exponent_formula exponent_steps exponent_goes
a_step exponent_due = follows exponent_due exponent_due_formula exponent_due_steps exponent_due_goes
a_step (digits r) = follows (digits r) (digits_formula r) (digits_steps r) (digits_goes r)
a_step (digits_due r) = follows (digits_due r) (digits_due_formula r) (digits_due_steps r) (digits_due_goes r)
a_step suffixed = behind_suffix
a_step dead = behind_dead

runs : (s : State) (w : List ℕ) → left s w ≡ accepts (run s w)
unfolding Follows
runs s [] = ends s
runs s (c ∷ w) = a_step s c w ∙ runs (step s (kind c)) w

pub number_runs : (w : List ℕ) → spells_number w ≡ accepts (run start w)
number_runs w = runs start w
