-- Numbers: what may follow them, and that one stands at the front of a text.
use Rattle.std.proofs.Common.{◌≡◌, ℕ, true, false, not, ◌||◌, ◌==◌, List, [], ◌∷◌, ◌++◌, codes, refl, sym, ap, ◌∙◌, subst, append_assoc}
use Rattle.std.specs.Char.{is_ascii_digit, is_ascii_alphabetic, is_ascii_alphanumeric}
use Rattle.std.specs.Int.{is_in_range}
use Rattle.std.proofs.lemmas.Bool.{both_ways, and_parts, and_from, or_parts, or_from, or_left, or_right, false_from_ne_true, not-true}
use Rattle.unicode_ident.specs.Ident.{is_xid_start}
use Rattle.unicode_ident.proofs.Computing.{unicode_ident}
use Rattle.jsgen_syntax.specs.Escapes.{begins}
use Rattle.jsgen_syntax.specs.Name.{starts_name, goes_in_word}
use Rattle.jsgen_model.specs.Numbers.{spells_number}
use Rattle.jsgen_model.specs.Punctuator.{Bracket, Round, Square, Brace}
use Rattle.jsgen_model.specs.Tokens.{Number, longer_number_stands, ends_before, is_barred_behind_number}
use Rattle.jsgen_model.proofs.NumberKinds.{in_number, is_any}
use Rattle.jsgen_model.proofs.NumberRuns as runs
use Rattle.jsgen_model.proofs.NumberRuns.{BarsDot}
use Rattle.jsgen_token_laws.proofs.Characters.{letter_starts, goes_on_in_sign, no_word_no_start, no_word_no_digit, not_that}
use Rattle.jsgen_token_laws.proofs.Signs.{closing_char, Shut}

-- ---- no longer number stands there

none_further : (w r : List ℕ) → ((c : ℕ) (p : List ℕ) → spells_number (w ++ (c ∷ p)) ≡ false) → longer_number_stands w r ≡ false
unfolding longer_number_stands
none_further w [] h = refl
none_further w (c ∷ r) h = or_from _ _ (h c []) (none_further (w ++ c ∷ []) r (λ d p. ap spells_number (append_assoc w (c ∷ []) (d ∷ p)) ∙ h c (d ∷ p)))

none_behind : (w : List ℕ) (c : ℕ) (r : List ℕ) → ((p : List ℕ) → spells_number (w ++ (c ∷ p)) ≡ false) → longer_number_stands w (c ∷ r) ≡ false
unfolding longer_number_stands
none_behind w c r h = or_from _ _ (h []) (none_further (w ++ c ∷ []) r (λ d p. ap spells_number (append_assoc w (c ∷ []) (d ∷ p)) ∙ h (d ∷ p)))

-- no front of the text behind makes it longer
pub none_longer : (w r : List ℕ) → ((c : ℕ) (p q : List ℕ) → r ≡ c ∷ (p ++ q) → spells_number (w ++ (c ∷ p)) ≡ false) → longer_number_stands w r ≡ false
unfolding longer_number_stands
none_longer w [] h = refl
none_longer w (c ∷ r) h = or_from _ _ (h c [] r refl) (none_longer (w ++ c ∷ []) r (λ d p q e. ap spells_number (append_assoc w (c ∷ []) (d ∷ p)) ∙ h c (d ∷ p) q (ap (λ t. c ∷ t) e)))

-- no number has a character of another kind
pub none_with : (w : List ℕ) (c : ℕ) (r : List ℕ) → in_number c ≡ false → is_any (codes "+-") c ≡ false → longer_number_stands w (c ∷ r) ≡ false
none_with w c r h k = none_behind w c r (λ p. runs.none_with w c p h k)

-- behind a number `+` and `-` are of another kind too
none_behind_number : (w : List ℕ) (c : ℕ) (r : List ℕ) → spells_number w ≡ true → in_number c ≡ false → longer_number_stands w (c ∷ r) ≡ false
none_behind_number w c r n h = none_behind w c r (λ p. runs.none_further w c p n h)

-- ---- a longer number stands there

pub longer_from : (w : List ℕ) (c : ℕ) (p r : List ℕ) → spells_number (w ++ (c ∷ p)) ≡ true → longer_number_stands w (c ∷ (p ++ r)) ≡ true
unfolding longer_number_stands
longer_from w c [] r h = or_left _ _ h
longer_from w c (d ∷ p) r h = or_right _ _ (longer_from (w ++ c ∷ []) d p r (ap spells_number (append_assoc w (c ∷ []) (d ∷ p)) ∙ h))

-- ---- what may follow a number

no_name_no_number : (c : ℕ) → starts_name c ≡ false → is_ascii_digit c ≡ false → (c == 46) ≡ false → in_number c ≡ false
no_name_no_number c s d p = or_from _ (c == 46) (or_from (is_ascii_alphanumeric c) (c == 95) (or_from (is_ascii_digit c || is_in_range 65 90 c) (is_in_range 97 122 c) (or_from (is_ascii_digit c) (is_in_range 65 90 c) d l.0) l.1) (or_parts (is_xid_start c || (c == 36)) (c == 95) s).1) p
  where
    letter : is_ascii_alphabetic c ≡ false
    letter = false_from_ne_true (is_ascii_alphabetic c) (λ e. both_ways (starts_name c) s (letter_starts c e))

    l : (is_in_range 65 90 c ≡ false) × (is_in_range 97 122 c ≡ false)
    l = or_parts (is_in_range 65 90 c) (is_in_range 97 122 c) letter

-- a number may stand before what begins no name and no escape, and is no digit and no dot
pub number_ends : (w : List ℕ) (c : ℕ) (r : List ℕ) → spells_number w ≡ true → starts_name c ≡ false → is_ascii_digit c ≡ false → (c == 46) ≡ false → (c == 92) ≡ false → ends_before (Number w) (c ∷ r) ≡ true
number_ends w c r h s d p b = and_from _ _ (ap not (or_from (starts_name c || is_ascii_digit c) (c == 92) (or_from (starts_name c) (is_ascii_digit c) s d) b)) (ap not (none_behind_number w c r h (no_name_no_number c s d p)))

-- and before a dot where none goes on with it
pub number_before_dot : (w r : List ℕ) → BarsDot w → ends_before (Number w) (46 ∷ r) ≡ true
unfolding unicode_ident
number_before_dot w r h = ap not (none_behind w 46 r h)

pub number_alone : (w : List ℕ) → ends_before (Number w) [] ≡ true
unfolding longer_number_stands
number_alone w = refl

-- in no word and no sign, and no backslash: it may follow anything that is taken for a number
pub apart_ends : (w : List ℕ) (c : ℕ) (r : List ℕ) → goes_in_word c ≡ false → goes_on_in_sign c ≡ false → (c == 92) ≡ false → ends_before (Number w) (c ∷ r) ≡ true
apart_ends w c r h g b =
    let s = no_word_no_start c h in
    let d = no_word_no_digit c h in
    and_from _ _ (ap not (or_from (starts_name c || is_ascii_digit c) (c == 92) (or_from (starts_name c) (is_ascii_digit c) s d) b)) (ap not (none_with w c r (no_name_no_number c s d (not_that c 46 g refl)) (or_from (c == 43) _ (not_that c 43 g refl) (or_from (c == 45) false (not_that c 45 g refl) refl))))

-- ---- a closing bracket behind a number

shut_none : (w x : List ℕ) → Shut x → longer_number_stands w x ≡ false
unfolding longer_number_stands closing_char
shut_none w [] s = refl
shut_none w (c ∷ x) s = subst (λ d. longer_number_stands w (d ∷ x) ≡ false) (sym s.1) (go s.0)
  where
    go : (b : Bracket) → longer_number_stands w (closing_char b ∷ x) ≡ false
    go Round = none_with w 41 x refl refl
    go Square = none_with w 93 x refl refl
    go Brace = none_with w 125 x refl refl

longer_number_shut : (w r x : List ℕ) → Shut x → longer_number_stands w (r ++ x) ≡ longer_number_stands w r
unfolding longer_number_stands
longer_number_shut w [] x s = shut_none w x s
longer_number_shut w (c ∷ r) x s = ap (λ b. spells_number (w ++ c ∷ []) || b) (longer_number_shut (w ++ c ∷ []) r x s)

barred_shut : (r x : List ℕ) → Shut x → begins is_barred_behind_number (r ++ x) ≡ begins is_barred_behind_number r
unfolding closing_char unicode_ident
barred_shut [] [] s = refl
barred_shut [] (c ∷ x) s = subst (λ d. is_barred_behind_number d ≡ false) (sym s.1) (go s.0)
  where
    go : (b : Bracket) → is_barred_behind_number (closing_char b) ≡ false
    go Round = refl
    go Square = refl
    go Brace = refl
barred_shut (c ∷ r) x s = refl

-- whether the number ends there doesn't depend on what a closing bracket begins
pub number_ends_same : (w r x : List ℕ) → Shut x → ends_before (Number w) (r ++ x) ≡ ends_before (Number w) r
number_ends_same w r x s = rw (barred_shut r x s, longer_number_shut w r x s) refl

-- ---- one number stands at the front

-- two fronts of one text are the same, or one of them is longer
data Fronts (v : List ℕ) (w : List ℕ) (x : List ℕ) (y : List ℕ) : Type 0 where
  same : v ≡ w → x ≡ y → Fronts v w x y
  longer : (c : ℕ) (p : List ℕ) → w ≡ v ++ (c ∷ p) → x ≡ c ∷ (p ++ y) → Fronts v w x y
  shorter : (c : ℕ) (p : List ℕ) → v ≡ w ++ (c ∷ p) → y ≡ c ∷ (p ++ x) → Fronts v w x y

two_fronts : (v w x y : List ℕ) → v ++ x ≡ w ++ y → Fronts v w x y
two_fronts [] [] x y e = same refl e
two_fronts [] (d ∷ w) x y e = longer d w refl e
two_fronts (c ∷ v) [] x y e = shorter c v refl (sym e)
two_fronts (c ∷ v) (d ∷ w) x y e =
    let f : v ++ x ≡ w ++ y = cc in
    let g : c ≡ d = cc in
    further g (two_fronts v w x y f)
  where
    further : c ≡ d → Fronts v w x y → Fronts (c ∷ v) (d ∷ w) x y
    further g (same e f) = same (cc) f
    further g (longer b p e f) = longer b p (cc) f
    further g (shorter b p e f) = shorter b p (cc) f

pub none_is_longer : (w x : List ℕ) → ends_before (Number w) x ≡ true → longer_number_stands w x ≡ false
none_is_longer w x h = not-true _ (and_parts (not (begins is_barred_behind_number x)) (not (longer_number_stands w x)) h).1

-- of two numbers there the longer would be a longer number behind the shorter
pub one_longest : (v w x y : List ℕ) → spells_number v ≡ true → spells_number w ≡ true → longer_number_stands v x ≡ false → longer_number_stands w y ≡ false → v ++ x ≡ w ++ y → (v ≡ w) × (x ≡ y)
one_longest v w x y g h s t e = by (two_fronts v w x y e)
  where
    by : Fronts v w x y → (v ≡ w) × (x ≡ y)
    by (same e f) = (e, f)
    by (longer c p e f) = absurd (both_ways (longer_number_stands v x) s (subst (λ r. longer_number_stands v r ≡ true) (sym f) (longer_from v c p y (subst (λ u. spells_number u ≡ true) e h))))
    by (shorter c p e f) = absurd (both_ways (longer_number_stands w y) t (subst (λ r. longer_number_stands w r ≡ true) (sym f) (longer_from w c p x (subst (λ u. spells_number u ≡ true) e g))))

pub one_number : (v w x y : List ℕ) → spells_number v ≡ true → spells_number w ≡ true → ends_before (Number v) x ≡ true → ends_before (Number w) y ≡ true → v ++ x ≡ w ++ y → (v ≡ w) × (x ≡ y)
one_number v w x y g h s t e = one_longest v w x y g h (none_is_longer v x s) (none_is_longer w y t) e
