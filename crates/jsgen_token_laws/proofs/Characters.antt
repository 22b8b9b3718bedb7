-- Characters: which go on with a name, a number or a sign.
use Rattle.std.proofs.Common.{codes, subst₂, ◌≡◌, ℕ, ◌<◌, ◌≤◌, Bool, true, false, not, ◌&&◌, ◌||◌, ◌==◌, nat_lt, nat_le, cond, ◌⊎◌, inl, inr, Option, Some, None, is_some, List, [], ◌∷◌, ◌++◌, length, refl, sym, ap, ◌∙◌, subst, arith}
use Rattle.std.specs.Char.{is_ascii_alphabetic, is_ascii_alphanumeric, is_ascii_digit}
use Rattle.std.specs.Int.{is_in_range}
use Rattle.std.specs.List.{list_all, list_any, last_or}
use Rattle.std.specs.Option.{option_map_or}
use Rattle.std.proofs.lemmas.Bool.{ltb-true, cases_lt, and_parts, and_from, or_cases, or_from, or_left, or_right, eqb-true, eq-eqb, leb-true, le-leb, false_from_ne_true, both_ways, not-true}
use Rattle.unicode_ident.specs.Ident.{is_xid_start}
use Rattle.unicode_ident.proofs.IdentLemmas.{is_xid_start-ascii, is_xid_continue-ascii}
use Rattle.jsgen_syntax.specs.Name.{starts_name, continues_name, goes_in_word, spells_name}
use Rattle.jsgen_syntax.proofs.Names.{starts_continues}
use Rattle.jsgen_model.specs.Punctuator.{Punctuator, punctuator_text, dot}
use Rattle.jsgen_model.specs.Layout.{ends_in_word}
use Rattle.jsgen_model.specs.Numbers.{spells_whole}
use Rattle.jsgen_model.specs.Tokens.{text_behind, may_precede, stands, longer_stands, punctuators}

-- ---- lists of characters

pub all_append : (f : ℕ → Bool) (a b : List ℕ) → list_all f a ≡ true → list_all f b ≡ true → list_all f (a ++ b) ≡ true
all_append f [] b g h = h
all_append f (x ∷ a) b g h = let k = and_parts (f x) (list_all f a) g in and_from (f x) (list_all f (a ++ b)) k.0 (all_append f a b k.1 h)

pub all_follow : (f g : ℕ → Bool) → ((c : ℕ) → f c ≡ true → g c ≡ true) → (a : List ℕ) → list_all f a ≡ true → list_all g a ≡ true
all_follow f g h [] e = refl
all_follow f g h (x ∷ a) e = let k = and_parts (f x) (list_all f a) e in and_from (g x) (list_all g a) (h x k.0) (all_follow f g h a k.1)

pub any_append : (f : ℕ → Bool) (a b : List ℕ) → list_any f (a ++ b) ≡ (list_any f a || list_any f b)
any_append f [] b = refl
any_append f (x ∷ a) b = go (f x) (any_append f a b)
  where
    go : (v : Bool) → list_any f (a ++ b) ≡ (list_any f a || list_any f b) → (v || list_any f (a ++ b)) ≡ ((v || list_any f a) || list_any f b)
    go true e = refl
    go false e = e

-- a character of a list passes what all of the list pass
pub found_passes : (f : ℕ → Bool) (c : ℕ) (cs : List ℕ) → list_all f cs ≡ true → list_any (λ d. c == d) cs ≡ true → f c ≡ true
found_passes f c [] g h = absurd (both_ways false refl h)
found_passes f c (d ∷ cs) g h = let k = and_parts (f d) (list_all f cs) g in go (found_passes f c cs k.1) (or_cases (c == d) (list_any (λ x. c == x) cs) h) k.0
  where
    go : (list_any (λ x. c == x) cs ≡ true → f c ≡ true) → ((c == d) ≡ true) ⊎ (list_any (λ x. c == x) cs ≡ true) → f d ≡ true → f c ≡ true
    go ih (inl e) k = subst (λ x. f x ≡ true) (sym (eqb-true c d e)) k
    go ih (inr e) k = ih e

-- ---- names and digits

pub continues_goes : (c : ℕ) → continues_name c ≡ true → goes_in_word c ≡ true
continues_goes c h = by (cases_lt c 128)
  where
    low : c < 128 → ((((is_ascii_alphanumeric c || (c == 95)) || (c == 36)) || (c == 8204)) || (c == 8205)) ≡ true → ((is_ascii_alphanumeric c || (c == 95)) || (c == 36)) ≡ true
    low l e = by_last (or_cases (((is_ascii_alphanumeric c || (c == 95)) || (c == 36)) || (c == 8204)) (c == 8205) e)
      where
        by_other : ((((is_ascii_alphanumeric c || (c == 95)) || (c == 36))) ≡ true) ⊎ ((c == 8204) ≡ true) → ((is_ascii_alphanumeric c || (c == 95)) || (c == 36)) ≡ true
        by_other (inl k) = k
        by_other (inr k) = let z : c ≡ 8204 = eqb-true c 8204 k in absurd (omega arith)

        by_last : (((((is_ascii_alphanumeric c || (c == 95)) || (c == 36)) || (c == 8204))) ≡ true) ⊎ ((c == 8205) ≡ true) → ((is_ascii_alphanumeric c || (c == 95)) || (c == 36)) ≡ true
        by_last (inl k) = by_other (or_cases ((is_ascii_alphanumeric c || (c == 95)) || (c == 36)) (c == 8204) k)
        by_last (inr k) = let z : c ≡ 8205 = eqb-true c 8205 k in absurd (omega arith)

    by : (c < 128) ⊎ (128 ≤ c) → goes_in_word c ≡ true
    by (inl l) = or_left _ (nat_le 128 c) (low l (subst (λ x. (((x || (c == 36)) || (c == 8204)) || (c == 8205)) ≡ true) (is_xid_continue-ascii c l) h))
    by (inr g) = or_right _ (nat_le 128 c) (le-leb 128 c g)

pub digit_goes : (c : ℕ) → is_ascii_digit c ≡ true → goes_in_word c ≡ true
digit_goes c h = or_left _ (nat_le 128 c) (or_left _ (c == 36) (or_left _ (c == 95) (or_left _ _ (or_left _ _ h))))

pub alphanumeric_goes : (c : ℕ) → is_ascii_alphanumeric c ≡ true → goes_in_word c ≡ true
alphanumeric_goes c h = or_left _ (nat_le 128 c) (or_left _ (c == 36) (or_left _ (c == 95) h))

-- a digit begins no name
pub ranged : (low high c : ℕ) → is_in_range low high c ≡ true → (low ≤ c) × (c ≤ high)
ranged low high c h = let k = and_parts (nat_le low c) (nat_le c high) h in (leb-true low c k.0, leb-true c high k.1)

pub starts_no_digit : (c : ℕ) → starts_name c ≡ true → is_ascii_digit c ≡ false
starts_no_digit c h = false_from_ne_true (is_ascii_digit c) (λ d. let b = ranged 48 57 c d in outer b.0 b.1 (or_cases (is_xid_start c || (c == 36)) (c == 95) h))
  where
    letter : 48 ≤ c → c ≤ 57 → (is_in_range 65 90 c ≡ true) ⊎ (is_in_range 97 122 c ≡ true) → ⊥
    letter l u (inl e) = let b = ranged 65 90 c e in omega arith
    letter l u (inr e) = let b = ranged 97 122 c e in omega arith

    inner : 48 ≤ c → c ≤ 57 → (is_xid_start c ≡ true) ⊎ ((c == 36) ≡ true) → ⊥
    inner l u (inl e) = letter l u (or_cases (is_in_range 65 90 c) (is_in_range 97 122 c) (sym (is_xid_start-ascii c (omega arith)) ∙ e))
    inner l u (inr e) = let k : c ≡ 36 = eqb-true c 36 e in omega arith

    outer : 48 ≤ c → c ≤ 57 → ((is_xid_start c || (c == 36)) ≡ true) ⊎ ((c == 95) ≡ true) → ⊥
    outer l u (inl e) = inner l u (or_cases (is_xid_start c) (c == 36) e)
    outer l u (inr e) = let k : c ≡ 95 = eqb-true c 95 e in omega arith

-- what ends a word, and what begins none
pub no_word_no_name : (c : ℕ) → goes_in_word c ≡ false → continues_name c ≡ false
no_word_no_name c h = false_from_ne_true (continues_name c) (λ e. both_ways (goes_in_word c) h (continues_goes c e))

pub no_word_no_start : (c : ℕ) → goes_in_word c ≡ false → starts_name c ≡ false
no_word_no_start c h = false_from_ne_true (starts_name c) (λ e. both_ways (goes_in_word c) h (continues_goes c (starts_continues c e)))

pub no_word_no_digit : (c : ℕ) → goes_in_word c ≡ false → is_ascii_digit c ≡ false
no_word_no_digit c h = false_from_ne_true (is_ascii_digit c) (λ e. both_ways (goes_in_word c) h (digit_goes c e))

-- ---- the names, numbers and signs

pub all_goes : (w : List ℕ) → spells_name w ≡ true → list_all goes_in_word w ≡ true
all_goes [] h = absurd (both_ways false refl h)
all_goes (c ∷ w) h = let k = and_parts (starts_name c) (list_all continues_name w) h in and_from _ _ (continues_goes c (starts_continues c k.0)) (all_follow continues_name goes_in_word continues_goes w k.1)

pub whole_digits : (w : List ℕ) → spells_whole w ≡ true → list_all is_ascii_digit w ≡ true
whole_digits [] h = absurd (both_ways false refl h)
whole_digits (c ∷ []) h = and_from (is_ascii_digit c) true h refl
whole_digits (c ∷ d ∷ ds) h = (and_parts (not (c == 48)) (list_all is_ascii_digit (c ∷ d ∷ ds)) h).1

-- what ends in characters of words ends in a word
pub ends_so : (o : Option ℕ) (c : ℕ) (cs : List ℕ) → list_all goes_in_word (c ∷ cs) ≡ true → option_map_or goes_in_word (last_or o (c ∷ cs)) false ≡ true
ends_so o c [] h = (and_parts (goes_in_word c) true h).0
ends_so o c (d ∷ cs) h = ends_so (Some c) d cs (and_parts (goes_in_word c) (list_all goes_in_word (d ∷ cs)) h).1

pub last_behind : (o : Option ℕ) (a b : List ℕ) → last_or o (a ++ b) ≡ last_or (last_or o a) b
last_behind o [] b = refl
last_behind o (x ∷ a) b = last_behind (Some x) a b

pub ends_in_word_behind : (a g : List ℕ) (c : ℕ) (cs : List ℕ) → list_all goes_in_word (c ∷ cs) ≡ true → ends_in_word (a ++ (g ++ (c ∷ cs))) ≡ true
ends_in_word_behind a g c cs h =
    ap (λ o. option_map_or goes_in_word o false) (last_behind None a (g ++ (c ∷ cs)) ∙ last_behind (last_or None a) g (c ∷ cs)) ∙ ends_so (last_or (last_or None a) g) c cs h

-- a character that no punctuator goes on with, and that no comment begins with
abbrev pub goes_on_in_sign : ℕ → Bool
goes_on_in_sign c = list_any (λ d. c == d) (codes ".=><+-*&|?/")

pub word_no_sign : (c : ℕ) → goes_in_word c ≡ true → goes_on_in_sign c ≡ false
word_no_sign c h = false_from_ne_true (goes_on_in_sign c) (λ e. both_ways (goes_in_word c) (not-true (goes_in_word c) (found_passes (λ d. not (goes_in_word d)) c (codes ".=><+-*&|?/") refl e)) h)

-- ---- punctuators

pub behind_itself : (t r : List ℕ) → text_behind t (t ++ r) ≡ Some r
behind_itself [] r = refl
behind_itself (c ∷ t) r = rw (eq-eqb c c refl) (behind_itself t r)

-- what stands at the front of a text and is longer than its first characters goes on with the next
goes_on : (f : ℕ → Bool) (t a : List ℕ) (c : ℕ) (r : List ℕ) → list_all f t ≡ true → length a < length t → is_some (text_behind t (a ++ (c ∷ r))) ≡ true → f c ≡ true
goes_on f [] a c r g l s = absurd (omega arith)
goes_on f (y ∷ t) [] c r g l s = go (y == c) refl s
  where
    go : (b : Bool) → (y == c) ≡ b → is_some (cond b (text_behind t r) None) ≡ true → f c ≡ true
    go true e k = subst (λ x. f x ≡ true) (eqb-true y c e) (and_parts (f y) (list_all f t) g).0
    go false e k = absurd (both_ways false refl k)
goes_on f (y ∷ t) (x ∷ a) c r g l s = go (goes_on f t a c r (and_parts (f y) (list_all f t) g).1 (omega arith)) (y == x) s
  where
    go : (is_some (text_behind t (a ++ (c ∷ r))) ≡ true → f c ≡ true) → (b : Bool) → is_some (cond b (text_behind t (a ++ (c ∷ r))) None) ≡ true → f c ≡ true
    go ih true k = ih k
    go ih false k = absurd (both_ways false refl k)

abbrev rest_of : List ℕ → List ℕ
rest_of [] = []
rest_of (c ∷ cs) = cs

signs_go_on : (q : Punctuator) → list_all goes_on_in_sign (rest_of (punctuator_text q)) ≡ true
signs_go_on dot = refl
signs_go_on q = refl

record Splits (p : Punctuator) : Type 0 where
  head : ℕ
  tail : List ℕ
  text : punctuator_text p ≡ head ∷ tail

splits : (p : Punctuator) → Splits p
splits dot = record { head = _; tail = _; text = refl }
splits p = record { head = _; tail = _; text = refl }

some_since : (f : List ℕ → Bool) (o : Option (List ℕ)) → option_map_or f o false ≡ true → is_some o ≡ true
some_since f None h = h
some_since f (Some x) h = refl

-- a longer one goes on with the character behind this one
longer_goes_on : (p q : Punctuator) (c : ℕ) (r : List ℕ) → length (punctuator_text p) < length (punctuator_text q) → stands q (punctuator_text p ++ (c ∷ r)) ≡ true → goes_on_in_sign c ≡ true
longer_goes_on p q c r l s =
    let z = splits p in
    let y = splits q in
    let k : is_some (text_behind (punctuator_text q) (punctuator_text p ++ (c ∷ r))) ≡ true = some_since (may_precede q) (text_behind (punctuator_text q) (punctuator_text p ++ (c ∷ r))) s in
    let m : is_some (text_behind (y.head ∷ y.tail) ((z.head ∷ z.tail) ++ (c ∷ r))) ≡ true = subst₂ (λ t u. is_some (text_behind t (u ++ (c ∷ r))) ≡ true) y.text z.text k in
    go y.head z.head y.tail z.tail (y.head == z.head) (subst (λ t. list_all goes_on_in_sign (rest_of t) ≡ true) y.text (signs_go_on q)) (subst₂ (λ t u. length u < length t) y.text z.text l) m
  where
    go : (h i : ℕ) (t u : List ℕ) (b : Bool) → list_all goes_on_in_sign t ≡ true → length (i ∷ u) < length (h ∷ t) → is_some (cond b (text_behind t (u ++ (c ∷ r))) None) ≡ true → goes_on_in_sign c ≡ true
    go h i t u true g n k = goes_on goes_on_in_sign t u c r g (omega arith) k
    go h i t u false g n k = absurd (both_ways false refl k)

pub none_longer : (p : Punctuator) (c : ℕ) (r : List ℕ) → goes_on_in_sign c ≡ false → longer_stands p (punctuator_text p ++ (c ∷ r)) ≡ false
unfolding longer_stands
none_longer p c r h = among punctuators
  where
    one : (q : Punctuator) (a b : Bool) → nat_lt (length (punctuator_text p)) (length (punctuator_text q)) ≡ a → stands q (punctuator_text p ++ (c ∷ r)) ≡ b → (a && b) ≡ false
    one q true true e f = absurd (both_ways (goes_on_in_sign c) h (longer_goes_on p q c r (ltb-true _ _ e) f))
    one q true false e f = refl
    one q false b e f = refl

    among : (qs : List Punctuator) → list_any (λ q. nat_lt (length (punctuator_text p)) (length (punctuator_text q)) && stands q (punctuator_text p ++ (c ∷ r))) qs ≡ false
    among [] = refl
    among (q ∷ qs) = or_from _ _ (one q _ _ refl refl) (among qs)

pub not_that : (c d : ℕ) → goes_on_in_sign c ≡ false → goes_on_in_sign d ≡ true → (c == d) ≡ false
not_that c d g h = false_from_ne_true (c == d) (λ e. both_ways (goes_on_in_sign d) (subst (λ x. goes_on_in_sign x ≡ false) (eqb-true c d e) g) h)

-- ---- words of letters

below_128 : (c : ℕ) → is_ascii_alphabetic c ≡ true → c < 128
below_128 c h = go (or_cases (is_in_range 65 90 c) (is_in_range 97 122 c) h)
  where
    go : (is_in_range 65 90 c ≡ true) ⊎ (is_in_range 97 122 c ≡ true) → c < 128
    go (inl e) = let b = ranged 65 90 c e in omega arith
    go (inr e) = let b = ranged 97 122 c e in omega arith

pub letter_starts : (c : ℕ) → is_ascii_alphabetic c ≡ true → starts_name c ≡ true
letter_starts c h = or_left _ (c == 95) (or_left (is_xid_start c) (c == 36) (is_xid_start-ascii c (below_128 c h) ∙ h))

pub letters_spelled : (c : ℕ) (w : List ℕ) → list_all is_ascii_alphabetic (c ∷ w) ≡ true → spells_name (c ∷ w) ≡ true
letters_spelled c w h = let k = and_parts (is_ascii_alphabetic c) (list_all is_ascii_alphabetic w) h in and_from (starts_name c) _ (letter_starts c k.0) (all_follow is_ascii_alphabetic continues_name (λ d l. starts_continues d (letter_starts d l)) w k.1)
