-- At the front of a text stands one punctuator at most, whatever closing bracket follows the text.
use Rattle.std.proofs.Common.{◌≡◌, ℕ, ◌<◌, ◌≤◌, Bool, true, false, not, cond, nat_lt, ◌&&◌, ◌||◌, ◌==◌, ◌⊎◌, inl, inr, Option, Some, None, option_map, List, [], ◌∷◌, ◌++◌, length, bytes_eq, refl, sym, ap, ◌∙◌, subst, append_assoc, arith}
use Rattle.std.specs.List.{list_all, list_any}
use Rattle.std.specs.Option.{option_map_or}
use Rattle.std.proofs.lemmas.Bool.{both_ways, and_parts, or_parts, or_cases, cases_lt, lt-ltb, not-true}
use Rattle.std.proofs.lemmas.Option.{same_Some}
use Rattle.std.proofs.lemmas.Slice.Eq.{bytes_eq-Decides}
use Rattle.jsgen_model.specs.Punctuator.{Punctuator, punctuator_text, dot, question_dot, slash, Bracket, Round, Square, Brace}
use Rattle.jsgen_model.specs.Tokens.{text_behind, may_precede, stands, longer_stands, punctuators, Sign, ends_before}

-- ---- a punctuator is known by its text

named_by : List ℕ → List Punctuator → Option Punctuator
named_by t [] = None
named_by t (q ∷ qs) = cond (bytes_eq (punctuator_text q) t) (Some q) (named_by t qs)

by_text : (q : Punctuator) → named_by (punctuator_text q) punctuators ≡ Some q
unfolding named_by
by_text dot = refl
by_text q = refl

pub same_sign : (p q : Punctuator) → punctuator_text p ≡ punctuator_text q → p ≡ q
same_sign p q e = same_Some p q (sym (by_text p) ∙ (ap (λ t. named_by t punctuators) e ∙ by_text q))

listed : (q : Punctuator) → list_any (λ r. bytes_eq (punctuator_text r) (punctuator_text q)) punctuators ≡ true
listed dot = refl
listed q = refl

none_passes : (f : Punctuator → Bool) (q : Punctuator) (qs : List Punctuator) → list_any (λ r. bytes_eq (punctuator_text r) (punctuator_text q)) qs ≡ true → list_any f qs ≡ false → f q ≡ false
none_passes f q [] g h = absurd (both_ways false refl g)
none_passes f q (r ∷ qs) g h = let k = or_parts (f r) (list_any f qs) h in go (none_passes f q qs) k.1 k.0 (or_cases (bytes_eq (punctuator_text r) (punctuator_text q)) (list_any (λ x. bytes_eq (punctuator_text x) (punctuator_text q)) qs) g)
  where
    go : (list_any (λ x. bytes_eq (punctuator_text x) (punctuator_text q)) qs ≡ true → list_any f qs ≡ false → f q ≡ false) → list_any f qs ≡ false → f r ≡ false → (bytes_eq (punctuator_text r) (punctuator_text q) ≡ true) ⊎ (list_any (λ x. bytes_eq (punctuator_text x) (punctuator_text q)) qs ≡ true) → f q ≡ false
    go ih a b (inl e) = subst (λ x. f x ≡ false) (same_sign r q ((bytes_eq-Decides (punctuator_text r) (punctuator_text q)).0 e)) b
    go ih a b (inr e) = ih e a

-- ---- the longest is one

and_not : (a b : Bool) → (a && b) ≡ false → b ≡ true → a ≡ false
and_not true b e f = absurd (both_ways b e f)
and_not false b e f = refl

-- no punctuator that stands there is longer
not_longer : (p q : Punctuator) (text : List ℕ) → longer_stands p text ≡ false → stands q text ≡ true → length (punctuator_text p) < length (punctuator_text q) → ⊥
unfolding longer_stands
not_longer p q text h s l =
    let k = none_passes (λ r. nat_lt (length (punctuator_text p)) (length (punctuator_text r)) && stands r text) q punctuators (listed q) h in
    both_ways (nat_lt (length (punctuator_text p)) (length (punctuator_text q))) (and_not (nat_lt (length (punctuator_text p)) (length (punctuator_text q))) (stands q text) k s) (lt-ltb (length (punctuator_text p)) (length (punctuator_text q)) l)

-- of one text fronts of one length are one
same_front : (a b x y : List ℕ) → length a ≡ length b → a ++ x ≡ b ++ y → (a ≡ b) × (x ≡ y)
same_front [] [] x y l e = (refl, e)
same_front [] (d ∷ b) x y l e = absurd (omega arith)
same_front (c ∷ a) [] x y l e = absurd (omega arith)
same_front (c ∷ a) (d ∷ b) x y l e = let h = same_front a b x y (omega arith) cc in let k = h.0 in (cc, h.1)

pub one_sign : (p q : Punctuator) (x y : List ℕ) → ends_before (Sign p) x ≡ true → ends_before (Sign q) y ≡ true → punctuator_text p ++ x ≡ punctuator_text q ++ y → (p ≡ q) × (x ≡ y)
one_sign p q x y g h e =
    let a = and_parts (stands p (punctuator_text p ++ x)) (not (longer_stands p (punctuator_text p ++ x))) g in
    let b = and_parts (stands q (punctuator_text q ++ y)) (not (longer_stands q (punctuator_text q ++ y))) h in
    let la : longer_stands p (punctuator_text p ++ x) ≡ false = not-true _ a.1 in
    let lb : longer_stands q (punctuator_text q ++ y) ≡ false = not-true _ b.1 in
    let sp : stands p (punctuator_text q ++ y) ≡ true = subst (λ t. stands p t ≡ true) e a.0 in
    let sq : stands q (punctuator_text p ++ x) ≡ true = subst (λ t. stands q t ≡ true) (sym e) b.0 in
    let nl = not_longer p q (punctuator_text p ++ x) la sq in
    let nm = not_longer q p (punctuator_text q ++ y) lb sp in
    let f = same_front (punctuator_text p) (punctuator_text q) x y (one_length (length (punctuator_text p)) (length (punctuator_text q)) nl nm) e in
    (same_sign p q f.0, f.1)
  where
    one_length : (m n : ℕ) → (m < n → ⊥) → (n < m → ⊥) → m ≡ n
    one_length m n u v = by (cases_lt m n) (cases_lt n m)
      where
        by : (m < n) ⊎ (n ≤ m) → (n < m) ⊎ (m ≤ n) → m ≡ n
        by (inl l) k = absurd (u l)
        by (inr l) (inl k) = absurd (v k)
        by (inr l) (inr k) = omega arith

-- ---- closing brackets

unfoldable pub closing_char : Bracket → ℕ
closing_char Round = 41
closing_char Square = 93
closing_char Brace = 125

-- the end, or a closing bracket
abbrev pub Shut : List ℕ → Type 0
Shut [] = Unit {0}
Shut (c ∷ cs) = (b : Bracket) × (c ≡ closing_char b)

-- no character is a closing bracket
abbrev no_closing : ℕ → Bool
no_closing c = not (c == 41 || c == 93 || c == 125)

signs_apart : (p : Punctuator) → list_all no_closing (punctuator_text p) ≡ true
signs_apart dot = refl
signs_apart p = refl

apart_from : (c : ℕ) (b : Bracket) → no_closing c ≡ true → (c == closing_char b) ≡ false
unfolding closing_char
apart_from c b h = let k = or_parts (c == 41 || c == 93) (c == 125) (not-true _ h) in let j = or_parts (c == 41) (c == 93) k.0 in go b j.0 j.1 k.1
  where
    go : (b : Bracket) → (c == 41) ≡ false → (c == 93) ≡ false → (c == 125) ≡ false → (c == closing_char b) ≡ false
    go Round x y z = x
    go Square x y z = y
    go Brace x y z = z

behind_shut : (t a x : List ℕ) → list_all no_closing t ≡ true → Shut x → text_behind t (a ++ x) ≡ option_map (λ r. r ++ x) (text_behind t a)
behind_shut [] a x h s = refl
behind_shut (c ∷ t) [] [] h s = refl
behind_shut (c ∷ t) [] (d ∷ x) h s = none (c == d) (subst (λ y. (c == y) ≡ false) (sym s.1) (apart_from c s.0 (and_parts (no_closing c) (list_all no_closing t) h).0))
  where
    none : (b : Bool) → b ≡ false → cond b (text_behind t x) None ≡ None
    none true e = absurd (both_ways true e refl)
    none false e = refl
behind_shut (c ∷ t) (d ∷ a) x h s = go (c == d) (behind_shut t a x (and_parts (no_closing c) (list_all no_closing t) h).1 s)
  where
    go : (b : Bool) → text_behind t (a ++ x) ≡ option_map (λ r. r ++ x) (text_behind t a) → cond b (text_behind t (a ++ x)) None ≡ option_map (λ r. r ++ x) (cond b (text_behind t a) None)
    go true e = e
    go false e = refl

closing_precedes : (p : Punctuator) (b : Bracket) (x : List ℕ) → may_precede p (closing_char b ∷ x) ≡ true
unfolding closing_char
closing_precedes slash Round x = refl
closing_precedes slash Square x = refl
closing_precedes slash Brace x = refl
closing_precedes dot Round x = refl
closing_precedes dot Square x = refl
closing_precedes dot Brace x = refl
closing_precedes question_dot Round x = refl
closing_precedes question_dot Square x = refl
closing_precedes question_dot Brace x = refl
closing_precedes p b x = refl

nothing_precedes : (p : Punctuator) → may_precede p [] ≡ true
nothing_precedes dot = refl
nothing_precedes p = refl

precede_shut : (p : Punctuator) (r x : List ℕ) → Shut x → may_precede p (r ++ x) ≡ may_precede p r
precede_shut p [] [] s = refl
precede_shut p [] (c ∷ x) s = subst (λ y. may_precede p (y ∷ x) ≡ true) (sym s.1) (closing_precedes p s.0 x) ∙ sym (nothing_precedes p)
precede_shut slash (c ∷ r) x s = refl
precede_shut dot (c ∷ r) x s = refl
precede_shut question_dot (c ∷ r) x s = refl
precede_shut p (c ∷ r) x s = refl

stands_shut : (q : Punctuator) (a x : List ℕ) → Shut x → stands q (a ++ x) ≡ stands q a
stands_shut q a x s = ap (λ o. option_map_or (may_precede q) o false) (behind_shut (punctuator_text q) a x (signs_apart q) s) ∙ go (text_behind (punctuator_text q) a)
  where
    go : (o : Option (List ℕ)) → option_map_or (may_precede q) (option_map (λ r. r ++ x) o) false ≡ option_map_or (may_precede q) o false
    go None = refl
    go (Some r) = precede_shut q r x s

longer_shut : (p : Punctuator) (a x : List ℕ) → Shut x → longer_stands p (a ++ x) ≡ longer_stands p a
unfolding longer_stands
longer_shut p a x s = go punctuators
  where
    go : (qs : List Punctuator) → list_any (λ q. nat_lt (length (punctuator_text p)) (length (punctuator_text q)) && stands q (a ++ x)) qs ≡ list_any (λ q. nat_lt (length (punctuator_text p)) (length (punctuator_text q)) && stands q a) qs
    go [] = refl
    go (q ∷ qs) = rw (stands_shut q a x s, go qs) refl

-- whether the token ends there doesn't depend on what a closing bracket begins
pub sign_ends_same : (p : Punctuator) (r x : List ℕ) → Shut x → ends_before (Sign p) (r ++ x) ≡ ends_before (Sign p) r
sign_ends_same p r x s = ap (λ t. stands p t && not (longer_stands p t)) (sym (append_assoc (punctuator_text p) r x)) ∙ rw (stands_shut p (punctuator_text p ++ r) x s, longer_shut p (punctuator_text p ++ r) x s) refl

pub sign_ends_shut : (p : Punctuator) (r x : List ℕ) → ends_before (Sign p) r ≡ true → Shut x → ends_before (Sign p) (r ++ x) ≡ true
sign_ends_shut p r x h s = subst (λ t. (stands p t && not (longer_stands p t)) ≡ true) (append_assoc (punctuator_text p) r x) (rw (stands_shut p (punctuator_text p ++ r) x s, longer_shut p (punctuator_text p ++ r) x s) h)
