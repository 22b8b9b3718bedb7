-- The first punctuator that stands there of those in order of length is the longest.
use Rattle.std.proofs.Common.{◌≡◌, ℕ, ◌≤◌, Bool, true, false, not, cond, nat_lt, nat_le, ◌&&◌, ◌==◌, ◌⊎◌, inl, inr, Option, Some, None, List, [], ◌∷◌, ◌++◌, length, drop, bytes_eq, length-append, refl, sym, ap, ◌∙◌, subst, arith}
use Rattle.std.specs.List.{list_all, list_any, find}
use Rattle.std.specs.Option.{option_map_or, MatchOption}
use Rattle.std.proofs.lemmas.Bool.{both_ways, and_parts, and_from, or_cases, leb-true, le-leb, ltb-true, or_from, not-true, eqb-true, false_from_ne_true}
use Rattle.std.proofs.lemmas.Slice.Eq.{bytes_eq-Decides}
use Rattle.std.proofs.Math.Seq.{drop-append_seam}
use Rattle.jsgen_model.specs.Punctuator.{Punctuator, punctuator_text, dot}
use Rattle.jsgen_model.specs.Tokens.{text_behind, may_precede, stands, longer_stands, punctuators, Sign}
use Rattle.jsgen_token_laws.proofs.Signs.{same_sign}
use Rattle.jsgen_oracle.specs.Signs.{punctuator_plain}
use Rattle.jsgen_oracle.specs.Steps.{StandsAt, HasNoSign, IsSignAt}
use Rattle.jsgen_oracle.specs.declared.punctuator.Punctuator as program
use Rattle.jsgen_oracle.specs.declared.punctuator.TheConstants.{LONGEST_FIRST}

longer : Punctuator → Punctuator → Bool
longer p q = nat_lt (length (punctuator_text p)) (length (punctuator_text q))

-- none behind the first is longer than it, and so on
abbrev falling : List program.Punctuator → Bool
falling [] = true
falling (x ∷ xs) = list_all (λ y. nat_le (length (punctuator_text (punctuator_plain y))) (length (punctuator_text (punctuator_plain x)))) xs && falling xs

abbrev is_among : Punctuator → List program.Punctuator → Bool
is_among q xs = list_any (λ y. bytes_eq (punctuator_text (punctuator_plain y)) (punctuator_text q)) xs

is_falling : falling LONGEST_FIRST ≡ true
is_falling = refl

all_among : (q : Punctuator) → is_among q LONGEST_FIRST ≡ true
all_among dot = refl
all_among q = refl

-- what all of a list pass, one of it passes
one_of : (f : Punctuator → Bool) (q : Punctuator) (xs : List program.Punctuator) → list_all (λ y. f (punctuator_plain y)) xs ≡ true → is_among q xs ≡ true → f q ≡ true
one_of f q [] g h = absurd (both_ways false refl h)
one_of f q (x ∷ xs) g h = let k = and_parts (f (punctuator_plain x)) (list_all (λ y. f (punctuator_plain y)) xs) g in go (one_of f q xs k.1) k.0 (or_cases (bytes_eq (punctuator_text (punctuator_plain x)) (punctuator_text q)) (is_among q xs) h)
  where
    go : (is_among q xs ≡ true → f q ≡ true) → f (punctuator_plain x) ≡ true → (bytes_eq (punctuator_text (punctuator_plain x)) (punctuator_text q) ≡ true) ⊎ (is_among q xs ≡ true) → f q ≡ true
    go ih k (inl e) = subst (λ r. f r ≡ true) (same_sign (punctuator_plain x) q ((bytes_eq-Decides (punctuator_text (punctuator_plain x)) (punctuator_text q)).0 e)) k
    go ih k (inr e) = ih e

-- where none of a list stands, one of it doesn't
none_found : (text : List ℕ) (xs : List program.Punctuator) → find (λ y. stands (punctuator_plain y) text) xs ≡ None → list_all (λ y. not (stands (punctuator_plain y) text)) xs ≡ true
none_found text [] e = refl
none_found text (x ∷ xs) e = go (none_found text xs) (stands (punctuator_plain x) text) refl e
  where
    go : (find (λ y. stands (punctuator_plain y) text) xs ≡ None → list_all (λ y. not (stands (punctuator_plain y) text)) xs ≡ true) → (b : Bool) → stands (punctuator_plain x) text ≡ b → cond b (Some x) (find (λ y. stands (punctuator_plain y) text) xs) ≡ None → list_all (λ y. not (stands (punctuator_plain y) text)) (x ∷ xs) ≡ true
    go ih true s e = absurd (cc)
    go ih false s e = and_from (not (stands (punctuator_plain x) text)) _ (ap not s) (ih e)

le_self : (n : ℕ) → nat_le n n ≡ true
le_self n = le-leb n n (omega arith)

-- of those that aren't longer each is refused or stands behind
none_longer_found : (text : List ℕ) (p : program.Punctuator) (xs : List program.Punctuator) → falling xs ≡ true → find (λ y. stands (punctuator_plain y) text) xs ≡ Some p → (stands (punctuator_plain p) text ≡ true) × (list_all (λ y. not (longer (punctuator_plain p) (punctuator_plain y) && stands (punctuator_plain y) text)) xs ≡ true)
unfolding longer
none_longer_found text p [] g e = absurd (cc)
none_longer_found text p (x ∷ xs) g e = let k = and_parts _ (falling xs) g in go (stands (punctuator_plain x) text) refl k.0 (none_longer_found text p xs k.1) e
  where
    refused : (l s : Bool) → l ≡ false → not (l && s) ≡ true
    refused true s e = absurd (both_ways true e refl)
    refused false s e = refl

    silent : (l s : Bool) → s ≡ false → not (l && s) ≡ true
    silent true true e = absurd (both_ways true e refl)
    silent true false e = refl
    silent false s e = refl

    not_above : (m n : ℕ) → nat_le m n ≡ true → nat_lt n m ≡ false
    not_above m n h = false_from_ne_true (nat_lt n m) (λ e. let a = leb-true m n h in let b = ltb-true n m e in omega arith)

    all_refused : (ys : List program.Punctuator) → list_all (λ y. nat_le (length (punctuator_text (punctuator_plain y))) (length (punctuator_text (punctuator_plain x)))) ys ≡ true → list_all (λ y. not (longer (punctuator_plain x) (punctuator_plain y) && stands (punctuator_plain y) text)) ys ≡ true
    all_refused [] h = refl
    all_refused (y ∷ ys) h = let k = and_parts _ (list_all (λ z. nat_le (length (punctuator_text (punctuator_plain z))) (length (punctuator_text (punctuator_plain x)))) ys) h in and_from _ _ (refused _ _ (not_above _ _ k.0)) (all_refused ys k.1)

    go : (b : Bool) → stands (punctuator_plain x) text ≡ b → list_all (λ y. nat_le (length (punctuator_text (punctuator_plain y))) (length (punctuator_text (punctuator_plain x)))) xs ≡ true → (find (λ y. stands (punctuator_plain y) text) xs ≡ Some p → (stands (punctuator_plain p) text ≡ true) × (list_all (λ y. not (longer (punctuator_plain p) (punctuator_plain y) && stands (punctuator_plain y) text)) xs ≡ true)) → cond b (Some x) (find (λ y. stands (punctuator_plain y) text) xs) ≡ Some p → (stands (punctuator_plain p) text ≡ true) × (list_all (λ y. not (longer (punctuator_plain p) (punctuator_plain y) && stands (punctuator_plain y) text)) (x ∷ xs) ≡ true)
    go true s h ih e = let same : x ≡ p = cc in subst (λ q. (stands (punctuator_plain q) text ≡ true) × (list_all (λ y. not (longer (punctuator_plain q) (punctuator_plain y) && stands (punctuator_plain y) text)) (x ∷ xs) ≡ true)) same (s, and_from _ _ (refused _ _ (not_above _ _ (le_self (length (punctuator_text (punctuator_plain x)))))) (all_refused xs h))
    go false s h ih e = let k = ih e in (k.0, and_from _ _ (silent _ _ s) k.1)

-- ---- what stands there

pub text_split : (t text r : List ℕ) → text_behind t text ≡ Some r → text ≡ t ++ r
text_split [] text r e = let same : text ≡ r = cc in same
text_split (c ∷ t) [] r e = absurd (cc)
text_split (c ∷ t) (d ∷ text) r e = go (text_split t text r) (c == d) refl e
  where
    go : (text_behind t text ≡ Some r → text ≡ t ++ r) → (b : Bool) → (c == d) ≡ b → cond b (text_behind t text) None ≡ Some r → d ∷ text ≡ c ∷ (t ++ r)
    go ih true h e = let same : c ≡ d = eqb-true c d h in let rest : text ≡ t ++ r = ih e in cc
    go ih false h e = absurd (cc)

pub record Behind (p : Punctuator) (text : List ℕ) : Type 0 where
  pub rest : List ℕ
  pub text_is : text ≡ punctuator_text p ++ rest

pub behind_sign : (p : Punctuator) (text : List ℕ) → stands p text ≡ true → Behind p text
behind_sign p text h = go (text_behind (punctuator_text p) text) refl h
  where
    go : (o : Option (List ℕ)) → text_behind (punctuator_text p) text ≡ o → option_map_or (may_precede p) o false ≡ true → Behind p text
    go None e h = absurd (both_ways false refl h)
    go (Some r) e h = record { rest = r; text_is = text_split (punctuator_text p) text r e }

pub sign_stands : (p : Punctuator) (text : List ℕ) → IsSignAt text p → StandsAt text (Sign p) (drop (length (punctuator_text p)) text)
sign_stands p text h =
    let b = behind_sign p text h.0 in
    let r : drop (length (punctuator_text p)) text ≡ b.rest = ap (λ t. drop (length (punctuator_text p)) t) b.text_is ∙ drop-append_seam (punctuator_text p) b.rest in
    let t : text ≡ punctuator_text p ++ drop (length (punctuator_text p)) text = b.text_is ∙ ap (λ x. punctuator_text p ++ x) (sym r) in
    record { plain = refl; text_is = t; spelled = refl; ends = subst (λ x. (stands p x && not (longer_stands p x)) ≡ true) t (and_from (stands p text) _ h.0 (ap not h.1)) }

pub sign_fits : (p : Punctuator) (text : List ℕ) → IsSignAt text p → length (punctuator_text p) ≤ length text
sign_fits p text h = let b = behind_sign p text h.0 in omega (arith, ap length b.text_is, length-append (punctuator_text p) b.rest)

-- ---- the first in order

pub first_is_sign : (text : List ℕ) (o : Option program.Punctuator) → o ≡ find (λ y. stands (punctuator_plain y) text) LONGEST_FIRST → MatchOption o (HasNoSign text) (λ p. IsSignAt text (punctuator_plain p))
unfolding longer longer_stands
first_is_sign text None e = λ q. not-true _ (one_of (λ p. not (stands p text)) q LONGEST_FIRST (none_found text LONGEST_FIRST (sym e)) (all_among q))
first_is_sign text (Some p) e =
    let k = none_longer_found text p LONGEST_FIRST is_falling (sym e) in
    (k.0, none punctuators)
  where
    none : (qs : List Punctuator) → list_any (λ q. nat_lt (length (punctuator_text (punctuator_plain p))) (length (punctuator_text q)) && stands q text) qs ≡ false
    none [] = refl
    none (q ∷ qs) = or_from _ _ (not-true _ (one_of (λ r. not (longer (punctuator_plain p) r && stands r text)) q LONGEST_FIRST (none_longer_found text p LONGEST_FIRST is_falling (sym e)).1 (all_among q))) (none qs)
