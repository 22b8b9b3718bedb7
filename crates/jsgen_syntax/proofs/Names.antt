-- Each character of a name is a Unicode scalar value and no backslash.
use Rattle.std.proofs.Common.{◌≡◌, ℕ, ◌<◌, ◌≤◌, Bool, true, false, not, cond, nat_lt, ◌||◌, ◌==◌, ◌⊎◌, inl, inr, List, [], ◌∷◌, refl, sym, ap, subst, arith}
use Rattle.std.specs.List.{list_all}
use lib.Utf8.{scalar, low_scalar}
use Rattle.std.proofs.lemmas.Bool.{both_ways, and_parts, and_from, or_cases, or_left, or_right, eqb-true, cases_lt, lt-ltb, le-ltb, le-leb, lt-leb}
use Rattle.ucd_table.specs.Steps.{step_value}
use Rattle.ucd_table.proofs.Stepped.{Stepped, zip_stepped}
use Rattle.ucd_table.proofs.Facts.{Stepped-everywhere}
use Rattle.ucd_derived.proofs.BinaryLemmas.{is_xid_continue_stepped}
use Rattle.unicode_ident.specs.Ident.{is_xid_start, is_xid_continue}
use Rattle.unicode_ident.proofs.Computing.{unicode_ident}
use Rattle.unicode_ident.proofs.IdentLemmas.{is_xid_continue-ascii, is_xid_start-is_xid_continue}
use Rattle.jsgen_syntax.specs.Name.{starts_name, continues_name, spells_name}

pub starts_continues : (c : ℕ) → starts_name c ≡ true → continues_name c ≡ true
starts_continues c h = outer (or_cases (is_xid_start c || (c == 36)) (c == 95) h)
  where
    by_continue : is_xid_continue c ≡ true → continues_name c ≡ true
    by_continue e = or_left _ (c == 8205) (or_left _ (c == 8204) (or_left (is_xid_continue c) (c == 36) e))

    inner : (is_xid_start c ≡ true) ⊎ ((c == 36) ≡ true) → continues_name c ≡ true
    inner (inl e) = by_continue (is_xid_start-is_xid_continue c e)
    inner (inr e) = or_left _ (c == 8205) (or_left _ (c == 8204) (or_right (is_xid_continue c) (c == 36) e))

    outer : ((is_xid_start c || (c == 36)) ≡ true) ⊎ ((c == 95) ≡ true) → continues_name c ≡ true
    outer (inl e) = inner (or_cases (is_xid_start c) (c == 36) e)
    outer (inr e) = by_continue (subst (λ x. is_xid_continue x ≡ true) (sym (eqb-true c 95 e)) (is_xid_continue-ascii 95 (omega arith)))

itself : (b : Bool) → b ≡ cond b true false
itself true = refl
itself false = refl

scalar_stepped : Stepped scalar
unfolding step_value
scalar_stepped = record { default = false; steps = (55296, true) ∷ (57344, false) ∷ (1114112, true) ∷ []; gives = λ c. by c (cases_lt c 57344) }
  where
    by : (c : ℕ) → (c < 57344) ⊎ (57344 ≤ c) → scalar c ≡ step_value false ((55296, true) ∷ (57344, false) ∷ (1114112, true) ∷ []) c
    by c (inl l) = rw (lt-ltb c 57344 l, lt-leb 57344 c l) refl
    by c (inr g) = rw (le-ltb c 57344 g, le-leb 57344 c g) (ap (λ b. cond (nat_lt c 55296) true b) (itself (nat_lt c 1114112)))

xid_scalar : (c : ℕ) → is_xid_continue c ≡ true → scalar c ≡ true
unfolding unicode_ident scalar_stepped step_value
xid_scalar c e =
    let both = zip_stepped (λ a b. not a || b) is_xid_continue scalar is_xid_continue_stepped scalar_stepped in
    subst (λ a. (not a || scalar c) ≡ true) e (Stepped-everywhere (λ x. not (is_xid_continue x) || scalar x) both refl c)

-- a test that the four kinds of characters of names pass
continues_passes : (f : ℕ → Bool) → ((c : ℕ) → is_xid_continue c ≡ true → f c ≡ true) → f 36 ≡ true → f 8204 ≡ true → f 8205 ≡ true → (c : ℕ) → continues_name c ≡ true → f c ≡ true
continues_passes f x s n j c h = outer (or_cases (is_xid_continue c || (c == 36) || (c == 8204)) (c == 8205) h)
  where
    that : (d : ℕ) → f d ≡ true → (c == d) ≡ true → f c ≡ true
    that d l e = subst (λ x. f x ≡ true) (sym (eqb-true c d e)) l

    inner : (is_xid_continue c ≡ true) ⊎ ((c == 36) ≡ true) → f c ≡ true
    inner (inl e) = x c e
    inner (inr e) = that 36 s e

    middle : ((is_xid_continue c || (c == 36)) ≡ true) ⊎ ((c == 8204) ≡ true) → f c ≡ true
    middle (inl e) = inner (or_cases (is_xid_continue c) (c == 36) e)
    middle (inr e) = that 8204 n e

    outer : ((is_xid_continue c || (c == 36) || (c == 8204)) ≡ true) ⊎ ((c == 8205) ≡ true) → f c ≡ true
    outer (inl e) = middle (or_cases (is_xid_continue c || (c == 36)) (c == 8204) e)
    outer (inr e) = that 8205 j e

pub continues_scalar : (c : ℕ) → continues_name c ≡ true → scalar c ≡ true
continues_scalar c h = continues_passes scalar xid_scalar (low_scalar 36 (omega arith)) (low_scalar 8204 (omega arith)) (low_scalar 8205 (omega arith)) c h

xid_no_backslash : (c : ℕ) → is_xid_continue c ≡ true → not (c == 92) ≡ true
xid_no_backslash c h = by (c == 92) refl
  where
    by : (b : Bool) → (c == 92) ≡ b → not b ≡ true
    by true e = absurd (both_ways (is_xid_continue 92) (is_xid_continue-ascii 92 (omega arith)) (subst (λ x. is_xid_continue x ≡ true) (eqb-true c 92 e) h))
    by false e = refl

pub continues_no_backslash : (c : ℕ) → continues_name c ≡ true → not (c == 92) ≡ true
continues_no_backslash c h = continues_passes (λ x. not (x == 92)) xid_no_backslash refl refl refl c h

-- what holds of each character that can stand in a name
pub all_continue : (w : List ℕ) → spells_name w ≡ true → list_all continues_name w ≡ true
all_continue [] h = absurd (both_ways false refl h)
all_continue (c ∷ w) h = let k = and_parts (starts_name c) (list_all continues_name w) h in and_from (continues_name c) _ (starts_continues c k.0) k.1
