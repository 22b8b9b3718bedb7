-- How far a word goes, and texts that a word begins.
use Rattle.std.proofs.Common.{◌≡◌, ℕ, suc, ◌+◌, ◌-◌, ◌*◌, ◌≤◌, ◌<◌, Bool, true, false, not, cond, nat_le, ◌&&◌, ◌||◌, ◌==◌, ◌⊎◌, inl, inr, Option, Some, None, List, [], ◌∷◌, ◌++◌, length, refl, sym, ap, ◌∙◌, subst, arith}
use Rattle.std.specs.Char.{is_ascii_alphanumeric, is_ascii_digit, is_ascii_hexdigit, digit_value, OutOfScalarRange}
use lib.Utf8.{scalar, scalar_cases}
use Rattle.std.specs.Int.{is_in_range}
use Rattle.std.specs.List.{list_all}
use Rattle.std.specs.Option.{option_map_or}
use Rattle.std.proofs.Math.Numerals.{one-add}
use Rattle.std.proofs.lemmas.Bool.{both_ways, and_parts, and_from, or_cases, or_parts, or_from, or_left, or_right, eqb-true, le-leb, false_from_ne_true, not-true}
use Rattle.unicode_ident.proofs.IdentLemmas.{is_xid_continue-ascii}
use Rattle.jsgen_syntax.specs.Escapes.{begins, begins_with, before_others, word_value, word_escape, word_hex, word_code_point, word_digits}
use Rattle.jsgen_syntax.specs.Name.{starts_name, continues_name, spells_name}
use Rattle.jsgen_model.specs.Tokens.{Word, is_spelled, ends_before}
use Rattle.jsgen_syntax.specs.Strings.{quote_char}
use Rattle.jsgen_syntax.specs.declared.quote.Quote.{Quote}
use Rattle.jsgen_syntax.specs.declared.quote.Quote.TheVariants as quotes
use Rattle.jsgen_token_laws.proofs.Characters.{ranged, continues_goes, starts_no_digit, no_word_no_start}
use Rattle.jsgen_token_laws.proofs.OneList.{begins_sign, sign_or}
use Rattle.jsgen_syntax.proofs.Names.{starts_continues, continues_scalar}
use Rattle.jsgen_oracle.specs.Steps.{starts_word, count_word, count_escape, count_braces}

-- ---- digits

hex_ranges : (c : ℕ) → is_ascii_hexdigit c ≡ true → (is_in_range 48 57 c ≡ true) ⊎ (is_in_range 65 70 c ≡ true) ⊎ (is_in_range 97 102 c ≡ true)
hex_ranges c h = outer (or_cases (is_in_range 48 57 c || is_in_range 65 70 c) (is_in_range 97 102 c) h)
  where
    inner : (is_in_range 48 57 c ≡ true) ⊎ (is_in_range 65 70 c ≡ true) → (is_in_range 48 57 c ≡ true) ⊎ (is_in_range 65 70 c ≡ true) ⊎ (is_in_range 97 102 c ≡ true)
    inner (inl e) = inl e
    inner (inr e) = inr (inl e)

    outer : ((is_in_range 48 57 c || is_in_range 65 70 c) ≡ true) ⊎ (is_in_range 97 102 c ≡ true) → (is_in_range 48 57 c ≡ true) ⊎ (is_in_range 65 70 c ≡ true) ⊎ (is_in_range 97 102 c ≡ true)
    outer (inl e) = inner (or_cases (is_in_range 48 57 c) (is_in_range 65 70 c) e)
    outer (inr e) = inr (inr e)

hex_continues : (c : ℕ) → is_ascii_hexdigit c ≡ true → continues_name c ≡ true
hex_continues c h = go (hex_ranges c h)
  where
    by_continue : c < 128 → is_ascii_alphanumeric c ≡ true → continues_name c ≡ true
    by_continue l e = or_left _ (c == 8205) (or_left _ (c == 8204) (or_left _ (c == 36) (is_xid_continue-ascii c l ∙ or_left _ (c == 95) e)))

    letter : 65 ≤ c → c ≤ 102 → (c ≤ 70) ⊎ (97 ≤ c) → continues_name c ≡ true
    letter l u (inl k) = by_continue (omega arith) (or_left _ _ (or_right _ _ (and_from (nat_le 65 c) _ (le-leb 65 c l) (le-leb c 90 (omega arith)))))
    letter l u (inr k) = by_continue (omega arith) (or_right _ _ (and_from (nat_le 97 c) _ (le-leb 97 c k) (le-leb c 122 (omega arith))))

    go : (is_in_range 48 57 c ≡ true) ⊎ (is_in_range 65 70 c ≡ true) ⊎ (is_in_range 97 102 c ≡ true) → continues_name c ≡ true
    go (inl e) = let b = ranged 48 57 c e in by_continue (omega arith) (or_left _ _ (or_left _ _ e))
    go (inr (inl e)) = let b = ranged 65 70 c e in letter b.0 (omega arith) (inl b.1)
    go (inr (inr e)) = let b = ranged 97 102 c e in letter (omega arith) b.1 (inr b.0)

hex_no_backslash : (c : ℕ) → is_ascii_hexdigit c ≡ true → (c == 92) ≡ false
hex_no_backslash c h = false_from_ne_true (c == 92) (λ e. let z = eqb-true c 92 e in go (hex_ranges c h) z)
  where
    go : (is_in_range 48 57 c ≡ true) ⊎ (is_in_range 65 70 c ≡ true) ⊎ (is_in_range 97 102 c ≡ true) → c ≡ 92 → ⊥
    go (inl e) z = let b = ranged 48 57 c e in omega arith
    go (inr (inl e)) z = let b = ranged 65 70 c e in omega arith
    go (inr (inr e)) z = let b = ranged 97 102 c e in omega arith

-- ---- what a value tells of its spelling

-- the value is one of characters of names
abbrev named : Option (List ℕ) → Bool
named o = option_map_or (list_all continues_name) o false

named_parts : (c : ℕ) (o : Option (List ℕ)) → named (before_others c o) ≡ true → (continues_name c ≡ true) × (named o ≡ true)
named_parts c None h = absurd (both_ways false refl h)
named_parts c (Some cs) h = and_parts (continues_name c) (list_all continues_name cs) h

-- a word goes no further here
Halts : List ℕ → Type 0
Halts [] = Unit {0}
Halts (c ∷ cs) = (c == 92 ≡ false) × (continues_name c ≡ false)

record Counted (r w : List ℕ) : Type 0 where
  pub word : named (word_value w) ≡ true → count_word (w ++ r) ≡ length w
  pub escape : named (word_escape w) ≡ true → count_escape (w ++ r) ≡ length w
  pub hex : (count n : ℕ) → named (word_hex count n w) ≡ true → count_word (w ++ r) ≡ length w
  pub point : begins_with 123 w ≡ true → named (word_code_point w) ≡ true → count_braces (w ++ r) ≡ length w
  pub digits : (n : ℕ) → named (word_digits n w) ≡ true → count_braces (w ++ r) ≡ length w

no_value : named None ≡ true → ⊥
no_value h = both_ways false refl h

one_more : (n m : ℕ) → n ≡ m → 1 + n ≡ suc m
one_more n m e = one-add n ∙ ap suc e

module _ (r : List ℕ) (c : ℕ) (cs : List ℕ) (f : Counted r cs) where
  -- over a character of a name
  over_name : (c == 92) ≡ false → continues_name c ≡ true → count_word (cs ++ r) ≡ length cs → count_word (c ∷ (cs ++ r)) ≡ suc (length cs)
  over_name n k e = rw (n, k) (one_more _ _ e)

  step_word : named (word_value (c ∷ cs)) ≡ true → count_word (c ∷ (cs ++ r)) ≡ suc (length cs)
  unfolding word_value
  step_word h = go (c == 92) refl h
    where
      go : (b : Bool) → (c == 92) ≡ b → named (cond b (word_escape cs) (before_others c (word_value cs))) ≡ true → count_word (c ∷ (cs ++ r)) ≡ suc (length cs)
      go true e h = rw e (one_more _ _ (f.escape h))
      go false e h = let k = named_parts c (word_value cs) h in over_name e k.0 (f.word k.1)

  step_hex : (count n : ℕ) → named (word_hex count n (c ∷ cs)) ≡ true → count_word (c ∷ (cs ++ r)) ≡ suc (length cs)
  unfolding word_value
  step_hex count n h = first (is_ascii_hexdigit c) refl h
    where
      next : ℕ
      next = n * 16 + digit_value c

      more : (b : Bool) → named (cond b (before_others next (word_value cs)) (word_hex (count - 1) next cs)) ≡ true → count_word (cs ++ r) ≡ length cs
      more true h = f.word (named_parts next (word_value cs) h).1
      more false h = f.hex (count - 1) next h

      first : (b : Bool) → is_ascii_hexdigit c ≡ b → named (cond (not b) None (cond (count == 1) (before_others next (word_value cs)) (word_hex (count - 1) next cs))) ≡ true → count_word (c ∷ (cs ++ r)) ≡ suc (length cs)
      first false e h = absurd (no_value h)
      first true e h = over_name (hex_no_backslash c e) (hex_continues c e) (more (count == 1) h)

  step_point : begins_with 123 (c ∷ cs) ≡ true → named (word_code_point (c ∷ cs)) ≡ true → count_braces (c ∷ (cs ++ r)) ≡ suc (length cs)
  unfolding word_value
  step_point b h = rw (eqb-true c 123 b) (go (begins is_ascii_hexdigit cs) h)
    where
      go : (b : Bool) → named (cond b (word_digits 0 cs) None) ≡ true → 1 + count_braces (cs ++ r) ≡ suc (length cs)
      go true h = one_more _ _ (f.digits 0 h)
      go false h = absurd (no_value h)

  step_digits : (n : ℕ) → named (word_digits n (c ∷ cs)) ≡ true → count_braces (c ∷ (cs ++ r)) ≡ suc (length cs)
  unfolding word_value
  step_digits n h = one_more _ _ (first (c == 125) h)
    where
      next : ℕ
      next = n * 16 + digit_value c

      more : (b : Bool) → named (cond b (word_digits next cs) None) ≡ true → count_braces (cs ++ r) ≡ length cs
      more true h = f.digits next h
      more false h = absurd (no_value h)

      first : (b : Bool) → named (cond b (before_others n (word_value cs)) (cond (is_ascii_hexdigit c && nat_le next 0x10FFFF) (word_digits next cs) None)) ≡ true → cond b (count_word (cs ++ r)) (count_braces (cs ++ r)) ≡ length cs
      first true h = f.word (named_parts n (word_value cs) h).1
      first false h = more (is_ascii_hexdigit c && nat_le next 0x10FFFF) h

step_escape : (r : List ℕ) (c : ℕ) (cs : List ℕ) → Counted r cs → named (word_escape (c ∷ cs)) ≡ true → count_escape (c ∷ (cs ++ r)) ≡ suc (length cs)
unfolding word_value
step_escape r c [] f h = absurd (go (c == 117) h)
  where
    go : (b : Bool) → named (cond b None None) ≡ true → ⊥
    go true h = no_value h
    go false h = no_value h
step_escape r c (d ∷ ds) f h = first (c == 117) h
  where
    inner : (b : Bool) → (d == 123) ≡ b → named (cond b (word_code_point (d ∷ ds)) (word_hex 4 0 (d ∷ ds))) ≡ true → cond b (count_braces (d ∷ (ds ++ r))) (count_word (d ∷ (ds ++ r))) ≡ suc (length ds)
    inner true e h = f.point e h
    inner false e h = f.hex 4 0 h

    first : (b : Bool) → named (cond b (cond (d == 123) (word_code_point (d ∷ ds)) (word_hex 4 0 (d ∷ ds))) None) ≡ true → cond b (1 + cond (d == 123) (count_braces (d ∷ (ds ++ r))) (count_word (d ∷ (ds ++ r)))) 0 ≡ suc (suc (length ds))
    first true h = one_more _ _ (inner (d == 123) refl h)
    first false h = absurd (no_value h)

halted : (r : List ℕ) → Halts r → count_word r ≡ 0
unfolding Halts
halted [] h = refl
halted (c ∷ cs) h = rw (h.0, h.1) refl

counted : (r w : List ℕ) → Halts r → Counted r w
unfolding word_value
counted r [] h = record {
  word = λ e. halted r h;
  escape = λ e. absurd (no_value e);
  hex = λ count n e. absurd (no_value e);
  point = λ b e. absurd (no_value e);
  digits = λ n e. absurd (no_value e);
}
counted r (c ∷ cs) h =
    let f = counted r cs h in
    record {
      word = λ e. step_word r c cs f e;
      escape = λ e. step_escape r c cs f e;
      hex = λ count n e. step_hex r c cs f count n e;
      point = λ b e. step_point r c cs f b e;
      digits = λ n e. step_digits r c cs f n e;
    }

spelled_named : (o : Option (List ℕ)) → option_map_or spells_name o false ≡ true → named o ≡ true
spelled_named None h = h
spelled_named (Some []) h = absurd (both_ways false refl h)
spelled_named (Some (c ∷ cs)) h = let k = and_parts (starts_name c) (list_all continues_name cs) h in and_from (continues_name c) _ (starts_continues c k.0) k.1

ends_halts : (w r : List ℕ) → ends_before (Word w) r ≡ true → Halts r
unfolding Halts
ends_halts w [] h = tt
ends_halts w (c ∷ cs) h = let k = or_parts (continues_name c) (c == 92) (not-true _ h) in (k.1, k.0)

-- a word that stands at the front of a text goes as far as is counted
pub word_counted : (w r : List ℕ) → is_spelled (Word w) ≡ true → ends_before (Word w) r ≡ true → count_word (w ++ r) ≡ length w
word_counted w r h e = (counted r w (ends_halts w r e)).word (spelled_named (word_value w) h)

-- ---- the first character of a word

pub record WordFront (w : List ℕ) : Type 0 where
  pub head : ℕ
  pub tail : List ℕ
  pub text : w ≡ head ∷ tail
  pub starts : starts_word head ≡ true

pub word_front : (w : List ℕ) → is_spelled (Word w) ≡ true → WordFront w
unfolding word_value
word_front [] h = absurd (both_ways false refl h)
word_front (c ∷ cs) h = record { head = c; tail = cs; text = refl; starts = go (c == 92) refl h }
  where
    named_first : (o : Option (List ℕ)) → option_map_or spells_name (before_others c o) false ≡ true → starts_name c ≡ true
    named_first None h = absurd (both_ways false refl h)
    named_first (Some ds) h = (and_parts (starts_name c) (list_all continues_name ds) h).0

    go : (b : Bool) → (c == 92) ≡ b → option_map_or spells_name (cond b (word_escape cs) (before_others c (word_value cs))) false ≡ true → starts_word c ≡ true
    go true e h = or_right _ _ e
    go false e h = or_left _ _ (named_first (word_value cs) h)

-- ---- characters that begin a word begin no other token

pub starts_no_digit_or_sign : (c : ℕ) → starts_word c ≡ true → (is_ascii_digit c ≡ false) × (begins_sign c ≡ false)
starts_no_digit_or_sign c h = go (or_cases (starts_name c) (c == 92) h)
  where
    go : (starts_name c ≡ true) ⊎ ((c == 92) ≡ true) → (is_ascii_digit c ≡ false) × (begins_sign c ≡ false)
    go (inl e) = (starts_no_digit c e, false_from_ne_true (begins_sign c) (λ s. sign_or c s (continues_goes c (starts_continues c e))))
    go (inr e) = subst (λ x. (is_ascii_digit x ≡ false) × (begins_sign x ≡ false)) (sym (eqb-true c 92 e)) (refl, refl)

pub starts_no_quote : (q : Quote) → starts_word (quote_char q) ≡ false
starts_no_quote quotes.Single = or_from _ _ (no_word_no_start 39 refl) refl
starts_no_quote quotes.Double = or_from _ _ (no_word_no_start 34 refl) refl
starts_no_quote quotes.Backtick = or_from _ _ (no_word_no_start 96 refl) refl

-- ---- surrogates and other numbers that are no characters go in no name

out_of_range : (c : ℕ) → OutOfScalarRange c → scalar c ≡ true → ⊥
out_of_range c (inl o) e = go (scalar_cases c e)
  where
    go : (c < 55296) ⊎ ((57344 ≤ c) × (c < 1114112)) → ⊥
    go (inl l) = omega arith
    go (inr l) = omega arith
out_of_range c (inr o) e = go (scalar_cases c e)
  where
    go : (c < 55296) ⊎ ((57344 ≤ c) × (c < 1114112)) → ⊥
    go (inl l) = omega arith
    go (inr l) = omega arith

pub no_scalar_continues : (c : ℕ) → OutOfScalarRange c → continues_name c ≡ false
no_scalar_continues c o = false_from_ne_true (continues_name c) (λ h. out_of_range c o (continues_scalar c h))

pub no_scalar_starts : (c : ℕ) → OutOfScalarRange c → starts_name c ≡ false
no_scalar_starts c o = false_from_ne_true (starts_name c) (λ h. out_of_range c o (continues_scalar c (starts_continues c h)))
