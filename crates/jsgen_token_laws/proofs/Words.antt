-- Words with escapes: of a text at most one front is a word that ends there.
use Rattle.std.proofs.Common.{◌≡◌, ℕ, ◌+◌, ◌-◌, ◌*◌, Bool, true, false, not, cond, nat_le, ◌&&◌, ◌||◌, ◌==◌, ◌⊎◌, inl, inr, Option, Some, None, List, [], ◌∷◌, ◌++◌, refl, sym, ap, ◌∙◌, if◌then◌else◌, subst}
use Rattle.std.specs.Char.{is_ascii_hexdigit, digit_value}
use Rattle.std.specs.List.{list_all, list_any}
use Rattle.std.specs.Option.{option_map_or}
use Rattle.std.proofs.lemmas.Bool.{both_ways, and_parts, and_from, or_parts, or_left, or_right}
use Rattle.jsgen_syntax.proofs.Names.{starts_continues}
use Rattle.jsgen_syntax.specs.Name.{starts_name, continues_name, spells_name}
use Rattle.jsgen_syntax.specs.Escapes.{begins, begins_with, is_past_ascii, name_text, has_escapes, before_others, word_value, word_escape, word_hex, word_code_point, word_digits}
use Rattle.jsgen_syntax.proofs.Escapes.{word_text_value}
use Rattle.jsgen_model.specs.Tokens.{Word, is_spelled}

-- ---- the places in a word

pub data Spot : Type 0 where
  between behind_backslash behind_u in_braces : Spot
  -- before the last digits of `\uHHHH`, as many as it says
  in_hex : ℕ → Spot

-- what a character of a word may be, but in an escape
abbrev pub goes_on_in_word : ℕ → Bool
goes_on_in_word c = continues_name c || (c == 92)

-- what a word begins with
abbrev pub begins_word : ℕ → Bool
begins_word c = starts_name c || (c == 92)

-- the place behind a character that stands here
unfoldable pub step : Spot → ℕ → Option Spot
step between c = if c == 92 then Some behind_backslash else (if continues_name c then Some between else None)
step behind_backslash c = if c == 117 then Some behind_u else None
step behind_u c = if c == 123 then Some in_braces else (if is_ascii_hexdigit c then Some (in_hex 3) else None)
step in_braces c = if c == 125 then Some between else (if is_ascii_hexdigit c then Some in_braces else None)
step (in_hex count) c = if is_ascii_hexdigit c then (if count == 1 then Some between else Some (in_hex (count - 1))) else None

abbrev pub step_from : Option Spot → ℕ → Option Spot
step_from None c = None
step_from (Some spot) c = step spot c

abbrev pub is_between : Option Spot → Bool
is_between (Some between) = true
is_between spot = false

-- from this place on the text is the rest of a word
unfoldable pub shaped : Option Spot → List ℕ → Bool
shaped spot [] = is_between spot
shaped spot (c ∷ cs) = shaped (step_from spot c) cs

pub none_shaped : (cs : List ℕ) → shaped None cs ≡ true → ⊥
unfolding shaped
none_shaped [] h = both_ways false refl h
none_shaped (c ∷ cs) h = none_shaped cs h

-- ---- one word ends there

-- the text doesn't begin with what passes
abbrev pub Stops : (ℕ → Bool) → List ℕ → Type 0
Stops f [] = Unit {0}
Stops f (c ∷ cs) = f c ≡ false

stopped : (c : ℕ) → goes_on_in_word c ≡ false → step between c ≡ None
unfolding step
stopped c h = let k = or_parts (continues_name c) (c == 92) h in rw (k.0, k.1) refl

no_more : (spot : Option Spot) (d : ℕ) (w x y : List ℕ) → is_between spot ≡ true → shaped (step_from spot d) w ≡ true → Stops goes_on_in_word x → x ≡ (d ∷ w) ++ y → ⊥
no_more spot d w [] y b h s e = absurd (cc)
no_more (Some between) d w (c ∷ x) y b h s e =
    let k : c ≡ d = cc in
    none_shaped w (subst (λ o. shaped o w ≡ true) (stopped d (subst (λ a. goes_on_in_word a ≡ false) k s)) h)
no_more spot d w (c ∷ x) y b h s e = both_ways false refl b

pub one_word : (spot : Option Spot) (v w x y : List ℕ) → shaped spot v ≡ true → shaped spot w ≡ true → Stops goes_on_in_word x → Stops goes_on_in_word y → v ++ x ≡ w ++ y → (v ≡ w) × (x ≡ y)
unfolding shaped
one_word spot [] [] x y g h s t e = (refl, e)
one_word spot [] (d ∷ w) x y g h s t e = absurd (no_more spot d w x y g h s e)
one_word spot (c ∷ v) [] x y g h s t e = absurd (no_more spot c v y x h g t (sym e))
one_word spot (c ∷ v) (d ∷ w) x y g h s t e =
    let k : d ≡ c = cc in
    let i : (v ≡ w) × (x ≡ y) = one_word (step_from spot c) v w x y g (subst (λ a. shaped (step_from spot a) w ≡ true) k h) s t cc in
    let j = i.0 in
    (cc, i.1)

-- ---- a word has that shape

none_gives : (us : List ℕ) → None ≡ Some us → ⊥
none_gives us e = cc

abbrev Way : {X : Type 0} → Bool → X → X → X → Type 0
Way b x y z = ((b ≡ true) × (x ≡ z)) ⊎ ((b ≡ false) × (y ≡ z))

way : {X : Type 0} (b : Bool) (x y z : X) → cond b x y ≡ z → Way b x y z
way true x y z e = inl (refl, e)
way false x y z e = inr (refl, e)

-- the value behind `\u`
abbrev number_value : List ℕ → Option (List ℕ)
number_value text = if begins_with 123 text then word_code_point text else word_hex 4 0 text

abbrev Named : List ℕ → Type 0
Named us = list_all continues_name us ≡ true

record Fine (text : List ℕ) : Type 0 where
  pub value : (us : List ℕ) → word_value text ≡ Some us → Named us → shaped (Some between) text ≡ true
  pub escape : (us : List ℕ) → word_escape text ≡ Some us → Named us → shaped (Some behind_backslash) text ≡ true
  pub number : (us : List ℕ) → number_value text ≡ Some us → Named us → shaped (Some behind_u) text ≡ true
  pub hex : (count n : ℕ) (us : List ℕ) → word_hex count n text ≡ Some us → Named us → shaped (Some (in_hex count)) text ≡ true
  pub digits : (n : ℕ) (us : List ℕ) → word_digits n text ≡ Some us → Named us → shaped (Some in_braces) text ≡ true

module _ (c : ℕ) (cs us : List ℕ) (f : Fine cs) (n : Named us) where
  -- the character is passed and goes in the value, or only the others do
  passed : (d : ℕ) (o : Option (List ℕ)) → before_others d o ≡ Some us → o ≡ word_value cs → (continues_name d ≡ true) × (shaped (Some between) cs ≡ true)
  passed d None e i = absurd (none_gives us e)
  passed d (Some vs) e i =
      let k : d ∷ vs ≡ us = cc in
      let m = and_parts (continues_name d) (list_all continues_name vs) (subst Named (sym k) n) in
      (m.0, f.value vs (sym i) m.1)

  goes_to : (spot : Spot) (next : Option Spot) → step spot c ≡ next → shaped next cs ≡ true → shaped (Some spot) (c ∷ cs) ≡ true
  unfolding shaped
  goes_to spot next e h = subst (λ o. shaped o cs ≡ true) (sym e) h

  value_step : word_value (c ∷ cs) ≡ Some us → shaped (Some between) (c ∷ cs) ≡ true
  unfolding word_value step
  value_step e = first (way (c == 92) _ _ (Some us) e)
    where
      first : Way (c == 92) (word_escape cs) (before_others c (word_value cs)) (Some us) → shaped (Some between) (c ∷ cs) ≡ true
      first (inl k) = goes_to between (Some behind_backslash) (rw (k.0) refl) (f.escape us k.1 n)
      first (inr k) = let p = passed c (word_value cs) k.1 refl in goes_to between (Some between) (rw (k.0, p.0) refl) p.1

  escape_step : word_escape (c ∷ cs) ≡ Some us → shaped (Some behind_backslash) (c ∷ cs) ≡ true
  unfolding word_value step
  escape_step e = first (way (c == 117) _ _ (Some us) e)
    where
      first : Way (c == 117) (number_value cs) None (Some us) → shaped (Some behind_backslash) (c ∷ cs) ≡ true
      first (inl k) = goes_to behind_backslash (Some behind_u) (rw (k.0) refl) (f.number us k.1 n)
      first (inr k) = absurd (none_gives us k.1)

  hex_step : (count m : ℕ) → word_hex count m (c ∷ cs) ≡ Some us → (is_ascii_hexdigit c ≡ true) × (shaped (if count == 1 then Some between else Some (in_hex (count - 1))) cs ≡ true)
  unfolding word_value
  hex_step count m e = first (way (not (is_ascii_hexdigit c)) _ _ (Some us) e)
    where
      yes : (b : Bool) → not b ≡ false → b ≡ true
      yes true k = refl
      yes false k = absurd (both_ways true k refl)

      more : Way (count == 1) (before_others (m * 16 + digit_value c) (word_value cs)) (word_hex (count - 1) (m * 16 + digit_value c) cs) (Some us) → shaped (if count == 1 then Some between else Some (in_hex (count - 1))) cs ≡ true
      more (inl k) = rw (k.0) ((passed _ (word_value cs) k.1 refl).1)
      more (inr k) = rw (k.0) (f.hex _ _ us k.1 n)

      first : Way (not (is_ascii_hexdigit c)) None (if count == 1 then before_others (m * 16 + digit_value c) (word_value cs) else word_hex (count - 1) (m * 16 + digit_value c) cs) (Some us) → (is_ascii_hexdigit c ≡ true) × (shaped (if count == 1 then Some between else Some (in_hex (count - 1))) cs ≡ true)
      first (inl k) = absurd (none_gives us k.1)
      first (inr k) = (yes (is_ascii_hexdigit c) k.0, more (way (count == 1) _ _ (Some us) k.1))

  number_step : number_value (c ∷ cs) ≡ Some us → shaped (Some behind_u) (c ∷ cs) ≡ true
  unfolding word_value step
  number_step e = first (way (c == 123) _ _ (Some us) e)
    where
      inside : Way (begins is_ascii_hexdigit cs) (word_digits 0 cs) None (Some us) → shaped (Some in_braces) cs ≡ true
      inside (inl k) = f.digits 0 us k.1 n
      inside (inr k) = absurd (none_gives us k.1)

      first : Way (c == 123) (word_code_point (c ∷ cs)) (word_hex 4 0 (c ∷ cs)) (Some us) → shaped (Some behind_u) (c ∷ cs) ≡ true
      first (inl k) = goes_to behind_u (Some in_braces) (rw (k.0) refl) (inside (way (begins is_ascii_hexdigit cs) _ _ (Some us) k.1))
      first (inr k) = let h = hex_step 4 0 k.1 in goes_to behind_u (Some (in_hex 3)) (rw (k.0, h.0) refl) h.1

  digits_step : (m : ℕ) → word_digits m (c ∷ cs) ≡ Some us → shaped (Some in_braces) (c ∷ cs) ≡ true
  unfolding word_value step
  digits_step m e = first (way (c == 125) _ _ (Some us) e)
    where
      more : (c == 125) ≡ false → Way (is_ascii_hexdigit c && nat_le (m * 16 + digit_value c) 0x10FFFF) (word_digits (m * 16 + digit_value c) cs) None (Some us) → shaped (Some in_braces) (c ∷ cs) ≡ true
      more h (inl k) = goes_to in_braces (Some in_braces) (rw (h, (and_parts (is_ascii_hexdigit c) (nat_le (m * 16 + digit_value c) 0x10FFFF) k.0).0) refl) (f.digits _ us k.1 n)
      more h (inr k) = absurd (none_gives us k.1)

      first : Way (c == 125) (before_others m (word_value cs)) (if is_ascii_hexdigit c && nat_le (m * 16 + digit_value c) 0x10FFFF then word_digits (m * 16 + digit_value c) cs else None) (Some us) → shaped (Some in_braces) (c ∷ cs) ≡ true
      first (inl k) = goes_to in_braces (Some between) (rw (k.0) refl) (passed m (word_value cs) k.1 refl).1
      first (inr k) = more k.0 (way (is_ascii_hexdigit c && nat_le (m * 16 + digit_value c) 0x10FFFF) _ _ (Some us) k.1)

  in_hex_step : (count m : ℕ) → word_hex count m (c ∷ cs) ≡ Some us → shaped (Some (in_hex count)) (c ∷ cs) ≡ true
  unfolding step
  in_hex_step count m e = let h = hex_step count m e in goes_to (in_hex count) _ (rw (h.0) refl) h.1

fine : (text : List ℕ) → Fine text
unfolding word_value shaped
fine [] = record {
  value = λ us e n. refl;
  escape = λ us e n. absurd (none_gives us e);
  number = λ us e n. absurd (none_gives us e);
  hex = λ count m us e n. absurd (none_gives us e);
  digits = λ m us e n. absurd (none_gives us e);
}
fine (c ∷ cs) =
    let f = fine cs in
    record {
      value = λ us e n. value_step c cs us f n e;
      escape = λ us e n. escape_step c cs us f n e;
      number = λ us e n. number_step c cs us f n e;
      hex = λ count m us e n. in_hex_step c cs us f n count m e;
      digits = λ m us e n. digits_step c cs us f n m e;
    }

word_all : (w : List ℕ) → spells_name w ≡ true → list_all continues_name w ≡ true
word_all [] h = refl
word_all (c ∷ cs) h = let k = and_parts (starts_name c) (list_all continues_name cs) h in and_from (continues_name c) (list_all continues_name cs) (starts_continues c k.0) k.1

pub word_shaped : (w : List ℕ) → is_spelled (Word w) ≡ true → shaped (Some between) w ≡ true
word_shaped w h = go (word_value w) refl h
  where
    go : (o : Option (List ℕ)) → word_value w ≡ o → option_map_or spells_name o false ≡ true → shaped (Some between) w ≡ true
    go (Some us) e k = (fine w).value us e (word_all us k)
    go None e k = absurd (both_ways false refl k)

-- ---- what a word begins with

pub record WordBegins (w : List ℕ) : Type 0 where
  pub head : ℕ
  pub tail : List ℕ
  pub text : w ≡ head ∷ tail
  pub starts : begins_word head ≡ true

pub word_begins : (w : List ℕ) → is_spelled (Word w) ≡ true → WordBegins w
unfolding word_value
word_begins [] h = absurd (both_ways false refl h)
word_begins (c ∷ cs) h = record { head = c; tail = cs; text = refl; starts = go (c == 92) (word_escape cs) (word_value cs) h }
  where
    go : (b : Bool) (o p : Option (List ℕ)) → option_map_or spells_name (cond b o (before_others c p)) false ≡ true → (starts_name c || b) ≡ true
    go true o p k = or_right (starts_name c) true refl
    go false o None k = absurd (both_ways false refl k)
    go false o (Some us) k = or_left (starts_name c) false (and_parts (starts_name c) (list_all continues_name us) k).0

-- ---- the printed word of a name

pub unescaped : (ascii : Bool) (w : List ℕ) → has_escapes ascii w ≡ false → name_text ascii w ≡ w
unescaped false [] h = refl
unescaped false (c ∷ w) h = ap (λ cs. c ∷ cs) (unescaped false w h)
unescaped true [] h = refl
unescaped true (c ∷ w) h = let k = or_parts (is_past_ascii c) (list_any is_past_ascii w) h in rw (k.0) (ap (λ cs. c ∷ cs) (unescaped true w k.1))

pub name_spelled : (ascii : Bool) (w : List ℕ) → spells_name w ≡ true → is_spelled (Word (name_text ascii w)) ≡ true
name_spelled ascii w h = ap (λ o. option_map_or spells_name o false) (word_text_value ascii w h) ∙ h

-- a name stands for itself
pub name_value : (w : List ℕ) → spells_name w ≡ true → word_value w ≡ Some w
name_value w h = ap word_value (sym (unescaped false w refl)) ∙ word_text_value false w h

pub spelled_name : (w : List ℕ) → spells_name w ≡ true → is_spelled (Word w) ≡ true
spelled_name w h = ap (λ o. option_map_or spells_name o false) (name_value w h) ∙ h
