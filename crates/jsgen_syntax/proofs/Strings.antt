-- Spellings of strings: each is closed, of scalar values, and what is printed for a value is a spelling of it.
use Rattle.std.proofs.Common.{◌≡◌, ℕ, ◌≤◌, ◌<◌, Bool, true, false, not, cond, nat_le, nat_lt, ◌&&◌, ◌||◌, ◌==◌, ◌⊎◌, inl, inr, Some, None, List, codes, [], ◌∷◌, ◌++◌, flat_map, refl, sym, ap, ap₂, if◌then◌else◌, ◌∙◌, subst, arith}
use Rattle.std.specs.Char.{is_ascii_digit, is_ascii_hexdigit}
use Rattle.std.specs.Char.Escape.{encode_utf16}
use Rattle.std.specs.Str.{all_scalars}
use lib.Utf8.{scalar, low_scalar}
use Rattle.std.proofs.lemmas.Bool.{both_ways, and_parts, and_from, or_parts, or_cases, not-true, not_from_false, eqb-true, ne_eqb, ltb-true, ltb-false, or_from, and_left, and_right, cond_both, false_from_ne_true}
use Rattle.jsgen_syntax.proofs.Escapes.{hex_passes, lower_digits}
use Rattle.jsgen_syntax.proofs.Wtf8.{is_point, joined_points, units_joined, scalar_from}
use Rattle.jsgen_syntax.specs.Escapes.{upper_digit, lower_digit, unit_escape, code_point_escape, character_escape}
use Rattle.jsgen_syntax.specs.Wtf8.{are_units, joined_units, is_surrogate}
use Rattle.std.specs.List.{list_all}
use Rattle.jsgen_syntax.proofs.Induction.{Steps, of_value, unit_value, character_value}
use Rattle.jsgen_syntax.specs.declared.quote.Quote.{Quote}
use Rattle.jsgen_syntax.specs.declared.quote.Quote.TheVariants.{Single, Double, Backtick}
use Rattle.jsgen_syntax.specs.Strings.{quote_char, is_backtick, begins, begins_with, ends_line, and_then, stands_bare, bare_units, string_value, escape_value, control_text, ascii_text, past_ascii_text, point_text, needs_backslash, begins_script, escaped_after, escaped}

-- ---- where a string ends

-- No quote stands in the text but behind a backslash, which takes the next character along. The flag tells that a backslash stands before the text.
unfoldable pub closed_after : Quote → Bool → List ℕ → Bool
closed_after q behind [] = not behind
closed_after q true (c ∷ cs) = closed_after q false cs
closed_after q false (c ∷ cs) = if c == 92 then closed_after q true cs else (not (c == quote_char q) && closed_after q false cs)

abbrev pub closed : Quote → List ℕ → Bool
closed q text = closed_after q false text

quote_ends : (q : Quote) (cs : List ℕ) → closed_after q false (quote_char q ∷ cs) ≡ false
unfolding closed_after
quote_ends Single cs = refl
quote_ends Double cs = refl
quote_ends Backtick cs = refl

one_string_after : (q : Quote) (behind : Bool) (v w x y : List ℕ) → closed_after q behind v ≡ true → closed_after q behind w ≡ true → v ++ (quote_char q ∷ x) ≡ w ++ (quote_char q ∷ y) → (v ≡ w) × (x ≡ y)
unfolding closed_after
one_string_after q behind [] [] x y g h e = (refl, cc)
one_string_after q true [] (d ∷ w) x y g h e = absurd (both_ways false refl g)
one_string_after q false [] (d ∷ w) x y g h e =
    let k : quote_char q ≡ d = cc in
    absurd (both_ways (closed_after q false (quote_char q ∷ w)) (quote_ends q w) (subst (λ c. closed_after q false (c ∷ w) ≡ true) (sym k) h))
one_string_after q true (c ∷ v) [] x y g h e = absurd (both_ways false refl h)
one_string_after q false (c ∷ v) [] x y g h e =
    let k : quote_char q ≡ c = cc in
    absurd (both_ways (closed_after q false (quote_char q ∷ v)) (quote_ends q v) (subst (λ d. closed_after q false (d ∷ v) ≡ true) (sym k) g))
one_string_after q true (c ∷ v) (d ∷ w) x y g h e =
    let i : (v ≡ w) × (x ≡ y) = one_string_after q false v w x y g h cc in
    let j = i.0 in
    (cc, i.1)
one_string_after q false (c ∷ v) (d ∷ w) x y g h e =
    let i : (v ≡ w) × (x ≡ y) = by (c == 92) g (subst (λ a. closed_after q false (a ∷ w) ≡ true) k h) (one_string_after q true v w x y) (one_string_after q false v w x y) in
    let j = i.0 in
    (cc, i.1)
  where
    k : d ≡ c
    k = cc

    l : v ++ (quote_char q ∷ x) ≡ w ++ (quote_char q ∷ y)
    l = cc

    by : (b : Bool) → (if b then closed_after q true v else (not (c == quote_char q) && closed_after q false v)) ≡ true → (if b then closed_after q true w else (not (c == quote_char q) && closed_after q false w)) ≡ true
        → (closed_after q true v ≡ true → closed_after q true w ≡ true → v ++ (quote_char q ∷ x) ≡ w ++ (quote_char q ∷ y) → (v ≡ w) × (x ≡ y))
        → (closed_after q false v ≡ true → closed_after q false w ≡ true → v ++ (quote_char q ∷ x) ≡ w ++ (quote_char q ∷ y) → (v ≡ w) × (x ≡ y)) → (v ≡ w) × (x ≡ y)
    by true a b m n = m a b l
    by false a b m n = n (and_parts (not (c == quote_char q)) (closed_after q false v) a).1 (and_parts (not (c == quote_char q)) (closed_after q false w) b).1 l

-- of two closed texts before a quote both are one
pub one_string : (q : Quote) (v w x y : List ℕ) → closed q v ≡ true → closed q w ≡ true → v ++ (quote_char q ∷ x) ≡ w ++ (quote_char q ∷ y) → (v ≡ w) × (x ≡ y)
one_string q v w x y g h e = one_string_after q false v w x y g h e

-- ---- each spelling is closed, and of scalar values

record Good (q : Quote) (behind : Bool) (text : List ℕ) : Type 0 where
  pub closes : closed_after q behind text ≡ true
  pub is_text : all_scalars text ≡ true

-- a character that is scalar, no backslash and no quote
record Inner (q : Quote) (c : ℕ) : Type 0 where
  pub no_backslash : (c == 92) ≡ false
  pub no_quote : (c == quote_char q) ≡ false
  pub is_scalar : scalar c ≡ true

good_inner : (q : Quote) (c : ℕ) (cs : List ℕ) → Inner q c → Good q false cs → Good q false (c ∷ cs)
unfolding closed_after
good_inner q c cs i g = record {
  closes = ap (λ b. cond b (closed_after q true cs) (not (c == quote_char q) && closed_after q false cs)) i.no_backslash ∙ ap₂ (λ a b. not a && b) i.no_quote g.closes;
  is_text = and_from (scalar c) (all_scalars cs) i.is_scalar g.is_text;
}

good_behind : (q : Quote) (c : ℕ) (cs : List ℕ) → scalar c ≡ true → Good q false cs → Good q true (c ∷ cs)
unfolding closed_after
good_behind q c cs s g = record { closes = g.closes; is_text = and_from (scalar c) (all_scalars cs) s g.is_text }

that_scalar : (c d : ℕ) → d < 55296 → (c == d) ≡ true → scalar c ≡ true
that_scalar c d l e = subst (λ x. scalar x ≡ true) (sym (eqb-true c d e)) (low_scalar d l)

good_backslash : (q : Quote) (c : ℕ) (cs : List ℕ) → (c == 92) ≡ true → Good q true cs → Good q false (c ∷ cs)
unfolding closed_after
good_backslash q c cs e g = record {
  closes = ap (λ b. cond b (closed_after q true cs) (not (c == quote_char q) && closed_after q false cs)) e ∙ g.closes;
  is_text = and_from (scalar c) (all_scalars cs) (that_scalar c 92 (omega arith) e) g.is_text;
}

-- a test that passes no character below 128 but these passes them
abbrev is_inner : ℕ → Bool
is_inner c = not ((c == 92) || (c == 34) || (c == 39) || (c == 96)) && nat_lt c 128

low_inner : (q : Quote) (c : ℕ) → is_inner c ≡ true → Inner q c
low_inner q c h =
    let k = and_parts (not ((c == 92) || (c == 34) || (c == 39) || (c == 96))) (nat_lt c 128) h in
    let low : c < 128 = ltb-true c 128 k.1 in
    let n = or_parts ((c == 92) || (c == 34) || (c == 39)) (c == 96) (not-true _ k.0) in
    let m = or_parts ((c == 92) || (c == 34)) (c == 39) n.0 in
    let l = or_parts (c == 92) (c == 34) m.0 in
    record { no_backslash = l.0; no_quote = of_quote q l.1 m.1 n.1; is_scalar = low_scalar c (omega arith) }
  where
    of_quote : (p : Quote) → (c == 34) ≡ false → (c == 39) ≡ false → (c == 96) ≡ false → (c == quote_char p) ≡ false
    of_quote Single d s b = s
    of_quote Double d s b = d
    of_quote Backtick d s b = b

hex_inner : (q : Quote) (c : ℕ) → is_ascii_hexdigit c ≡ true → Inner q c
hex_inner q c h = low_inner q c (hex_passes is_inner refl c h)

that_inner : (q : Quote) (c d : ℕ) → (c == d) ≡ true → Inner q d → Inner q c
that_inner q c d e i = subst (Inner q) (sym (eqb-true c d e)) i

line_scalar : (c : ℕ) → ends_line c ≡ true → scalar c ≡ true
line_scalar c h = outer (or_cases ((c == 10) || (c == 13) || (c == 8232)) (c == 8233) h)
  where
    two : ((c == 10) ≡ true) ⊎ ((c == 13) ≡ true) → scalar c ≡ true
    two (inl k) = that_scalar c 10 (omega arith) k
    two (inr k) = that_scalar c 13 (omega arith) k

    three : (((c == 10) || (c == 13)) ≡ true) ⊎ ((c == 8232) ≡ true) → scalar c ≡ true
    three (inl k) = two (or_cases (c == 10) (c == 13) k)
    three (inr k) = that_scalar c 8232 (omega arith) k

    outer : (((c == 10) || (c == 13) || (c == 8232)) ≡ true) ⊎ ((c == 8233) ≡ true) → scalar c ≡ true
    outer (inl k) = three (or_cases ((c == 10) || (c == 13)) (c == 8232) k)
    outer (inr k) = that_scalar c 8233 (omega arith) k

-- behind a backslash an LF is one more character
turn : (q : Quote) (cs : List ℕ) → begins_with 10 cs ≡ true → Good q true cs → Good q false cs
unfolding closed_after
turn q [] b g = absurd (both_ways false refl b)
turn q (c ∷ cs) b g = good_inner q c cs (that_inner q c 10 b (low_inner q 10 refl)) (record { closes = g.closes; is_text = (and_parts (scalar c) (all_scalars cs) g.is_text).1 })

good_bare : (q : Quote) (c : ℕ) (cs : List ℕ) → (c == 92) ≡ false → stands_bare q c cs ≡ true → Good q false cs → Good q false (c ∷ cs)
good_bare q c cs n k g =
    let a = and_parts (scalar c && not (c == 92) && not (c == quote_char q)) (if is_backtick q then not ((c == 36) && begins_with 123 cs) else not ((c == 10) || (c == 13))) k in
    let b = and_parts (scalar c && not (c == 92)) (not (c == quote_char q)) a.0 in
    good_inner q c cs (record { no_backslash = n; no_quote = not-true (c == quote_char q) b.1; is_scalar = (and_parts (scalar c) (not (c == 92)) b.0).0 }) g

good_steps : (q : Quote) → Steps q (λ cs us. Good q false cs) (λ cs us. Good q true cs) (λ count n cs us. Good q false cs) (λ cs us. begins_with 123 cs ≡ true → Good q false cs) (λ n cs us. Good q false cs)
unfolding closed_after
good_steps q = record {
  nothing = record { closes = refl; is_text = refl };
  bare = λ c cs us n b g. good_bare q c cs n b g;
  backslash = λ cs us g. good_backslash q 92 cs refl g;
  two_ends = λ cs us b g. good_behind q 13 cs (low_scalar 13 (omega arith)) (turn q cs b g);
  line_end = λ c cs us n l g. good_behind q c cs (line_scalar c l) g;
  two_digits = λ cs us g. good_behind q 120 cs (low_scalar 120 (omega arith)) g;
  opening = λ cs us b g. good_behind q 117 cs (low_scalar 117 (omega arith)) (g b);
  four = λ cs us b g. good_behind q 117 cs (low_scalar 117 (omega arith)) g;
  nought = λ cs us b g. good_behind q 48 cs (low_scalar 48 (omega arith)) g;
  itself = λ c cs us p g. good_behind q c cs p.is_scalar g;
  last_digit = λ count n c cs us h k g. good_inner q c cs (hex_inner q c h) g;
  digit = λ count n c cs us h k g. good_inner q c cs (hex_inner q c h) g;
  brace = λ c cs us b g e. good_inner q c cs (that_inner q c 123 e (low_inner q 123 refl)) g;
  closing = λ n cs us g. good_inner q 125 cs (low_inner q 125 refl) g;
  within = λ n c cs us k h l g. good_inner q c cs (hex_inner q c h) g;
}

good : (q : Quote) (w us : List ℕ) → string_value q w ≡ Some us → Good q false w
good q w us e = of_value q _ _ _ _ _ (good_steps q) w us e

pub valued_closed : (q : Quote) (w us : List ℕ) → string_value q w ≡ Some us → closed q w ≡ true
valued_closed q w us e = (good q w us e).closes

pub valued_scalars : (q : Quote) (w us : List ℕ) → string_value q w ≡ Some us → all_scalars w ≡ true
valued_scalars q w us e = (good q w us e).is_text

-- ---- what is printed for a value is a spelling of it

-- a character that stands for itself
pub itself_value : (q : Quote) (c : ℕ) (cs : List ℕ) → scalar c ≡ true → ((c == 92) || (c == quote_char q)) ≡ false → ((c == 10) || (c == 13)) ≡ false → (is_backtick q && (c == 36) && begins_with 123 cs) ≡ false → string_value q (c ∷ cs) ≡ and_then (encode_utf16 c) (string_value q cs)
unfolding string_value
itself_value q c cs s b l d =
    let n = or_parts (c == 92) (c == quote_char q) b in
    ap (λ x. cond x (escape_value q cs) (cond (stands_bare q c cs) (and_then (bare_units c cs) (string_value q cs)) None)) n.0
    ∙ (ap (λ x. cond x (and_then (bare_units c cs) (string_value q cs)) None) (and_from (scalar c && not (c == 92) && not (c == quote_char q)) _ (and_from (scalar c && not (c == 92)) (not (c == quote_char q)) (and_from (scalar c) (not (c == 92)) s (not_from_false (c == 92) n.0)) (not_from_false (c == quote_char q) n.1)) (allowed (is_backtick q) d))
    ∙ ap (λ x. and_then (cond x (if begins_with 10 cs then [] else 10 ∷ []) (encode_utf16 c)) (string_value q cs)) (or_parts (c == 10) (c == 13) l).1)
  where
    allowed : (b : Bool) → (b && (c == 36) && begins_with 123 cs) ≡ false → (if b then not ((c == 36) && begins_with 123 cs) else not ((c == 10) || (c == 13))) ≡ true
    allowed true e = not_from_false _ e
    allowed false e = not_from_false _ l

-- which of a list of characters it is
module _ (q : Quote) (c : ℕ) (rest : List ℕ) where
  -- the text stands for the character
  abbrev Gives : List ℕ → Type 0
  Gives text = string_value q (text ++ rest) ≡ and_then (encode_utf16 c) (string_value q rest)

  that : (d : ℕ) (text : List ℕ) → string_value q (text ++ rest) ≡ and_then (encode_utf16 d) (string_value q rest) → (c == d) ≡ true → Gives text
  that d text p k = subst (λ x. string_value q (text ++ rest) ≡ and_then (encode_utf16 x) (string_value q rest)) (sym (eqb-true c d k)) p

  or_else : (d : ℕ) (text other : List ℕ) → string_value q (text ++ rest) ≡ and_then (encode_utf16 d) (string_value q rest) → ((c == d) ≡ false → Gives other) → Gives (if c == d then text else other)
  or_else d text other p f = cond_both (c == d) text other Gives (that d text p) f

line_end_value : (q : Quote) (rest : List ℕ) → string_value q ((if is_backtick q then 10 ∷ [] else codes "\\n") ++ rest) ≡ and_then (10 ∷ []) (string_value q rest)
unfolding string_value
line_end_value Single rest = refl
line_end_value Double rest = refl
line_end_value Backtick rest = refl

nought_value : (q : Quote) (cs rest : List ℕ) → (begins is_ascii_digit rest ≡ true → begins is_ascii_digit cs ≡ true) → string_value q ((if begins is_ascii_digit cs then codes "\\x00" else codes "\\0") ++ rest) ≡ and_then (0 ∷ []) (string_value q rest)
unfolding string_value
nought_value q cs rest f = by (begins is_ascii_digit cs) f
  where
    by : (b : Bool) → (begins is_ascii_digit rest ≡ true → b ≡ true) → string_value q ((if b then codes "\\x00" else codes "\\0") ++ rest) ≡ and_then (0 ∷ []) (string_value q rest)
    by true g = refl
    by false g = ap (λ x. cond (not x) (and_then (0 ∷ []) (string_value q rest)) None) (false_from_ne_true (begins is_ascii_digit rest) (λ e. both_ways false refl (g e)))

no_quote_below : (q : Quote) (c : ℕ) → c < 32 → ((c == 92) || (c == quote_char q)) ≡ false
no_quote_below q c l = or_from (c == 92) (c == quote_char q) (ne_eqb c 92 (λ e. omega arith)) (of_quote q)
  where
    of_quote : (p : Quote) → (c == quote_char p) ≡ false
    of_quote Single = ne_eqb c 39 (λ e. omega arith)
    of_quote Double = ne_eqb c 34 (λ e. omega arith)
    of_quote Backtick = ne_eqb c 96 (λ e. omega arith)

-- a character below U+0020
control_value : (q : Quote) (c : ℕ) (cs rest : List ℕ) → c < 32 → (begins is_ascii_digit rest ≡ true → begins is_ascii_digit cs ≡ true) → string_value q (control_text q c cs ++ rest) ≡ and_then (encode_utf16 c) (string_value q rest)
unfolding string_value
control_value q c cs rest l f =
    or_else q c rest 0 _ _ (nought_value q cs rest f) (λ n0.
    or_else q c rest 7 (codes "\\x07") _ refl (λ n7.
    or_else q c rest 8 (codes "\\b") _ refl (λ n8.
    or_else q c rest 10 _ _ (line_end_value q rest) (λ n10.
    or_else q c rest 11 (codes "\\v") _ refl (λ n11.
    or_else q c rest 12 (codes "\\f") _ refl (λ n12.
    or_else q c rest 13 (codes "\\r") _ refl (λ n13.
    or_else q c rest 27 (codes "\\x1B") _ refl (λ n27.
    itself_value q c rest (low_scalar c (omega arith)) (no_quote_below q c l) (or_from (c == 10) (c == 13) n10 n13) (and_left (is_backtick q && (c == 36)) (begins_with 123 rest) (and_right (is_backtick q) (c == 36) (ne_eqb c 36 (λ e. omega arith))))))))))))

-- a backslash before one of the characters that need one
backslash_value : (q : Quote) (after_less : Bool) (c : ℕ) (cs rest : List ℕ) → needs_backslash q after_less c cs ≡ true → string_value q (92 ∷ c ∷ rest) ≡ and_then (encode_utf16 c) (string_value q rest)
unfolding string_value
backslash_value q after_less c cs rest h = first (or_cases ((c == 92) || (c == quote_char q) || (is_backtick q && (c == 36) && begins_with 123 cs)) (after_less && (c == 47) && begins_script cs) h)
  where
    the : (d : ℕ) → (c == d) ≡ true → string_value q (92 ∷ d ∷ rest) ≡ and_then (encode_utf16 d) (string_value q rest) → string_value q (92 ∷ c ∷ rest) ≡ and_then (encode_utf16 c) (string_value q rest)
    the d k i = subst (λ x. string_value q (92 ∷ x ∷ rest) ≡ and_then (encode_utf16 x) (string_value q rest)) (sym (eqb-true c d k)) i

    the_quote : (p : Quote) → string_value q (92 ∷ quote_char p ∷ rest) ≡ and_then (encode_utf16 (quote_char p)) (string_value q rest)
    the_quote Single = refl
    the_quote Double = refl
    the_quote Backtick = refl

    third : ((c == 92) ≡ true) ⊎ ((c == quote_char q) ≡ true) → string_value q (92 ∷ c ∷ rest) ≡ and_then (encode_utf16 c) (string_value q rest)
    third (inl k) = the 92 k refl
    third (inr k) = the (quote_char q) k (the_quote q)

    second : (((c == 92) || (c == quote_char q)) ≡ true) ⊎ ((is_backtick q && (c == 36) && begins_with 123 cs) ≡ true) → string_value q (92 ∷ c ∷ rest) ≡ and_then (encode_utf16 c) (string_value q rest)
    second (inl k) = third (or_cases (c == 92) (c == quote_char q) k)
    second (inr k) = the 36 (and_parts (is_backtick q) (c == 36) (and_parts (is_backtick q && (c == 36)) (begins_with 123 cs) k).0).1 refl

    first : (((c == 92) || (c == quote_char q) || (is_backtick q && (c == 36) && begins_with 123 cs)) ≡ true) ⊎ ((after_less && (c == 47) && begins_script cs) ≡ true) → string_value q (92 ∷ c ∷ rest) ≡ and_then (encode_utf16 c) (string_value q rest)
    first (inl k) = second (or_cases ((c == 92) || (c == quote_char q)) (is_backtick q && (c == 36) && begins_with 123 cs) k)
    first (inr k) = the 47 (and_parts after_less (c == 47) (and_parts (after_less && (c == 47)) (begins_script cs) k).0).1 refl

-- a character from U+0020 to U+007F
ascii_value : (q : Quote) (after_less : Bool) (c : ℕ) (cs rest : List ℕ) → 32 ≤ c → c < 128 → (begins_with 123 rest ≡ true → begins_with 123 cs ≡ true) → string_value q (ascii_text q after_less c cs ++ rest) ≡ and_then (encode_utf16 c) (string_value q rest)
ascii_value q after_less c cs rest l m f = by (needs_backslash q after_less c cs) refl
  where
    no_opening : (is_backtick q && (c == 36) && begins_with 123 cs) ≡ false → (is_backtick q && (c == 36) && begins_with 123 rest) ≡ false
    no_opening e = false_from_ne_true _ (λ k. let a = and_parts (is_backtick q && (c == 36)) (begins_with 123 rest) k in both_ways (is_backtick q && (c == 36) && begins_with 123 cs) e (and_from (is_backtick q && (c == 36)) (begins_with 123 cs) a.0 (f a.1)))

    by : (b : Bool) → needs_backslash q after_less c cs ≡ b → string_value q ((if b then 92 ∷ c ∷ [] else c ∷ []) ++ rest) ≡ and_then (encode_utf16 c) (string_value q rest)
    by true e = backslash_value q after_less c cs rest e
    by false e =
        let a = or_parts ((c == 92) || (c == quote_char q) || (is_backtick q && (c == 36) && begins_with 123 cs)) (after_less && (c == 47) && begins_script cs) e in
        let b = or_parts ((c == 92) || (c == quote_char q)) (is_backtick q && (c == 36) && begins_with 123 cs) a.0 in
        itself_value q c rest (low_scalar c (omega arith)) b.0 (or_from (c == 10) (c == 13) (ne_eqb c 10 (λ k. omega arith)) (ne_eqb c 13 (λ k. omega arith))) (no_opening b.1)

high_value : (q : Quote) (c : ℕ) (rest : List ℕ) → 128 ≤ c → scalar c ≡ true → string_value q (c ∷ rest) ≡ and_then (encode_utf16 c) (string_value q rest)
high_value q c rest l s =
    itself_value q c rest s (or_from (c == 92) (c == quote_char q) (ne_eqb c 92 (λ e. omega arith)) (of_quote q)) (or_from (c == 10) (c == 13) (ne_eqb c 10 (λ e. omega arith)) (ne_eqb c 13 (λ e. omega arith))) (and_left (is_backtick q && (c == 36)) (begins_with 123 rest) (and_right (is_backtick q) (c == 36) (ne_eqb c 36 (λ e. omega arith))))
  where
    of_quote : (p : Quote) → (c == quote_char p) ≡ false
    of_quote Single = ne_eqb c 39 (λ e. omega arith)
    of_quote Double = ne_eqb c 34 (λ e. omega arith)
    of_quote Backtick = ne_eqb c 96 (λ e. omega arith)

lines_below : (c : ℕ) → ((c == 0x2028) || (c == 0x2029)) ≡ true → c < 0x1_0000
lines_below c h = by (or_cases (c == 0x2028) (c == 0x2029) h)
  where
    by : ((c == 0x2028) ≡ true) ⊎ ((c == 0x2029) ≡ true) → c < 0x1_0000
    by (inl e) = let k : c ≡ 0x2028 = eqb-true c 0x2028 e in omega arith
    by (inr e) = let k : c ≡ 0x2029 = eqb-true c 0x2029 e in omega arith

-- a code point past ASCII
past_value : (q : Quote) (ascii : Bool) (c : ℕ) (rest : List ℕ) → 128 ≤ c → c < 0x11_0000 → string_value q (past_ascii_text ascii c ++ rest) ≡ and_then (encode_utf16 c) (string_value q rest)
unfolding string_value
past_value q ascii c rest l m = cond_both (is_surrogate c) _ _ (Gives q c rest) lone (λ n. of_scalar ascii (scalar_from c m n))
  where
    lone : is_surrogate c ≡ true → Gives q c rest (unit_escape lower_digit c)
    lone e = let k = ltb-true c 0xE000 (and_parts (nat_le 0xD800 c) (nat_lt c 0xE000) e).1 in unit_value q lower_digit lower_digits c rest (omega arith)

    of_scalar : (a : Bool) → scalar c ≡ true → Gives q c rest (if a then character_escape c else (if c == 0xA0 then codes "\\xA0" else (if (c == 0x2028) || (c == 0x2029) then unit_escape lower_digit c else c ∷ [])))
    of_scalar true s = character_value q c rest m
    of_scalar false s = or_else q c rest 0xA0 (codes "\\xA0") _ refl (λ n.
        cond_both ((c == 0x2028) || (c == 0x2029)) _ _ (Gives q c rest) (λ e. unit_value q lower_digit lower_digits c rest (lines_below c e)) (λ e. high_value q c rest l s))

-- what goes on with a character that such a test passes had it before
point_value : (q : Quote) (ascii after_less : Bool) (c : ℕ) (cs rest : List ℕ) → c < 0x11_0000 → ((test : ℕ → Bool) → test 92 ≡ false → begins test rest ≡ true → begins test cs ≡ true) → string_value q (point_text q ascii after_less c cs ++ rest) ≡ and_then (encode_utf16 c) (string_value q rest)
point_value q ascii after_less c cs rest m f =
    cond_both (nat_lt c 32) _ _ (Gives q c rest) (λ e. control_value q c cs rest (ltb-true c 32 e) (f is_ascii_digit refl)) (λ n.
    cond_both (nat_lt c 128) _ _ (Gives q c rest) (λ e. ascii_value q after_less c cs rest (ltb-false c 32 n) (ltb-true c 128 e) (f (λ x. x == 123) refl)) (λ k.
    past_value q ascii c rest (ltb-false c 128 k) m))

-- ---- the first character that is printed

module _ (test : ℕ → Bool) (apart : test 92 ≡ false) (c : ℕ) (rest : List ℕ) where
  abbrev Kept : List ℕ → Type 0
  Kept text = begins test (text ++ rest) ≡ true → test c ≡ true

  -- a text that begins with a backslash
  lost : test 92 ≡ true → test c ≡ true
  lost h = absurd (both_ways (test 92) apart h)

  kept_alone : Kept (c ∷ [])
  kept_alone h = h

  either : (b : Bool) (x y : List ℕ) → Kept x → Kept y → Kept (if b then x else y)
  either b x y f g = cond_both b x y Kept (λ _. f) (λ _. g)

  kept_control : (q : Quote) (cs : List ℕ) → Kept (control_text q c cs)
  kept_control q cs =
      either (c == 0) _ _ (either (begins is_ascii_digit cs) (codes "\\x00") (codes "\\0") lost lost) (
      either (c == 7) (codes "\\x07") _ lost (
      either (c == 8) (codes "\\b") _ lost (
      cond_both (c == 10) _ _ Kept (λ e. either (is_backtick q) (10 ∷ []) (codes "\\n") (λ h. subst (λ x. test x ≡ true) (sym (eqb-true c 10 e)) h) lost) (λ _.
      either (c == 11) (codes "\\v") _ lost (
      either (c == 12) (codes "\\f") _ lost (
      either (c == 13) (codes "\\r") _ lost (
      either (c == 27) (codes "\\x1B") _ lost kept_alone)))))))

  kept_character : Kept (character_escape c)
  kept_character = either (nat_lt c 0x1_0000) (unit_escape upper_digit c) (code_point_escape c) lost lost

  kept_past : (ascii : Bool) → Kept (past_ascii_text ascii c)
  kept_past ascii =
      either (is_surrogate c) _ _ lost (
      either ascii _ _ kept_character (
      either (c == 0xA0) (codes "\\xA0") _ lost (
      either ((c == 0x2028) || (c == 0x2029)) _ _ lost kept_alone)))

  kept_point : (q : Quote) (ascii after_less : Bool) (cs : List ℕ) → Kept (point_text q ascii after_less c cs)
  kept_point q ascii after_less cs =
      either (nat_lt c 32) _ _ (kept_control q cs) (
      either (nat_lt c 128) _ _ (either (needs_backslash q after_less c cs) _ _ lost kept_alone) (kept_past ascii))

kept_first : (q : Quote) (ascii after_less : Bool) (cs : List ℕ) (test : ℕ → Bool) → test 92 ≡ false → begins test (escaped_after q ascii after_less cs) ≡ true → begins test cs ≡ true
unfolding escaped_after
kept_first q ascii after_less [] test apart h = h
kept_first q ascii after_less (c ∷ cs) test apart h = kept_point test apart c (escaped_after q ascii (c == 60) cs) q ascii after_less cs h

pub escaped_after_value : (q : Quote) (ascii after_less : Bool) (cs : List ℕ) → list_all is_point cs ≡ true → string_value q (escaped_after q ascii after_less cs) ≡ Some (flat_map encode_utf16 cs)
unfolding escaped_after string_value
escaped_after_value q ascii after_less [] h = refl
escaped_after_value q ascii after_less (c ∷ cs) h =
    let k = and_parts (is_point c) (list_all is_point cs) h in
    point_value q ascii after_less c cs (escaped_after q ascii (c == 60) cs) (ltb-true c 0x11_0000 k.0) (kept_first q ascii (c == 60) cs)
    ∙ ap (and_then (encode_utf16 c)) (escaped_after_value q ascii (c == 60) cs k.1)

pub escaped_value : (q : Quote) (ascii : Bool) (us : List ℕ) → are_units us ≡ true → string_value q (escaped q ascii us) ≡ Some us
escaped_value q ascii us h = escaped_after_value q ascii false (joined_units us) (joined_points us h) ∙ ap Some (units_joined us h)
