-- A directive's value is the same in each quote that spells it, and with escapes for what isn't ASCII.
use Rattle.std.proofs.Common.{◌≡◌, ℕ, ◌+◌, ◌*◌, ◌<◌, Bool, true, false, not, cond, nat_le, nat_lt, ◌&&◌, ◌||◌, ◌==◌, ◌⊎◌, inl, inr, Option, Some, None, List, [], ◌∷◌, ◌++◌, refl, sym, ap, ap₂, if◌then◌else◌, ◌∙◌, subst, arith}
use Rattle.std.specs.Char.{is_ascii_digit, is_ascii_hexdigit, digit_value}
use Rattle.std.specs.Char.Escape.{encode_utf16}
use Rattle.std.specs.Int.{is_in_range}
use Rattle.std.specs.Option.{option_or}
use lib.Utf8.{scalar}
use Rattle.std.proofs.lemmas.Bool.{both_ways, and_parts, and_from, and_right, or_parts, or_from, not-true, not_from_false, eqb-true, ne_eqb, leb-true, lt-leb}
use Rattle.std.proofs.lemmas.Option.{same_Some}
use Rattle.jsgen_syntax.specs.declared.quote.Quote.{Quote}
use Rattle.jsgen_syntax.specs.declared.quote.Quote.TheVariants.{Single, Double, Backtick}
use Rattle.jsgen_syntax.specs.declared.escape.NonAsciiEscape.{NonAsciiEscape}
use Rattle.jsgen_syntax.specs.declared.escape.NonAsciiEscape.TheVariants as modes
use Rattle.jsgen_syntax.specs.Escapes.{upper_digit, unit_escape, code_point_escape, character_escape, is_past_ascii}
use Rattle.jsgen_syntax.specs.Strings.{begins, begins_with, is_backtick, ends_line, and_then, stands_bare, bare_units, escape_units, string_value, escape_value, hex_value, code_point_value, digits_value}
use Rattle.jsgen_syntax.specs.Raw.{Raw, raw_escape, is_left_out, raw_text_after, raw_text, directive_text, first_quote, quote_beside, directive_quote, directive_value}
use Rattle.jsgen_syntax.proofs.Escapes.{hex_passes}
use Rattle.jsgen_syntax.proofs.Induction.{Plain, Steps, of_value, reads, character_value}
use Rattle.jsgen_syntax.proofs.Wtf8.{scalar_below}

-- ---- a text that spells a string in one quote

-- of `'` and `"`, the other one
abbrev other : Quote → Quote
other Single = Double
other quote = Single

-- the first bare quote of a text is the other one, or there is none and this holds
abbrev OtherOrNone : Quote → Option Quote → Type 0 → Type 0
OtherOrNone q found Fact = (found ≡ Some (other q)) ⊎ ((found ≡ None) × Fact)

onward : {X Y : Type 0} (q : Quote) (o p : Option Quote) → p ≡ o → (X → Y) → OtherOrNone q o X → OtherOrNone q p Y
onward q o p e f (inl k) = inl (e ∙ k)
onward q o p e f (inr k) = inr (e ∙ k.0, f k.1)

both_false : (b : Bool) → (b && false) ≡ false
both_false true = refl
both_false false = refl

-- a character that a backslash escapes
quote_behind : (c : ℕ) (cs : List ℕ) → first_quote true (c ∷ cs) ≡ first_quote false cs
unfolding first_quote
quote_behind c cs = ap (λ b. first_quote b cs) (both_false (c == 92))

-- an LF may be escaped or not
quote_turn : (cs : List ℕ) → begins_with 10 cs ≡ true → first_quote false cs ≡ first_quote true cs
unfolding first_quote
quote_turn [] b = refl
quote_turn (c ∷ cs) b = subst (λ x. first_quote false (x ∷ cs) ≡ first_quote true (x ∷ cs)) (sym (eqb-true c 10 b)) refl

-- a character that is no quote and no backslash
quote_past : (c : ℕ) (cs : List ℕ) → (c == 39) ≡ false → (c == 34) ≡ false → (c == 92) ≡ false → first_quote false (c ∷ cs) ≡ first_quote false cs
unfolding first_quote
quote_past c cs s d n =
    ap (λ b. cond b (Some Single) (cond (c == 34) (Some Double) (first_quote ((c == 92) && true) cs))) s
    ∙ ap₂ (λ b e. cond b (Some Double) (first_quote (e && true) cs)) d n

quote_past_digit : (c : ℕ) (cs : List ℕ) → is_ascii_hexdigit c ≡ true → first_quote false (c ∷ cs) ≡ first_quote false cs
quote_past_digit c cs h =
    let k = or_parts ((c == 39) || (c == 34)) (c == 92) (not-true _ (hex_passes (λ n. not ((n == 39) || (n == 34) || (n == 92))) refl c h)) in
    let l = or_parts (c == 39) (c == 34) k.0 in
    quote_past c cs l.0 l.1 k.1

-- a character that stands bare in one quote
no_quote : (x n z : Bool) → (x && not n && z) ≡ true → n ≡ false
no_quote x n z h = not-true n (and_parts x (not n) (and_parts (x && not n) z h).0).1

other_quote : (x m n z : Bool) → n ≡ false → (x && not m && z) ≡ true → (x && not n && z) ≡ true
other_quote x m n z e h =
    let a = and_parts (x && not m) z h in
    and_from (x && not n) z (and_from x (not n) (and_parts x (not m) a.0).0 (not_from_false n e)) a.1

bare_step : (q : Quote) → is_backtick q ≡ false → (c : ℕ) (cs us : List ℕ) → (c == 92) ≡ false → stands_bare q c cs ≡ true → OtherOrNone q (first_quote false cs) (string_value (other q) cs ≡ Some us) → OtherOrNone q (first_quote false (c ∷ cs)) (string_value (other q) (c ∷ cs) ≡ Some (bare_units c cs ++ us))
unfolding first_quote
bare_step Single b c cs us n h v = by (c == 34) refl
  where
    no_single : (c == 39) ≡ false
    no_single = no_quote (scalar c && not (c == 92)) (c == 39) (not ((c == 10) || (c == 13))) h

    by : (d : Bool) → (c == 34) ≡ d → OtherOrNone Single (first_quote false (c ∷ cs)) (string_value Double (c ∷ cs) ≡ Some (bare_units c cs ++ us))
    by true d = inl (ap₂ (λ x y. cond x (Some Single) (cond y (Some Double) (first_quote ((c == 92) && true) cs))) no_single d)
    by false d = onward Single _ _ (quote_past c cs no_single d n) (λ e. (reads Double).bare c cs us n (other_quote (scalar c && not (c == 92)) (c == 39) (c == 34) (not ((c == 10) || (c == 13))) d h) e) v
bare_step Double b c cs us n h v = by (c == 39) refl
  where
    no_double : (c == 34) ≡ false
    no_double = no_quote (scalar c && not (c == 92)) (c == 34) (not ((c == 10) || (c == 13))) h

    by : (d : Bool) → (c == 39) ≡ d → OtherOrNone Double (first_quote false (c ∷ cs)) (string_value Single (c ∷ cs) ≡ Some (bare_units c cs ++ us))
    by true d = inl (ap (λ x. cond x (Some Single) (cond (c == 34) (Some Double) (first_quote ((c == 92) && true) cs))) d)
    by false d = onward Double _ _ (quote_past c cs d no_double n) (λ e. (reads Single).bare c cs us n (other_quote (scalar c && not (c == 92)) (c == 34) (c == 39) (not ((c == 10) || (c == 13))) d h) e) v
bare_step Backtick b c cs us n h v = absurd (both_ways true b refl)

module _ (q : Quote) (plain : is_backtick q ≡ false) where
  other_steps : Steps q (λ cs us. OtherOrNone q (first_quote false cs) (string_value (other q) cs ≡ Some us)) (λ cs us. OtherOrNone q (first_quote true cs) (escape_value (other q) cs ≡ Some us)) (λ count n cs us. OtherOrNone q (first_quote false cs) (hex_value (other q) count n cs ≡ Some us)) (λ cs us. begins_with 123 cs ≡ true → OtherOrNone q (first_quote false cs) (code_point_value (other q) cs ≡ Some us)) (λ n cs us. OtherOrNone q (first_quote false cs) (digits_value (other q) n cs ≡ Some us))
  unfolding first_quote
  other_steps =
      let r = reads (other q) in
      record {
        nothing = inr (refl, r.nothing);
        bare = bare_step q plain;
        backslash = λ cs us e. onward q _ _ refl (r.backslash cs us) e;
        two_ends = λ cs us b e. onward q _ _ (quote_behind 13 cs ∙ quote_turn cs b) (r.two_ends cs us b) e;
        line_end = λ c cs us n l v. onward q _ _ (quote_behind c cs) (r.line_end c cs us n l) v;
        two_digits = λ cs us h. onward q _ _ (quote_behind 120 cs) (r.two_digits cs us) h;
        opening = λ cs us b p. onward q _ _ (quote_behind 117 cs) (r.opening cs us b) (p b);
        four = λ cs us b h. onward q _ _ (quote_behind 117 cs) (r.four cs us b) h;
        nought = λ cs us b v. onward q _ _ (quote_behind 48 cs) (r.nought cs us b) v;
        itself = λ c cs us p v. onward q _ _ (quote_behind c cs) (r.itself c cs us p) v;
        last_digit = λ count n c cs us h k v. onward q _ _ (quote_past_digit c cs h) (r.last_digit count n c cs us h k) v;
        digit = λ count n c cs us h k v. onward q _ _ (quote_past_digit c cs h) (r.digit count n c cs us h k) v;
        brace = λ c cs us b d e. onward q _ _ (subst (λ x. first_quote false (x ∷ cs) ≡ first_quote false cs) (sym (eqb-true c 123 e)) refl) (r.brace c cs us b) d;
        closing = λ n cs us v. onward q _ _ refl (r.closing n cs us) v;
        within = λ n c cs us k h l d. onward q _ _ (quote_past_digit c cs h) (r.within n c cs us k h l) d;
      }

  in_other : (raw us : List ℕ) → string_value q raw ≡ Some us → OtherOrNone q (first_quote false raw) (string_value (other q) raw ≡ Some us)
  in_other raw us e = of_value q _ _ _ _ _ other_steps raw us e

-- ---- a directive has one value

-- a text that spells a string in both quotes spells the same in both
pub one_value : (raw us vs : List ℕ) → string_value Double raw ≡ Some us → string_value Single raw ≡ Some vs → us ≡ vs
one_value raw us vs e f = by (in_other Double refl raw us e) (in_other Single refl raw vs f)
  where
    by : OtherOrNone Double (first_quote false raw) (string_value Single raw ≡ Some us) → OtherOrNone Single (first_quote false raw) (string_value Double raw ≡ Some vs) → us ≡ vs
    by (inr k) m = same_Some us vs (sym k.1 ∙ f)
    by (inl k) (inr m) = same_Some us vs (sym e ∙ m.1)
    by (inl k) (inl m) = cc

-- the quote that is printed
beside_known : (wanted q : Quote) → is_backtick q ≡ false → quote_beside wanted (Some (other q)) ≡ q
beside_known wanted Single b = refl
beside_known wanted Double b = refl
beside_known wanted Backtick b = absurd (both_ways true b refl)

beside_none : (wanted q : Quote) → is_backtick q ≡ false → (quote_beside wanted None ≡ q) ⊎ (quote_beside wanted None ≡ other q)
beside_none Single Single b = inl refl
beside_none Single Double b = inr refl
beside_none Double Single b = inr refl
beside_none Double Double b = inl refl
beside_none Backtick Single b = inr refl
beside_none Backtick Double b = inl refl
beside_none wanted Backtick b = absurd (both_ways true b refl)

in_printed : (wanted q : Quote) (raw us : List ℕ) → is_backtick q ≡ false → string_value q raw ≡ Some us → string_value (directive_quote wanted raw) raw ≡ Some us
in_printed wanted q raw us b e = by (in_other q b raw us e)
  where
    in_quote : (p r : Quote) → p ≡ r → string_value r raw ≡ Some us → string_value p raw ≡ Some us
    in_quote p r k f = ap (λ x. string_value x raw) k ∙ f

    unquoted : string_value (other q) raw ≡ Some us → (quote_beside wanted None ≡ q) ⊎ (quote_beside wanted None ≡ other q) → string_value (quote_beside wanted None) raw ≡ Some us
    unquoted f (inl k) = in_quote _ q k e
    unquoted f (inr k) = in_quote _ (other q) k f

    by : OtherOrNone q (first_quote false raw) (string_value (other q) raw ≡ Some us) → string_value (directive_quote wanted raw) raw ≡ Some us
    by (inl k) = in_quote _ q (ap (quote_beside wanted) k ∙ beside_known wanted q b) e
    by (inr k) = in_quote _ (quote_beside wanted None) (ap (quote_beside wanted) k.0) (unquoted k.1 (beside_none wanted q b))

-- which is never a backtick
pub directive_quote_plain : (wanted : Quote) (raw : List ℕ) → is_backtick (directive_quote wanted raw) ≡ false
directive_quote_plain wanted raw = by wanted (first_quote false raw)
  where
    by : (w : Quote) (o : Option Quote) → is_backtick (quote_beside w o) ≡ false
    by Single None = refl
    by Double None = refl
    by Backtick None = refl
    by w (Some Single) = refl
    by w (Some Double) = refl
    by w (Some Backtick) = refl

-- what it spells is what the directive stands for, whatever quote is asked for
pub printed_quote_value : (wanted : Quote) (raw : List ℕ) → string_value (directive_quote wanted raw) raw ≡ directive_value raw
printed_quote_value wanted raw = by (string_value Double raw) (string_value Single raw) refl refl
  where
    unspelled : (q : Quote) → is_backtick q ≡ false → string_value Double raw ≡ None → string_value Single raw ≡ None → string_value q raw ≡ None
    unspelled Single b e f = f
    unspelled Double b e f = e
    unspelled Backtick b e f = absurd (both_ways true b refl)

    by : (d s : Option (List ℕ)) → string_value Double raw ≡ d → string_value Single raw ≡ s → string_value (directive_quote wanted raw) raw ≡ option_or d s
    by (Some us) s e f = in_printed wanted Double raw us refl e
    by None (Some us) e f = in_printed wanted Single raw us refl f
    by None None e f = unspelled (directive_quote wanted raw) (directive_quote_plain wanted raw) e f

pub directive_quote_value : (wanted : Quote) (raw v : List ℕ) → directive_value raw ≡ Some v → string_value (directive_quote wanted raw) raw ≡ Some v
directive_quote_value wanted raw v e = printed_quote_value wanted raw ∙ e

-- ---- with escapes, a text stands for the same

abbrev as_ascii : Raw
as_ascii = record { mode = modes.Directive; ascii = true; drops_backslash = false; frees_tags = false }

abbrev spared : Bool → Bool → List ℕ → List ℕ
spared escaped after_less cs = raw_text_after as_ascii escaped after_less cs

-- a backslash, unless it is left out before this text
abbrev lead : List ℕ → List ℕ
lead cs = if is_left_out as_ascii cs then [] else 92 ∷ []

past_apart : (c d : ℕ) → is_past_ascii c ≡ true → d < 128 → (c == d) ≡ false
past_apart c d h l = let k = leb-true 128 c h in ne_eqb c d (λ e. omega arith)

spared_past : (e l : Bool) (c : ℕ) (cs : List ℕ) → is_past_ascii c ≡ true → spared e l (c ∷ cs) ≡ raw_escape modes.Directive e c ++ spared false (c == 60) cs
unfolding raw_text_after
spared_past e l c cs h =
    ap₂ (λ b n. cond b (raw_escape modes.Directive e c) (if n && not e && is_left_out as_ascii cs then [] else c ∷ []) ++ spared (n && not e) (c == 60) cs) h (past_apart c 92 h (omega arith))

spared_bare : (e l : Bool) (c : ℕ) (cs : List ℕ) → is_past_ascii c ≡ false → (c == 92) ≡ false → spared e l (c ∷ cs) ≡ c ∷ spared false (c == 60) cs
unfolding raw_text_after
spared_bare e l c cs h k =
    ap₂ (λ b n. cond b (raw_escape modes.Directive e c) (if n && not e && is_left_out as_ascii cs then [] else c ∷ []) ++ spared (n && not e) (c == 60) cs) h k

spared_behind : (l : Bool) (c : ℕ) (cs : List ℕ) → is_past_ascii c ≡ false → spared true l (c ∷ cs) ≡ c ∷ spared false (c == 60) cs
unfolding raw_text_after
spared_behind l c cs h =
    ap₂ (λ b n. cond b (raw_escape modes.Directive true c) (if n && is_left_out as_ascii cs then [] else c ∷ []) ++ spared n (c == 60) cs) h (both_false (c == 92))

spared_backslash : (l : Bool) (cs : List ℕ) → spared false l (92 ∷ cs) ≡ lead cs ++ spared true false cs
unfolding raw_text_after
spared_backslash l cs = refl

-- a test that passes neither a backslash nor what is past ASCII
record Low (test : ℕ → Bool) : Type 0 where
  backslash : test 92 ≡ false
  past : (c : ℕ) → is_past_ascii c ≡ true → test c ≡ false

escape_begins : (test : ℕ → Bool) (e : Bool) (c : ℕ) (cs : List ℕ) → begins test (raw_escape modes.Directive e c ++ cs) ≡ test 92
escape_begins test e c cs = by (e && ((c == 0x2028) || (c == 0x2029))) (nat_lt c 0x1_0000)
  where
    by : (b d : Bool) → begins test (cond b (92 ∷ 10 ∷ []) (cond d (unit_escape upper_digit c) (code_point_escape c)) ++ cs) ≡ test 92
    by true d = refl
    by false true = refl
    by false false = refl

past_begins : (test : ℕ → Bool) (e l : Bool) (cs : List ℕ) → begins is_past_ascii cs ≡ true → begins test (spared e l cs) ≡ test 92
past_begins test e l [] h = absurd (both_ways false refl h)
past_begins test e l (c ∷ cs) h = ap (begins test) (spared_past e l c cs h) ∙ escape_begins test e c (spared false (c == 60) cs)

or_no : (b : Bool) → (b || false) ≡ b
or_no true = refl
or_no false = refl

lead_begins : (test : ℕ → Bool) (cs : List ℕ) → begins test (lead cs ++ spared true false cs) ≡ test 92
lead_begins test cs = ap (λ b. begins test (cond b [] (92 ∷ []) ++ spared true false cs)) (or_no (begins is_past_ascii cs)) ∙ by (begins is_past_ascii cs) refl
  where
    by : (b : Bool) → begins is_past_ascii cs ≡ b → begins test (cond b [] (92 ∷ []) ++ spared true false cs) ≡ test 92
    by true e = past_begins test true false cs e
    by false e = refl

-- such a test passes the first character of the printed text just where it passes that of the text
kept_begins : (test : ℕ → Bool) → Low test → (l : Bool) (cs : List ℕ) → begins test (spared false l cs) ≡ begins test cs
unfolding raw_text_after
kept_begins test t l [] = refl
kept_begins test t l (c ∷ cs) = by (is_past_ascii c) refl (c == 92) refl
  where
    by : (b : Bool) → is_past_ascii c ≡ b → (n : Bool) → (c == 92) ≡ n → begins test (spared false l (c ∷ cs)) ≡ test c
    by true h n k = past_begins test false l (c ∷ cs) h ∙ (t.backslash ∙ sym (t.past c h))
    by false h true k = subst (λ x. begins test (spared false l (x ∷ cs)) ≡ test x) (sym (eqb-true c 92 k)) (lead_begins test cs)
    by false h false k = ap (begins test) (spared_bare false l c cs h k)

low_below : (d : ℕ) → d < 128 → (92 == d) ≡ false → Low (λ c. c == d)
low_below d l n = record { backslash = n; past = λ c h. past_apart c d h l }

past_range : (lo hi c : ℕ) → hi < 128 → is_past_ascii c ≡ true → is_in_range lo hi c ≡ false
past_range lo hi c l h = let k = leb-true 128 c h in and_right (nat_le lo c) (nat_le c hi) (lt-leb c hi (omega arith))

low_digit : Low is_ascii_digit
low_digit = record { backslash = refl; past = λ c h. past_range 48 57 c (omega arith) h }

low_hexdigit : Low is_ascii_hexdigit
low_hexdigit = record { backslash = refl; past = λ c h. or_from (is_in_range 48 57 c || is_in_range 65 70 c) (is_in_range 97 102 c) (or_from (is_in_range 48 57 c) (is_in_range 65 70 c) (past_range 48 57 c (omega arith) h) (past_range 65 70 c (omega arith) h)) (past_range 97 102 c (omega arith) h) }

-- ---- the steps

bare_facts : (x y : Bool) (c : ℕ) → (scalar c && x && y && not ((c == 10) || (c == 13))) ≡ true → ((c == 13) ≡ false) × (scalar c ≡ true)
bare_facts x y c h =
    let a = and_parts (scalar c && x && y) (not ((c == 10) || (c == 13))) h in
    let b = and_parts (scalar c && x) y a.0 in
    ((or_parts (c == 10) (c == 13) (not-true ((c == 10) || (c == 13)) a.1)).1, (and_parts (scalar c) x b.0).0)

-- between such quotes it doesn't matter what stands behind a bare character
bare_anywhere : (q : Quote) (c : ℕ) (cs ds : List ℕ) → is_backtick q ≡ false → stands_bare q c cs ≡ true → stands_bare q c ds ≡ true
bare_anywhere Single c cs ds b h = h
bare_anywhere Double c cs ds b h = h
bare_anywhere Backtick c cs ds b h = absurd (both_ways true b refl)

bare_known : (q : Quote) (c : ℕ) (cs : List ℕ) → is_backtick q ≡ false → stands_bare q c cs ≡ true → ((c == 13) ≡ false) × (scalar c ≡ true)
bare_known Single c cs b h = bare_facts (not (c == 92)) (not (c == 39)) c h
bare_known Double c cs b h = bare_facts (not (c == 92)) (not (c == 34)) c h
bare_known Backtick c cs b h = absurd (both_ways true b refl)

bare_alone : (c : ℕ) (cs : List ℕ) → (c == 13) ≡ false → bare_units c cs ≡ encode_utf16 c
bare_alone c cs n = ap (λ b. cond b (if begins_with 10 cs then [] else 10 ∷ []) (encode_utf16 c)) n

escape_alone : (c : ℕ) → is_past_ascii c ≡ true → escape_units c ≡ encode_utf16 c
escape_alone c h =
    let b = past_apart c 98 h (omega arith) in
    let t = past_apart c 116 h (omega arith) in
    let n = past_apart c 110 h (omega arith) in
    let v = past_apart c 118 h (omega arith) in
    let f = past_apart c 102 h (omega arith) in
    let r = past_apart c 114 h (omega arith) in
    rw (b, t, n, v, f, r)

-- of the line ends two are past ASCII
line_past : (c : ℕ) → is_past_ascii c ≡ true → ends_line c ≡ ((c == 0x2028) || (c == 0x2029))
line_past c h = ap₂ (λ x y. x || y || (c == 8232) || (c == 8233)) (past_apart c 10 h (omega arith)) (past_apart c 13 h (omega arith))

module _ (q : Quote) (plain : is_backtick q ≡ false) where
  kept_bare : (c : ℕ) (cs us : List ℕ) → (c == 92) ≡ false → stands_bare q c cs ≡ true → ((l : Bool) → string_value q (spared false l cs) ≡ Some us) → (l : Bool) → string_value q (spared false l (c ∷ cs)) ≡ Some (bare_units c cs ++ us)
  kept_bare c cs us n h v l = by (is_past_ascii c) refl
    where
      known : ((c == 13) ≡ false) × (scalar c ≡ true)
      known = bare_known q c cs plain h

      by : (b : Bool) → is_past_ascii c ≡ b → string_value q (spared false l (c ∷ cs)) ≡ Some (bare_units c cs ++ us)
      by true p =
          ap (string_value q) (spared_past false l c cs p)
          ∙ (character_value q c (spared false (c == 60) cs) (scalar_below c known.1)
          ∙ (ap (and_then (encode_utf16 c)) (v (c == 60)) ∙ ap (λ x. Some (x ++ us)) (sym (bare_alone c cs known.0))))
      by false p =
          ap (string_value q) (spared_bare false l c cs p n)
          ∙ ((reads q).bare c (spared false (c == 60) cs) us n (bare_anywhere q c cs (spared false (c == 60) cs) plain h) (v (c == 60))
          ∙ ap (λ x. Some (x ++ us)) (bare_alone c (spared false (c == 60) cs) known.0 ∙ sym (bare_alone c cs known.0)))

  -- a backslash stays before a character of ASCII
  behind_low : (c : ℕ) (cs us : List ℕ) → is_past_ascii c ≡ false → escape_value q (c ∷ spared false (c == 60) cs) ≡ Some us → (l : Bool) → string_value q (lead (c ∷ cs) ++ spared true l (c ∷ cs)) ≡ Some us
  behind_low c cs us p e l =
      ap₂ (λ b x. string_value q (cond b [] (92 ∷ []) ++ x)) (or_no (is_past_ascii c) ∙ p) (spared_behind l c cs p)
      ∙ (reads q).backslash (c ∷ spared false (c == 60) cs) us e

  -- and is left out before another
  behind_high : (c : ℕ) (cs : List ℕ) (o : Option (List ℕ)) → is_past_ascii c ≡ true → string_value q (raw_escape modes.Directive true c ++ spared false (c == 60) cs) ≡ o → (l : Bool) → string_value q (lead (c ∷ cs) ++ spared true l (c ∷ cs)) ≡ o
  behind_high c cs o p e l =
      ap₂ (λ b x. string_value q (cond b [] (92 ∷ []) ++ x)) (or_no (is_past_ascii c) ∙ p) (spared_past true l c cs p) ∙ e

  -- behind a CR stands an LF
  kept_two_ends : (cs us : List ℕ) → begins_with 10 cs ≡ true → ((l : Bool) → string_value q (lead cs ++ spared true l cs) ≡ Some us) → (l : Bool) → string_value q (lead (13 ∷ cs) ++ spared true l (13 ∷ cs)) ≡ Some us
  unfolding raw_text_after string_value
  kept_two_ends [] us b e l = absurd (both_ways false refl b)
  kept_two_ends (c ∷ cs) us b e l =
      behind_low 13 (c ∷ cs) us refl ((reads q).two_ends (spared false false (c ∷ cs)) us (kept_begins (λ x. x == 10) (low_below 10 (omega arith) refl) false (c ∷ cs) ∙ b) (turned c (eqb-true c 10 b) e)) l
    where
      turned : (d : ℕ) → d ≡ 10 → ((k : Bool) → string_value q (lead (d ∷ cs) ++ spared true k (d ∷ cs)) ≡ Some us) → escape_value q (spared false false (d ∷ cs)) ≡ Some us
      turned d k f = subst (λ x. ((k : Bool) → string_value q (lead (x ∷ cs) ++ spared true k (x ∷ cs)) ≡ Some us) → escape_value q (spared false false (x ∷ cs)) ≡ Some us) (sym k) (λ g. g false) f

  kept_line_end : (c : ℕ) (cs us : List ℕ) → ((c == 13) && begins_with 10 cs) ≡ false → ends_line c ≡ true → ((l : Bool) → string_value q (spared false l cs) ≡ Some us) → (l : Bool) → string_value q (lead (c ∷ cs) ++ spared true l (c ∷ cs)) ≡ Some us
  unfolding string_value
  kept_line_end c cs us n h v = by (is_past_ascii c) refl
    where
      by : (b : Bool) → is_past_ascii c ≡ b → (l : Bool) → string_value q (lead (c ∷ cs) ++ spared true l (c ∷ cs)) ≡ Some us
      by true p = behind_high c cs (Some us) p (ap (λ b. string_value q (cond b (92 ∷ 10 ∷ []) (character_escape c) ++ spared false (c == 60) cs)) (sym (line_past c p) ∙ h) ∙ v (c == 60))
      by false p = behind_low c cs us p ((reads q).line_end c (spared false (c == 60) cs) us (ap (λ b. (c == 13) && b) (kept_begins (λ x. x == 10) (low_below 10 (omega arith) refl) (c == 60) cs) ∙ n) h (v (c == 60)))

  kept_itself : (c : ℕ) (cs us : List ℕ) → Plain c → ((l : Bool) → string_value q (spared false l cs) ≡ Some us) → (l : Bool) → string_value q (lead (c ∷ cs) ++ spared true l (c ∷ cs)) ≡ Some (escape_units c ++ us)
  kept_itself c cs us k v = by (is_past_ascii c) refl
    where
      by : (b : Bool) → is_past_ascii c ≡ b → (l : Bool) → string_value q (lead (c ∷ cs) ++ spared true l (c ∷ cs)) ≡ Some (escape_units c ++ us)
      by true p = behind_high c cs (Some (escape_units c ++ us)) p
          (ap (λ b. string_value q (cond b (92 ∷ 10 ∷ []) (character_escape c) ++ spared false (c == 60) cs)) (sym (line_past c p) ∙ k.no_line)
          ∙ (character_value q c (spared false (c == 60) cs) (scalar_below c k.is_scalar)
          ∙ (ap (and_then (encode_utf16 c)) (v (c == 60)) ∙ ap (λ x. Some (x ++ us)) (sym (escape_alone c p)))))
      by false p = behind_low c cs (escape_units c ++ us) p ((reads q).itself c (spared false (c == 60) cs) us k (v (c == 60)))

  no_backslash_digit : (c : ℕ) → is_ascii_hexdigit c ≡ true → (c == 92) ≡ false
  no_backslash_digit c h = not-true (c == 92) (hex_passes (λ n. not (n == 92)) refl c h)

  hex_low : (c : ℕ) → is_ascii_hexdigit c ≡ true → is_past_ascii c ≡ false
  hex_low c h = not-true (is_past_ascii c) (hex_passes (λ n. not (is_past_ascii n)) refl c h)

  -- a digit is printed as it is
  kept_digit : (c : ℕ) (cs : List ℕ) (X : List ℕ → Type 0) → is_ascii_hexdigit c ≡ true → X (c ∷ spared false (c == 60) cs) → (l : Bool) → X (spared false l (c ∷ cs))
  kept_digit c cs X h x l = subst X (sym (spared_bare false l c cs (hex_low c h) (no_backslash_digit c h))) x

  kept_brace : (c : ℕ) (cs us : List ℕ) → begins is_ascii_hexdigit cs ≡ true → ((l : Bool) → digits_value q 0 (spared false l cs) ≡ Some us) → (c == 123) ≡ true → (l : Bool) → code_point_value q (spared false l (c ∷ cs)) ≡ Some us
  kept_brace c cs us b d e l =
      let k = eqb-true c 123 e in
      ap (code_point_value q) (spared_bare false l c cs (subst (λ x. is_past_ascii x ≡ false) (sym k) refl) (subst (λ x. (x == 92) ≡ false) (sym k) refl))
      ∙ (reads q).brace c (spared false (c == 60) cs) us (kept_begins is_ascii_hexdigit low_hexdigit (c == 60) cs ∙ b) (d (c == 60))

  kept_steps : Steps q (λ cs us. (l : Bool) → string_value q (spared false l cs) ≡ Some us) (λ cs us. (l : Bool) → string_value q (lead cs ++ spared true l cs) ≡ Some us) (λ count n cs us. (l : Bool) → hex_value q count n (spared false l cs) ≡ Some us) (λ cs us. begins_with 123 cs ≡ true → (l : Bool) → code_point_value q (spared false l cs) ≡ Some us) (λ n cs us. (l : Bool) → digits_value q n (spared false l cs) ≡ Some us)
  unfolding raw_text_after
  kept_steps =
      let r = reads q in
      record {
        nothing = λ l. r.nothing;
        bare = kept_bare;
        backslash = λ cs us e l. ap (string_value q) (spared_backslash l cs) ∙ e false;
        two_ends = kept_two_ends;
        line_end = kept_line_end;
        two_digits = λ cs us h. behind_low 120 cs us refl (r.two_digits (spared false false cs) us (h false));
        opening = λ cs us b p. behind_low 117 cs us refl (r.opening (spared false false cs) us (kept_begins (λ x. x == 123) (low_below 123 (omega arith) refl) false cs ∙ b) (p b false));
        four = λ cs us b h. behind_low 117 cs us refl (r.four (spared false false cs) us (kept_begins (λ x. x == 123) (low_below 123 (omega arith) refl) false cs ∙ b) (h false));
        nought = λ cs us b v. behind_low 48 cs (0 ∷ us) refl (r.nought (spared false false cs) us (kept_begins is_ascii_digit low_digit false cs ∙ b) (v false));
        itself = kept_itself;
        last_digit = λ count n c cs us h k v. kept_digit c cs (λ x. hex_value q count n x ≡ Some (encode_utf16 (n * 16 + digit_value c) ++ us)) h (r.last_digit count n c (spared false (c == 60) cs) us h k (v (c == 60)));
        digit = λ count n c cs us h k v. kept_digit c cs (λ x. hex_value q count n x ≡ Some us) h (r.digit count n c (spared false (c == 60) cs) us h k (v (c == 60)));
        brace = kept_brace;
        closing = λ n cs us v l. r.closing n (spared false false cs) us (v false);
        within = λ n c cs us k h m d. kept_digit c cs (λ x. digits_value q n x ≡ Some us) h (r.within n c (spared false (c == 60) cs) us k h m (d (c == 60)));
      }

-- a text that isn't changed
abbrev pub unchanged : NonAsciiEscape → Raw
unchanged mode = record { mode = mode; ascii = false; drops_backslash = false; frees_tags = false }

untouched_after : (mode : NonAsciiEscape) (e l : Bool) (cs : List ℕ) → raw_text_after (unchanged mode) e l cs ≡ cs
unfolding raw_text_after
untouched_after mode e l [] = refl
untouched_after mode e l (c ∷ cs) =
    ap (λ b. cond b [] (c ∷ []) ++ raw_text_after (unchanged mode) ((c == 92) && not e) (c == 60) cs) (both_false ((c == 92) && not e))
    ∙ ap (λ x. c ∷ x) (untouched_after mode ((c == 92) && not e) (c == 60) cs)

pub untouched : (mode : NonAsciiEscape) (cs : List ℕ) → raw_text (unchanged mode) cs ≡ cs
untouched mode cs = untouched_after mode false false cs

pub directive_text_value : (q : Quote) (ascii : Bool) (raw v : List ℕ) → is_backtick q ≡ false → string_value q raw ≡ Some v → string_value q (directive_text ascii raw) ≡ Some v
directive_text_value q true raw v b e = of_value q _ _ _ _ _ (kept_steps q b) raw v e false
directive_text_value q false raw v b e = ap (string_value q) (untouched modes.Directive raw) ∙ e
