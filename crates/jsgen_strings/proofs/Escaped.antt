-- The text of a string, from its bytes on.
use Rattle.std.proofs.Common.{◌≡◌, ℕ, ◌<◌, Bool, true, false, cond, nat_lt, ◌&&◌, ◌||◌, ◌==◌, List, [], ◌∷◌, ◌++◌, length, refl, sym, ap, ap₂, append-nil, if◌then◌else◌, ◌∙◌, subst, arith}
use Rattle.std.specs.Str.{chars}
use Rattle.std.specs.List.{list_all}
use lib.Utf8.{encode, encodes}
use Rattle.std.proofs.lemmas.Bool.{or_from, and_left, and_right}
use Rattle.std.proofs.lemmas.Str.{encodes-append, chars-nil}
use Rattle.jsgen_syntax.specs.declared.quote.Quote.{Quote}
use Rattle.jsgen_syntax.specs.declared.quote.Quote.TheVariants.{Single, Double, Backtick}
use Rattle.jsgen_syntax.specs.Strings.{quote_char, is_backtick, begins_with, begins_script, needs_backslash, control_text, past_ascii_text, point_text, escaped_after, escaped, quoted}
use Rattle.jsgen_syntax.specs.Buffer.{AppendsPrefix}
use Rattle.jsgen_syntax.specs.Wtf8.{are_units, joined_units}
use Rattle.jsgen_syntax.proofs.Wtf8.{encode_one, chars_encodes, joined_points}
use Rattle.jsgen_strings.proofs.Appending.{Printed, printed_none, printed_piece, printed_all, printed_prefix, prefix_piece}
use Rattle.jsgen_strings.specs.Points.{is_point, ArePoints, is_plain}
use Rattle.jsgen_strings.proofs.Plain.{IsPlain, plain_facts, are_plain, run_bytes}

no_backslash : (q : Quote) (after_less : Bool) (c : ℕ) (cs : List ℕ) → IsPlain c → needs_backslash q after_less c cs ≡ false
no_backslash q after_less c cs p =
    or_from _ (after_less && (c == 47) && begins_script cs)
    (or_from ((c == 92) || (c == quote_char q)) (is_backtick q && (c == 36) && begins_with 123 cs) (or_from (c == 92) (c == quote_char q) p.no_backslash (of_quote q)) (and_left (is_backtick q && (c == 36)) (begins_with 123 cs) (and_right (is_backtick q) (c == 36) p.no_dollar)))
    (and_left (after_less && (c == 47)) (begins_script cs) (and_right after_less (c == 47) p.no_slash))
  where
    of_quote : (q : Quote) → (c == quote_char q) ≡ false
    of_quote Single = p.no_single
    of_quote Double = p.no_double
    of_quote Backtick = p.no_backtick

plain_point : (q : Quote) (ascii after_less : Bool) (c : ℕ) (cs : List ℕ) → is_plain c ≡ true → escaped_after q ascii after_less (c ∷ cs) ≡ c ∷ escaped_after q ascii false cs
unfolding escaped_after
plain_point q ascii after_less c cs h =
    let p = plain_facts c h in
    ap (λ b. cond b (control_text q c cs) (cond (nat_lt c 128) (if needs_backslash q after_less c cs then 92 ∷ c ∷ [] else c ∷ []) (past_ascii_text ascii c)) ++ escaped_after q ascii (c == 60) cs) p.no_control
    ∙ (ap (λ b. cond b (if needs_backslash q after_less c cs then 92 ∷ c ∷ [] else c ∷ []) (past_ascii_text ascii c) ++ escaped_after q ascii (c == 60) cs) p.ascii
    ∙ (ap (λ b. (if b then 92 ∷ c ∷ [] else c ∷ []) ++ escaped_after q ascii (c == 60) cs) (no_backslash q after_less c cs p)
    ∙ ap (λ b. c ∷ escaped_after q ascii b cs) p.no_less))

-- the next run, in bytes
pub escaped_run : (q : Quote) (ascii after_less : Bool) (bytes run behind : List ℕ) → are_plain run ≡ true → 0 < length run → ArePoints bytes → bytes ≡ run ++ behind → encodes (escaped_after q ascii after_less (chars bytes)) ≡ run ++ encodes (escaped_after q ascii false (chars behind))
escaped_run q ascii after_less bytes run behind h l p e = run_bytes (escaped_after q ascii) false (plain_point q ascii) after_less bytes run behind h l p e

-- the next code point
pub escaped_point : (q : Quote) (ascii after_less : Bool) (bytes : List ℕ) (c : ℕ) (behind : List ℕ) → chars bytes ≡ c ∷ chars behind → encodes (escaped_after q ascii after_less (chars bytes)) ≡ encodes (point_text q ascii after_less c (chars behind)) ++ encodes (escaped_after q ascii (c == 60) (chars behind))
unfolding escaped_after
escaped_point q ascii after_less bytes c behind e =
    ap (λ x. encodes (escaped_after q ascii after_less x)) e ∙ encodes-append (point_text q ascii after_less c (chars behind)) (escaped_after q ascii (c == 60) (chars behind))

-- no more
pub escaped_end : (q : Quote) (ascii after_less : Bool) (bytes : List ℕ) → length bytes ≡ 0 → encodes (escaped_after q ascii after_less (chars bytes)) ≡ []
unfolding escaped_after
escaped_end q ascii after_less [] e = ap (λ x. encodes (escaped_after q ascii after_less x)) chars-nil
escaped_end q ascii after_less (b ∷ bs) e = absurd (omega arith)

-- ---- a string between its quotes

-- the bytes of a string's units
pub record Units (bytes us : List ℕ) : Type 0 where
  pub points : ArePoints bytes
  pub are : chars bytes ≡ joined_units us

pub of_units : (bytes us : List ℕ) → are_units us ≡ true → bytes ≡ encodes (joined_units us) → Units bytes us
of_units bytes us h e =
    let k : chars bytes ≡ joined_units us = ap chars e ∙ chars_encodes (joined_units us) in
    record { points = (ap encodes k ∙ sym e, ap (list_all is_point) k ∙ joined_points us h); are = k }

quote_bytes : (q : Quote) → encode (quote_char q) ≡ quote_char q ∷ []
quote_bytes Single = encode_one 39 (omega arith)
quote_bytes Double = encode_one 34 (omega arith)
quote_bytes Backtick = encode_one 96 (omega arith)

module _ (q : Quote) (ascii : Bool) (us bytes old one : List ℕ) (are : chars bytes ≡ joined_units us) (first : one ≡ old ++ quote_char q ∷ []) where
  inner : List ℕ
  inner = encodes (escaped_after q ascii false (chars bytes))

  whole : encodes (quoted q ascii us) ≡ (quote_char q ∷ []) ++ (inner ++ quote_char q ∷ [])
  unfolding inner
  whole =
      ap₂ (λ x y. x ++ y) (quote_bytes q) (encodes-append (escaped q ascii us) (quote_char q ∷ []))
      ∙ ap₂ (λ x y. quote_char q ∷ (encodes (escaped_after q ascii false x) ++ (y ++ []))) (sym are) (quote_bytes q)

  behind_quote : Printed old one (encodes (quoted q ascii us)) (inner ++ quote_char q ∷ [])
  behind_quote = printed_piece old old one (encodes (quoted q ascii us)) (encodes (quoted q ascii us)) (quote_char q ∷ []) (inner ++ quote_char q ∷ []) (printed_none old (encodes (quoted q ascii us))) whole first

  pub prefix_inside : (new : List ℕ) → AppendsPrefix one new (encodes (escaped_after q ascii false (chars bytes))) → AppendsPrefix old new (encodes (quoted q ascii us))
  unfolding inner
  prefix_inside new a = prefix_piece old one new (encodes (quoted q ascii us)) (inner ++ quote_char q ∷ []) inner (quote_char q ∷ []) behind_quote refl a

  before_quote : (two : List ℕ) → two ≡ one ++ encodes (escaped_after q ascii false (chars bytes)) → Printed old two (encodes (quoted q ascii us)) (quote_char q ∷ [])
  unfolding inner
  before_quote two e = printed_piece old one two (encodes (quoted q ascii us)) (inner ++ quote_char q ∷ []) inner (quote_char q ∷ []) behind_quote refl e

  pub prefix_before : (two new : List ℕ) → two ≡ one ++ encodes (escaped_after q ascii false (chars bytes)) → new ≡ two → AppendsPrefix old new (encodes (quoted q ascii us))
  prefix_before two new e n = printed_prefix old new (encodes (quoted q ascii us)) (quote_char q ∷ []) (subst (λ x. Printed old x (encodes (quoted q ascii us)) (quote_char q ∷ [])) (sym n) (before_quote two e))

  pub whole_string : (two new : List ℕ) → two ≡ one ++ encodes (escaped_after q ascii false (chars bytes)) → new ≡ two ++ quote_char q ∷ [] → new ≡ old ++ encodes (quoted q ascii us)
  whole_string two new e n = printed_all old new (encodes (quoted q ascii us)) (printed_piece old two new (encodes (quoted q ascii us)) (quote_char q ∷ []) (quote_char q ∷ []) [] (before_quote two e) (sym (append-nil (quote_char q ∷ []))) n)
