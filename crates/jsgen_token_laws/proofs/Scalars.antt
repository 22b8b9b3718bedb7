-- The characters of a text that has tokens are Unicode scalar values.
use Rattle.std.proofs.Common.{◌∙◌, ◌≡◌, ℕ, ◌-◌, ◌<◌, Bool, true, false, not, ◌&&◌, codes, cond, ◌||◌, ◌==◌, ◌⊎◌, inl, inr, Option, Some, None, is_some, List, [], ◌∷◌, ◌++◌, refl, sym, if◌then◌else◌, subst, arith, nat_lt}
use Rattle.std.specs.Char.{is_ascii_digit, is_ascii_hexdigit}
use Rattle.std.specs.Int.{is_in_range}
use Rattle.std.specs.List.{list_all}
use Rattle.std.specs.Str.{all_scalars}
use lib.Utf8.{scalar, low_scalar}
use Rattle.std.proofs.lemmas.Bool.{both_ways, and_parts, and_from, or_cases, eqb-true, ltb-true}
use Rattle.jsgen_syntax.specs.Name.{continues_name}
use Rattle.jsgen_syntax.specs.Strings.{quote_char, string_value}
use Rattle.jsgen_syntax.specs.declared.quote.Quote.{Quote}
use Rattle.jsgen_syntax.specs.declared.quote.Quote.TheVariants as quotes
use Rattle.jsgen_syntax.proofs.Names.{continues_scalar}
use Rattle.jsgen_syntax.proofs.Strings.{valued_scalars}
use Rattle.jsgen_model.proofs.NumberRuns.{ascii_number}
use Rattle.jsgen_model.proofs.NumberStates.{start}
use Rattle.jsgen_model.proofs.NumberMachine.{number_runs}
use Rattle.jsgen_model.specs.Punctuator.{Punctuator, punctuator_text, dot, Bracket, Round, opening, closing}
use Rattle.jsgen_model.specs.Tokens.{Tokens, done, piece, group, Piece, Word, Number, Quoted, Sign, Beyond, Special, Private, Pattern, Whole, Head, Middle, Tail, special_text, is_special, is_part, piece_text, is_spelled, is_blank, is_line_terminator, AreTokensAfter, AreTokensOf, AreTokensBehind}
use Rattle.jsgen_model.specs.RegularExpressions.{is_body}
use Rattle.jsgen_model.specs.Templates.{is_raw}
use Rattle.jsgen_token_laws.proofs.Characters.{ranged}
use Rattle.jsgen_token_laws.proofs.Words.{Spot, between, behind_backslash, behind_u, in_braces, in_hex, step, shaped, none_shaped, word_shaped}

pub scalars_append : (a b : List ℕ) → all_scalars a ≡ true → all_scalars b ≡ true → all_scalars (a ++ b) ≡ true
scalars_append [] b g h = h
scalars_append (x ∷ a) b g h = let k = and_parts (scalar x) (all_scalars a) g in and_from (scalar x) (all_scalars (a ++ b)) k.0 (scalars_append a b k.1 h)

scalars_follow : (f : ℕ → Bool) → ((c : ℕ) → f c ≡ true → scalar c ≡ true) → (a : List ℕ) → list_all f a ≡ true → all_scalars a ≡ true
scalars_follow f h [] e = refl
scalars_follow f h (x ∷ a) e = let k = and_parts (f x) (list_all f a) e in and_from (scalar x) (all_scalars a) (h x k.0) (scalars_follow f h a k.1)

-- ---- names

pub hex_scalar : (c : ℕ) → is_ascii_hexdigit c ≡ true → scalar c ≡ true
hex_scalar c h = outer (or_cases (is_in_range 48 57 c || is_in_range 65 70 c) (is_in_range 97 102 c) h)
  where
    inside : (is_in_range 48 57 c ≡ true) ⊎ (is_in_range 65 70 c ≡ true) → scalar c ≡ true
    inside (inl e) = let b = ranged 48 57 c e in low_scalar c (omega arith)
    inside (inr e) = let b = ranged 65 70 c e in low_scalar c (omega arith)

    outer : ((is_in_range 48 57 c || is_in_range 65 70 c) ≡ true) ⊎ (is_in_range 97 102 c ≡ true) → scalar c ≡ true
    outer (inl e) = inside (or_cases (is_in_range 48 57 c) (is_in_range 65 70 c) e)
    outer (inr e) = let b = ranged 97 102 c e in low_scalar c (omega arith)

-- a character that passes one of two tests is a scalar
either : (c d : ℕ) (b : Bool) (x y : Option Spot) → d < 55296 → (b ≡ true → scalar c ≡ true) → is_some (cond (c == d) x (cond b y None)) ≡ true → scalar c ≡ true
either c d b x y l h k = go (c == d) b refl refl k
  where
    go : (e f : Bool) → (c == d) ≡ e → b ≡ f → is_some (cond e x (cond f y None)) ≡ true → scalar c ≡ true
    go true f i j k = subst (λ x. scalar x ≡ true) (sym (eqb-true c d i)) (low_scalar d l)
    go false true i j k = h j
    go false false i j k = absurd (both_ways false refl k)

step_scalar : (spot : Spot) (c : ℕ) → is_some (step spot c) ≡ true → scalar c ≡ true
unfolding step
step_scalar between c h = either c 92 (continues_name c) (Some behind_backslash) (Some between) (omega arith) (continues_scalar c) h
step_scalar behind_backslash c h = either c 117 false (Some behind_u) None (omega arith) (λ e. absurd (both_ways false refl e)) h
step_scalar behind_u c h = either c 123 (is_ascii_hexdigit c) (Some in_braces) (Some (in_hex 3)) (omega arith) (hex_scalar c) h
step_scalar in_braces c h = either c 125 (is_ascii_hexdigit c) (Some between) (Some in_braces) (omega arith) (hex_scalar c) h
step_scalar (in_hex count) c h = go (is_ascii_hexdigit c) refl h
  where
    go : (b : Bool) → is_ascii_hexdigit c ≡ b → is_some (cond b (if count == 1 then Some between else Some (in_hex (count - 1))) None) ≡ true → scalar c ≡ true
    go true e k = hex_scalar c e
    go false e k = absurd (both_ways false refl k)

shaped_scalars : (spot : Option Spot) (w : List ℕ) → shaped spot w ≡ true → all_scalars w ≡ true
unfolding shaped
shaped_scalars spot [] h = refl
shaped_scalars None (c ∷ w) h = absurd (none_shaped w h)
shaped_scalars (Some spot) (c ∷ w) h = and_from (scalar c) (all_scalars w) (step_scalar spot c (some (step spot c) h)) (shaped_scalars (step spot c) w h)
  where
    some : (o : Option Spot) → shaped o w ≡ true → is_some o ≡ true
    some None k = absurd (none_shaped w k)
    some (Some s) k = refl

-- ---- the other tokens and blanks

digit_scalar : (c : ℕ) → is_ascii_digit c ≡ true → scalar c ≡ true
digit_scalar c h = let b = ranged 48 57 c h in low_scalar c (omega arith)

blank_scalar : (c : ℕ) → is_blank c ≡ true → scalar c ≡ true
blank_scalar c h = outer (or_cases ((c == 32) || (c == 9)) (is_line_terminator c) h)
  where
    that : (d : ℕ) → d < 55296 → (c == d) ≡ true → scalar c ≡ true
    that d l e = subst (λ x. scalar x ≡ true) (sym (eqb-true c d e)) (low_scalar d l)

    two : (d e : ℕ) → d < 55296 → e < 55296 → ((c == d) ≡ true) ⊎ ((c == e) ≡ true) → scalar c ≡ true
    two d e l m (inl k) = that d l k
    two d e l m (inr k) = that e m k

    three : (((c == 10) || (c == 13)) ≡ true) ⊎ ((c == 8232) ≡ true) → scalar c ≡ true
    three (inl k) = two 10 13 (omega arith) (omega arith) (or_cases (c == 10) (c == 13) k)
    three (inr k) = that 8232 (omega arith) k

    four : (((c == 10) || (c == 13) || (c == 8232)) ≡ true) ⊎ ((c == 8233) ≡ true) → scalar c ≡ true
    four (inl k) = three (or_cases ((c == 10) || (c == 13)) (c == 8232) k)
    four (inr k) = that 8233 (omega arith) k

    outer : (((c == 32) || (c == 9)) ≡ true) ⊎ (is_line_terminator c ≡ true) → scalar c ≡ true
    outer (inl k) = two 32 9 (omega arith) (omega arith) (or_cases (c == 32) (c == 9) k)
    outer (inr k) = four (or_cases ((c == 10) || (c == 13) || (c == 8232)) (c == 8233) k)

sign_scalars : (p : Punctuator) → all_scalars (punctuator_text p) ≡ true
sign_scalars dot = refl
sign_scalars p = refl

quote_scalar : (q : Quote) → scalar (quote_char q) ≡ true
quote_scalar quotes.Single = refl
quote_scalar quotes.Double = refl
quote_scalar quotes.Backtick = refl

spelling_scalars : (q : Quote) (w : List ℕ) → is_some (string_value q w) ≡ true → all_scalars w ≡ true
spelling_scalars q w h = go (string_value q w) refl h
  where
    go : (o : Option (List ℕ)) → string_value q w ≡ o → is_some o ≡ true → all_scalars w ≡ true
    go (Some us) e k = valued_scalars q w us e
    go None e k = absurd (both_ways false refl k)

-- between two ends of ASCII
enclosed_scalars : (a w b : List ℕ) → all_scalars a ≡ true → all_scalars b ≡ true → all_scalars w ≡ true → all_scalars (a ++ (w ++ b)) ≡ true
enclosed_scalars a w b g h k = scalars_append a (w ++ b) g (scalars_append w b k h)

raw_scalars : (w : List ℕ) → is_part w ≡ true → all_scalars w ≡ true
raw_scalars w h = (and_parts (all_scalars w) (is_raw w) h).0

special_scalars : (s : Special) → is_special s ≡ true → all_scalars (special_text s) ≡ true
special_scalars (Private w) h = shaped_scalars (Some between) w (word_shaped w h)
special_scalars (Pattern w flags) h =
    let k = and_parts (all_scalars w) (is_body w && list_all continues_name flags) h in
    scalars_append w (47 ∷ flags) k.0 (scalars_follow continues_name continues_scalar flags (and_parts (is_body w) (list_all continues_name flags) k.1).1)
special_scalars (Whole w) h = enclosed_scalars (96 ∷ []) w (96 ∷ []) refl refl (raw_scalars w (and_parts (is_part w) (not (is_some (string_value quotes.Backtick w))) h).0)
special_scalars (Head w) h = enclosed_scalars (96 ∷ []) w (codes "${") refl refl (raw_scalars w h)
special_scalars (Middle w) h = enclosed_scalars (125 ∷ []) w (codes "${") refl refl (raw_scalars w h)
special_scalars (Tail w) h = enclosed_scalars (125 ∷ []) w (96 ∷ []) refl refl (raw_scalars w h)

piece_scalars : (p : Piece) → is_spelled p ≡ true → all_scalars (piece_text p) ≡ true
piece_scalars (Word w) h = shaped_scalars (Some between) w (word_shaped w h)
piece_scalars (Number w) h = scalars_follow (λ c. nat_lt c 128) (λ c l. let m = ltb-true c 128 l in low_scalar c (omega arith)) w (ascii_number start w (sym (number_runs w) ∙ h))
piece_scalars (Quoted q w) h = and_from (scalar (quote_char q)) _ (quote_scalar q) (scalars_append w (quote_char q ∷ []) (spelling_scalars q w h) (and_from (scalar (quote_char q)) true (quote_scalar q) refl))
piece_scalars (Sign p) h = sign_scalars p
piece_scalars (Beyond s) h = special_scalars s h

opening_scalars : (b : Bracket) → all_scalars (opening b) ≡ true
opening_scalars Round = refl
opening_scalars b = refl

closing_scalars : (b : Bracket) → all_scalars (closing b) ≡ true
closing_scalars Round = refl
closing_scalars b = refl

-- ---- the whole

scalars_after : (ts : Tokens) (line : Bool) (text : List ℕ) → AreTokensAfter line text ts → all_scalars text ≡ true
scalars_after done line text h = scalars_follow is_blank blank_scalar text h
scalars_after (piece m p ts) line text h =
    subst (λ x. all_scalars x ≡ true) (sym h.6) (scalars_append h.0 (piece_text p ++ h.1) (scalars_follow is_blank blank_scalar h.0 h.2) (scalars_append (piece_text p) h.1 (piece_scalars p h.4) (scalars_after ts false h.1 h.7)))
scalars_after (group m b gs ts) line text h =
    subst (λ x. all_scalars x ≡ true) (sym h.5) (scalars_append h.0 (opening b ++ (h.1 ++ (closing b ++ h.2))) (scalars_follow is_blank blank_scalar h.0 h.3)
    (scalars_append (opening b) (h.1 ++ (closing b ++ h.2)) (opening_scalars b) (scalars_append h.1 (closing b ++ h.2) (scalars_after gs false h.1 h.6) (scalars_append (closing b) h.2 (closing_scalars b) (scalars_after ts false h.2 h.7)))))

pub tokens_scalars : (text : List ℕ) (ts : Tokens) → AreTokensOf text ts → all_scalars text ≡ true
tokens_scalars text ts h = scalars_after ts false text h

-- behind a hashbang or without one
pub program_scalars : (hashbang : Option (List ℕ)) (text : List ℕ) (ts : Tokens) → AreTokensBehind hashbang text ts → all_scalars text ≡ true
program_scalars None text ts h = tokens_scalars text ts h
program_scalars (Some value) text ts h = subst (λ x. all_scalars x ≡ true) (sym h.1.text_is) (scalars_append (codes "#!") (value ++ h.0) refl (scalars_append value h.0 h.1.scalars (tokens_scalars h.0 ts h.2)))
