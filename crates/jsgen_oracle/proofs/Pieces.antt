-- Where no token stands.
use Rattle.std.proofs.Common.{◌≡◌, ◌<◌, ℕ, Bool, true, false, List, [], ◌∷◌, ◌++◌, length, length-append, arith, take, drop, refl, sym, ap, ◌∙◌, subst, not, ◌&&◌, ◌==◌, ◌⊎◌, inl, inr}
use Rattle.std.specs.Char.{is_ascii_digit}
use Rattle.std.proofs.lemmas.Bool.{both_ways, and_parts, and_from, or_cases, or_from, or_left, or_right, eq-eqb, eqb-true, false_from_ne_true}
use Rattle.std.proofs.Math.Seq.{drop-append_seam}
use Rattle.jsgen_syntax.specs.Escapes as escapes
use Rattle.jsgen_syntax.specs.Strings.{quote_char}
use Rattle.jsgen_syntax.specs.declared.quote.Quote.{Quote}
use Rattle.jsgen_syntax.specs.declared.quote.Quote.TheVariants as quotes
use Rattle.jsgen_model.specs.Tokens.{Piece, Word, Number, Quoted, Sign, Beyond, is_spelled, ends_before, stands, longer_stands}
use Rattle.jsgen_token_laws.proofs.Characters.{digit_goes, no_word_no_start}
use Rattle.jsgen_token_laws.proofs.OneList.{Begins, begins, begins_sign, starts_piece, sign_or, no_sign_at}
use Rattle.jsgen_model.specs.Numbers.{spells_number}
use Rattle.jsgen_model.specs.Punctuator.{punctuator_text}
use Rattle.jsgen_syntax.specs.Name.{starts_name}
use Rattle.jsgen_model.proofs.NumberRuns.{NumberFront, a_digit, a_dot, number_front, no_number as no_empty_number}
use Rattle.jsgen_oracle.specs.Steps.{StandsAt, HasNoPiece, starts_word, count_word, begins_number}
use Rattle.jsgen_oracle.proofs.Words.{WordFront, word_front, word_counted, starts_no_digit_or_sign, starts_no_quote}

-- the text begins as its first token does
pub begins_as : (f : ℕ → Bool) (p : Piece) (text rest : List ℕ) → StandsAt text p rest → (b : Begins p) → escapes.begins f text ≡ f b.head
begins_as f p text rest s b = ap (λ t. escapes.begins f t) (s.text_is ∙ ap (λ t. t ++ rest) b.text)

-- the text begins as the word that stands there
pub word_begins : (f : ℕ → Bool) (w text rest : List ℕ) → StandsAt text (Word w) rest → (b : WordFront w) → escapes.begins f text ≡ f b.head
word_begins f w text rest s b = ap (λ t. escapes.begins f t) (s.text_is ∙ ap (λ t. t ++ rest) b.text)

-- behind a token the text is shorter
pub stands_shorter : (text : List ℕ) (p : Piece) (rest : List ℕ) → StandsAt text p rest → length rest < length text
stands_shorter text p rest s = let b = begins p s.plain s.spelled in omega (arith, ap length (s.text_is ∙ ap (λ t. t ++ rest) b.text), length-append b.tail rest)

-- ---- how a number begins

-- what a number may begin with
pub begins_so : (text w rest : List ℕ) → StandsAt text (Number w) rest → begins_number text ≡ true
begins_so text [] rest s = absurd (both_ways (spells_number []) no_empty_number s.spelled)
begins_so text (c ∷ cs) rest s = subst (λ t. begins_number t ≡ true) (sym s.text_is) (by (number_front c cs s.spelled))
  where
    by : NumberFront c cs → begins_number (c ∷ (cs ++ rest)) ≡ true
    by (a_digit d) = or_left (is_ascii_digit c) _ d
    by (a_dot d v e f g) = or_right (is_ascii_digit c) _ (and_from (c == 46) _ (eq-eqb c 46 e) (subst (λ t. escapes.begins is_ascii_digit (t ++ rest) ≡ true) (sym f) g))

-- the text begins with a digit, or with a dot and a digit
data Digits (text : List ℕ) : Type 0 where
  digit : (c : ℕ) (cs : List ℕ) → text ≡ c ∷ cs → is_ascii_digit c ≡ true → Digits text
  dotted : (d : ℕ) (ds : List ℕ) → text ≡ 46 ∷ (d ∷ ds) → is_ascii_digit d ≡ true → Digits text

digits_there : (text : List ℕ) → begins_number text ≡ true → Digits text
digits_there [] h = absurd (both_ways false refl h)
digits_there (c ∷ cs) h = by (or_cases (is_ascii_digit c) ((c == 46) && escapes.begins is_ascii_digit cs) h)
  where
    behind : c ≡ 46 → (v : List ℕ) → cs ≡ v → escapes.begins is_ascii_digit v ≡ true → Digits (c ∷ cs)
    behind e [] f k = absurd (both_ways false refl k)
    behind e (d ∷ ds) f k = dotted d ds (ap (λ x. x ∷ cs) e ∙ ap (λ t. 46 ∷ t) f) k

    by : (is_ascii_digit c ≡ true) ⊎ (((c == 46) && escapes.begins is_ascii_digit cs) ≡ true) → Digits (c ∷ cs)
    by (inl e) = digit c cs refl e
    by (inr e) = let k = and_parts (c == 46) (escapes.begins is_ascii_digit cs) e in behind (eqb-true c 46 k.0) cs refl k.1

no_digit_starts : (c : ℕ) → is_ascii_digit c ≡ true → starts_word c ≡ false
no_digit_starts c h = false_from_ne_true (starts_word c) (λ e. both_ways (is_ascii_digit c) (starts_no_digit_or_sign c e).0 h)

no_dot_starts : starts_word 46 ≡ false
no_dot_starts = or_from (starts_name 46) false (no_word_no_start 46 refl) refl

number_no_word : (text : List ℕ) → begins_number text ≡ true → escapes.begins starts_word text ≡ false
number_no_word text h = by (digits_there text h)
  where
    by : Digits text → escapes.begins starts_word text ≡ false
    by (digit c cs e d) = ap (λ t. escapes.begins starts_word t) e ∙ no_digit_starts c d
    by (dotted d ds e i) = ap (λ t. escapes.begins starts_word t) e ∙ no_dot_starts

-- ---- words

again : (w rest : List ℕ) → ends_before (Word w) rest ≡ true → ends_before (Word []) rest ≡ true
again w [] h = refl
again w (c ∷ cs) h = h

pub front_itself : (w x : List ℕ) → take (length w) (w ++ x) ≡ w
front_itself [] x = refl
front_itself (c ∷ w) x = ap (λ t. c ∷ t) (front_itself w x)

pub no_word : (text w rest : List ℕ) → escapes.begins starts_word text ≡ true → w ≡ take (count_word text) text → rest ≡ drop (count_word text) text → (is_spelled (Word w) ≡ true → ends_before (Word []) rest ≡ true → ⊥) → HasNoPiece text
unfolding starts_piece
no_word text w rest h e f none (Word v) r s =
    let n : count_word text ≡ length v = ap count_word s.text_is ∙ word_counted v r s.spelled s.ends in
    let front : w ≡ v = e ∙ (ap (λ i. take i text) n ∙ (ap (take (length v)) s.text_is ∙ front_itself v r)) in
    let back : rest ≡ r = f ∙ (ap (λ i. drop i text) n ∙ (ap (drop (length v)) s.text_is ∙ drop-append_seam v r)) in
    none (subst (λ x. is_spelled (Word x) ≡ true) (sym front) s.spelled) (subst (λ x. ends_before (Word []) x ≡ true) (sym back) (again v r s.ends))
no_word text w rest h e f none (Number v) r s = both_ways (escapes.begins starts_word text) (number_no_word text (begins_so text v r s)) h
no_word text w rest h e f none (Sign q) r s =
    let b = begins (Sign q) refl s.spelled in
    both_ways (begins_sign b.head) (starts_no_digit_or_sign b.head (sym (begins_as starts_word (Sign q) text r s b) ∙ h)).1 b.starts
no_word text w rest h e f none (Quoted q v) r s = both_ways (starts_word (quote_char q)) (starts_no_quote q) (sym (ap (λ t. escapes.begins starts_word t) s.text_is) ∙ h)
no_word text w rest h e f none (Beyond q) r s = both_ways false refl s.plain

-- ---- numbers

pub no_quote_digit : (q : Quote) → is_ascii_digit (quote_char q) ≡ false
no_quote_digit quotes.Single = refl
no_quote_digit quotes.Double = refl
no_quote_digit quotes.Backtick = refl

no_quote_dot : (q : Quote) → (quote_char q == 46) ≡ true → ⊥
no_quote_dot quotes.Single e = both_ways false refl e
no_quote_dot quotes.Double e = both_ways false refl e
no_quote_dot quotes.Backtick e = both_ways false refl e

-- no other token begins so
pub numbers_alone : (text : List ℕ) → begins_number text ≡ true → ((w r : List ℕ) → StandsAt text (Number w) r → ⊥) → HasNoPiece text
unfolding starts_piece
numbers_alone text h none (Number w) r s = none w r s
numbers_alone text h none (Word w) r s = let b = word_front w s.spelled in both_ways (escapes.begins starts_word text) (number_no_word text h) (word_begins starts_word w text r s b ∙ b.starts)
numbers_alone text h none (Beyond q) r s = both_ways false refl s.plain
numbers_alone text h none (Quoted q w) r s = by (digits_there text h)
  where
    by : Digits text → ⊥
    by (digit c cs e d) = both_ways (is_ascii_digit (quote_char q)) (no_quote_digit q) (ap (λ t. escapes.begins is_ascii_digit t) (sym s.text_is ∙ e) ∙ d)
    by (dotted d ds e i) = no_quote_dot q (ap (λ t. escapes.begins (λ x. x == 46) t) (sym s.text_is ∙ e))
numbers_alone text h none (Sign q) r s = by (digits_there text h)
  where
    by : Digits text → ⊥
    by (digit c cs e d) = let b = begins (Sign q) refl s.spelled in sign_or b.head b.starts (digit_goes b.head (sym (begins_as is_ascii_digit (Sign q) text r s b) ∙ (ap (λ t. escapes.begins is_ascii_digit t) e ∙ d)))
    by (dotted d ds e i) = no_sign_at q d ds i (subst (λ t. stands q t ≡ true) (sym s.text_is ∙ e) (and_parts (stands q (punctuator_text q ++ r)) (not (longer_stands q (punctuator_text q ++ r))) s.ends).0)
