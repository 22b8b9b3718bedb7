-- A text has at most one token list.
use Rattle.std.proofs.Common.{◌≡◌, ℕ, Bool, true, false, not, ◌||◌, ◌==◌, ◌⊎◌, inl, inr, codes, Option, Some, None, is_some, List, [], ◌∷◌, ◌++◌, refl, sym, ap, ◌∙◌, subst, append_assoc, arith, cond}
use Rattle.std.specs.Char.{is_ascii_digit}
use Rattle.std.specs.List.{list_all, list_any}
use Rattle.std.proofs.lemmas.Bool.{both_ways, and_parts, or_cases, or_from, eqb-true, not-true, false_from_ne_true, or_parts, or_left, or_right, eq-eqb}
use Rattle.std.proofs.lemmas.List.{append_cancel_left}
use Rattle.unicode_ident.proofs.Computing.{unicode_ident}
use Rattle.jsgen_syntax.proofs.Names.{starts_continues}
use Rattle.jsgen_syntax.specs.Name.{starts_name, goes_in_word}
use Rattle.jsgen_syntax.specs.Strings.{quote_char, string_value}
use Rattle.jsgen_syntax.specs.declared.quote.Quote.{Quote}
use Rattle.jsgen_syntax.specs.declared.quote.Quote.TheVariants as quotes
use Rattle.jsgen_syntax.proofs.Strings.{closed as is_closed, valued_closed, one_string}
use Rattle.jsgen_model.proofs.NumberRuns.{NumberFront, a_digit, a_dot, number_front, no_number}
use Rattle.jsgen_model.specs.Numbers.{spells_number}
use Rattle.std.specs.Option.{option_map_or}
use Rattle.jsgen_model.specs.Punctuator.{Punctuator, dot, Bracket, Round, Square, Brace, opening, closing, ellipsis}
use Rattle.jsgen_model.specs.Tokens.{Tokens, done, piece, group, Piece, Word, Number, Quoted, Sign, Beyond, is_plain_piece, piece_text, is_spelled, is_blank, is_line_terminator, has_line_end, ends_before, AreTokensAfter, AreTokensOf, are_plain, stands, may_precede, longer_stands, text_behind}
use Rattle.jsgen_token_laws.proofs.Characters.{continues_goes, digit_goes, found_passes, no_word_no_start, no_word_no_digit, starts_no_digit}
pub use Rattle.jsgen_token_laws.proofs.Words.{Stops}
use Rattle.jsgen_token_laws.proofs.Words.{between, goes_on_in_word, begins_word, word_begins, word_shaped, one_word}
use Rattle.jsgen_token_laws.proofs.Numbers.{one_number, number_ends_same}
use Rattle.jsgen_token_laws.proofs.Last.{After, clear_closing, clear_quoted}
use Rattle.jsgen_token_laws.proofs.Signs.{one_sign, closing_char, Shut, sign_ends_shut}

-- the longest front of characters that pass is one
pub one_span : (f : ℕ → Bool) (a b x y : List ℕ) → list_all f a ≡ true → list_all f b ≡ true → Stops f x → Stops f y → a ++ x ≡ b ++ y → (a ≡ b) × (x ≡ y)
one_span f [] [] x y g h s t e = (refl, e)
one_span f [] (d ∷ b) [] y g h s t e = absurd (cc)
one_span f [] (d ∷ b) (c ∷ x) y g h s t e = let k = (and_parts (f d) (list_all f b) h).0 in absurd (cc)
one_span f (c ∷ a) [] x [] g h s t e = absurd (cc)
one_span f (c ∷ a) [] x (d ∷ y) g h s t e = let k = (and_parts (f c) (list_all f a) g).0 in absurd (cc)
one_span f (c ∷ a) (d ∷ b) x y g h s t e =
    let i : (a ≡ b) × (x ≡ y) = one_span f a b x y (and_parts (f c) (list_all f a) g).1 (and_parts (f d) (list_all f b) h).1 s t cc in
    let j = i.0 in
    (cc, i.1)

-- ---- which kinds of character begin a token

abbrev pub begins_sign : ℕ → Bool
begins_sign c = list_any (λ d. c == d) (codes ".;,:?=<>!+-*/%&|^~")

abbrev pub is_quote : ℕ → Bool
is_quote c = list_any (λ d. c == d) (codes "'\"`")

unfoldable pub starts_piece : Piece → ℕ → Bool
starts_piece (Word w) c = begins_word c
starts_piece (Number w) c = is_ascii_digit c || (c == 46)
starts_piece (Quoted q w) c = is_quote c
starts_piece (Sign s) c = begins_sign c
-- nothing is said of the others
starts_piece (Beyond s) c = false

pub record Begins (p : Piece) : Type 0 where
  pub head : ℕ
  pub tail : List ℕ
  pub text : piece_text p ≡ head ∷ tail
  pub starts : starts_piece p head ≡ true

quote_is_one : (q : Quote) → is_quote (quote_char q) ≡ true
quote_is_one quotes.Single = refl
quote_is_one quotes.Double = refl
quote_is_one quotes.Backtick = refl

sign_begins : (s : Punctuator) → Begins (Sign s)
unfolding starts_piece
sign_begins dot = record { head = _; tail = _; text = refl; starts = refl }
sign_begins s = record { head = _; tail = _; text = refl; starts = refl }

number_starts : (c : ℕ) (cs : List ℕ) → NumberFront c cs → (is_ascii_digit c || (c == 46)) ≡ true
number_starts c cs (a_digit d) = or_left (is_ascii_digit c) (c == 46) d
number_starts c cs (a_dot d v e f g) = or_right (is_ascii_digit c) (c == 46) (eq-eqb c 46 e)

pub begins : (p : Piece) → is_plain_piece p ≡ true → is_spelled p ≡ true → Begins p
unfolding starts_piece
begins (Word w) i h = let b = word_begins w h in record { head = b.head; tail = b.tail; text = b.text; starts = b.starts }
begins (Number []) i h = absurd (both_ways (spells_number []) no_number h)
begins (Number (c ∷ cs)) i h = record { head = c; tail = cs; text = refl; starts = number_starts c cs (number_front c cs h) }
begins (Quoted q w) i h = record { head = quote_char q; tail = w ++ quote_char q ∷ []; text = refl; starts = quote_is_one q }
begins (Sign s) i h = sign_begins s
begins (Beyond s) i h = absurd (both_ways false refl i)

sign_no_word : (c : ℕ) → begins_sign c ≡ true → goes_in_word c ≡ false
sign_no_word c h = not-true (goes_in_word c) (found_passes (λ d. not (goes_in_word d)) c (codes ".;,:?=<>!+-*/%&|^~") refl h)

quote_no_word : (c : ℕ) → is_quote c ≡ true → goes_in_word c ≡ false
quote_no_word c h = not-true (goes_in_word c) (found_passes (λ d. not (goes_in_word d)) c (codes "'\"`") refl h)

quote_no_sign : (c : ℕ) → is_quote c ≡ true → begins_sign c ≡ false
quote_no_sign c h = not-true (begins_sign c) (found_passes (λ d. not (begins_sign d)) c (codes "'\"`") refl h)

-- ---- no token begins with a blank or a bracket

line_separators : (begins_word 8232 ≡ false) × (begins_word 8233 ≡ false)
unfolding unicode_ident
line_separators = (refl, refl)

no_word_begins : (c : ℕ) → goes_in_word c ≡ false → (c == 92) ≡ false → begins_word c ≡ false
no_word_begins c h b = or_from (starts_name c) (c == 92) (no_word_no_start c h) b

-- a blank is one of six characters
blank_passes : (f : ℕ → Bool) (c : ℕ) → f 32 ≡ false → f 9 ≡ false → f 10 ≡ false → f 13 ≡ false → f 8232 ≡ false → f 8233 ≡ false → is_blank c ≡ true → f c ≡ false
blank_passes f c a b d e g h i = outer (or_cases ((c == 32) || (c == 9)) (is_line_terminator c) i)
  where
    that : (n : ℕ) → f n ≡ false → (c == n) ≡ true → f c ≡ false
    that n k j = subst (λ x. f x ≡ false) (sym (eqb-true c n j)) k

    two : (m n : ℕ) → f m ≡ false → f n ≡ false → ((c == m) ≡ true) ⊎ ((c == n) ≡ true) → f c ≡ false
    two m n k l (inl j) = that m k j
    two m n k l (inr j) = that n l j

    three : (((c == 10) || (c == 13)) ≡ true) ⊎ ((c == 8232) ≡ true) → f c ≡ false
    three (inl k) = two 10 13 d e (or_cases (c == 10) (c == 13) k)
    three (inr k) = that 8232 g k

    four : (((c == 10) || (c == 13) || (c == 8232)) ≡ true) ⊎ ((c == 8233) ≡ true) → f c ≡ false
    four (inl k) = three (or_cases ((c == 10) || (c == 13)) (c == 8232) k)
    four (inr k) = that 8233 h k

    outer : (((c == 32) || (c == 9)) ≡ true) ⊎ (is_line_terminator c ≡ true) → f c ≡ false
    outer (inl k) = two 32 9 a b (or_cases (c == 32) (c == 9) k)
    outer (inr k) = four (or_cases ((c == 10) || (c == 13) || (c == 8232)) (c == 8233) k)

pub starts_no_blank : (p : Piece) (c : ℕ) → starts_piece p c ≡ true → is_blank c ≡ false
unfolding starts_piece
starts_no_blank (Word w) c h = false_from_ne_true (is_blank c) (λ e. both_ways (begins_word c) (blank_passes begins_word c (no_word_begins 32 refl refl) (no_word_begins 9 refl refl) (no_word_begins 10 refl refl) (no_word_begins 13 refl refl) line_separators.0 line_separators.1 e) h)
starts_no_blank (Number w) c h = false_from_ne_true (is_blank c) (λ e. both_ways (is_ascii_digit c || (c == 46)) (blank_passes (λ d. is_ascii_digit d || (d == 46)) c refl refl refl refl refl refl e) h)
starts_no_blank (Quoted q w) c h = false_from_ne_true (is_blank c) (λ e. both_ways (is_quote c) (blank_passes is_quote c refl refl refl refl refl refl e) h)
starts_no_blank (Beyond s) c h = absurd (both_ways false refl h)
starts_no_blank (Sign s) c h = false_from_ne_true (is_blank c) (λ e. both_ways (begins_sign c) (blank_passes begins_sign c refl refl refl refl refl refl e) h)

starts_none : (d : ℕ) → goes_in_word d ≡ false → (d == 92) ≡ false → begins_sign d ≡ false → is_quote d ≡ false → (p : Piece) → starts_piece p d ≡ false
unfolding starts_piece
starts_none d h b g i (Word w) = no_word_begins d h b
starts_none d h b g i (Number w) = or_from (is_ascii_digit d) (d == 46) (no_word_no_digit d h) (or_parts (d == 46) _ g).0
starts_none d h b g i (Quoted q w) = i
starts_none d h b g i (Sign s) = g
starts_none d h b g i (Beyond s) = refl

pub starts_no_closing : (p : Piece) (b : Bracket) → starts_piece p (closing_char b) ≡ false
unfolding closing_char
starts_no_closing p Round = starts_none 41 refl refl refl refl p
starts_no_closing p Square = starts_none 93 refl refl refl refl p
starts_no_closing p Brace = starts_none 125 refl refl refl refl p

unfoldable pub opening_char : Bracket → ℕ
opening_char Round = 40
opening_char Square = 91
opening_char Brace = 123

pub starts_no_opening : (p : Piece) (b : Bracket) → starts_piece p (opening_char b) ≡ false
unfolding opening_char
starts_no_opening p Round = starts_none 40 refl refl refl refl p
starts_no_opening p Square = starts_none 91 refl refl refl refl p
starts_no_opening p Brace = starts_none 123 refl refl refl refl p

-- ---- one token stands at the front

pub word_stops : (w x : List ℕ) → ends_before (Word w) x ≡ true → Stops goes_on_in_word x
word_stops w [] h = tt
word_stops w (c ∷ cs) h = not-true (goes_on_in_word c) h

apart : (p q : Piece) (x y : List ℕ) → is_plain_piece p ≡ true → is_plain_piece q ≡ true → is_spelled p ≡ true → is_spelled q ≡ true → ((c : ℕ) → starts_piece p c ≡ true → starts_piece q c ≡ true → ⊥) → piece_text p ++ x ≡ piece_text q ++ y → ⊥
apart p q x y i j g h clash e =
    let b = begins p i g in
    let d = begins q j h in
    let k : b.head ∷ (b.tail ++ x) ≡ d.head ∷ (d.tail ++ y) = sym (ap (λ t. t ++ x) b.text) ∙ (e ∙ ap (λ t. t ++ y) d.text) in
    let f : d.head ≡ b.head = cc in
    clash b.head b.starts (subst (λ c. starts_piece q c ≡ true) f d.starts)

-- what a word begins with is a backslash, or a character of names
word_or : (f : ℕ → Bool) (c : ℕ) → f 92 ≡ false → (starts_name c ≡ true → f c ≡ true → ⊥) → begins_word c ≡ true → f c ≡ true → ⊥
word_or f c b n g h = by (or_cases (starts_name c) (c == 92) g)
  where
    by : (starts_name c ≡ true) ⊎ ((c == 92) ≡ true) → ⊥
    by (inl e) = n e h
    by (inr e) = both_ways (f 92) b (subst (λ d. f d ≡ true) (eqb-true c 92 e) h)

pub word_or_digit : (c : ℕ) → begins_word c ≡ true → is_ascii_digit c ≡ true → ⊥
word_or_digit c g h = word_or is_ascii_digit c refl (λ e. both_ways (is_ascii_digit c) (starts_no_digit c e)) g h

-- a number begins with a digit, or with a dot, which begins nothing else but a sign
or_number : (f : ℕ → Bool) (c : ℕ) → f 46 ≡ false → (f c ≡ true → is_ascii_digit c ≡ true → ⊥) → f c ≡ true → (is_ascii_digit c || (c == 46)) ≡ true → ⊥
or_number f c e h g n = by (or_cases (is_ascii_digit c) (c == 46) n)
  where
    by : (is_ascii_digit c ≡ true) ⊎ ((c == 46) ≡ true) → ⊥
    by (inl d) = h g d
    by (inr d) = both_ways (f 46) e (subst (λ x. f x ≡ true) (eqb-true c 46 d) g)

pub word_or_number : (c : ℕ) → begins_word c ≡ true → (is_ascii_digit c || (c == 46)) ≡ true → ⊥
word_or_number c g n = or_number begins_word c (no_word_begins 46 refl refl) (word_or_digit c) g n

pub sign_or : (c : ℕ) → begins_sign c ≡ true → goes_in_word c ≡ true → ⊥
sign_or c g h = both_ways (goes_in_word c) (sign_no_word c g) h

quote_or_word : (c : ℕ) → is_quote c ≡ true → goes_in_word c ≡ true → ⊥
quote_or_word c g h = both_ways (goes_in_word c) (quote_no_word c g) h

pub quote_or_number : (c : ℕ) → is_quote c ≡ true → (is_ascii_digit c || (c == 46)) ≡ true → ⊥
quote_or_number c g n = or_number is_quote c refl (λ q d. quote_or_word c q (digit_goes c d)) g n

word_or_sign : (c : ℕ) → begins_word c ≡ true → begins_sign c ≡ true → ⊥
word_or_sign c g h = word_or begins_sign c refl (λ e k. sign_or c k (continues_goes c (starts_continues c e))) g h

word_or_quote : (c : ℕ) → begins_word c ≡ true → is_quote c ≡ true → ⊥
word_or_quote c g h = word_or is_quote c refl (λ e k. quote_or_word c k (continues_goes c (starts_continues c e))) g h

quote_or_sign : (c : ℕ) → is_quote c ≡ true → begins_sign c ≡ true → ⊥
quote_or_sign c g h = both_ways (begins_sign c) (quote_no_sign c g) h

same_quote : (q r : Quote) → quote_char q ≡ quote_char r → q ≡ r
same_quote quotes.Single quotes.Single e = refl
same_quote quotes.Double quotes.Double e = refl
same_quote quotes.Backtick quotes.Backtick e = refl
same_quote quotes.Single quotes.Double e = absurd (omega arith)
same_quote quotes.Single quotes.Backtick e = absurd (omega arith)
same_quote quotes.Double quotes.Single e = absurd (omega arith)
same_quote quotes.Double quotes.Backtick e = absurd (omega arith)
same_quote quotes.Backtick quotes.Single e = absurd (omega arith)
same_quote quotes.Backtick quotes.Double e = absurd (omega arith)

-- a spelling has its quote nowhere but behind a backslash
spelled_closed : (q : Quote) (w : List ℕ) → is_some (string_value q w) ≡ true → is_closed q w ≡ true
spelled_closed q w h = go (string_value q w) refl h
  where
    go : (o : Option (List ℕ)) → string_value q w ≡ o → is_some o ≡ true → is_closed q w ≡ true
    go (Some us) e k = valued_closed q w us e
    go None e k = absurd (both_ways false refl k)

one_quoted : (q r : Quote) (v w x y : List ℕ) → is_some (string_value q v) ≡ true → is_some (string_value r w) ≡ true → piece_text (Quoted q v) ++ x ≡ piece_text (Quoted r w) ++ y → (Quoted q v ≡ Quoted r w) × (x ≡ y)
one_quoted q r v w x y g h e =
    let k : quote_char q ∷ (v ++ (quote_char q ∷ x)) ≡ quote_char r ∷ (w ++ (quote_char r ∷ y)) = ap (λ t. quote_char q ∷ t) (sym (append_assoc v (quote_char q ∷ []) x)) ∙ (e ∙ ap (λ t. quote_char r ∷ t) (append_assoc w (quote_char r ∷ []) y)) in
    let f : quote_char q ≡ quote_char r = cc in
    of_one r (same_quote q r f) h cc
  where
    of_one : (r : Quote) → q ≡ r → is_some (string_value r w) ≡ true → v ++ (quote_char q ∷ x) ≡ w ++ (quote_char r ∷ y) → (Quoted q v ≡ Quoted r w) × (x ≡ y)
    of_one r f h e = subst (λ s. is_some (string_value s w) ≡ true → v ++ (quote_char q ∷ x) ≡ w ++ (quote_char s ∷ y) → (Quoted q v ≡ Quoted s w) × (x ≡ y)) f (λ i j. let k = one_string q v w x y (spelled_closed q v g) (spelled_closed q w i) j in (ap (λ s. Quoted q s) k.0, k.1)) h e

-- no sign stands where a dot and a digit do
pub no_sign_at : (s : Punctuator) (d : ℕ) (r : List ℕ) → is_ascii_digit d ≡ true → stands s (46 ∷ (d ∷ r)) ≡ true → ⊥
no_sign_at dot d r h k = both_ways (is_ascii_digit d) (not-true (is_ascii_digit d) k) h
no_sign_at ellipsis d r h k = by (46 == d) refl k
  where
    by : (b : Bool) → (46 == d) ≡ b → option_map_or (may_precede ellipsis) (cond b (text_behind (codes ".") r) None) false ≡ true → ⊥
    by true e i = both_ways (is_ascii_digit d) (subst (λ x. is_ascii_digit x ≡ false) (eqb-true 46 d e) refl) h
    by false e i = both_ways false refl i
no_sign_at s d r h k = both_ways false refl k

pub sign_or_number : (s : Punctuator) (w x y : List ℕ) → spells_number w ≡ true → ends_before (Sign s) x ≡ true → piece_text (Sign s) ++ x ≡ w ++ y → ⊥
unfolding starts_piece
sign_or_number s [] x y h k e = both_ways (spells_number []) no_number h
sign_or_number s (c ∷ cs) x y h k e = by (number_front c cs h)
  where
    by : NumberFront c cs → ⊥
    by (a_digit d) =
        let b = begins (Sign s) refl refl in
        let f : b.head ∷ (b.tail ++ x) ≡ c ∷ (cs ++ y) = sym (ap (λ t. t ++ x) b.text) ∙ e in
        let g : b.head ≡ c = cc in
        sign_or c (subst (λ z. begins_sign z ≡ true) g b.starts) (digit_goes c d)
    by (a_dot d v f g i) =
        let t : piece_text (Sign s) ++ x ≡ 46 ∷ (d ∷ (v ++ y)) = e ∙ (ap (λ z. z ∷ (cs ++ y)) f ∙ ap (λ z. 46 ∷ (z ++ y)) g) in
        no_sign_at s d (v ++ y) i (subst (λ z. stands s z ≡ true) t (and_parts (stands s (piece_text (Sign s) ++ x)) (not (longer_stands s (piece_text (Sign s) ++ x))) k).0)

pub one_piece : (p q : Piece) (x y : List ℕ) → is_plain_piece p ≡ true → is_plain_piece q ≡ true → is_spelled p ≡ true → is_spelled q ≡ true → ends_before p x ≡ true → ends_before q y ≡ true → piece_text p ++ x ≡ piece_text q ++ y → (p ≡ q) × (x ≡ y)
unfolding starts_piece
one_piece (Beyond v) q x y i j g h s t e = absurd (both_ways false refl i)
one_piece p (Beyond w) x y i j g h s t e = absurd (both_ways false refl j)
one_piece (Word v) (Word w) x y i j g h s t e = let k = one_word (Some between) v w x y (word_shaped v g) (word_shaped w h) (word_stops v x s) (word_stops w y t) e in (ap Word k.0, k.1)
one_piece (Number v) (Number w) x y i j g h s t e = let k = one_number v w x y g h s t e in (ap Number k.0, k.1)
one_piece (Quoted q v) (Quoted r w) x y i j g h s t e = one_quoted q r v w x y g h e
one_piece (Sign v) (Sign w) x y i j g h s t e = let k = one_sign v w x y s t e in (ap Sign k.0, k.1)
one_piece (Word v) (Number w) x y i j g h s t e = absurd (apart (Word v) (Number w) x y i j g h word_or_number e)
one_piece (Number v) (Word w) x y i j g h s t e = absurd (apart (Number v) (Word w) x y i j g h (λ c a b. word_or_number c b a) e)
one_piece (Sign v) (Word w) x y i j g h s t e = absurd (apart (Sign v) (Word w) x y i j g h (λ c a b. word_or_sign c b a) e)
one_piece (Word v) (Sign w) x y i j g h s t e = absurd (apart (Word v) (Sign w) x y i j g h word_or_sign e)
one_piece (Sign v) (Number w) x y i j g h s t e = absurd (sign_or_number v w x y h s e)
one_piece (Number v) (Sign w) x y i j g h s t e = absurd (sign_or_number w v y x g t (sym e))
one_piece (Quoted q v) (Word w) x y i j g h s t e = absurd (apart (Quoted q v) (Word w) x y i j g h (λ c a b. word_or_quote c b a) e)
one_piece (Word v) (Quoted q w) x y i j g h s t e = absurd (apart (Word v) (Quoted q w) x y i j g h word_or_quote e)
one_piece (Quoted q v) (Number w) x y i j g h s t e = absurd (apart (Quoted q v) (Number w) x y i j g h quote_or_number e)
one_piece (Number v) (Quoted q w) x y i j g h s t e = absurd (apart (Number v) (Quoted q w) x y i j g h (λ c a b. quote_or_number c b a) e)
one_piece (Quoted q v) (Sign w) x y i j g h s t e = absurd (apart (Quoted q v) (Sign w) x y i j g h (λ c a b. quote_or_sign c a b) e)
one_piece (Sign v) (Quoted q w) x y i j g h s t e = absurd (apart (Sign v) (Quoted q w) x y i j g h (λ c a b. quote_or_sign c b a) e)

-- ---- blanks, tokens and brackets

pub shut_stops : (x : List ℕ) → Shut x → Stops is_blank x
unfolding closing_char
shut_stops [] h = tt
shut_stops (c ∷ cs) h = subst (λ d. is_blank d ≡ false) (sym h.1) (go h.0)
  where
    go : (b : Bracket) → is_blank (closing_char b) ≡ false
    go Round = refl
    go Square = refl
    go Brace = refl

pub piece_stops : (p : Piece) (r : List ℕ) → is_plain_piece p ≡ true → is_spelled p ≡ true → Stops is_blank (piece_text p ++ r)
piece_stops p r i h = let b = begins p i h in subst (λ t. Stops is_blank (t ++ r)) (sym b.text) (starts_no_blank p b.head b.starts)

pub opening_stops : (b : Bracket) → is_blank (opening_char b) ≡ false
unfolding opening_char
opening_stops Round = refl
opening_stops Square = refl
opening_stops Brace = refl

no_piece : (p : Piece) (x r : List ℕ) → is_plain_piece p ≡ true → is_spelled p ≡ true → Shut x → x ≡ piece_text p ++ r → ⊥
no_piece p [] r j h s e = let b = begins p j h in let k : [] ≡ b.head ∷ (b.tail ++ r) = e ∙ ap (λ t. t ++ r) b.text in absurd (cc)
no_piece p (c ∷ cs) r j h s e =
    let b = begins p j h in
    let k : c ∷ cs ≡ b.head ∷ (b.tail ++ r) = e ∙ ap (λ t. t ++ r) b.text in
    let i = s.1 in
    let f : b.head ≡ closing_char s.0 = cc in
    both_ways (starts_piece p (closing_char s.0)) (starts_no_closing p s.0) (subst (λ d. starts_piece p d ≡ true) f b.starts)

open_or_close : (b d : Bracket) → opening_char b ≡ closing_char d → ⊥
unfolding opening_char closing_char
open_or_close Round Round e = omega arith
open_or_close Round Square e = omega arith
open_or_close Round Brace e = omega arith
open_or_close Square Round e = omega arith
open_or_close Square Square e = omega arith
open_or_close Square Brace e = omega arith
open_or_close Brace Round e = omega arith
open_or_close Brace Square e = omega arith
open_or_close Brace Brace e = omega arith

no_group : (b : Bracket) (x r : List ℕ) → Shut x → x ≡ opening_char b ∷ r → ⊥
no_group b [] r s e = absurd (cc)
no_group b (c ∷ cs) r s e = let i = s.1 in open_or_close b s.0 cc

pub piece_or_group : (p : Piece) (b : Bracket) (r s : List ℕ) → is_plain_piece p ≡ true → is_spelled p ≡ true → piece_text p ++ r ≡ opening_char b ∷ s → ⊥
piece_or_group p b r s i h e =
    let k = begins p i h in
    let l : k.head ∷ (k.tail ++ r) ≡ opening_char b ∷ s = sym (ap (λ t. t ++ r) k.text) ∙ e in
    let f : k.head ≡ opening_char b = cc in
    both_ways (starts_piece p (opening_char b)) (starts_no_opening p b) (subst (λ d. starts_piece p d ≡ true) f k.starts)

pub same_bracket : (b d : Bracket) → opening_char b ≡ opening_char d → b ≡ d
unfolding opening_char
same_bracket Round Round e = refl
same_bracket Square Square e = refl
same_bracket Brace Brace e = refl
same_bracket Round Square e = absurd (omega arith)
same_bracket Round Brace e = absurd (omega arith)
same_bracket Square Round e = absurd (omega arith)
same_bracket Square Brace e = absurd (omega arith)
same_bracket Brace Round e = absurd (omega arith)
same_bracket Brace Square e = absurd (omega arith)

pub opened : (b : Bracket) → opening b ≡ opening_char b ∷ []
unfolding opening_char
opened Round = refl
opened Square = refl
opened Brace = refl

pub closed : (b : Bracket) → closing b ≡ closing_char b ∷ []
unfolding closing_char
closed Round = refl
closed Square = refl
closed Brace = refl

-- a token that ends before a text does so before it and what a closing bracket begins
pub ends_more : (p : Piece) (r x : List ℕ) → is_plain_piece p ≡ true → ends_before p r ≡ true → Shut x → ends_before p (r ++ x) ≡ true
ends_more (Sign q) r x i h s = sign_ends_shut q r x h s
ends_more (Quoted q w) r x i h s = clear_quoted q w (r ++ x)
ends_more (Word w) [] [] i h s = refl
ends_more (Word w) [] (c ∷ cs) i h s = subst (λ t. ends_before (Word w) t ≡ true) (ap (λ t. t ++ cs) (closed s.0) ∙ ap (λ d. d ∷ cs) (sym s.1)) (clear_closing s.0 (After (Word w)) cs)
ends_more (Word w) (d ∷ r) x i h s = h
ends_more (Number w) r x i h s = number_ends_same w r x s ∙ h
ends_more (Beyond q) r x i h s = absurd (both_ways false refl i)

behind_piece : (a gap w rest x : List ℕ) → a ≡ gap ++ (w ++ rest) → a ++ x ≡ gap ++ (w ++ (rest ++ x))
behind_piece a gap w rest x e = ap (λ t. t ++ x) e ∙ (append_assoc gap (w ++ rest) x ∙ ap (λ t. gap ++ t) (append_assoc w rest x))

in_brackets : (gap : List ℕ) (b : Bracket) (inner rest : List ℕ) → gap ++ (opening b ++ (inner ++ (closing b ++ rest))) ≡ gap ++ (opening_char b ∷ (inner ++ (closing_char b ∷ rest)))
in_brackets gap b inner rest = ap (λ t. gap ++ (t ++ (inner ++ (closing b ++ rest)))) (opened b) ∙ ap (λ t. gap ++ (opening_char b ∷ (inner ++ (t ++ rest)))) (closed b)

behind_group : (a gap : List ℕ) (b : Bracket) (inner rest x : List ℕ) → a ≡ gap ++ (opening b ++ (inner ++ (closing b ++ rest))) → a ++ x ≡ gap ++ (opening_char b ∷ (inner ++ (closing_char b ∷ (rest ++ x))))
behind_group a gap b inner rest x e =
    let f : a ≡ gap ++ (opening_char b ∷ (inner ++ (closing_char b ∷ rest))) = e ∙ in_brackets gap b inner rest in
    ap (λ t. t ++ x) f ∙ (append_assoc gap _ x ∙ ap (λ t. gap ++ (opening_char b ∷ t)) (append_assoc inner (closing_char b ∷ rest) x))

-- ---- the whole

pub one_list : (ts us : Tokens) (line : Bool) (a b x y : List ℕ) → are_plain ts ≡ true → are_plain us ≡ true → AreTokensAfter line a ts → AreTokensAfter line b us → Shut x → Shut y → a ++ x ≡ b ++ y → (ts ≡ us) × (a ≡ b)
one_list done done line a b x y i j l m s t e = (refl, (one_span is_blank a b x y l m (shut_stops x s) (shut_stops y t) e).0)
one_list done (piece n q us) line a b x y i j l m s t e =
    let f : a ++ x ≡ m.0 ++ (piece_text q ++ (m.1 ++ y)) = e ∙ behind_piece b m.0 (piece_text q) m.1 y m.6 in
    let k = one_span is_blank a m.0 x (piece_text q ++ (m.1 ++ y)) l m.2 (shut_stops x s) (piece_stops q _ (and_parts (is_plain_piece q) (are_plain us) j).0 m.4) f in
    absurd (no_piece q x (m.1 ++ y) (and_parts (is_plain_piece q) (are_plain us) j).0 m.4 s k.1)
one_list (piece n q us) done line a b x y i j l m s t e =
    let f : b ++ y ≡ l.0 ++ (piece_text q ++ (l.1 ++ x)) = sym e ∙ behind_piece a l.0 (piece_text q) l.1 x l.6 in
    let k = one_span is_blank b l.0 y (piece_text q ++ (l.1 ++ x)) m l.2 (shut_stops y t) (piece_stops q _ (and_parts (is_plain_piece q) (are_plain us) i).0 l.4) f in
    absurd (no_piece q y (l.1 ++ x) (and_parts (is_plain_piece q) (are_plain us) i).0 l.4 t k.1)
one_list done (group n d hs us) line a b x y i j l m s t e =
    let f : a ++ x ≡ m.0 ++ (opening_char d ∷ (m.1 ++ (closing_char d ∷ (m.2 ++ y)))) = e ∙ behind_group b m.0 d m.1 m.2 y m.5 in
    let k = one_span is_blank a m.0 x (opening_char d ∷ (m.1 ++ (closing_char d ∷ (m.2 ++ y)))) l m.3 (shut_stops x s) (opening_stops d) f in
    absurd (no_group d x _ s k.1)
one_list (group n d hs us) done line a b x y i j l m s t e =
    let f : b ++ y ≡ l.0 ++ (opening_char d ∷ (l.1 ++ (closing_char d ∷ (l.2 ++ x)))) = sym e ∙ behind_group a l.0 d l.1 l.2 x l.5 in
    let k = one_span is_blank b l.0 y (opening_char d ∷ (l.1 ++ (closing_char d ∷ (l.2 ++ x)))) m l.3 (shut_stops y t) (opening_stops d) f in
    absurd (no_group d y _ t k.1)
one_list (piece n p ts) (piece o q us) line a b x y i j l m s t e =
    let f : l.0 ++ (piece_text p ++ (l.1 ++ x)) ≡ m.0 ++ (piece_text q ++ (m.1 ++ y)) = sym (behind_piece a l.0 (piece_text p) l.1 x l.6) ∙ (e ∙ behind_piece b m.0 (piece_text q) m.1 y m.6) in
    let v = and_parts (is_plain_piece p) (are_plain ts) i in
    let w = and_parts (is_plain_piece q) (are_plain us) j in
    let k = one_span is_blank l.0 m.0 _ _ l.2 m.2 (piece_stops p (l.1 ++ x) v.0 l.4) (piece_stops q (m.1 ++ y) w.0 m.4) f in
    let j = one_piece p q (l.1 ++ x) (m.1 ++ y) v.0 w.0 l.4 m.4 (ends_more p l.1 x v.0 l.5 s) (ends_more q m.1 y w.0 m.5 t) k.1 in
    let i = one_list ts us false l.1 m.1 x y v.1 w.1 l.7 m.7 s t j.1 in
    let g : n ≡ o = l.3 ∙ (ap (λ z. line || has_line_end z) k.0 ∙ sym m.3) in
    (same_row n o p q ts us g j.0 i.0, l.6 ∙ (same_text l.0 m.0 p q l.1 m.1 k.0 j.0 i.1 ∙ sym m.6))
  where
    same_row : (n o : Bool) (p q : Piece) (ts us : Tokens) → n ≡ o → p ≡ q → ts ≡ us → piece n p ts ≡ piece o q us
    same_row n o p q ts us f g h = λ i. piece (f i) (g i) (h i)

    same_text : (g h : List ℕ) (p q : Piece) (r z : List ℕ) → g ≡ h → p ≡ q → r ≡ z → g ++ (piece_text p ++ r) ≡ h ++ (piece_text q ++ z)
    same_text g h p q r z e f k = λ i. e i ++ (piece_text (f i) ++ k i)
one_list (piece n p ts) (group o d hs us) line a b x y i j l m s t e =
    let f : l.0 ++ (piece_text p ++ (l.1 ++ x)) ≡ m.0 ++ (opening_char d ∷ (m.1 ++ (closing_char d ∷ (m.2 ++ y)))) = sym (behind_piece a l.0 (piece_text p) l.1 x l.6) ∙ (e ∙ behind_group b m.0 d m.1 m.2 y m.5) in
    let k = one_span is_blank l.0 m.0 _ _ l.2 m.3 (piece_stops p (l.1 ++ x) (and_parts (is_plain_piece p) (are_plain ts) i).0 l.4) (opening_stops d) f in
    absurd (piece_or_group p d _ _ (and_parts (is_plain_piece p) (are_plain ts) i).0 l.4 k.1)
one_list (group o d hs us) (piece n p ts) line a b x y i j l m s t e =
    let f : m.0 ++ (piece_text p ++ (m.1 ++ y)) ≡ l.0 ++ (opening_char d ∷ (l.1 ++ (closing_char d ∷ (l.2 ++ x)))) = sym (behind_piece b m.0 (piece_text p) m.1 y m.6) ∙ (sym e ∙ behind_group a l.0 d l.1 l.2 x l.5) in
    let k = one_span is_blank m.0 l.0 _ _ m.2 l.3 (piece_stops p (m.1 ++ y) (and_parts (is_plain_piece p) (are_plain ts) j).0 m.4) (opening_stops d) f in
    absurd (piece_or_group p d _ _ (and_parts (is_plain_piece p) (are_plain ts) j).0 m.4 k.1)
one_list (group n c gs ts) (group o d hs us) line a b x y i j l m s t e =
    let f : l.0 ++ (opening_char c ∷ (l.1 ++ (closing_char c ∷ (l.2 ++ x)))) ≡ m.0 ++ (opening_char d ∷ (m.1 ++ (closing_char d ∷ (m.2 ++ y)))) = sym (behind_group a l.0 c l.1 l.2 x l.5) ∙ (e ∙ behind_group b m.0 d m.1 m.2 y m.5) in
    let k = one_span is_blank l.0 m.0 _ _ l.3 m.3 (opening_stops c) (opening_stops d) f in
    let k1 = k.1 in
    let h : opening_char c ≡ opening_char d = cc in
    let z : c ≡ d = same_bracket c d h in
    let r : l.1 ++ (closing_char c ∷ (l.2 ++ x)) ≡ m.1 ++ (closing_char d ∷ (m.2 ++ y)) = cc in
    let i1 = and_parts (are_plain gs) (are_plain ts) i in
    let j1 = and_parts (are_plain hs) (are_plain us) j in
    let i = one_list gs hs false l.1 m.1 (closing_char c ∷ (l.2 ++ x)) (closing_char d ∷ (m.2 ++ y)) i1.0 j1.0 l.6 m.6 (c, refl) (d, refl) r in
    let q : l.1 ++ (closing_char c ∷ (l.2 ++ x)) ≡ l.1 ++ (closing_char d ∷ (m.2 ++ y)) = r ∙ ap (λ w. w ++ (closing_char d ∷ (m.2 ++ y))) (sym i.1) in
    let v : closing_char c ∷ (l.2 ++ x) ≡ closing_char d ∷ (m.2 ++ y) = append_cancel_left l.1 _ _ q in
    let w : l.2 ++ x ≡ m.2 ++ y = cc in
    let j = one_list ts us false l.2 m.2 x y i1.1 j1.1 l.7 m.7 s t w in
    let g : n ≡ o = l.4 ∙ (ap (λ z. line || has_line_end z) k.0 ∙ sym m.4) in
    (same_row n o c d gs hs ts us g z i.0 j.0, l.5 ∙ (same_text l.0 m.0 c d l.1 m.1 l.2 m.2 k.0 z i.1 j.1 ∙ sym m.5))
  where
    same_row : (n o : Bool) (c d : Bracket) (gs hs ts us : Tokens) → n ≡ o → c ≡ d → gs ≡ hs → ts ≡ us → group n c gs ts ≡ group o d hs us
    same_row n o c d gs hs ts us f g h k = λ i. group (f i) (g i) (h i) (k i)

    same_text : (g h : List ℕ) (c d : Bracket) (q r z w : List ℕ) → g ≡ h → c ≡ d → q ≡ r → z ≡ w → g ++ (opening c ++ (q ++ (closing c ++ z))) ≡ h ++ (opening d ++ (r ++ (closing d ++ w)))
    same_text g h c d q r z w e f k l = λ i. e i ++ (opening (f i) ++ (k i ++ (closing (f i) ++ l i)))

pub one_token_list : (text : List ℕ) (ts us : Tokens) → AreTokensOf text ts → are_plain ts ≡ true → AreTokensOf text us → are_plain us ≡ true → ts ≡ us
one_token_list text ts us l p m q = (one_list ts us false text text [] [] p q l m tt tt refl).0
