-- What the code so far ends in, and what may stand behind it.
use Rattle.std.proofs.Common.{◌≡◌, ℕ, Bool, true, false, not, ◌||◌, ◌==◌, ◌⊎◌, inl, inr, Some, None, List, [], ◌∷◌, ◌++◌, refl, sym, ap, ◌∙◌, subst}
use Rattle.std.specs.Char.{is_ascii_digit}
use Rattle.std.specs.List.{last_or}
use Rattle.std.specs.Option.{option_map_or}
use Rattle.std.proofs.lemmas.Bool.{both_ways, and_from, or_from, or_cases, eqb-true}
use Rattle.jsgen_syntax.proofs.Names.{starts_continues}
use Rattle.jsgen_syntax.specs.Name.{starts_name, continues_name, goes_in_word}
use Rattle.jsgen_syntax.specs.Strings.{quote_char}
use Rattle.jsgen_syntax.specs.declared.quote.Quote.{Quote}
use Rattle.jsgen_syntax.specs.declared.quote.Quote.TheVariants as quotes
use Rattle.jsgen_tree.specs.Job.{Tables}
use Rattle.jsgen_model.specs.Punctuator.{Punctuator, punctuator_text, dot, ellipsis, comma, semicolon, question_dot, star, slash, plus, minus, Bracket, Round, Square, Brace, opening, closing, plus_plus, minus_minus}
use Rattle.jsgen_model.specs.Numbers.{spells_number}
use Rattle.jsgen_model.specs.Tokens.{Piece, Word, Number, Quoted, Sign, Beyond, Special, Private, Pattern, Whole, Head, Middle, Tail, ends_before, may_precede, stands, longer_stands}
use Rattle.jsgen_model.specs.Layout.{Pen, Ending, operator_end, dot_joins, is_apart, space_if}
use Rattle.jsgen_model.proofs.NumberRuns.{BarsDot}
use Rattle.jsgen_token_laws.proofs.Characters.{goes_on_in_sign, none_longer, behind_itself, no_word_no_name, no_word_no_start, no_word_no_digit, word_no_sign, not_that, continues_goes, starts_no_digit, digit_goes}
use Rattle.jsgen_token_laws.proofs.Numbers.{number_ends, apart_ends, number_alone}
use Rattle.jsgen_token_laws.proofs.Words.{begins_word}

-- blanks or a bracket, behind a line end or not; or a token
pub data Last : Type 0 where
  Open : Bool → Last
  After : Piece → Last

abbrev pub line_of : Last → Bool
line_of (Open line) = line
line_of (After p) = false

-- this text may stand here
abbrev pub Clear : Last → List ℕ → Type 0
Clear (Open line) r = Unit {0}
Clear (After p) r = ends_before p r ≡ true

-- an operand, maybe with the sign of an update, or nothing stands at the end
abbrev pub Operand : Last → Type 0
Operand (After (Sign plus_plus)) = Unit {0}
Operand (After (Sign minus_minus)) = Unit {0}
Operand (After (Sign s)) = ⊥
Operand l = Unit {0}

-- an operand may begin here
abbrev pub Ready : Last → Type 0
Ready (After (Sign dot)) = ⊥
Ready (After (Sign question_dot)) = ⊥
Ready l = Unit {0}

-- a member of a list or of a class may begin here: behind blanks, a bracket, a word, a comma or a semicolon
abbrev pub Begun : Last → Type 0
Begun (Open line) = Unit {0}
Begun (After (Word w)) = Unit {0}
Begun (After (Sign comma)) = Unit {0}
Begun (After (Sign semicolon)) = Unit {0}
Begun l = ⊥

pub begun_ready : (l : Last) → Begun l → Ready l
begun_ready (Open line) b = tt
begun_ready (After (Word w)) b = tt
begun_ready (After (Number w)) b = absurd b
begun_ready (After (Quoted q w)) b = absurd b
begun_ready (After (Beyond s)) b = absurd b
begun_ready (After (Sign comma)) b = tt
begun_ready (After (Sign semicolon)) b = tt
begun_ready (After (Sign s)) b = absurd b

-- the sign is remembered where another would join it
abbrev pub Remembers : Punctuator → Ending → Type 0
Remembers plus e = e ≡ operator_end plus
Remembers minus e = e ≡ operator_end minus
Remembers s e = Unit {0}

-- the code ends in the sign of a division, behind which a regular expression would begin a comment; of other signs the pen remembers what matters
abbrev pub EndedSign : List ℕ → Ending → Punctuator → Type 0
EndedSign code e slash = last_or None code ≡ Some 47
EndedSign code e s = Remembers s e

-- behind a private name or a regular expression a word stands apart
abbrev pub EndedSpecial : List ℕ → Ending → Special → Type 0
EndedSpecial code e (Private w) = is_apart e code ≡ true
EndedSpecial code e (Pattern w flags) = is_apart e code ≡ true
EndedSpecial code e s = Unit {0}

-- of what the code ends in the pen knows what matters to what follows
abbrev pub Ended : List ℕ → Ending → Last → Type 0
Ended code e (Open line) = Unit {0}
Ended code e (After (Word w)) = is_apart e code ≡ true
Ended code e (After (Number w)) = (is_apart e code ≡ true) × ((dot_joins e ≡ true) ⊎ BarsDot w) × (spells_number w ≡ true)
Ended code e (After (Quoted q w)) = Unit {0}
Ended code e (After (Sign s)) = EndedSign code e s
Ended code e (After (Beyond s)) = EndedSpecial code e s

-- a level of indentation is of spaces or of tabs
abbrev pub is_indent : ℕ → Bool
is_indent c = (c == 32) || (c == 9)

-- what is known of a pen behind which the code ends so: names are printed by these tables, whatever is printed
pub record Knows (names : Tables) (p : Pen) (l : Last) : Type 0 where
  pub indent : is_indent p.style.indent ≡ true
  pub tables : p.style.tables ≡ names
  pub ending : Ended p.code p.ending l

-- ---- what may stand behind anything

sign_text_stands : (s : Punctuator) (r : List ℕ) → stands s (punctuator_text s ++ r) ≡ may_precede s r
sign_text_stands s r = ap (λ o. option_map_or (may_precede s) o false) (behind_itself (punctuator_text s) r)

-- a character with which no sign goes on may stand behind one, if none forbids it
pub clear_sign : (s : Punctuator) (c : ℕ) (r : List ℕ) → goes_on_in_sign c ≡ false → may_precede s (c ∷ r) ≡ true → Clear (After (Sign s)) (c ∷ r)
clear_sign s c r g h = and_from (stands s (punctuator_text s ++ (c ∷ r))) (not (longer_stands s (punctuator_text s ++ (c ∷ r)))) (sign_text_stands s (c ∷ r) ∙ h) (ap not (none_longer s c r g))

-- a character in no word and no sign is forbidden by none
pub precedes_apart : (s : Punctuator) (c : ℕ) (r : List ℕ) → goes_on_in_sign c ≡ false → is_ascii_digit c ≡ false → may_precede s (c ∷ r) ≡ true
precedes_apart slash c r g h = ap not (or_from (c == 47) (c == 42) (not_that c 47 g refl) (not_that c 42 g refl))
precedes_apart dot c r g h = ap not h
precedes_apart question_dot c r g h = ap not h
precedes_apart s c r g h = refl

-- in no word, and no backslash
pub word_ends : (w : List ℕ) (c : ℕ) (r : List ℕ) → goes_in_word c ≡ false → (c == 92) ≡ false → Clear (After (Word w)) (c ∷ r)
word_ends w c r h b = ap not (or_from (continues_name c) (c == 92) (no_word_no_name c h) b)

-- a private name and the flags of a regular expression end before what is in no word, and a part of a template before anything
pub special_ends : (s : Special) (c : ℕ) (r : List ℕ) → goes_in_word c ≡ false → (c == 92) ≡ false → Clear (After (Beyond s)) (c ∷ r)
special_ends (Private w) c r h b = ap not (or_from (continues_name c) (c == 92) (no_word_no_name c h) b)
special_ends (Pattern w flags) c r h b = ap not (or_from (continues_name c) (c == 92) (no_word_no_name c h) b)
special_ends s c r h b = refl

pub clear_apart : (l : Last) (c : ℕ) (r : List ℕ) → goes_in_word c ≡ false → goes_on_in_sign c ≡ false → (c == 92) ≡ false → Clear l (c ∷ r)
clear_apart (Open line) c r h g b = tt
clear_apart (After (Word w)) c r h g b = word_ends w c r h b
clear_apart (After (Number w)) c r h g b = apart_ends w c r h g b
clear_apart (After (Quoted q w)) c r h g b = refl
clear_apart (After (Beyond s)) c r h g b = special_ends s c r h b
clear_apart (After (Sign s)) c r h g b = clear_sign s c r g (precedes_apart s c r g (no_word_no_digit c h))

pub clear_end : (l : Last) → Clear l []
unfolding longer_stands
clear_end (Open line) = tt
clear_end (After (Word w)) = refl
clear_end (After (Number w)) = number_alone w
clear_end (After (Quoted q w)) = refl
clear_end (After (Beyond s)) = refl
clear_end (After (Sign s)) = sign_end s
  where
    sign_end : (s : Punctuator) → ends_before (Sign s) [] ≡ true
    sign_end dot = refl
    sign_end s = refl

pub clear_space : (l : Last) (r : List ℕ) → Clear l (32 ∷ r)
clear_space l r = clear_apart l 32 r refl refl refl

pub clear_opening : (b : Bracket) (l : Last) (r : List ℕ) → Clear l (opening b ++ r)
clear_opening Round l r = clear_apart l 40 r refl refl refl
clear_opening Square l r = clear_apart l 91 r refl refl refl
clear_opening Brace l r = clear_apart l 123 r refl refl refl

pub clear_closing : (b : Bracket) (l : Last) (r : List ℕ) → Clear l (closing b ++ r)
clear_closing Round l r = clear_apart l 41 r refl refl refl
clear_closing Square l r = clear_apart l 93 r refl refl refl
clear_closing Brace l r = clear_apart l 125 r refl refl refl

-- ---- what may stand behind an operand

-- no sign is longer than that of an update and begins with it
pub increment_clear : (c : ℕ) (r : List ℕ) → Clear (After (Sign plus_plus)) (c ∷ r)
unfolding longer_stands
increment_clear c r = refl

pub decrement_clear : (c : ℕ) (r : List ℕ) → Clear (After (Sign minus_minus)) (c ∷ r)
unfolding longer_stands
decrement_clear c r = refl

clear_operand : (code : List ℕ) (e : Ending) (l : Last) (c : ℕ) (r : List ℕ) → Operand l → Ended code e l → goes_in_word c ≡ false → (c == 46) ≡ false → (c == 92) ≡ false → Clear l (c ∷ r)
clear_operand code e (Open line) c r o k h d b = tt
clear_operand code e (After (Word w)) c r o k h d b = word_ends w c r h b
clear_operand code e (After (Number w)) c r o k h d b = number_ends w c r k.2 (no_word_no_start c h) (no_word_no_digit c h) d b
clear_operand code e (After (Quoted q w)) c r o k h d b = refl
clear_operand code e (After (Beyond s)) c r o k h d b = special_ends s c r h b
clear_operand code e (After (Sign plus_plus)) c r o k h d b = increment_clear c r
clear_operand code e (After (Sign minus_minus)) c r o k h d b = decrement_clear c r
clear_operand code e (After (Sign s)) c r o k h d b = absurd o

-- a sign that doesn't begin with a dot
abbrev pub NoDot : Punctuator → Type 0
NoDot dot = ⊥
NoDot ellipsis = ⊥
NoDot s = Unit {0}

pub clear_operator : (s : Punctuator) (code : List ℕ) (e : Ending) (l : Last) (r : List ℕ) → NoDot s → Operand l → Ended code e l → Clear l (punctuator_text s ++ r)
clear_operator dot code e l r i o k = absurd i
clear_operator ellipsis code e l r i o k = absurd i
clear_operator s code e l r i o k = clear_operand code e l _ _ o k refl refl refl

-- three dots may stand where a member of a list begins
pub clear_dots : (l : Last) (r : List ℕ) → Begun l → Clear l (punctuator_text ellipsis ++ r)
unfolding longer_stands
clear_dots (Open line) r b = tt
clear_dots (After (Word w)) r b = word_ends w 46 (46 ∷ (46 ∷ r)) refl refl
clear_dots (After (Number w)) r b = absurd b
clear_dots (After (Quoted q w)) r b = absurd b
clear_dots (After (Beyond s)) r b = absurd b
clear_dots (After (Sign comma)) r b = refl
clear_dots (After (Sign semicolon)) r b = refl
clear_dots (After (Sign s)) r b = absurd b

-- and so may a star
pub clear_star : (l : Last) (r : List ℕ) → Begun l → Clear l (punctuator_text star ++ r)
unfolding longer_stands
clear_star (Open line) r b = tt
clear_star (After (Word w)) r b = word_ends w 42 r refl refl
clear_star (After (Number w)) r b = absurd b
clear_star (After (Quoted q w)) r b = absurd b
clear_star (After (Sign comma)) r b = refl
clear_star (After (Sign semicolon)) r b = refl
clear_star (After (Beyond s)) r b = absurd b
clear_star (After (Sign s)) r b = absurd b

-- a quote is in no word and in no sign
pub clear_quote : (q : Quote) (l : Last) (r : List ℕ) → Clear l (quote_char q ∷ r)
clear_quote quotes.Single l r = clear_apart l 39 r refl refl refl
clear_quote quotes.Double l r = clear_apart l 34 r refl refl refl
clear_quote quotes.Backtick l r = clear_apart l 96 r refl refl refl

-- ---- words and numbers, behind a space where the code ends in a word

-- a space, or nothing, behind a word
spaced : (w : Piece) (b : Bool) (r : List ℕ) → b ≡ true → Clear (After w) (space_if b ++ r)
spaced w true r e = clear_space (After w) r
spaced w false r e = absurd (both_ways false refl e)

-- anything may stand behind a string
pub clear_quoted : (q : Quote) (w r : List ℕ) → Clear (After (Quoted q w)) r
clear_quoted q w r = refl

-- what begins so stands apart from a private name and a regular expression, and at once behind a part of a template
spaced_special : (s : Special) (code : List ℕ) (e : Ending) (b : Bool) (r : List ℕ) → b ≡ is_apart e code → EndedSpecial code e s → Clear (After (Beyond s)) (space_if b ++ r)
spaced_special (Private w) code e b r i k = spaced (Beyond (Private w)) b r (i ∙ k)
spaced_special (Pattern w flags) code e b r i k = spaced (Beyond (Pattern w flags)) b r (i ∙ k)
spaced_special (Whole w) code e true r i k = refl
spaced_special (Whole w) code e false [] i k = refl
spaced_special (Whole w) code e false (c ∷ r) i k = refl
spaced_special (Head w) code e true r i k = refl
spaced_special (Head w) code e false [] i k = refl
spaced_special (Head w) code e false (c ∷ r) i k = refl
spaced_special (Middle w) code e true r i k = refl
spaced_special (Middle w) code e false [] i k = refl
spaced_special (Middle w) code e false (c ∷ r) i k = refl
spaced_special (Tail w) code e true r i k = refl
spaced_special (Tail w) code e false [] i k = refl
spaced_special (Tail w) code e false (c ∷ r) i k = refl

-- a space, or nothing, behind a sign
spaced_sign : (s : Punctuator) (b : Bool) (c : ℕ) (r : List ℕ) → Clear (After (Sign s)) (c ∷ r) → Clear (After (Sign s)) (space_if b ++ (c ∷ r))
spaced_sign s true c r h = clear_space (After (Sign s)) (c ∷ r)
spaced_sign s false c r h = h

-- what a word begins with is no digit, and no sign goes on with it
begins_apart : (c : ℕ) → begins_word c ≡ true → (goes_on_in_sign c ≡ false) × (is_ascii_digit c ≡ false)
begins_apart c h = by (or_cases (starts_name c) (c == 92) h)
  where
    by : (starts_name c ≡ true) ⊎ ((c == 92) ≡ true) → (goes_on_in_sign c ≡ false) × (is_ascii_digit c ≡ false)
    by (inl e) = (word_no_sign c (continues_goes c (starts_continues c e)), starts_no_digit c e)
    by (inr e) = subst (λ d. (goes_on_in_sign d ≡ false) × (is_ascii_digit d ≡ false)) (sym (eqb-true c 92 e)) (refl, refl)

pub clear_word : (code : List ℕ) (e : Ending) (l : Last) (c : ℕ) (r : List ℕ) → Ended code e l → begins_word c ≡ true → Clear l (space_if (is_apart e code) ++ (c ∷ r))
clear_word code e (Open line) c r k h = tt
clear_word code e (After (Word w)) c r k h = spaced (Word w) (is_apart e code) (c ∷ r) k
clear_word code e (After (Number w)) c r k h = spaced (Number w) (is_apart e code) (c ∷ r) k.0
clear_word code e (After (Quoted q w)) c r k h = clear_quoted q w (space_if (is_apart e code) ++ (c ∷ r))
clear_word code e (After (Beyond s)) c r k h = spaced_special s code e (is_apart e code) (c ∷ r) refl k
clear_word code e (After (Sign s)) c r k h =
    let g = begins_apart c h in
    spaced_sign s (is_apart e code) c r (clear_sign s c r g.0 (precedes_apart s c r g.0 g.1))

-- a digit may stand behind a sign that isn't a dot
precedes_digit : (s : Punctuator) (c : ℕ) (r : List ℕ) → Ready (After (Sign s)) → goes_on_in_sign c ≡ false → may_precede s (c ∷ r) ≡ true
precedes_digit slash c r y g = ap not (or_from (c == 47) (c == 42) (not_that c 47 g refl) (not_that c 42 g refl))
precedes_digit dot c r y g = absurd y
precedes_digit question_dot c r y g = absurd y
precedes_digit s c r y g = refl

pub clear_digit : (code : List ℕ) (e : Ending) (l : Last) (c : ℕ) (r : List ℕ) → Ended code e l → Ready l → is_ascii_digit c ≡ true → Clear l (space_if (is_apart e code) ++ (c ∷ r))
clear_digit code e (Open line) c r k y h = tt
clear_digit code e (After (Word w)) c r k y h = spaced (Word w) (is_apart e code) (c ∷ r) k
clear_digit code e (After (Number w)) c r k y h = spaced (Number w) (is_apart e code) (c ∷ r) k.0
clear_digit code e (After (Quoted q w)) c r k y h = clear_quoted q w (space_if (is_apart e code) ++ (c ∷ r))
clear_digit code e (After (Beyond s)) c r k y h = spaced_special s code e (is_apart e code) (c ∷ r) refl k
clear_digit code e (After (Sign s)) c r k y h =
    let g : goes_on_in_sign c ≡ false = word_no_sign c (digit_goes c h) in
    spaced_sign s (is_apart e code) c r (clear_sign s c r g (precedes_digit s c r y g))
