-- What stands at a place of a text.
use Rattle.std.specs.Prelude.{◌≡◌, ℕ, ◌+◌, List, [], ◌∷◌, ◌++◌, Bool, true, false, ◌&&◌, ◌||◌, ◌==◌, Option, Some, None, option_map, if◌then◌else◌, take, drop}
use Rattle.std.specs.Char.{is_ascii_digit}
use Rattle.std.specs.List.{prefix_len}
use Rattle.jsgen_syntax.specs.Escapes.{begins, begins_with}
use Rattle.jsgen_syntax.specs.Name.{starts_name, continues_name}
use Rattle.jsgen_syntax.specs.Strings.{quote_char}
use Rattle.jsgen_syntax.specs.declared.quote.Quote.{Quote}
use Rattle.jsgen_syntax.specs.declared.quote.Quote.TheVariants as quotes
use Rattle.jsgen_model.proofs.NumberKinds.{kind}
use Rattle.jsgen_model.proofs.NumberStates.{State, accepts, is_dead, step}
use Rattle.jsgen_model.specs.Punctuator.{Punctuator, Bracket, Round, Square, Brace, opening, closing}
use Rattle.jsgen_model.specs.Tokens.{Tokens, done, piece, group, Piece, is_plain_piece, piece_text, is_spelled, ends_before, stands, longer_stands, is_blank, has_line_end}

-- the text begins with this token, which is plain
pub record StandsAt (text : List ℕ) (p : Piece) (rest : List ℕ) : Type 0 where
  pub plain : is_plain_piece p ≡ true
  pub text_is : text ≡ piece_text p ++ rest
  pub spelled : is_spelled p ≡ true
  pub ends : ends_before p rest ≡ true

abbrev pub HasNoPiece : List ℕ → Type 0
HasNoPiece text = (p : Piece) (rest : List ℕ) → StandsAt text p rest → ⊥

abbrev pub HasNoSign : List ℕ → Type 0
HasNoSign text = (p : Punctuator) → stands p text ≡ false

-- it is the longest there
abbrev pub IsSignAt : List ℕ → Punctuator → Type 0
IsSignAt text p = (stands p text ≡ true) × (longer_stands p text ≡ false)

-- ---- words

-- a word begins with it: a backslash begins an escape
abbrev pub starts_word : ℕ → Bool
starts_word c = starts_name c || (c == 92)

abbrev mutual
  -- how many characters of the text go in a word that stands there: those of names, and escapes
  pub count_word : List ℕ → ℕ
  count_word [] = 0
  count_word (c ∷ cs) = if c == 92 then 1 + count_escape cs else (if continues_name c then 1 + count_word cs else 0)

  -- behind a backslash
  pub count_escape : List ℕ → ℕ
  count_escape [] = 0
  count_escape (c ∷ cs) = if c == 117 then 1 + (if begins_with 123 cs then count_braces cs else count_word cs) else 0

  -- up to the closing brace of `\u{H..}`, and behind it
  pub count_braces : List ℕ → ℕ
  count_braces [] = 0
  count_braces (c ∷ cs) = 1 + (if c == 125 then count_word cs else count_braces cs)

-- ---- numbers

-- a digit, or a dot and a digit
abbrev pub begins_number : List ℕ → Bool
begins_number [] = false
begins_number (c ∷ cs) = is_ascii_digit c || ((c == 46) && begins is_ascii_digit cs)

-- as many as from the next character on, and that one; or none, where the number may end here
abbrev pub count_behind : Bool → Option ℕ → Option ℕ
count_behind ends (Some n) = Some (1 + n)
count_behind true None = Some 0
count_behind false None = None

-- how many characters of the text are the rest of the longest number that begins as the machine's state says
abbrev pub count_number : State → List ℕ → Option ℕ
count_number s [] = count_behind (accepts s) None
count_number s (c ∷ cs) = if is_dead s then None else count_behind (accepts s) (count_number (step s (kind c)) cs)

-- ---- strings

abbrev pub quote_at : List ℕ → Option Quote
quote_at [] = None
quote_at (c ∷ cs) = if c == 39 then Some quotes.Single else (if c == 34 then Some quotes.Double else (if c == 96 then Some quotes.Backtick else None))

-- how many characters stand before the first quote that isn't behind a backslash. The flag tells that one stands before the text
abbrev pub count_before : Quote → Bool → List ℕ → Option ℕ
count_before q behind [] = None
count_before q true (c ∷ cs) = option_map (λ n. 1 + n) (count_before q false cs)
count_before q false (c ∷ cs) = if c == 92 then option_map (λ n. 1 + n) (count_before q true cs) else (if c == quote_char q then Some 0 else option_map (λ n. 1 + n) (count_before q false cs))

-- ---- brackets

abbrev pub opening_at : List ℕ → Option Bracket
opening_at [] = None
opening_at (c ∷ cs) = if c == 40 then Some Round else (if c == 91 then Some Square else (if c == 123 then Some Brace else None))

-- a closing bracket or the end
abbrev pub ends_row : List ℕ → Bool
ends_row [] = true
ends_row (c ∷ cs) = (c == 41) || (c == 93) || (c == 125)

-- ---- rows of tokens

abbrev pub behind_blanks : List ℕ → List ℕ
behind_blanks text = drop (prefix_len is_blank text) text

-- the mark of the first token
abbrev pub mark_at : Bool → List ℕ → Bool
mark_at line text = line || has_line_end (take (prefix_len is_blank text) text)

-- These are plain tokens of a text that no blank begins, up to this rest, and the first has this mark.
abbrev pub IsRow : Bool → List ℕ → Tokens → List ℕ → Type 0
IsRow line text done rest = (text ≡ rest) × (ends_row rest ≡ true)
IsRow line text (piece mark p ts) rest = (behind : List ℕ) × (mark ≡ line) × StandsAt text p behind × IsRow (mark_at false behind) (behind_blanks behind) ts rest
IsRow line text (group mark b inside ts) rest =
    (inner behind : List ℕ) × (mark ≡ line) × (text ≡ opening b ++ inner) × IsRow (mark_at false inner) (behind_blanks inner) inside (closing b ++ behind) × IsRow (mark_at false behind) (behind_blanks behind) ts rest

abbrev pub HasNoRow : Bool → List ℕ → Type 0
HasNoRow line text = (ts : Tokens) (rest : List ℕ) → IsRow line text ts rest → ⊥
