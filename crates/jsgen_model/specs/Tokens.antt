-- How a text is cut into tokens (ECMA-262, clause 12): always the longest that stands there. Texts are lists of characters.
use Rattle.std.specs.Prelude.{◌≡◌, ◌⊎◌, ℕ, List, [], ◌∷◌, ◌++◌, codes, length, Bool, true, false, not, ◌&&◌, ◌||◌, ◌==◌, nat_lt, Option, Some, None, is_some, if◌then◌else◌}
use Rattle.std.specs.Char.{is_ascii_digit}
use Rattle.std.specs.List.{list_all, list_any}
use Rattle.std.specs.Option.{option_map_or}
use Rattle.std.specs.Str.{all_scalars}
use Rattle.jsgen_syntax.specs.Escapes.{begins, word_value}
use Rattle.jsgen_syntax.specs.Name.{starts_name, continues_name, spells_name}
use Rattle.jsgen_syntax.specs.Strings.{quote_char, string_value}
use Rattle.jsgen_syntax.specs.declared.quote.Quote.{Quote}
use Rattle.jsgen_syntax.specs.declared.quote.Quote.TheVariants.{Backtick}
pub use Rattle.jsgen_model.specs.LineEnds.{is_line_terminator}
use Rattle.jsgen_model.specs.RegularExpressions.{is_body}
use Rattle.jsgen_model.specs.Templates.{is_raw}
use Rattle.jsgen_model.specs.Numbers.{spells_number}
use Rattle.jsgen_model.specs.Punctuator.{Punctuator, punctuator_text, dot, ellipsis, semicolon, comma, colon, question, question_dot, arrow, less, greater, less_equal, greater_equal, equal_equal, not_equal, equal_equal_equal, not_equal_equal, plus, minus, star, slash, percent, star_star, plus_plus, minus_minus, shift_left, shift_right, shift_right_zero, bit_and, bit_or, bit_xor, bang, tilde, and_and, or_or, nullish, equal, plus_equal, minus_equal, star_equal, slash_equal, percent_equal, star_star_equal, shift_left_equal, shift_right_equal, shift_right_zero_equal, bit_and_equal, bit_or_equal, bit_xor_equal, and_and_equal, or_or_equal, nullish_equal, Bracket, opening, closing}

-- A token that the grammar has to ask for: a private name, by its spelling behind `#`; a regular expression, by its body and its flags; a template that no string spells, and the parts of one, by their raw texts (12.9.5, 12.9.6)
pub data Special : Type 0 where
  Private : List ℕ → Special
  Pattern : List ℕ → List ℕ → Special
  Whole Head Middle Tail : List ℕ → Special

-- A token that is no bracket
pub data Piece : Type 0 where
  -- a name or a keyword, by its spelling: a keyword has no escapes (12.7)
  Word : List ℕ → Piece
  Number : List ℕ → Piece
  -- a string, or a template without substitutions that a string spells: what stands between the quotes
  Quoted : Quote → List ℕ → Piece
  Sign : Punctuator → Piece
  Beyond : Special → Piece

-- A list of tokens. The mark tells that a line end stands before the token. Brackets that match make a group; `${` and `}` are of the parts of a template.
pub data Tokens : Type 0 where
  done : Tokens
  piece : Bool → Piece → Tokens → Tokens
  group : Bool → Bracket → Tokens → Tokens → Tokens

-- one list after the other
infixr 60 ◌⧺◌
abbrev pub ◌⧺◌ : Tokens → Tokens → Tokens
done ⧺ us = us
(piece mark p ts) ⧺ us = piece mark p (ts ⧺ us)
(group mark b inside ts) ⧺ us = group mark b inside (ts ⧺ us)

-- ---- between tokens

-- what may stand between tokens: a space, a tab or a line terminator. A comment may not
abbrev pub is_blank : ℕ → Bool
is_blank c = (c == 32) || (c == 9) || is_line_terminator c

abbrev pub has_line_end : List ℕ → Bool
has_line_end gap = list_any is_line_terminator gap

-- ---- punctuators (12.8)

abbrev pub punctuators : List Punctuator
punctuators =
    dot ∷ ellipsis ∷ semicolon ∷ comma ∷ colon ∷ question ∷ question_dot ∷ arrow ∷ less ∷ greater ∷ less_equal ∷ greater_equal ∷ equal_equal ∷ not_equal ∷ equal_equal_equal ∷ not_equal_equal ∷ plus ∷ minus ∷ star ∷ slash ∷ percent ∷ star_star ∷ plus_plus ∷ minus_minus ∷
    shift_left ∷ shift_right ∷ shift_right_zero ∷ bit_and ∷ bit_or ∷ bit_xor ∷ bang ∷ tilde ∷ and_and ∷ or_or ∷ nullish ∷ equal ∷ plus_equal ∷ minus_equal ∷ star_equal ∷ slash_equal ∷ percent_equal ∷ star_star_equal ∷ shift_left_equal ∷ shift_right_equal ∷ shift_right_zero_equal ∷ bit_and_equal ∷ bit_or_equal ∷ bit_xor_equal ∷ and_and_equal ∷ or_or_equal ∷ nullish_equal ∷ []

-- what is left of a text behind these characters, where it begins with them
abbrev pub text_behind : List ℕ → List ℕ → Option (List ℕ)
text_behind [] text = Some text
text_behind (c ∷ cs) [] = None
text_behind (c ∷ cs) (d ∷ ds) = if c == d then text_behind cs ds else None

-- `//` and `/*` begin a comment, and a dot before a decimal digit begins a number
abbrev pub may_precede : Punctuator → List ℕ → Bool
may_precede p [] = true
may_precede slash (c ∷ cs) = not ((c == 47) || (c == 42))
may_precede dot (c ∷ cs) = not (is_ascii_digit c)
may_precede question_dot (c ∷ cs) = not (is_ascii_digit c)
may_precede p (c ∷ cs) = true

-- the punctuator stands at the front of the text
abbrev pub stands : Punctuator → List ℕ → Bool
stands p text = option_map_or (may_precede p) (text_behind (punctuator_text p) text) false

-- a longer one stands there
unfoldable pub longer_stands : Punctuator → List ℕ → Bool
longer_stands p text = list_any (λ q. nat_lt (length (punctuator_text p)) (length (punctuator_text q)) && stands q text) punctuators

-- ---- numbers (12.9.3)

-- a longer number stands there, of whatever form: the characters w and one or more of the text behind them spell it
unfoldable pub longer_number_stands : List ℕ → List ℕ → Bool
longer_number_stands w [] = false
longer_number_stands w (c ∷ cs) = spells_number (w ++ c ∷ []) || longer_number_stands (w ++ c ∷ []) cs

-- ---- tokens that are no brackets

abbrev pub special_text : Special → List ℕ
special_text (Private w) = 35 ∷ w
special_text (Pattern w flags) = 47 ∷ (w ++ 47 ∷ flags)
special_text (Whole w) = 96 ∷ (w ++ 96 ∷ [])
special_text (Head w) = 96 ∷ (w ++ codes "${")
special_text (Middle w) = 125 ∷ (w ++ codes "${")
special_text (Tail w) = 125 ∷ (w ++ 96 ∷ [])

abbrev pub piece_text : Piece → List ℕ
piece_text (Word w) = w
piece_text (Number w) = w
piece_text (Quoted q w) = quote_char q ∷ (w ++ quote_char q ∷ [])
piece_text (Sign p) = punctuator_text p
piece_text (Beyond s) = special_text s

-- the raw text of a part of a template
abbrev pub is_part : List ℕ → Bool
is_part w = all_scalars w && is_raw w

abbrev pub is_special : Special → Bool
is_special (Private w) = option_map_or spells_name (word_value w) false
is_special (Pattern w flags) = all_scalars w && (is_body w && list_all continues_name flags)
is_special (Whole w) = is_part w && not (is_some (string_value Backtick w))
is_special (Head w) = is_part w
is_special (Middle w) = is_part w
is_special (Tail w) = is_part w

abbrev pub is_spelled : Piece → Bool
is_spelled (Word w) = option_map_or spells_name (word_value w) false
is_spelled (Number w) = spells_number w
is_spelled (Quoted q w) = is_some (string_value q w)
is_spelled (Sign p) = true
is_spelled (Beyond s) = is_special s

-- what may not follow a number at once: what begins a name, a backslash, which begins an escape of one, and a digit (12.9.3)
abbrev pub is_barred_behind_number : ℕ → Bool
is_barred_behind_number c = starts_name c || is_ascii_digit c || (c == 92)

-- a private name goes on as a word does, and so do the flags of a regular expression
abbrev pub goes_on : Special → ℕ → Bool
goes_on (Private w) c = continues_name c || (c == 92)
goes_on (Pattern w flags) c = continues_name c || (c == 92)
goes_on s c = false

-- the token ends before this text
abbrev pub ends_before : Piece → List ℕ → Bool
-- a word goes on with characters of names and with escapes
ends_before (Word w) text = not (begins (λ c. continues_name c || (c == 92)) text)
ends_before (Number w) text = not (begins is_barred_behind_number text) && not (longer_number_stands w text)
-- a string has its end
ends_before (Quoted q w) text = true
ends_before (Beyond s) text = not (begins (goes_on s) text)
ends_before (Sign p) text = stands p (punctuator_text p ++ text) && not (longer_stands p (punctuator_text p ++ text))

-- ---- plain tokens

-- no private name, part of a template or regular expression
abbrev pub is_plain_piece : Piece → Bool
is_plain_piece (Word w) = true
is_plain_piece (Number w) = true
is_plain_piece (Quoted q w) = true
is_plain_piece (Sign p) = true
is_plain_piece (Beyond s) = false

-- a text's tokens don't depend on the grammar where they are all plain
abbrev pub are_plain : Tokens → Bool
are_plain done = true
are_plain (piece mark p ts) = is_plain_piece p && are_plain ts
are_plain (group mark b inside ts) = are_plain inside && are_plain ts

-- ---- the whole

-- The text is these tokens, with blanks before, between and after them. The first has its mark also where a line end stands before the text.
abbrev pub AreTokensAfter : Bool → List ℕ → Tokens → Type 0
AreTokensAfter line text done = list_all is_blank text ≡ true
AreTokensAfter line text (piece mark p ts) = (gap rest : List ℕ) × (list_all is_blank gap ≡ true) × (mark ≡ (line || has_line_end gap)) × (is_spelled p ≡ true) × (ends_before p rest ≡ true) × (text ≡ gap ++ (piece_text p ++ rest)) × AreTokensAfter false rest ts
AreTokensAfter line text (group mark b inside ts) = (gap inner rest : List ℕ) × (list_all is_blank gap ≡ true) × (mark ≡ (line || has_line_end gap)) × (text ≡ gap ++ (opening b ++ (inner ++ (closing b ++ rest)))) × AreTokensAfter false inner inside × AreTokensAfter false rest ts

abbrev pub AreTokensOf : List ℕ → Tokens → Type 0
AreTokensOf text ts = AreTokensAfter false text ts

-- ---- hashbangs (12.5)

-- the text begins with a hashbang of this text, up to a line end or its own end
pub record IsHashbang (text value rest : List ℕ) : Type 0 where
  pub no_line_end : has_line_end value ≡ false
  pub scalars : all_scalars value ≡ true
  pub text_is : text ≡ codes "#!" ++ (value ++ rest)
  pub ends : (rest ≡ []) ⊎ (begins is_line_terminator rest ≡ true)

-- the tokens of a text that may begin with a hashbang, which stands at its front alone
abbrev pub AreTokensBehind : Option (List ℕ) → List ℕ → Tokens → Type 0
AreTokensBehind None text ts = AreTokensOf text ts
AreTokensBehind (Some value) text ts = (rest : List ℕ) × IsHashbang text value rest × AreTokensOf rest ts
