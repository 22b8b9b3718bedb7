-- Strings (ECMA-262, 12.9.4), and templates without substitutions (12.9.6). A spelling is given by the characters between the quotes, a value by its units of UTF-16.
pub use Rattle.jsgen_syntax.specs.Escapes.{begins, begins_with}
use Rattle.std.specs.Prelude.{ℕ, ◌+◌, ◌-◌, ◌*◌, List, [], ◌∷◌, ◌++◌, take, Bool, true, false, not, ◌&&◌, ◌||◌, ◌==◌, nat_le, nat_lt, Option, Some, None, if◌then◌else◌, codes}
use Rattle.std.specs.Char.{is_ascii_digit, is_ascii_hexdigit, digit_value}
use Rattle.std.specs.Char.Escape.{encode_utf16}
use Rattle.std.specs.Option.{option_map}
use Rattle.std.specs.Str.{str_eq_ignore_ascii_case}
use lib.Utf8.{scalar}
use Rattle.jsgen_syntax.specs.Escapes.{unit_escape, lower_digit, character_escape}
use Rattle.jsgen_syntax.specs.Wtf8.{joined_units, is_surrogate}
use Rattle.jsgen_syntax.specs.declared.quote.Quote.{Quote}
use Rattle.jsgen_syntax.specs.declared.quote.Quote.TheVariants as quotes

abbrev pub quote_char : Quote → ℕ
quote_char quotes.Single = 39
quote_char quotes.Double = 34
quote_char quotes.Backtick = 96

abbrev pub is_backtick : Quote → Bool
is_backtick quotes.Single = false
is_backtick quotes.Double = false
is_backtick quotes.Backtick = true

-- LF, CR, U+2028 or U+2029 (12.3)
abbrev pub ends_line : ℕ → Bool
ends_line c = (c == 10) || (c == 13) || (c == 8232) || (c == 8233)

-- ---- what a spelling stands for

-- these units, and behind them the others
abbrev pub and_then : List ℕ → Option (List ℕ) → Option (List ℕ)
and_then units others = option_map (λ us. units ++ us) others

-- May the character stand for itself, with this text behind it? Not the quote, CR or LF (12.9.4); a template may hold a line end, but no `${` (12.9.6).
abbrev pub stands_bare : Quote → ℕ → List ℕ → Bool
stands_bare q c rest = scalar c && not (c == 92) && not (c == quote_char q)
    && (if is_backtick q then not ((c == 36) && begins_with 123 rest) else not ((c == 10) || (c == 13)))

-- the units of a character that stands for itself. A template has CR and CR LF as one LF (12.9.6.2, TRV)
abbrev pub bare_units : ℕ → List ℕ → List ℕ
bare_units c rest = if c == 13 then (if begins_with 10 rest then [] else 10 ∷ []) else encode_utf16 c

-- what a backslash before this character gives, where it is no digit and neither `x`, `u` nor a line end (12.9.4.2, SV: SingleEscapeCharacter and NonEscapeCharacter)
abbrev pub escape_units : ℕ → List ℕ
escape_units c =
    if c == 98 then 8 ∷ []
    else (if c == 116 then 9 ∷ []
    else (if c == 110 then 10 ∷ []
    else (if c == 118 then 11 ∷ []
    else (if c == 102 then 12 ∷ []
    else (if c == 114 then 13 ∷ []
    else encode_utf16 c)))))

unfoldable mutual
  -- what the text stands for, and `None` where it is no spelling in strict code (12.9.4.2, SV, and 12.9.6.1, TV)
  pub string_value : Quote → List ℕ → Option (List ℕ)
  string_value q [] = Some []
  string_value q (c ∷ cs) =
      if c == 92 then escape_value q cs
      else (if stands_bare q c cs then and_then (bare_units c cs) (string_value q cs) else None)

  -- the same behind a backslash: an escape, or a line continuation. CR LF is one line end
  pub escape_value : Quote → List ℕ → Option (List ℕ)
  escape_value q [] = None
  escape_value q (c ∷ cs) =
      if (c == 13) && begins_with 10 cs then escape_value q cs
      else (if ends_line c then string_value q cs
      else (if c == 120 then hex_value q 2 0 cs
      else (if c == 117 then (if begins_with 123 cs then code_point_value q cs else hex_value q 4 0 cs)
      else (if is_ascii_digit c then (if (c == 48) && not (begins is_ascii_digit cs) then and_then (0 ∷ []) (string_value q cs) else None)
      else (if scalar c then and_then (escape_units c) (string_value q cs) else None)))))

  -- before the last `count` digits of `\xHH` or `\uHHHH`, where the number so far is n
  pub hex_value : Quote → ℕ → ℕ → List ℕ → Option (List ℕ)
  hex_value q count n [] = None
  hex_value q count n (c ∷ cs) =
      if not (is_ascii_hexdigit c) then None
      else (if count == 1 then and_then (encode_utf16 (n * 16 + digit_value c)) (string_value q cs)
      else hex_value q (count - 1) (n * 16 + digit_value c) cs)

  -- before the `{` of `\u{H..}`
  pub code_point_value : Quote → List ℕ → Option (List ℕ)
  code_point_value q [] = None
  code_point_value q (c ∷ cs) = if begins is_ascii_hexdigit cs then digits_value q 0 cs else None

  -- within its braces, where the number so far is n: at most 0x10FFFF
  pub digits_value : Quote → ℕ → List ℕ → Option (List ℕ)
  digits_value q n [] = None
  digits_value q n (c ∷ cs) =
      if c == 125 then and_then (encode_utf16 n) (string_value q cs)
      else (if is_ascii_hexdigit c && nat_le (n * 16 + digit_value c) 0x10FFFF then digits_value q (n * 16 + digit_value c) cs
      else None)

-- ---- the spelling that is printed

-- the characters are the letters of `script`, in upper or lower case
abbrev pub begins_script : List ℕ → Bool
begins_script text = str_eq_ignore_ascii_case (take 6 text) (codes "script")

-- A backslash stands before the character: before a backslash, the quote, the `$` of `${` in backticks, and the `/` of `</script`, so that no text ends the script that it stands in.
abbrev pub needs_backslash : Quote → Bool → ℕ → List ℕ → Bool
needs_backslash q after_less c rest =
    (c == 92) || (c == quote_char q) || (is_backtick q && (c == 36) && begins_with 123 rest) || (after_less && (c == 47) && begins_script rest)

-- A character below U+0020: the escape that it has, or itself. `\0` mustn't stand before a digit, and backticks may hold a line end
abbrev pub control_text : Quote → ℕ → List ℕ → List ℕ
control_text q c rest =
    if c == 0 then (if begins is_ascii_digit rest then codes "\\x00" else codes "\\0")
    else (if c == 7 then codes "\\x07"
    else (if c == 8 then codes "\\b"
    else (if c == 10 then (if is_backtick q then 10 ∷ [] else codes "\\n")
    else (if c == 11 then codes "\\v"
    else (if c == 12 then codes "\\f"
    else (if c == 13 then codes "\\r"
    else (if c == 27 then codes "\\x1B"
    else c ∷ [])))))))

-- another character of ASCII, which may stand behind a `<`, and has these behind it
abbrev pub ascii_text : Quote → Bool → ℕ → List ℕ → List ℕ
ascii_text q after_less c rest = if needs_backslash q after_less c rest then 92 ∷ c ∷ [] else c ∷ []

-- A code point past ASCII: an escape for a surrogate without its partner, for each where the text is to be ASCII, and for U+00A0, U+2028 and U+2029
abbrev pub past_ascii_text : Bool → ℕ → List ℕ
past_ascii_text ascii c =
    if is_surrogate c then unit_escape lower_digit c
    else (if ascii then character_escape c
    else (if c == 0xA0 then codes "\\xA0"
    else (if (c == 0x2028) || (c == 0x2029) then unit_escape lower_digit c
    else c ∷ [])))

-- the characters for one code point
abbrev pub point_text : Quote → Bool → Bool → ℕ → List ℕ → List ℕ
point_text q ascii after_less c rest =
    if nat_lt c 32 then control_text q c rest
    else (if nat_lt c 128 then ascii_text q after_less c rest
    else past_ascii_text ascii c)

-- the characters for code points that may stand behind a `<`
unfoldable pub escaped_after : Quote → Bool → Bool → List ℕ → List ℕ
escaped_after q ascii after_less [] = []
escaped_after q ascii after_less (c ∷ cs) = point_text q ascii after_less c cs ++ escaped_after q ascii (c == 60) cs

-- the characters between the quotes, for these units: all of ASCII, where the test holds
abbrev pub escaped : Quote → Bool → List ℕ → List ℕ
escaped q ascii units = escaped_after q ascii false (joined_units units)

abbrev pub quoted : Quote → Bool → List ℕ → List ℕ
quoted q ascii units = quote_char q ∷ (escaped q ascii units ++ quote_char q ∷ [])

-- ---- the shortest quote

-- the unit takes one character more in this quote than in another: the quote itself, a `${` in backticks, and an LF in the other quotes, since `\n` is longer than a line end
abbrev pub costs_more : Quote → ℕ → List ℕ → Bool
costs_more q u rest = (u == quote_char q) || (if is_backtick q then (u == 36) && begins_with 123 rest else u == 10)

unfoldable pub quote_cost : Quote → List ℕ → ℕ
quote_cost q [] = 0
quote_cost q (u ∷ us) = (if costs_more q u us then 1 else 0) + quote_cost q us

-- The quote of the least cost. Of those with the same, backticks, where they are allowed, come before double quotes, and these before single ones.
abbrev pub cheapest_of : Bool → ℕ → ℕ → ℕ → Quote
cheapest_of backticks single double backtick =
    if backticks && nat_le backtick double && nat_le backtick single then quotes.Backtick
    else (if nat_le double single then quotes.Double
    else quotes.Single)

abbrev pub cheapest : Bool → List ℕ → Quote
cheapest backticks units = cheapest_of backticks (quote_cost quotes.Single units) (quote_cost quotes.Double units) (quote_cost quotes.Backtick units)
