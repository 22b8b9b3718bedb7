-- Escapes that are printed for characters past ASCII (ECMA-262, 12.7 and 12.9.4), and names that hold them.
use Rattle.std.specs.Prelude.{ℕ, ◌+◌, ◌-◌, ◌*◌, ◌/◌, ◌%◌, List, [], ◌∷◌, ◌++◌, Bool, false, not, ◌&&◌, ◌==◌, nat_le, nat_lt, Option, Some, None, if◌then◌else◌, codes, flat_map}
use Rattle.std.specs.Char.{is_ascii_hexdigit, digit_value}
use Rattle.std.specs.List.{list_any}
use Rattle.std.specs.Option.{option_map}

-- the text begins with such a character
abbrev pub begins : (ℕ → Bool) → List ℕ → Bool
begins test [] = false
begins test (c ∷ cs) = test c

abbrev pub begins_with : ℕ → List ℕ → Bool
begins_with d text = begins (λ c. c == d) text

-- the digit of a number below 16, in upper or lower case
abbrev pub upper_digit : ℕ → ℕ
upper_digit n = if nat_lt n 10 then 48 + n else 55 + n

abbrev pub lower_digit : ℕ → ℕ
lower_digit n = if nat_lt n 10 then 48 + n else 87 + n

-- the four digits of a number of 16 bits
abbrev pub four_digits : (ℕ → ℕ) → ℕ → List ℕ
four_digits digit n = digit (n / 4096) ∷ digit (n / 256 % 16) ∷ digit (n / 16 % 16) ∷ digit (n % 16) ∷ []

-- `\uXXXX`
abbrev pub unit_escape : (ℕ → ℕ) → ℕ → List ℕ
unit_escape digit u = 92 ∷ 117 ∷ four_digits digit u

-- the digits in front of the last four, of a code point past U+FFFF, which is at most U+10FFFF
abbrev pub leading_digits : ℕ → List ℕ
leading_digits c = if nat_lt c 0x10_0000 then upper_digit (c / 65536) ∷ [] else codes "10"

-- `\u{X..}`, without a leading zero
abbrev pub code_point_escape : ℕ → List ℕ
code_point_escape c = 92 ∷ 117 ∷ 123 ∷ (leading_digits c ++ (four_digits upper_digit (c % 65536) ++ 125 ∷ []))

-- `\uXXXX`, or past U+FFFF `\u{X..}`
abbrev pub character_escape : ℕ → List ℕ
character_escape c = if nat_lt c 0x1_0000 then unit_escape upper_digit c else code_point_escape c

abbrev pub is_past_ascii : ℕ → Bool
is_past_ascii c = nat_le 128 c

-- ---- names

-- a character of a name, which is an escape where the text is to be ASCII and the character isn't
abbrev pub name_character : Bool → ℕ → List ℕ
name_character ascii c = if ascii && is_past_ascii c then character_escape c else c ∷ []

abbrev pub name_text : Bool → List ℕ → List ℕ
name_text ascii name = flat_map (name_character ascii) name

-- the name is printed with escapes
abbrev pub has_escapes : Bool → List ℕ → Bool
has_escapes ascii name = ascii && list_any is_past_ascii name

-- this character, and behind it the others
abbrev pub before_others : ℕ → Option (List ℕ) → Option (List ℕ)
before_others c others = option_map (λ cs. c ∷ cs) others

unfoldable mutual
  -- what a word stands for: each escape is its code point (12.7.1, StringValue). `None` where a backslash begins no `\uHHHH` and no `\u{H..}`
  pub word_value : List ℕ → Option (List ℕ)
  word_value [] = Some []
  word_value (c ∷ cs) = if c == 92 then word_escape cs else before_others c (word_value cs)

  -- behind a backslash
  pub word_escape : List ℕ → Option (List ℕ)
  word_escape [] = None
  word_escape (c ∷ cs) = if c == 117 then (if begins_with 123 cs then word_code_point cs else word_hex 4 0 cs) else None

  -- before the last `count` digits of `\uHHHH`, where the number so far is n
  pub word_hex : ℕ → ℕ → List ℕ → Option (List ℕ)
  word_hex count n [] = None
  word_hex count n (c ∷ cs) =
      if not (is_ascii_hexdigit c) then None
      else (if count == 1 then before_others (n * 16 + digit_value c) (word_value cs)
      else word_hex (count - 1) (n * 16 + digit_value c) cs)

  -- before the `{` of `\u{H..}`
  pub word_code_point : List ℕ → Option (List ℕ)
  word_code_point [] = None
  word_code_point (c ∷ cs) = if begins is_ascii_hexdigit cs then word_digits 0 cs else None

  -- within its braces, where the number so far is n: at most 0x10FFFF
  pub word_digits : ℕ → List ℕ → Option (List ℕ)
  word_digits n [] = None
  word_digits n (c ∷ cs) =
      if c == 125 then before_others n (word_value cs)
      else (if is_ascii_hexdigit c && nat_le (n * 16 + digit_value c) 0x10FFFF then word_digits (n * 16 + digit_value c) cs
      else None)
