-- What spells a number in strict code: NumericLiteral, production by production (ECMA-262, 12.9.3). Legacy octals and leading zeros have no production here.
use Rattle.std.specs.Prelude.{ℕ, List, [], ◌∷◌, Bool, true, false, None, not, ◌&&◌, ◌||◌, ◌==◌, codes, if◌then◌else◌}
use Rattle.std.specs.Char.{is_ascii_digit, is_ascii_hexdigit}
use Rattle.std.specs.Int.{is_in_range}
use Rattle.std.specs.List.{list_all, list_any, last_or}
use Rattle.std.specs.Option.{option_map_or}
use Rattle.jsgen_syntax.specs.Escapes.{begins}

-- ---- how productions are put together

-- which texts a production of the standard derives
abbrev pub Production : Type 0
Production = List ℕ → Bool

-- one character that passes the test
abbrev pub character : (ℕ → Bool) → Production
character test [] = false
character test (c ∷ []) = test c
character test (c ∷ d ∷ ds) = false

-- one of these characters
abbrev pub one_of : List ℕ → Production
one_of cs = character (λ c. list_any (λ d. c == d) cs)

-- the one or the other
infixr 50 ◌∣◌
abbrev pub ◌∣◌ : Production → Production → Production
f ∣ g = λ text. f text || g text

-- the text is in two parts, the front of the one and the rest of the other
abbrev pub in_two : Production → Production → Production
in_two f g [] = f [] && g []
in_two f g (c ∷ cs) = (f [] && g (c ∷ cs)) || in_two (λ front. f (c ∷ front)) g cs

-- the one, and behind it the other
infixr 60 ◌▸◌
abbrev pub ◌▸◌ : Production → Production → Production
f ▸ g = in_two f g

-- the one, or nothing
abbrev pub perhaps : Production → Production
perhaps f [] = true
perhaps f (c ∷ cs) = f (c ∷ cs)

-- ---- signs and digits

-- NumericLiteralSeparator
abbrev pub separator : Production
separator = one_of (codes "_")

-- BigIntLiteralSuffix
abbrev pub suffix : Production
suffix = one_of (codes "n")

abbrev pub point : Production
point = one_of (codes ".")

abbrev pub zero_digit : Production
zero_digit = one_of (codes "0")

-- NonZeroDigit
abbrev pub non_zero_digit : Production
non_zero_digit = character (λ c. is_ascii_digit c && not (c == 48))

-- DecimalDigits, BinaryDigits, OctalDigits and HexDigits, with separators: a digit; a digit and more of them; a digit, a separator and more of them
abbrev pub digits_of : (ℕ → Bool) → Production
digits_of is_digit [] = false
digits_of is_digit (c ∷ []) = is_digit c
digits_of is_digit (c ∷ d ∷ ds) = is_digit c && (digits_of is_digit (d ∷ ds) || ((d == 95) && digits_of is_digit ds))

abbrev pub decimal_digits : Production
decimal_digits = digits_of is_ascii_digit

-- ---- decimal numbers

-- DecimalIntegerLiteral, without NonOctalDecimalIntegerLiteral
abbrev pub decimal_integer : Production
decimal_integer = zero_digit ∣ non_zero_digit ∣ (non_zero_digit ▸ perhaps separator ▸ decimal_digits)

-- SignedInteger
abbrev pub signed_integer : Production
signed_integer = decimal_digits ∣ (one_of (codes "+-") ▸ decimal_digits)

-- ExponentPart
abbrev pub exponent_part : Production
exponent_part = one_of (codes "eE") ▸ signed_integer

-- DecimalLiteral
abbrev pub decimal_literal : Production
decimal_literal =
    (decimal_integer ▸ point ▸ perhaps decimal_digits ▸ perhaps exponent_part)
    ∣ (point ▸ decimal_digits ▸ perhaps exponent_part)
    ∣ (decimal_integer ▸ perhaps exponent_part)

-- DecimalBigIntegerLiteral
abbrev pub decimal_big_integer : Production
decimal_big_integer =
    (zero_digit ▸ suffix)
    ∣ (non_zero_digit ▸ perhaps decimal_digits ▸ suffix)
    ∣ (non_zero_digit ▸ separator ▸ decimal_digits ▸ suffix)

-- ---- other numbers

-- BinaryIntegerLiteral, of `0` and `1`
abbrev pub binary_integer : Production
binary_integer = zero_digit ▸ one_of (codes "bB") ▸ digits_of (is_in_range 48 49)

-- OctalIntegerLiteral, of `0` to `7`
abbrev pub octal_integer : Production
octal_integer = zero_digit ▸ one_of (codes "oO") ▸ digits_of (is_in_range 48 55)

-- HexIntegerLiteral
abbrev pub hex_integer : Production
hex_integer = zero_digit ▸ one_of (codes "xX") ▸ digits_of is_ascii_hexdigit

-- NonDecimalIntegerLiteral
abbrev pub non_decimal_integer : Production
non_decimal_integer = binary_integer ∣ octal_integer ∣ hex_integer

-- NumericLiteral, without LegacyOctalIntegerLiteral
unfoldable pub spells_number : Production
spells_number = decimal_literal ∣ decimal_big_integer ∣ non_decimal_integer ∣ (non_decimal_integer ▸ suffix)

-- ---- the literals of a tree

-- a dot behind this number is no part of it: it has a dot, an exponent or a prefix
abbrev pub takes_no_dot : List ℕ → Bool
takes_no_dot text = list_any (λ c. list_any (λ d. c == d) (codes ".eExXoObB")) text

-- the text ends in one of these characters
abbrev pub ends_in : List ℕ → List ℕ → Bool
ends_in cs text = option_map_or (λ c. list_any (λ d. c == d) cs) (last_or None text) false

-- the text of a number that begins with a digit, and ends neither in a dot nor in the suffix of a big integer
unfoldable pub is_raw_number : List ℕ → Bool
is_raw_number text = begins is_ascii_digit text && not (ends_in (codes ".n") text) && spells_number text

-- `0`, or decimal digits of which the first isn't `0`, without separators
abbrev pub spells_whole : List ℕ → Bool
spells_whole [] = false
spells_whole (c ∷ []) = is_ascii_digit c
spells_whole (c ∷ d ∷ ds) = not (c == 48) && list_all is_ascii_digit (c ∷ d ∷ ds)

-- the value of a big integer: perhaps a minus, and a whole number. The suffix isn't part of it
unfoldable pub is_big_integer : List ℕ → Bool
is_big_integer [] = false
is_big_integer (c ∷ cs) = if c == 45 then spells_whole cs else spells_whole (c ∷ cs)
