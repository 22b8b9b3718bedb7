-- A machine that takes the raw text of a piece of a template from left to right, and says what it stands for. No CR stands in it.
use Rattle.std.specs.Prelude.{ℕ, ◌+◌, ◌*◌, Bool, true, false, not, ◌&&◌, ◌==◌, nat_le, List, Option, Some, None, if◌then◌else◌}
use Rattle.std.specs.List.{list_all}
use Rattle.std.specs.Char.{is_ascii_digit, is_ascii_hexdigit, digit_value}
use Rattle.std.specs.Char.Escape.{encode_utf16}
use Rattle.jsgen_syntax.specs.Escapes.{begins, begins_with}
use Rattle.jsgen_syntax.specs.Strings.{and_then, ends_line, string_value, escape_value, hex_value, code_point_value, digits_value}
use Rattle.jsgen_syntax.specs.declared.quote.Quote.TheVariants.{Backtick}
use Rattle.jsgen_rules.specs.UnitsLeft.{left, is_value}
use Rattle.jsgen_rules.specs.declared.values.State.{State}
use Rattle.jsgen_rules.specs.declared.values.State.TheVariants.{Text, Dollar, Backslash, Nought, Unicode, OneDigit, TwoDigits, ThreeDigits, Opening, Digits}
use Rattle.jsgen_rules.specs.declared.values.Step.{Step}
use Rattle.jsgen_rules.specs.declared.values.Turn.{Turn}

abbrev pub has_no_return : List ℕ → Bool
has_no_return text = list_all (λ c. not (c == 13)) text

abbrev pub goes_to : State → Option Step
goes_to state = Some (record { state = state; code = None })

-- a code point is whole
abbrev pub completes : State → ℕ → Option Step
completes state code = Some (record { state = state; code = Some code })

abbrev pub text_step : ℕ → Option Step
text_step c =
    if c == 92 then goes_to Backslash
    else (if c == 96 then None
    else (if c == 36 then completes Dollar c
    else completes Text c))

-- what a backslash before this character gives (12.9.4.2, SV: SingleEscapeCharacter and NonEscapeCharacter)
abbrev pub escape_code : ℕ → ℕ
escape_code c =
    if c == 98 then 8
    else (if c == 116 then 9
    else (if c == 110 then 10
    else (if c == 118 then 11
    else (if c == 102 then 12
    else (if c == 114 then 13
    else c)))))

abbrev pub escape_step : ℕ → Option Step
escape_step c =
    if ends_line c then goes_to Text
    else (if c == 120 then goes_to (TwoDigits 0)
    else (if c == 117 then goes_to Unicode
    else (if is_ascii_digit c then (if c == 48 then completes Nought 0 else None)
    else completes Text (escape_code c))))

abbrev pub first_digit : ℕ → Option Step
first_digit c = if is_ascii_hexdigit c then goes_to (OneDigit (digit_value c)) else None

abbrev pub second_digit : ℕ → ℕ → Option Step
second_digit n c = if is_ascii_hexdigit c then goes_to (TwoDigits (n * 16 + digit_value c)) else None

abbrev pub third_digit : ℕ → ℕ → Option Step
third_digit n c = if is_ascii_hexdigit c then goes_to (ThreeDigits (n * 16 + digit_value c)) else None

abbrev pub fourth_digit : ℕ → ℕ → Option Step
fourth_digit n c = if is_ascii_hexdigit c then completes Text (n * 16 + digit_value c) else None

abbrev pub digits_step : ℕ → ℕ → Option Step
digits_step n c =
    if c == 125 then completes Text n
    else (if is_ascii_hexdigit c && nat_le (n * 16 + digit_value c) 0x10FFFF then goes_to (Digits (n * 16 + digit_value c))
    else None)

-- what the character leads to, and `None` where no text goes on so
abbrev pub next_step : State → ℕ → Option Step
next_step Text c = text_step c
next_step Dollar c = if c == 123 then None else text_step c
next_step Backslash c = escape_step c
next_step Nought c = if is_ascii_digit c then None else text_step c
next_step Unicode c = if c == 123 then goes_to Opening else first_digit c
next_step (OneDigit n) c = second_digit n c
next_step (TwoDigits n) c = third_digit n c
next_step (ThreeDigits n) c = fourth_digit n c
next_step Opening c = if is_ascii_hexdigit c then digits_step 0 c else None
next_step (Digits n) c = digits_step n c

-- a text may end so
abbrev pub may_end : State → Bool
may_end Text = true
may_end Dollar = true
may_end Nought = true
may_end state = false

-- what a text that goes on so from the state stands for
abbrev pub value_from : State → List ℕ → Option (List ℕ)
value_from Text rest = string_value Backtick rest
value_from Dollar rest = if begins_with 123 rest then None else string_value Backtick rest
value_from Backslash rest = escape_value Backtick rest
value_from Nought rest = if begins is_ascii_digit rest then None else string_value Backtick rest
value_from Unicode rest = if begins_with 123 rest then code_point_value Backtick rest else hex_value Backtick 4 0 rest
value_from (OneDigit n) rest = hex_value Backtick 3 n rest
value_from (TwoDigits n) rest = hex_value Backtick 2 n rest
value_from (ThreeDigits n) rest = hex_value Backtick 1 n rest
value_from Opening rest = if begins is_ascii_hexdigit rest then digits_value Backtick 0 rest else None
value_from (Digits n) rest = digits_value Backtick n rest

-- the units of a code point before others
abbrev pub emitted : Option ℕ → Option (List ℕ) → Option (List ℕ)
emitted None others = others
emitted (Some code) others = and_then (encode_utf16 code) others

abbrev pub value_behind : Option Step → List ℕ → Option (List ℕ)
value_behind None rest = None
value_behind (Some s) rest = emitted s.code (value_from s.state rest)

-- whether the text that is left stands for the units that are left
abbrev pub turned : List ℕ → Option Turn → Bool
turned rest None = false
turned rest (Some t) = is_value (value_from t.state rest) (left t.units)
