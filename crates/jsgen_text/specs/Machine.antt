-- A machine that reads the spelling of a string from left to right.
use Rattle.std.specs.Prelude.{ℕ, ◌+◌, ◌-◌, ◌*◌, Bool, true, false, ◌&&◌, ◌||◌, ◌==◌, nat_le, Option, Some, None, if◌then◌else◌}
use Rattle.std.specs.Char.{is_ascii_digit, is_ascii_hexdigit, digit_value}
use Rattle.jsgen_syntax.specs.declared.quote.Quote.{Quote}
use Rattle.jsgen_syntax.specs.Strings.{quote_char, is_backtick, ends_line}
use Rattle.jsgen_text.specs.declared.spelling.State.{State}
use Rattle.jsgen_text.specs.declared.spelling.State.TheVariants.{Text, Dollar, Backslash, Return, Nought, Unicode, Hex, Opening, Digits}

abbrev pub text_step : Quote → ℕ → Option State
text_step q c =
    if c == 92 then Some Backslash
    else (if c == quote_char q then None
    else (if is_backtick q then Some (if c == 36 then Dollar else Text)
    else (if (c == 10) || (c == 13) then None else Some Text)))

abbrev pub escape_step : ℕ → Option State
escape_step c =
    if c == 13 then Some Return
    else (if ends_line c then Some Text
    else (if c == 120 then Some (Hex 2)
    else (if c == 117 then Some Unicode
    else (if is_ascii_digit c then (if c == 48 then Some Nought else None)
    else Some Text))))

abbrev pub hex_step : ℕ → ℕ → Option State
hex_step count c = if is_ascii_hexdigit c then Some (if count == 1 then Text else Hex (count - 1)) else None

abbrev pub digits_step : ℕ → ℕ → Option State
digits_step n c =
    if c == 125 then Some Text
    else (if is_ascii_hexdigit c && nat_le (n * 16 + digit_value c) 0x10FFFF then Some (Digits (n * 16 + digit_value c))
    else None)

-- the state behind the character, and `None` where no text goes on so
abbrev pub step : Quote → State → ℕ → Option State
step q Text c = text_step q c
step q Dollar c = if c == 123 then None else text_step q c
step q Backslash c = escape_step c
step q Return c = if c == 10 then Some Text else text_step q c
step q Nought c = if is_ascii_digit c then None else text_step q c
step q Unicode c = if c == 123 then Some Opening else hex_step 4 c
step q (Hex count) c = hex_step count c
step q Opening c = if is_ascii_hexdigit c then digits_step 0 c else None
step q (Digits n) c = digits_step n c

-- a text may end so
abbrev pub may_end : State → Bool
may_end Text = true
may_end Dollar = true
may_end Return = true
may_end Nought = true
may_end state = false
