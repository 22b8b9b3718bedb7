-- The items that a spelling gives, and the parts of an escape's value that have a program of their own.
use Rattle.std.specs.Prelude.{ℕ, List, [], ◌∷◌, not, ◌&&◌, ◌==◌, Option, None, option_map, if◌then◌else◌}
use Rattle.std.specs.Char.{is_ascii_digit}
use Rattle.std.specs.declared.vec.Vec.{Vec}
use Rattle.std.specs.declared.alloc.Global.{Global}
use Rattle.jsgen_syntax.specs.Strings.{begins, begins_with, and_then, string_value, code_point_value, hex_value}
use Rattle.jsgen_syntax.specs.declared.quote.Quote.{Quote}

abbrev pub items_of : Option (Vec ℕ Global) → Option (List ℕ)
items_of o = option_map (λ v. v.items) o

-- a number is below this before its last digits, of four at most
abbrev pub hex_room : ℕ → ℕ
hex_room count = if count == 1 then 4096 else (if count == 2 then 256 else (if count == 3 then 16 else (if count == 4 then 1 else 0)))

-- behind `\u`
abbrev pub unicode_value : Quote → List ℕ → Option (List ℕ)
unicode_value q text = if begins_with 123 text then code_point_value q text else hex_value q 4 0 text

-- behind a backslash and this digit
abbrev pub digit_escape_value : Quote → ℕ → List ℕ → Option (List ℕ)
digit_escape_value q c text = if (c == 48) && not (begins is_ascii_digit text) then and_then (0 ∷ []) (string_value q text) else None
