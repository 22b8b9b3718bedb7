-- The line and the column of an offset, by a plain count from the start of the text.
use Rattle.std.specs.Prelude.{ℕ, suc, ◌+◌, ◌-◌, nat_le, nat_lt, List, [], ◌∷◌, Bool, ◌==◌, ◌&&◌, not, if◌then◌else◌}
use Rattle.std.specs.Char.{len_utf8}
use Rattle.std.specs.Str.{chars}
use Rattle.jsgen_syntax.specs.Escapes.{begins_with}
use Rattle.jsgen_syntax.specs.Strings.{ends_line}
use Rattle.jsgen_map.specs.declared.position.Position.{Position}

abbrev pub at : ℕ → ℕ → Position
at line column = record { line = line; column = column }

-- how many units of UTF-16 a character takes
abbrev pub units : ℕ → ℕ
units c = if nat_lt c 0x1_0000 then 1 else 2

-- a line ends behind the character, which others follow: CR LF ends one line
abbrev pub closes_line : ℕ → List ℕ → Bool
closes_line c cs = ends_line c && not ((c == 13) && begins_with 10 cs)

-- the place behind a character, from the one before it
abbrev pub behind : Position → ℕ → List ℕ → Position
behind p c cs = if closes_line c cs then at (suc p.line) 0 else at p.line (p.column + units c)

-- the place behind the characters that end within so many bytes
abbrev pub position : Position → List ℕ → ℕ → Position
position p [] n = p
position p (c ∷ cs) n = if nat_le (len_utf8 c) n then position (behind p c cs) cs (n - len_utf8 c) else p

-- the place of an offset in the bytes of a text
abbrev pub line_column : List ℕ → ℕ → Position
line_column text n = position (at 0 0) (chars text) n
