-- What ends a line (ECMA-262, 12.3).
use Rattle.std.specs.Prelude.{ℕ, Bool, ◌||◌, ◌==◌}

-- LF, CR, U+2028 or U+2029
abbrev pub is_line_terminator : ℕ → Bool
is_line_terminator c = (c == 10) || (c == 13) || (c == 8232) || (c == 8233)
