-- What is a regular expression's body, and what its flags are (ECMA-262, 12.9.5).
use Rattle.std.specs.Prelude.{ℕ, List, [], ◌∷◌, Bool, true, false, not, ◌&&◌, ◌==◌, codes, if◌then◌else◌}
use Rattle.std.specs.List.{list_all, list_any}
use Rattle.jsgen_model.specs.LineEnds.{is_line_terminator}

abbrev mutual
  -- RegularExpressionChars, to the end of the body
  pub are_characters : List ℕ → Bool
  are_characters [] = true
  are_characters (c ∷ cs) = not (is_line_terminator c) && (if c == 92 then is_escape cs else (if c == 91 then is_class cs else not (c == 47) && are_characters cs))

  -- what stands behind the backslash of a RegularExpressionBackslashSequence
  pub is_escape : List ℕ → Bool
  is_escape [] = false
  is_escape (c ∷ cs) = not (is_line_terminator c) && are_characters cs

  -- RegularExpressionClassChars, the bracket behind them, and what follows
  pub is_class : List ℕ → Bool
  is_class [] = false
  is_class (c ∷ cs) = not (is_line_terminator c) && (if c == 92 then is_escape_in_class cs else (if c == 93 then are_characters cs else is_class cs))

  pub is_escape_in_class : List ℕ → Bool
  is_escape_in_class [] = false
  is_escape_in_class (c ∷ cs) = not (is_line_terminator c) && is_class cs

-- RegularExpressionBody: it isn't empty, and doesn't begin with a star, as a comment does
abbrev pub is_body : List ℕ → Bool
is_body [] = false
is_body (c ∷ cs) = not (c == 42) && are_characters (c ∷ cs)

-- the letters that are flags (22.2.4.1)
abbrev pub flag_letters : List ℕ
flag_letters = codes "dgimsuvy"

abbrev pub is_flag : ℕ → Bool
is_flag c = list_any (λ letter. c == letter) flag_letters

abbrev pub comes_twice : ℕ → List ℕ → Bool
comes_twice letter [] = false
comes_twice letter (c ∷ cs) = if c == letter then list_any (λ d. d == letter) cs else comes_twice letter cs

abbrev pub some_comes_twice : List ℕ → Bool
some_comes_twice cs = list_any (λ letter. comes_twice letter cs) flag_letters

-- RegularExpressionFlags, of which each is one of these letters, and none comes twice
abbrev pub are_flags : List ℕ → Bool
are_flags cs = list_all is_flag cs && not (some_comes_twice cs)
