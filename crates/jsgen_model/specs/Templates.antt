-- What the raw text of a piece of a template is, and what it stands for (ECMA-262, 12.9.6).
use Rattle.std.specs.Prelude.{ℕ, List, [], ◌∷◌, Bool, true, false, not, ◌&&◌, ◌==◌, Option, Some, None, if◌then◌else◌}
use Rattle.std.specs.Str.{bytes_eq}
use Rattle.jsgen_syntax.specs.Escapes.{begins_with}
use Rattle.jsgen_syntax.specs.Strings.{string_value}
use Rattle.jsgen_syntax.specs.declared.quote.Quote.TheVariants.{Backtick}

abbrev mutual
  -- TemplateCharacters: a backtick and a `$` before `{` stand only behind a backslash, and a line that ends in CR ends in LF here (TRV)
  pub is_raw : List ℕ → Bool
  is_raw [] = true
  is_raw (c ∷ cs) = if c == 92 then is_escaped cs else (not (c == 13) && (not (c == 96) && (not ((c == 36) && begins_with 123 cs) && is_raw cs)))

  -- what stands behind a backslash: TemplateEscapeSequence, NotEscapeSequence or a line end
  pub is_escaped : List ℕ → Bool
  is_escaped [] = false
  is_escaped (c ∷ cs) = not (c == 13) && is_raw cs

-- these units, or none
abbrev pub are_same : Option (List ℕ) → Option (List ℕ) → Bool
are_same None None = true
are_same (Some us) (Some vs) = bytes_eq us vs
are_same us vs = false

-- what the raw text stands for (TV): nothing where NotEscapeSequence stands in it
abbrev pub is_cooked : List ℕ → Option (List ℕ) → Bool
is_cooked raw units = are_same (string_value Backtick raw) units
