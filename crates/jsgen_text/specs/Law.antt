-- What is promised of the texts that are printed.
use Rattle.std.specs.Prelude.{◌≡◌, ◌≤◌, ℕ, List, length, Bool, true, false, ◌||◌, not, Some}
use Rattle.std.specs.List.{list_all}
use Rattle.jsgen_syntax.specs.declared.quote.Quote.{Quote}
use Rattle.jsgen_syntax.specs.declared.quote.Quote.TheVariants.{Single, Double}
use Rattle.jsgen_syntax.specs.Escapes.{name_text}
use Rattle.jsgen_syntax.specs.Raw.{tag_free, put_in, unmarked, holds_close_tag, directive_text, template_text, pattern_text, directive_value, directive_quote}
use Rattle.jsgen_syntax.specs.Strings.{string_value, escaped, quoted, is_backtick, cheapest}
use Rattle.jsgen_syntax.specs.Units.{are_units}
use Rattle.jsgen_strings.specs.Points.{is_point, are_ascii}

-- every string is the value of the text between its quotes, whether the text is to be ASCII or not
abbrev pub PrintedLiteralHasItsValue : Type 0
PrintedLiteralHasItsValue = (q : Quote) (ascii : Bool) (us : List ℕ) → are_units us ≡ true → string_value q (escaped q ascii us) ≡ Some us

-- the text in the cheapest quote is no longer than in another, which may be a backtick only where these are allowed
abbrev pub CheapestIsShortest : Type 0
CheapestIsShortest = (backticks : Bool) (q : Quote) (ascii : Bool) (us : List ℕ) → are_units us ≡ true → (backticks || not (is_backtick q)) ≡ true → length (quoted (cheapest backticks us) ascii us) ≤ length (quoted q ascii us)

-- a text that is to be ASCII is ASCII
pub record AsciiTextIsAscii : Type 0 where
  -- a string with its quotes, by its units
  pub string : (q : Quote) (us : List ℕ) → are_ascii (quoted q true us) ≡ true
  -- the others by their characters
  pub name : (name : List ℕ) → are_ascii (name_text true name) ≡ true
  pub directive : (raw : List ℕ) → are_ascii (directive_text true raw) ≡ true
  -- a piece of a template that isn't tagged, whether its text is minified or not
  pub template : (minify : Bool) (raw : List ℕ) → are_ascii (template_text false minify true raw) ≡ true
  -- a pattern of code points
  pub pattern : (pattern : List ℕ) → list_all is_point pattern ≡ true → are_ascii (pattern_text true pattern) ≡ true

-- a directive stands for one value
pub record DirectiveHasOneValue : Type 0 where
  -- in each quote that spells it
  pub agree : (raw us vs : List ℕ) → string_value Double raw ≡ Some us → string_value Single raw ≡ Some vs → us ≡ vs
  -- in the quote that is printed, whatever quote is asked for; and no value where neither quote spells one
  pub chosen : (wanted : Quote) (raw : List ℕ) → string_value (directive_quote wanted raw) raw ≡ directive_value raw
  -- there as it is printed, whether the text is to be ASCII or not
  pub printed : (wanted : Quote) (ascii : Bool) (raw us : List ℕ) → directive_value raw ≡ Some us → string_value (directive_quote wanted raw) (directive_text ascii raw) ≡ Some us

-- without the backslashes that were put in the text is as it was
abbrev pub BackslashesTakenOut : Type 0
BackslashesTakenOut = (text : List ℕ) → unmarked (put_in text) (tag_free text) ≡ text

-- and with them no `</script` stands in it
abbrev pub NoTagCloses : Type 0
NoTagCloses = (text : List ℕ) → holds_close_tag (tag_free text) ≡ false
