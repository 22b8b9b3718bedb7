-- Texts that are printed as they were written, but for what this file says: names, directives (ECMA-262, 11.2.1), pieces of templates (12.9.6) and patterns (12.9.5).
use Rattle.std.specs.Prelude.{ℕ, List, [], ◌∷◌, ◌++◌, Bool, true, false, not, ◌&&◌, ◌||◌, ◌==◌, Option, Some, None, if◌then◌else◌, codes, flat_map, take}
use Rattle.std.specs.Char.Escape.{encode_utf16}
use Rattle.std.specs.Option.{option_or}
use Rattle.std.specs.Str.{str_eq_ignore_ascii_case}
use Rattle.jsgen_syntax.specs.Escapes.{begins, begins_with, upper_digit, unit_escape, character_escape, is_past_ascii, name_text}
use Rattle.jsgen_syntax.specs.Strings.{begins_script, string_value}
use Rattle.jsgen_syntax.specs.declared.quote.Quote.{Quote}
use Rattle.jsgen_syntax.specs.declared.quote.Quote.TheVariants.{Single, Double, Backtick}
use Rattle.jsgen_syntax.specs.declared.escape.NonAsciiEscape.{NonAsciiEscape}
use Rattle.jsgen_syntax.specs.declared.escape.NonAsciiEscape.TheVariants as modes

-- ---- `</script`

-- the `/` of `</script` has a backslash before it
abbrev pub tag_character : Bool → ℕ → List ℕ → List ℕ
tag_character after_less c rest = if after_less && (c == 47) && begins_script rest then 92 ∷ c ∷ [] else c ∷ []

-- of characters that may stand behind a `<`
unfoldable pub tag_free_after : Bool → List ℕ → List ℕ
tag_free_after after_less [] = []
tag_free_after after_less (c ∷ cs) = tag_character after_less c cs ++ tag_free_after (c == 60) cs

-- the text with a backslash before the `/` of each `</script`, in any letter case
abbrev pub tag_free : List ℕ → List ℕ
tag_free text = tag_free_after false text

-- of each character of that text, whether it was put in
unfoldable pub put_in_after : Bool → List ℕ → List Bool
put_in_after after_less [] = []
put_in_after after_less (c ∷ cs) = (if after_less && (c == 47) && begins_script cs then true ∷ false ∷ [] else false ∷ []) ++ put_in_after (c == 60) cs

abbrev pub put_in : List ℕ → List Bool
put_in text = put_in_after false text

-- the characters that aren't marked
unfoldable pub unmarked : List Bool → List ℕ → List ℕ
unmarked (false ∷ marks) (c ∷ cs) = c ∷ unmarked marks cs
unmarked (true ∷ marks) (c ∷ cs) = unmarked marks cs
unmarked marks text = []

abbrev pub begins_close_tag : List ℕ → Bool
begins_close_tag text = str_eq_ignore_ascii_case (take 8 text) (codes "</script")

-- `</script` stands somewhere in the text, in any letter case
unfoldable pub holds_close_tag : List ℕ → Bool
holds_close_tag [] = false
holds_close_tag (c ∷ cs) = begins_close_tag (c ∷ cs) || holds_close_tag cs

-- ---- raw texts

-- what is changed in a raw text
pub record Raw : Type 0 where
  pub mode : NonAsciiEscape
  -- it is to be ASCII
  pub ascii : Bool
  -- a backslash before `$` is left out
  pub drops_backslash : Bool
  -- `</script` is escaped
  pub frees_tags : Bool

-- A character past ASCII, as an escape. Behind a backslash, which is left out, a line terminator is none: there a backslash and LF stand for nothing too
abbrev pub raw_escape : NonAsciiEscape → Bool → ℕ → List ℕ
raw_escape modes.RegExp escaped c = flat_map (unit_escape upper_digit) (encode_utf16 c)
raw_escape mode escaped c = if escaped && ((c == 0x2028) || (c == 0x2029)) then 92 ∷ 10 ∷ [] else character_escape c

-- `$` that no `{` follows
abbrev pub begins_with_dollar : List ℕ → Bool
begins_with_dollar [] = false
begins_with_dollar (c ∷ cs) = (c == 36) && not (begins_with 123 cs)

-- a backslash that isn't printed, though no other escapes it
abbrev pub is_left_out : Raw → List ℕ → Bool
is_left_out raw rest = (raw.ascii && begins is_past_ascii rest) || (raw.drops_backslash && begins_with_dollar rest)

abbrev pub raw_character : Raw → Bool → Bool → ℕ → List ℕ → List ℕ
raw_character raw escaped after_less c rest =
    if raw.ascii && is_past_ascii c then raw_escape raw.mode escaped c
    else (if (c == 92) && not escaped && is_left_out raw rest then []
    else tag_character (raw.frees_tags && after_less) c rest)

-- of characters that may be escaped by a backslash before them, and that may stand behind a `<`
unfoldable pub raw_text_after : Raw → Bool → Bool → List ℕ → List ℕ
raw_text_after raw escaped after_less [] = []
raw_text_after raw escaped after_less (c ∷ cs) = raw_character raw escaped after_less c cs ++ raw_text_after raw ((c == 92) && not escaped) (c == 60) cs

abbrev pub raw_text : Raw → List ℕ → List ℕ
raw_text raw text = raw_text_after raw false false text

abbrev pub is_template : NonAsciiEscape → Bool
is_template modes.TemplateRaw = true
is_template mode = false

-- characters past ASCII as escapes, by what the text is
abbrev pub non_ascii_escaped : NonAsciiEscape → List ℕ → List ℕ
non_ascii_escaped modes.Identifier text = name_text true text
non_ascii_escaped mode text = raw_text (record { mode = mode; ascii = true; drops_backslash = false; frees_tags = is_template mode }) text

-- Of a tagged piece the program can see the raw text, so there only `</script` is escaped
abbrev pub template_text : Bool → Bool → Bool → List ℕ → List ℕ
template_text tagged minify ascii text = raw_text (record { mode = modes.TemplateRaw; ascii = ascii && not tagged; drops_backslash = minify && not tagged; frees_tags = true }) text

abbrev pub directive_text : Bool → List ℕ → List ℕ
directive_text ascii text = raw_text (record { mode = modes.Directive; ascii = ascii; drops_backslash = false; frees_tags = false }) text

abbrev pub pattern_text : Bool → List ℕ → List ℕ
pattern_text ascii text = raw_text (record { mode = modes.RegExp; ascii = ascii; drops_backslash = false; frees_tags = false }) text

-- ---- directives

-- what a directive's raw text stands for (11.2.1): what it spells between `"` or, where it spells no string there, between `'` (12.9.4.2, SV)
abbrev pub directive_value : List ℕ → Option (List ℕ)
directive_value text = option_or (string_value Double text) (string_value Single text)

-- the first quote character, `'` or `"`, that no backslash escapes
unfoldable pub first_quote : Bool → List ℕ → Option Quote
first_quote escaped [] = None
first_quote escaped (c ∷ cs) =
    if not escaped && (c == 39) then Some Single
    else (if not escaped && (c == 34) then Some Double
    else first_quote ((c == 92) && not escaped) cs)

-- the quote of a directive: the one that is asked for, unless the text holds a quote, which chooses the other. A directive never stands in backticks: `"` is in their place
abbrev pub quote_beside : Quote → Option Quote → Quote
quote_beside Backtick None = Double
quote_beside wanted None = wanted
quote_beside wanted (Some Single) = Double
quote_beside wanted (Some other) = Single

abbrev pub directive_quote : Quote → List ℕ → Quote
directive_quote wanted text = quote_beside wanted (first_quote false text)
