-- What some spellings stand for, and how some values are printed: for a reader of the definitions.
use Rattle.std.proofs.Common.{◌≡◌, true, false, codes, [], ◌∷◌, Some, None, refl}
use Rattle.jsgen_syntax.specs.Strings.{string_value, escaped_after, escaped, quote_cost, cheapest}
use Rattle.jsgen_syntax.specs.Escapes.{name_text, word_value}
use Rattle.jsgen_syntax.specs.Raw.{tag_free, tag_free_after, put_in, put_in_after, unmarked, template_text, pattern_text, raw_text_after, directive_value, directive_quote, first_quote}
use Rattle.jsgen_syntax.specs.Wtf8.{joined_units}
use Rattle.jsgen_syntax.specs.declared.quote.Quote.TheVariants.{Single, Double, Backtick}

short_escapes : string_value Single (codes "\\b\\t\\n\\v\\f\\r\\0\\a\\'\\\\") ≡ Some (8 ∷ 9 ∷ 10 ∷ 11 ∷ 12 ∷ 13 ∷ 0 ∷ 97 ∷ 39 ∷ 92 ∷ [])
unfolding string_value
short_escapes = refl

by_number : string_value Double (codes "\\x4f\\u004F\\u{4F}\\u{1F600}\\u{000000D800}") ≡ Some (79 ∷ 79 ∷ 79 ∷ 55357 ∷ 56832 ∷ 55296 ∷ [])
unfolding string_value
by_number = refl

too_large : string_value Double (codes "\\u{110000}") ≡ None
unfolding string_value
too_large = refl

no_digits : string_value Double (codes "\\u{}") ≡ None
unfolding string_value
no_digits = refl

zero_and_digit : string_value Double (codes "\\01") ≡ None
unfolding string_value
zero_and_digit = refl

other_digit : string_value Double (codes "\\8") ≡ None
unfolding string_value
other_digit = refl

line_continuations : string_value Single (97 ∷ 92 ∷ 13 ∷ 10 ∷ 98 ∷ 92 ∷ 8232 ∷ 99 ∷ 8233 ∷ 92 ∷ 13 ∷ 100 ∷ []) ≡ Some (97 ∷ 98 ∷ 99 ∷ 8233 ∷ 100 ∷ [])
unfolding string_value
line_continuations = refl

bare_line_end : string_value Single (97 ∷ 10 ∷ []) ≡ None
unfolding string_value
bare_line_end = refl

line_ends_in_backticks : string_value Backtick (10 ∷ 13 ∷ 10 ∷ 13 ∷ 97 ∷ []) ≡ Some (10 ∷ 10 ∷ 10 ∷ 97 ∷ [])
unfolding string_value
line_ends_in_backticks = refl

dollars : string_value Backtick (codes "$a\\${$\\{") ≡ Some (codes "$a${${")
unfolding string_value
dollars = refl

substitution : string_value Backtick (codes "a${") ≡ None
unfolding string_value
substitution = refl

bare_quote : string_value Single (codes "it's") ≡ None
unfolding string_value
bare_quote = refl

lone_backslash : string_value Single (codes "a\\") ≡ None
unfolding string_value
lone_backslash = refl

bare_surrogate : string_value Single (55296 ∷ []) ≡ None
unfolding string_value
bare_surrogate = refl

script : escaped Single false (codes "<</Script>it's \\ </scrip") ≡ codes "<<\\/Script>it\\'s \\\\ </scrip"
unfolding escaped_after joined_units
script = refl

opening : escaped Backtick false (codes "`${'") ≡ codes "\\`\\${'"
unfolding escaped_after joined_units
opening = refl

controls : escaped Double false (0 ∷ 49 ∷ 0 ∷ 7 ∷ 8 ∷ 9 ∷ 10 ∷ 11 ∷ 12 ∷ 13 ∷ 27 ∷ []) ≡ codes "\\x001\\0\\x07\\b\t\\n\\v\\f\\r\\x1B"
unfolding escaped_after joined_units
controls = refl

wide : escaped Double false (0xA0 ∷ 0xE9 ∷ 0x2028 ∷ 0x2029 ∷ 0xD83D ∷ 0xDE00 ∷ 0xD83D ∷ 0xDEAD ∷ 0xDEAD ∷ []) ≡ codes "\\xA0é\\u2028\\u2029😀🚭\\udead"
unfolding escaped_after joined_units
wide = refl

wide_as_ascii : escaped Double true (0xA0 ∷ 0xE9 ∷ 0x2028 ∷ 0xD83D ∷ 0xDE00 ∷ 0xD83D ∷ 97 ∷ 0xDBFF ∷ 0xDFFF ∷ []) ≡ codes "\\u00A0\\u00E9\\u2028\\u{1F600}\\ud83da\\u{10FFFF}"
unfolding escaped_after joined_units
wide_as_ascii = refl

names : name_text true (codes "aé𠀀") ≡ codes "a\\u00E9\\u{20000}"
names = refl

words : word_value (codes "a\\u00E9\\u{00020000}b") ≡ Some (codes "aé𠀀b")
unfolding word_value
words = refl

no_words : word_value (codes "a\\x41") ≡ None
unfolding word_value
no_words = refl

tags : tag_free (codes "</scrip<</SCRIPT></script") ≡ codes "</scrip<<\\/SCRIPT><\\/script"
unfolding tag_free_after
tags = refl

tags_back : unmarked (put_in (codes "</SCRIPT>")) (tag_free (codes "</SCRIPT>")) ≡ codes "</SCRIPT>"
unfolding tag_free_after put_in_after unmarked
tags_back = refl

pieces : template_text false true true (codes "\\$a\\${\\\\$\\\\\\$\\é\\\\é</script\\\u{2028}") ≡ codes "$a\\${\\\\$\\\\$\\u00E9\\\\\\u00E9<\\/script\\\n"
unfolding raw_text_after
pieces = refl

tagged : template_text true true true (codes "\\$é</script") ≡ codes "\\$é<\\/script"
unfolding raw_text_after
tagged = refl

patterns : pattern_text true (codes "\\é𠀀</script") ≡ codes "\\u00E9\\uD840\\uDC00</script"
unfolding raw_text_after
patterns = refl

directives : directive_value (codes "it's \\\"") ≡ Some (codes "it's \"")
unfolding string_value
directives = refl

in_single_quotes : directive_value (codes "a\"b") ≡ Some (codes "a\"b")
unfolding string_value
in_single_quotes = refl

in_no_quotes : directive_value (codes "'\"") ≡ None
unfolding string_value
in_no_quotes = refl

quotes : directive_quote Single (codes "it\\'s \"") ≡ Single
unfolding first_quote
quotes = refl

other_quotes : directive_quote Single (codes "it's \\\"") ≡ Double
unfolding first_quote
other_quotes = refl

lines_spare : cheapest true (34 ∷ 39 ∷ 96 ∷ 10 ∷ []) ≡ Backtick
unfolding quote_cost
lines_spare = refl

fewer : cheapest false (codes "say \"no\", it's") ≡ Single
unfolding quote_cost
fewer = refl

pairs : joined_units (55296 ∷ 55357 ∷ 56832 ∷ 56832 ∷ []) ≡ 55296 ∷ 128512 ∷ 56832 ∷ []
unfolding joined_units
pairs = refl
