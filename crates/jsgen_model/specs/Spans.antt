-- Spans of a source, which count its bytes in UTF-8.
use Rattle.std.specs.Prelude.{◌==◌, ℕ, ◌-◌, List, length, take, drop, slice_get, Bool, false, ◌&&◌, ◌||◌, nat_lt, nat_le}
use Rattle.std.specs.Option.{option_map_or}
use Rattle.std.specs.Str.{chars}
use Rattle.jsgen_syntax.specs.declared.span.Span.{Span}

-- no byte within a character of UTF-8 (RFC 3629)
abbrev pub begins_character : ℕ → Bool
begins_character b = nat_lt b 128 || nat_le 192 b

-- an offset in these bytes: their end, or where a character begins
abbrev pub is_offset : List ℕ → ℕ → Bool
is_offset bytes i = (i == length bytes) || option_map_or begins_character (slice_get bytes i) false

-- the span begins and ends at offsets in these bytes
abbrev pub spans_characters : List ℕ → Span → Bool
spans_characters bytes s = is_offset bytes s.start && is_offset bytes s.end

-- the characters that a span has in these bytes
abbrev pub text_at : List ℕ → Span → List ℕ
text_at bytes s = chars (take (s.end - s.start) (drop s.start bytes))
