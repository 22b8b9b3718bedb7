-- The marks of a source map, while a text is laid out.
use Rattle.std.specs.Prelude.{ℕ, ◌-◌, List, Bool, true, false, Option, Some, None, ◌&&◌, ◌||◌, ◌==◌, nat_lt, nat_le, length, not, if◌then◌else◌}
use Rattle.std.specs.Fmt.Cut.{floor_char_boundary}
use Rattle.std.specs.List.{last_or}
use Rattle.std.specs.Option.{option_map_or}
use Rattle.std.specs.Str.{encode_utf8_all}
use Rattle.jsgen_syntax.specs.declared.span.Span.{Span}
use Rattle.jsgen_map.specs.Marks.{Mark, one_more, other_name}
use Rattle.jsgen_map.specs.Plain.{source_text}
use Rattle.jsgen_model.specs.Spans.{spans_characters}

-- how many bytes a text takes in UTF-8
abbrev pub size : List ℕ → ℕ
size text = length (encode_utf8_all text)

-- ---- lists of marks

-- one more mark where the test holds
abbrev pub one_more_if : Bool → Mark → List Mark → List Mark
one_more_if true m ms = one_more m ms
one_more_if false m ms = ms

-- ---- what the source has

-- the bytes of a span of the source; none where it doesn't begin and end at characters of it
abbrev pub name_text_at : List ℕ → Span → Option (List ℕ)
name_text_at source span = if nat_le span.start span.end && spans_characters source span then Some (source_text source span) else None

-- what stood there, where it is another text than what is printed
abbrev pub other_than : Option (List ℕ) → List ℕ → Option (List ℕ)
other_than None printed = None
other_than (Some was) printed = other_name was (encode_utf8_all printed)

abbrev pub other_name_in : Option (List ℕ) → Span → List ℕ → Option (List ℕ)
other_name_in None span printed = None
other_name_in (Some source) span printed = other_than (name_text_at source span) printed

-- ---- which spans have marks, where the source is handed in

abbrev pub is_empty_span : Span → Bool
is_empty_span span = span.start == span.end

-- the span begins in the source, or at its end
abbrev pub has_start_mark : Option (List ℕ) → Span → Bool
has_start_mark None span = false
has_start_mark (Some source) span = not (is_empty_span span) && nat_le span.start (length source)

-- the last byte of the span lies in the source
abbrev pub has_end_mark : Option (List ℕ) → Span → Bool
has_end_mark None span = false
has_end_mark (Some source) span = not (is_empty_span span) && nat_le span.end (length source)

-- where the character begins that has the last byte of the span
abbrev pub end_offset : Option (List ℕ) → Span → ℕ
end_offset None span = 0
end_offset (Some source) span = floor_char_boundary source (span.end - 1)

-- a call or an index ends in this
abbrev pub closes_link : ℕ → Bool
closes_link c = (c == 41) || (c == 93)

abbrev pub ends_in_link : List ℕ → Bool
ends_in_link code = option_map_or closes_link (last_or None code) false

-- the span's end lies in the source, where it has more
abbrev pub has_link_mark : Option (List ℕ) → Span → List ℕ → Bool
has_link_mark None span code = false
has_link_mark (Some source) span code = not (is_empty_span span) && (ends_in_link code && nat_lt span.end (length source))
