-- Marks as plain data, and the marks of names.
use Rattle.std.specs.Prelude.{ℕ, ◌-◌, ◌≤◌, List, Option, length, take, drop, ◌==◌, if◌then◌else◌}
use Rattle.std.specs.Option.{option_copied}
use Rattle.std.specs.Str.{IsCharBoundary}
use denote.Ref.{Bor}
use Rattle.jsgen_syntax.specs.declared.span.Span.{Span}
use Rattle.jsgen_map.specs.declared.source_map.Mark as declared
use Rattle.jsgen_map.specs.Marks.{Mark, one_more, other_name}

abbrev pub mark_plain : declared.Mark → Mark
mark_plain m = record { bytes = m.bytes; offset = m.offset; name = option_copied m.name }

-- at the end of an output
abbrev pub mark_at : List ℕ → ℕ → Option (Bor (List ℕ)) → Mark
mark_at output offset name = record { bytes = length output; offset = offset; name = option_copied name }

-- a span of the source, from a character's end to a character's end
pub record IsSpanOf (source : List ℕ) (span : Span) : Type 0 where
  pub ordered : span.start ≤ span.end
  pub begins : IsCharBoundary source span.start
  pub ends : IsCharBoundary source span.end

abbrev pub source_text : List ℕ → Span → List ℕ
source_text source span = take (span.end - span.start) (drop span.start source)

-- one mark more for a name that is printed, unless its span is empty
abbrev pub with_name_mark : List ℕ → List ℕ → Span → List ℕ → List Mark → List Mark
with_name_mark source output span printed marks = if span.start == span.end then marks
    else one_more (record { bytes = length output; offset = span.start; name = other_name (source_text source span) printed }) marks
