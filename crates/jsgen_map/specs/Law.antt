-- Examples that compute, and what the machine over bytes counts.
use Rattle.std.specs.Prelude.{◌≡◌, ℕ, List, [], ◌∷◌, Option, None, Some, length, map, codes}
use Rattle.std.specs.Str.{IsUtf8}
use Rattle.jsgen_syntax.specs.declared.span.Span.{Span}
use Rattle.jsgen_map.specs.declared.position.Position.{Position}
use Rattle.jsgen_map.specs.Count.{counted}
use Rattle.jsgen_map.specs.LineColumn.{at, line_column}
use Rattle.jsgen_map.specs.Marks.{Mark, names_from, one_more, token_at, token_of}
use Rattle.jsgen_map.specs.Plain.{with_name_mark}

abbrev pub places_of : List ℕ → List ℕ → List Position
places_of text offsets = map (line_column text) offsets

-- of texts in UTF-8
pub record WorkedOffsets : Type 0 where
  -- `Ö`, CR, LF and `a`: between CR and LF the line goes on
  pub return_and_feed : places_of (195 ∷ 150 ∷ 13 ∷ 10 ∷ 97 ∷ []) (0 ∷ 1 ∷ 2 ∷ 3 ∷ 4 ∷ 5 ∷ []) ≡ at 0 0 ∷ at 0 0 ∷ at 0 1 ∷ at 0 2 ∷ at 1 0 ∷ at 1 1 ∷ []
  -- in any order
  pub feeds : places_of (codes "\na\nb") (4 ∷ 0 ∷ 1 ∷ 2 ∷ 3 ∷ []) ≡ at 2 1 ∷ at 0 0 ∷ at 1 0 ∷ at 1 1 ∷ at 2 0 ∷ []
  -- CR by itself, and two of them
  pub returns : places_of (13 ∷ 97 ∷ 13 ∷ 13 ∷ []) (0 ∷ 1 ∷ 2 ∷ 3 ∷ 4 ∷ []) ≡ at 0 0 ∷ at 1 0 ∷ at 1 1 ∷ at 2 0 ∷ at 3 0 ∷ []
  -- `a`, U+2028, `b`, U+2029
  pub separators : places_of (97 ∷ 226 ∷ 128 ∷ 168 ∷ 98 ∷ 226 ∷ 128 ∷ 169 ∷ []) (1 ∷ 2 ∷ 3 ∷ 4 ∷ 5 ∷ 7 ∷ 8 ∷ []) ≡ at 0 1 ∷ at 0 1 ∷ at 0 1 ∷ at 1 0 ∷ at 1 1 ∷ at 1 1 ∷ at 2 0 ∷ []
  -- U+1F600 has four bytes and two units
  pub units : places_of (240 ∷ 159 ∷ 152 ∷ 128 ∷ 97 ∷ []) (0 ∷ 3 ∷ 4 ∷ 5 ∷ []) ≡ at 0 0 ∷ at 0 0 ∷ at 0 2 ∷ at 0 3 ∷ []

abbrev pub mark : ℕ → ℕ → Option (List ℕ) → Mark
mark bytes offset name = record { bytes = bytes; offset = offset; name = name }

abbrev pub span : ℕ → ℕ → Span
span start end = record { start = start; end = end }

-- the source `ab` is printed as `ac`
abbrev pub renamed_marks : List Mark
renamed_marks = with_name_mark (codes "ab") (codes "a") (span 1 2) (codes "c") (with_name_mark (codes "ab") [] (span 0 1) (codes "a") [])

pub record WorkedMarks : Type 0 where
  -- a name that is printed as it was has none in the map
  pub renamed : renamed_marks ≡ mark 0 0 None ∷ mark 1 1 (Some (codes "b")) ∷ []
  pub renamed_names : names_from [] renamed_marks ≡ codes "b" ∷ []
  pub renamed_tokens : map (token_of (codes "b" ∷ []) (codes "ac") (codes "ab")) renamed_marks ≡ token_at (at 0 0) (at 0 0) None ∷ token_at (at 0 1) (at 0 1) (Some 0) ∷ []
  -- private names: `#a#b` is printed as `#a#c`
  pub private : with_name_mark (codes "#a#b") (codes "#a") (span 2 4) (codes "#c") (with_name_mark (codes "#a#b") [] (span 0 2) (codes "#a") []) ≡ mark 0 0 None ∷ mark 2 2 (Some (codes "#b")) ∷ []
  -- an empty span gives no mark, and the last one's offset none
  pub empty : with_name_mark (codes "ab") [] (span 1 1) (codes "c") [] ≡ []
  pub again : one_more (mark 2 1 (Some (codes "b"))) (mark 0 1 None ∷ []) ≡ mark 0 1 None ∷ []
  -- another offset may come back
  pub back : one_more (mark 0 0 None) (one_more (mark 0 1 None) []) ≡ mark 0 1 None ∷ mark 0 0 None ∷ []
  -- each name once
  pub names : names_from [] (mark 0 0 (Some (codes "b")) ∷ mark 1 1 (Some (codes "a")) ∷ mark 2 2 (Some (codes "b")) ∷ []) ≡ codes "b" ∷ codes "a" ∷ []

-- what is counted over the bytes of a text is the place of its end
abbrev pub CountsPlaces : Type 0
CountsPlaces = (text : List ℕ) → IsUtf8 text → (counted text).place ≡ line_column text (length text)
