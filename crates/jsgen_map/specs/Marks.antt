-- Marks of an output, and what a source map says of them.
use Rattle.std.specs.Prelude.{◌≡◌, ℕ, suc, ◌≤◌, List, [], ◌∷◌, ◌++◌, Bool, true, false, ◌==◌, ◌||◌, Option, None, Some, length, take, map, All, if◌then◌else◌}
use Rattle.std.specs.Str.{bytes_eq, IsUtf8}
use Rattle.jsgen_map.specs.declared.position.Position.{Position}
use Rattle.jsgen_map.specs.declared.source_map.Token.{Token}
use Rattle.jsgen_map.specs.LineColumn.{line_column}

-- how many bytes the output had, the offset in the source that stands there, and its name
pub record Mark : Type 0 where
  pub bytes : ℕ
  pub offset : ℕ
  pub name : Option (List ℕ)

-- ---- lists of marks

abbrev pub last_from : Option ℕ → List Mark → Option ℕ
last_from last [] = last
last_from last (m ∷ ms) = last_from (Some m.offset) ms

-- the offset of the last mark
abbrev pub last_offset : List Mark → Option ℕ
last_offset ms = last_from None ms

abbrev pub is_last : Option ℕ → ℕ → Bool
is_last None offset = false
is_last (Some last) offset = last == offset

abbrev pub unless_last : Bool → Mark → List Mark → List Mark
unless_last true m ms = ms
unless_last false m ms = ms ++ (m ∷ [])

-- one mark more, unless its offset is that of the last one
abbrev pub one_more : Mark → List Mark → List Mark
one_more m ms = unless_last (is_last (last_offset ms) m.offset) m ms

-- in the order of the output, none before so many bytes and none behind so many
abbrev pub Ordered : ℕ → List Mark → ℕ → Type 0
Ordered least [] most = least ≤ most
Ordered least (m ∷ ms) most = (least ≤ m.bytes) × Ordered m.bytes ms most

-- two neighbours have other offsets
abbrev pub OffsetsDiffer : Option ℕ → List Mark → Type 0
OffsetsDiffer last [] = Unit {0}
OffsetsDiffer last (m ∷ ms) = (is_last last m.offset ≡ false) × OffsetsDiffer (Some m.offset) ms

-- ---- names

abbrev pub is_among : List (List ℕ) → List ℕ → Bool
is_among [] w = false
is_among (v ∷ vs) w = bytes_eq v w || is_among vs w

abbrev pub with_name : List (List ℕ) → Option (List ℕ) → List (List ℕ)
with_name names None = names
with_name names (Some w) = if is_among names w then names else names ++ w ∷ []

-- each name once, in the order of first use
abbrev pub names_from : List (List ℕ) → List Mark → List (List ℕ)
names_from names [] = names
names_from names (m ∷ ms) = names_from (with_name names m.name) ms

abbrev pub number_from : ℕ → List (List ℕ) → List ℕ → Option ℕ
number_from n [] w = None
number_from n (v ∷ vs) w = if bytes_eq v w then Some n else number_from (suc n) vs w

abbrev pub number_of : List (List ℕ) → Option (List ℕ) → Option ℕ
number_of names None = None
number_of names (Some w) = number_from 0 names w

-- ---- a map

-- where a token stands, from both places
abbrev pub token_at : Position → Position → Option ℕ → Token
token_at generated source name = record {
  generated_line = generated.line;
  generated_column = generated.column;
  source_line = source.line;
  source_column = source.column;
  name = name;
}

-- of a mark: the end of the output that it had, as a text of its own, and its offset in the source
abbrev pub token_of : List (List ℕ) → List ℕ → List ℕ → Mark → Token
token_of names output source m = token_at (line_column (take m.bytes output) m.bytes) (line_column source m.offset) (number_of names m.name)

-- the tokens and names are those of the marks
pub record MapOf (output source : List ℕ) (marks : List Mark) (names : List (List ℕ)) (tokens : List Token) : Type 0 where
  pub ordered : Ordered 0 marks (length output)
  -- each stands at a character's end
  pub ends : All (λ (m : Mark). IsUtf8 (take m.bytes output)) marks
  pub parted : OffsetsDiffer None marks
  pub named : names ≡ names_from [] marks
  pub are : tokens ≡ map (token_of names output source) marks

-- what the source has there, where it is another text than what is printed
abbrev pub other_name : List ℕ → List ℕ → Option (List ℕ)
other_name was printed = if bytes_eq was printed then None else Some was

-- marks of a code, in its order and each at a character's end, of a source, and no two neighbours of one offset
pub record AreMarks (code source : List ℕ) (marks : List Mark) : Type 0 where
  pub ordered : Ordered 0 marks (length code)
  pub ends : All (λ (m : Mark). IsUtf8 (take m.bytes code)) marks
  pub parted : OffsetsDiffer None marks
  pub offsets : All (λ (m : Mark). m.offset ≤ length source) marks
