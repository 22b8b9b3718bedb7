-- What a source map says to those who use it.
use Rattle.std.specs.Prelude.{◌≡◌, ◌≢◌, ◌⊎◌, ℕ, ◌<◌, ◌≤◌, List, ◌++◌, map, slice_get, true, false, Option, Some, option_and_then, All, AllPairs, Contains, IsUtf8, encode_utf8_all}
use Rattle.std.specs.Option.{IfSome}
use Rattle.jsgen_tree.specs.Job.{JobData}
use Rattle.jsgen_place.specs.Place.{among_statements}
use Rattle.jsgen_map.specs.declared.position.Position.{Position}
use Rattle.jsgen_map.specs.declared.source_map.Token.{Token}
use Rattle.jsgen_map.specs.LineColumn.{at}
use Rattle.jsgen_map.specs.Marks.{Mark, MapOf, is_last}
use Rattle.jsgen_model.specs.Items.{Items}
use Rattle.jsgen_model.specs.Marks.{name_text_at, has_start_mark}
use Rattle.jsgen_model.specs.Layout.{Pen}
use Rattle.jsgen_model.specs.Lay.{lay}
use Rattle.jsgen_model.specs.Spell.{spell, text_bytes}
use Rattle.jsgen_model.specs.Mapped.{mapped_pen, marks_of, names_in, source_bytes, tokens_in}
use Rattle.jsgen_map_laws.specs.Printed.{PrintedName, printed_names}

-- ---- names are those of the source

-- the source has this text at the span of a name, which is printed as another
pub record StoodFor (source : List ℕ) (printed : PrintedName) (text : List ℕ) : Type 0 where
  pub stood : name_text_at source printed.span ≡ Some text
  pub renamed : encode_utf8_all printed.text ≢ text

-- of the names that are printed, one is printed where the mark stands, its span begins where the mark leads, and there the source has this
pub record IsNameOf (source : List ℕ) (names : List PrintedName) (m : Mark) (text : List ℕ) : Type 0 where
  pub printed : PrintedName
  pub among : Contains names printed
  pub stands : printed.bytes ≡ m.bytes
  pub leads : printed.span.start ≡ m.offset
  pub was : StoodFor source printed text

-- marks behind those that there were, and each name that one of them has is such
pub record AddsNamesOf (source : List ℕ) (names : List PrintedName) (old new : Pen) : Type 0 where
  pub more : List Mark
  pub marks : new.marks ≡ old.marks ++ more
  pub named : All (λ (m : Mark). IfSome m.name (IsNameOf source names m)) more

abbrev pub NamesAreOfTheSource : Type 0
NamesAreOfTheSource = (items : Items) (pen : Pen) (source : List ℕ) → pen.style.source ≡ Some source → AddsNamesOf source (printed_names items pen) pen (lay items pen)

-- a name that is printed leaves a mark: its span isn't empty and begins in the source, and the mark before it leads elsewhere
pub record IsMarked (source : List ℕ) (printed : PrintedName) : Type 0 where
  pub begins : has_start_mark (Some source) printed.span ≡ true
  pub elsewhere : is_last printed.last printed.span.start ≡ false

-- that mark, with what the source has
abbrev pub mark_of : PrintedName → List ℕ → Mark
mark_of printed text = record { bytes = printed.bytes; offset = printed.span.start; name = Some text }

-- no name is missing: each of these that the source has another text for, and that leaves a mark, leaves one with this text
abbrev pub HasMarksOf : List ℕ → List PrintedName → Pen → Type 0
HasMarksOf source names pen = (printed : PrintedName) (text : List ℕ) → Contains names printed → StoodFor source printed text → IsMarked source printed → Contains pen.marks (mark_of printed text)

abbrev pub NamesAreKept : Type 0
NamesAreKept = (items : Items) (pen : Pen) (source : List ℕ) → pen.style.source ≡ Some source → HasMarksOf source (printed_names items pen) (lay items pen)

-- ---- names of tokens

-- the name that a token has, by its number
abbrev pub name_of : List (List ℕ) → Token → Option (List ℕ)
name_of names t = option_and_then (λ n. slice_get names n) t.name

-- each token of a map has the name of its mark
abbrev pub TokensHaveNames : Type 0
TokensHaveNames = (output source : List ℕ) (marks : List Mark) (names : List (List ℕ)) (tokens : List Token) → MapOf output source marks names tokens → map (name_of names) tokens ≡ map (λ (m : Mark). m.name) marks

-- ---- of a job's map

-- the names that a job's program prints
abbrev pub names_of_program : JobData → List PrintedName
names_of_program job = printed_names (spell job.program among_statements) (mapped_pen job)

-- one of these names stands for it
pub record IsNameOfMap (job : JobData) (text : List ℕ) : Type 0 where
  pub printed : PrintedName
  pub among : Contains (names_of_program job) printed
  pub was : StoodFor (source_bytes job) printed text

-- each of its names is such, none is missing, and each token has that of its mark
pub record NamesOfMap (job : JobData) : Type 0 where
  pub are : All (IsNameOfMap job) (names_in job)
  pub kept : (printed : PrintedName) (text : List ℕ) → Contains (names_of_program job) printed → StoodFor (source_bytes job) printed text → IsMarked (source_bytes job) printed → Contains (names_in job) text
  pub theirs : map (name_of (names_in job)) (tokens_in job) ≡ map (λ (m : Mark). m.name) (marks_of job)

abbrev pub NamesOfMapsAreOfTheSource : Type 0
NamesOfMapsAreOfTheSource = (job : JobData) → NamesOfMap job

-- ---- tokens stand in the order of the text

-- a place isn't behind another: its line comes before, or it is the same and its column isn't behind
abbrev pub IsUpTo : Position → Position → Type 0
IsUpTo p q = (p.line < q.line) ⊎ ((p.line ≡ q.line) × (p.column ≤ q.column))

-- where a token stands in the text
abbrev pub place_of : Token → Position
place_of t = at t.generated_line t.generated_column

-- of any two tokens, the earlier one's place in the text isn't behind the later one's
abbrev pub Rise : List Token → Type 0
Rise tokens = AllPairs (λ s t. IsUpTo (place_of s) (place_of t)) tokens

abbrev pub PositionsRise : Type 0
PositionsRise = (output source : List ℕ) (marks : List Mark) (names : List (List ℕ)) (tokens : List Token) → MapOf output source marks names tokens → Rise tokens

-- of a job whose text is in UTF-8, as each is that is built
abbrev pub PositionsOfMapsRise : Type 0
PositionsOfMapsRise = (job : JobData) → IsUtf8 (text_bytes job) → Rise (tokens_in job)
