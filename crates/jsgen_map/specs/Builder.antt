-- What a builder stands for.
use Rattle.std.specs.Prelude.{◌≡◌, ℕ, ◌≤◌, List, Option, None, length, take, string_bytes}
use denote.Ref.{Bor}
use Rattle.jsgen_map.specs.declared.builder.SourcemapBuilder.{SourcemapBuilder}
use Rattle.jsgen_map.specs.declared.count.Count.{Count}
use Rattle.jsgen_map.specs.declared.source_map.SourceMap.{SourceMap}
use Rattle.jsgen_map.specs.declared.source_map.Token.{Token}
use Rattle.jsgen_map.specs.declared.tables.LineOffsetTables.{LineOffsetTables}
use Rattle.jsgen_map.specs.Count.{counted}
use Rattle.jsgen_map.specs.Marks.{Mark, MapOf, last_from}
use Rattle.jsgen_map.specs.Names.{texts, NumbersOf}
use Rattle.jsgen_map.specs.Tables.{TablesOf}

-- what matters of a builder
pub record Built : Type 0 where
  pub path : List ℕ
  pub source : List ℕ
  pub tables : LineOffsetTables
  pub names : List (List ℕ)
  pub numbers : List (Bor (List ℕ) × ℕ)
  pub tokens : List Token
  pub counted : ℕ
  pub count : Count
  pub last : Option ℕ

abbrev pub built : SourcemapBuilder → Built
built b = record {
  path = string_bytes b.source_name;
  source = b.source.now;
  tables = b.tables;
  names = texts b.names.items;
  numbers = b.numbers.entries;
  tokens = b.tokens.items;
  counted = b.counted;
  count = b.count;
  last = b.last;
}

-- its names and tokens are those of the marks of an output, of which it has counted the lines and columns of a first part
pub record StandsFor (b : SourcemapBuilder) (output : List ℕ) (marks : List Mark) : Type 0 where
  pub map : MapOf output (built b).source marks (built b).names (built b).tokens
  pub last : (built b).last ≡ last_from None marks
  pub within : (built b).counted ≤ length output
  pub count : (built b).count ≡ counted (take (built b).counted output)
  pub tables : TablesOf (built b).tables (built b).source
  pub numbers : NumbersOf (built b).names (built b).numbers

-- where the old builder stands for the marks of an output with which this one begins, the new one stands for this output and the changed marks
abbrev pub AddsMarks : SourcemapBuilder → SourcemapBuilder → List ℕ → (List Mark → List Mark) → Type 0
AddsMarks old new output change = (earlier : List ℕ) (marks : List Mark) → StandsFor old earlier marks → take (length earlier) output ≡ earlier → StandsFor new output (change marks)

-- nothing of the builder has changed but maybe the room that it has
abbrev pub IsUnchanged : SourcemapBuilder → SourcemapBuilder → Type 0
IsUnchanged old new = built new ≡ built old

-- it is still that of the same source under the same path
pub record IsOfSameSource (old new : SourcemapBuilder) : Type 0 where
  pub path : (built new).path ≡ (built old).path
  pub source : (built new).source ≡ (built old).source

abbrev pub path_of : SourcemapBuilder → List ℕ
path_of b = (built b).path

abbrev pub source_of : SourcemapBuilder → List ℕ
source_of b = (built b).source

-- how many bytes of the output were counted
abbrev pub counted_bytes : SourcemapBuilder → ℕ
counted_bytes b = (built b).counted

-- the map is that of the marks which the builder stands for
abbrev pub IsMapOf : SourcemapBuilder → SourceMap → Type 0
IsMapOf b m = (output : List ℕ) (marks : List Mark) → StandsFor b output marks → MapOf output m.source_content.now marks (texts m.names.items) m.tokens.items
