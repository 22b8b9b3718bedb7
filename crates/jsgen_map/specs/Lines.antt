-- The lines of a source, as they are kept.
use Rattle.std.specs.Prelude.{◌≡◌, ℕ, suc, ◌-◌, ◌<◌, ◌≤◌, nat_lt, List, [], ◌∷◌, ◌++◌, Option, None, Some, length, slice_index, slice_get, if◌then◌else◌}
use Rattle.std.specs.Option.{option_map_or, option_and_then}
use Rattle.jsgen_map.specs.declared.position.Position.{Position}
use Rattle.jsgen_map.specs.declared.tables.ColumnOffsets.{ColumnOffsets}
use Rattle.jsgen_map.specs.declared.tables.Line.{Line}
use Rattle.jsgen_map.specs.LineColumn.{at}

-- the column of an offset from its line's start: up to the table each byte is a unit
abbrev pub column_in : Option ColumnOffsets → ℕ → ℕ
column_in None n = n
column_in (Some t) n = if nat_lt n t.first then n else slice_index t.columns.items (n - t.first)

-- the table of a line, where it has one
abbrev pub table_of : List ColumnOffsets → Line → Option ColumnOffsets
table_of tables line = option_and_then (λ k. slice_get tables k) line.columns

-- what a line of this number says of an offset
abbrev pub answer_of : List ColumnOffsets → ℕ → Line → ℕ → Position
answer_of tables k line n = at k (column_in (table_of tables line) (n - line.start))

-- where the line of a number starts, and `end` where there is no such line
abbrev pub start_of : List Line → ℕ → ℕ → ℕ
start_of lines k end = option_map_or (λ (line : Line). line.start) (slice_get lines k) end

-- the offset stands behind the start of the one line and before that of the other, which may be the end
pub record IsBetween (lines : List Line) (low high n : ℕ) : Type 0 where
  pub apart : low < high
  pub within : high ≤ length lines
  pub behind : start_of lines low (suc n) ≤ n
  pub before : n < start_of lines high (suc n)

-- a table was added, where there is one, and this is its number
abbrev pub IsAdded : List ColumnOffsets → Option ColumnOffsets → List ColumnOffsets → Option ℕ → Type 0
IsAdded old None new number = (new ≡ old) × (number ≡ None)
IsAdded old (Some t) new number = (new ≡ old ++ t ∷ []) × (number ≡ Some (length old))
