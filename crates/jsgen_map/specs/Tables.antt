-- What the tables of a source answer.
use Rattle.std.specs.Prelude.{◌≡◌, ℕ, suc, ◌<◌, ◌≤◌, List, Some, length, slice_get}
use Rattle.jsgen_map.specs.declared.position.Position.{Position}
use Rattle.jsgen_map.specs.declared.tables.Line.{Line}
use Rattle.jsgen_map.specs.declared.tables.LineOffsetTables.{LineOffsetTables}
use Rattle.jsgen_map.specs.LineColumn.{line_column}
use Rattle.jsgen_map.specs.Lines.{answer_of, start_of}

-- each line tells the place of every offset from its start up to the next line's, and the last one up to the source's end
pub record TablesOf (t : LineOffsetTables) (source : List ℕ) : Type 0 where
  pub answers : (k : ℕ) (line : Line) → slice_get t.lines.items k ≡ Some line → (n : ℕ) → line.start ≤ n → n < start_of t.lines.items (suc k) (suc (length source)) → line_column source n ≡ answer_of t.column_offsets.items k line n

-- the answer for an offset that lies within the source is its place
abbrev pub Answers : LineOffsetTables → ℕ → Position → Type 0
Answers t n answer = (source : List ℕ) → TablesOf t source → n ≤ length source → answer ≡ line_column source n
