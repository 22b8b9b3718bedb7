-- What is known while the lines of a source are read.
use Rattle.std.specs.Prelude.{◌≡◌, ℕ, suc, ◌+◌, ◌<◌, ◌≤◌, List, Option, None, Some, length, slice_index}
use Rattle.std.specs.Str.{chars}
use denote.Ref.{Bor}
use Rattle.jsgen_strings.specs.Points.{ArePoints}
use Rattle.jsgen_map.specs.declared.lines.ReadColumns.{ReadColumns}
use Rattle.jsgen_map.specs.declared.lines.ReadLine.{ReadLine}
use Rattle.jsgen_map.specs.LineColumn.{at, position}
use Rattle.jsgen_map.specs.Lines.{column_in}

-- behind the first `len` bytes the count goes on in the same line, from this column
pub record GoesOn (first : ℕ) (bytes : List ℕ) (len column : ℕ) (rest : List ℕ) : Type 0 where
  pub points : ArePoints rest
  pub size : len + length rest ≡ length bytes
  pub next : (l n : ℕ) → position (at l first) (chars bytes) (len + n) ≡ position (at l column) (chars rest) n

-- behind them a new line begins
pub record Closes (first : ℕ) (bytes : List ℕ) (len : ℕ) (rest : List ℕ) : Type 0 where
  pub points : ArePoints rest
  pub size : len + length rest ≡ length bytes
  pub some : 0 < len
  pub next : (l n : ℕ) → position (at l first) (chars bytes) (len + n) ≡ position (at (suc l) 0) (chars rest) n

-- a run at a line's start whose bytes are a character and a unit each
pub record IsPlainRun (bytes : List ℕ) (len : ℕ) (rest : List ℕ) : Type 0 where
  pub shown : (l n : ℕ) → n ≤ len → position (at l 0) (chars bytes) n ≡ at l n
  pub on : GoesOn 0 bytes len len rest

-- the columns of the first offsets of a text that begins at column `first`
abbrev pub AreColumns : ℕ → List ℕ → List ℕ → Type 0
AreColumns first bytes columns = (l n : ℕ) → n < length columns → position (at l first) (chars bytes) n ≡ at l (slice_index columns n)

-- the offsets up to here are the line's; one more than there are bytes where nothing follows
abbrev pub EndsAt : ℕ → List ℕ → ℕ → Option (Bor (List ℕ)) → Type 0
EndsAt first bytes len None = len ≡ suc (length bytes)
EndsAt first bytes len (Some rest) = Closes first bytes len rest.now

pub record ReadsColumns (first : ℕ) (bytes : List ℕ) (read : ReadColumns) : Type 0 where
  pub columns : AreColumns first bytes read.columns.items
  pub ends : EndsAt first bytes (length read.columns.items) read.rest

pub record ReadsLine (bytes : List ℕ) (line : ReadLine) : Type 0 where
  pub shown : (l n : ℕ) → n < line.offsets → position (at l 0) (chars bytes) n ≡ at l (column_in line.columns n)
  pub ends : EndsAt 0 bytes line.offsets line.rest
