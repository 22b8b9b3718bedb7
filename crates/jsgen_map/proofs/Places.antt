-- What the line round an offset tells of it.
use Rattle.std.proofs.Common.{◌≡◌, ℕ, suc, ◌+◌, ◌<◌, ◌≤◌, List, Option, Some, None, inl, inr, length, slice_get, sym, ◌∙◌, subst, arith, add-one}
use Rattle.std.specs.Option.{option_map_or}
use Rattle.std.proofs.lemmas.Option.{slice_get_cases}
use Rattle.jsgen_map.specs.declared.position.Position.{Position}
use Rattle.jsgen_map.specs.declared.tables.Line.{Line}
use Rattle.jsgen_map.specs.declared.tables.LineOffsetTables.{LineOffsetTables}
use Rattle.jsgen_map.specs.LineColumn.{line_column}
use Rattle.jsgen_map.specs.Lines.{answer_of, start_of, IsBetween}
use Rattle.jsgen_map.specs.Tables.{TablesOf}

-- before the next line, or at or before the end where there is none
before_next : (o : Option Line) (n end : ℕ) → n < option_map_or (λ (line : Line). line.start) o (suc n) → n ≤ end → n < option_map_or (λ (line : Line). line.start) o (suc end)
before_next None n end h l = omega arith
before_next (Some line) n end h l = h

-- there is a line of each number up to their count
pub record There (lines : List Line) (k : ℕ) : Type 0 where
  pub line : Line
  pub is : slice_get lines k ≡ Some line

pub there : (lines : List Line) (k : ℕ) → k < length lines → There lines k
there lines k l = elim (slice_get_cases lines k).1 [ inl w ↦ record { line = w.0; is = w.2 } | inr w ↦ absurd (omega arith) ]

pub place_of : (t : LineOffsetTables) (source : List ℕ) (k n : ℕ) (answer : Position) → TablesOf t source → IsBetween t.lines.items k (k + 1) n → n ≤ length source → ((line : Line) → slice_get t.lines.items k ≡ Some line → answer ≡ answer_of t.column_offsets.items k line n) → answer ≡ line_column source n
place_of t source k n answer tables between l says =
    let h = there t.lines.items k (omega arith) in
    let starts : h.line.start ≤ n = subst (λ o. option_map_or (λ (line : Line). line.start) o (suc n) ≤ n) h.is between.behind in
    let next : n < start_of t.lines.items (suc k) (suc n) = subst (λ i. n < start_of t.lines.items i (suc n)) (add-one k) between.before in
    says h.line h.is ∙ sym (tables.answers k h.line h.is n starts (before_next (slice_get t.lines.items (suc k)) n (length source) next l))
