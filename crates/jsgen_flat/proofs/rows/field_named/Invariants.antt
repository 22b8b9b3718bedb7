-- A search through the fields of a row.
use Rattle.std.proofs.Common.{◌≡◌, ◌+◌, map, drop}
use Rattle.jsgen_flat.specs.Views.{field_plain, given_by, sections}
use Rattle.jsgen_flat.proofs.rows.field_named.Given as goal

-- the fields left give the whole
abbrev pub invariant-loop-index : goal.invariant-loop-index
invariant-loop-index l = given_by (sections l.job) l.name (l.begin + 3 + l.index) (map field_plain (drop l.index l.fields)) ≡ given_by (sections l.job) l.name (l.begin + 3) (map field_plain l.fields)
