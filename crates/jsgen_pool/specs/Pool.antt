-- Rows by their number: each still there, or a child of an earlier place already.
use Rattle.std.specs.Prelude.{◌≡◌, ℕ, List, map, Option, Some, None, Result, Ok, Err, slice_get, slice_set, if◌then◌else◌, ◌++◌, codes, decimal}
use Rattle.jsgen_tree.specs.Tree.{Tree, type_of}
use Rattle.jsgen_tree.specs.Sets.{in_set}
use Rattle.jsgen_tree.specs.declared.types.NodeType.{NodeType}
use Rattle.jsgen_tree.specs.declared.types.NodeSet.{NodeSet}
use Rattle.jsgen_pool.specs.declared.Kept.{Kept}
use Rattle.jsgen_pool.specs.declared.Kept.TheVariants as kept
use Rattle.jsgen_pool.specs.declared.TakeFault.{TakeFault}
use Rattle.jsgen_pool.specs.declared.TakeFault.TheVariants.{Absent, Taken}

-- a row: its tree, or its type alone where it is a child already
pub data Entry : Type 0 where
  there : Tree → Entry
  taken : NodeType → Entry

abbrev pub entry : {R : Type 0} → (R → Tree) → Kept R → Entry
entry plain (kept.There row) = there (plain row)
entry plain (kept.Taken type) = taken type

abbrev pub entries : {R : Type 0} → (R → Tree) → List (Kept R) → List Entry
entries plain rows = map (entry plain) rows

abbrev pub entry_type : Entry → NodeType
entry_type (there t) = type_of t
entry_type (taken type) = type

-- what is taken, and the rows then
abbrev pub Took : Type 0
Took = Result (Tree × List Entry) TakeFault

abbrev pub take_entry : ℕ → Entry → List Entry → Took
take_entry c (there t) rows = Ok (t, slice_set rows c (taken (type_of t)))
take_entry c (taken type) rows = Err (Taken c)

abbrev pub take_found : NodeSet → ℕ → Option Entry → List Entry → Took
take_found s c None rows = Err Absent
take_found s c (Some e) rows = if in_set s (entry_type e) then take_entry c e rows else Err Absent

-- the row of number c, as a child that is of the set s
abbrev pub take_row : NodeSet → ℕ → List Entry → Took
take_row s c rows = take_found s c (slice_get rows c) rows

-- a result of code and the rows that it left, beside what the definition gives
abbrev pub Takes : {R : Type 0} → (R → Tree) → Result R TakeFault → List Entry → Took → Type 0
Takes plain (Ok row) rows took = took ≡ Ok (plain row, rows)
Takes plain (Err fault) rows took = took ≡ Err fault

-- what is said of a row that can't be taken
abbrev pub take_text : TakeFault → List ℕ
take_text Absent = codes "no row fits"
take_text (Taken row) = codes "row " ++ decimal row ++ codes " is taken"
