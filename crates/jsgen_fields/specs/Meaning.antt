-- What a job means: the faults that it has, in their order, and the tree of each row.
use Rattle.std.specs.Prelude.{ℕ, suc, ◌-◌, ◌==◌, ◌||◌, List, [], ◌∷◌, ◌++◌, length, map, Bool, false, Option, Some, None, unwrap_or, Result, Ok, Err, slice_get, if◌then◌else◌}
use Rattle.serde_json.specs.Data.{Data, null, Num, unsigned, negative, float}
use Rattle.serde_json.specs.Find.{as_number}
use Rattle.jsgen_syntax.specs.declared.span.Span.{Span}
use Rattle.jsgen_tree.specs.declared.types.NodeType.{NodeType}
use Rattle.jsgen_tree.specs.declared.types.NodeType.TheVariants as types
use Rattle.jsgen_tree.specs.declared.types.NodeSet.{NodeSet}
use Rattle.jsgen_tree.specs.Job.{JobData}
use Rattle.jsgen_tree.specs.Atom.{Atom, no_value}
use Rattle.jsgen_tree.specs.Tree.{Tree, Slots, Maybe, Trees, MaybeTrees, node, no_slots, one, maybe, many, maybe_many, absent, given, no_trees, trees, holed, no_list, listed}
use Rattle.jsgen_tree.specs.Tree as tree
use Rattle.jsgen_tree.specs.Table.{Sort, Presence, needed, Field, absent_value, is_value}
use Rattle.jsgen_tree.specs.Fields.{fields}
use Rattle.jsgen_tree.specs.Sets.{in_set}
use Rattle.jsgen_tree.specs.Table as sorts
use Rattle.jsgen_kept.specs.Kept.{is_program}
use Rattle.jsgen_fields.specs.declared.At.{At}
use Rattle.jsgen_fields.specs.declared.InputFault.{InputFault}
use Rattle.jsgen_fields.specs.declared.InputFault.TheVariants.{Wrong, Child, Shared}
use Rattle.jsgen_fields.specs.Values.{after, at, field, not_given, in_row, given_in, items_in, value_in, type_of, span_of, options_in, tables_in, rows_in}

-- ---- the marks of a row, which it has by itself: a fault, or the number of a row that is to be a child

pub data Mark : Type 0 where
  fault : InputFault → Mark
  use_of : At → NodeSet → ℕ → Mark

-- a whole number below zero is no row's; anything else that is no whole number is of the wrong kind
abbrev pub number_marks : At → NodeSet → Option Num → List Mark
number_marks a s None = fault (Wrong a) ∷ []
number_marks a s (Some (unsigned c)) = use_of a s c ∷ []
number_marks a s (Some (negative z)) = fault (Child a) ∷ []
number_marks a s (Some (float x)) = fault (Wrong a) ∷ []

abbrev pub child_marks : At → NodeSet → Data → List Mark
child_marks a s d = number_marks a s (as_number d)

abbrev pub each : (Data → List Mark) → List Data → List Mark
each f [] = []
each f (d ∷ ds) = f d ++ each f ds

abbrev pub marks_of : {A : Type 0} → (A → List Mark) → Result A InputFault → List Mark
marks_of f (Err e) = fault e ∷ []
marks_of f (Ok x) = f x

-- null is a hole
abbrev pub hole_marks : At → NodeSet → Data → List Mark
hole_marks a s null = []
hole_marks a s d = child_marks a s d

-- of a value that is given, by the sort of its field
abbrev pub sort_marks : At → Sort → Data → List Mark
sort_marks a (sorts.child s) d = child_marks a s d
sort_marks a (sorts.children s) d = marks_of (each (child_marks a s)) (items_in a d)
sort_marks a (sorts.maybe_children s) d = marks_of (each (child_marks a s)) (items_in a d)
sort_marks a (sorts.children_or_holes s) d = marks_of (each (hole_marks a s)) (items_in a d)
sort_marks a s d = marks_of (λ value. []) (value_in a s d)

abbrev pub given_marks : At → Sort → Option Data → List Mark
given_marks a s None = []
given_marks a s (Some d) = sort_marks a s d

-- a field that isn't read may not be given
abbrev pub field_marks : At → Field → Data → List Mark
field_marks a f d = if f.is_read then marks_of (given_marks a f.sort) (given_in a f d) else marks_of (λ nothing. []) (not_given a (field f.name d))

-- of the fields from number i on
abbrev pub fields_marks : ℕ → ℕ → List Field → Data → List Mark
fields_marks k i [] d = []
fields_marks k i (f ∷ fs) d = field_marks (at k i) (in_row d f) d ++ fields_marks k (suc i) fs d

-- a row with no type has no other mark
abbrev pub typed_marks : ℕ → Data → Result NodeType InputFault → Result Span InputFault → List Mark
typed_marks k d (Err e) span = fault e ∷ []
typed_marks k d (Ok type) span = marks_of (λ s. []) span ++ fields_marks k 2 (fields type) d

abbrev pub row_marks : ℕ → Data → List Mark
row_marks k d = typed_marks k d (type_of k d) (span_of k d)

-- ---- the tree of a row, from those of the rows before it; where there is a fault it is any

abbrev pub no_tree : Tree
no_tree = node types.Program (record { span = record { start = 0; end = 0 }; values = [] }) no_slots

abbrev pub number_tree : List Tree → Option Num → Tree
number_tree e (Some (unsigned c)) = unwrap_or (slice_get e c) no_tree
number_tree e o = no_tree

abbrev pub child_tree : List Tree → Data → Tree
child_tree e d = number_tree e (as_number d)

abbrev pub ok_or_else : {A : Type 0} → A → Result A InputFault → A
ok_or_else a (Ok b) = b
ok_or_else a (Err e) = a

-- the child at a place of a list; none at a hole
abbrev pub child_or_hole : List Tree → Data → Option Tree
child_or_hole e null = None
child_or_hole e d = Some (child_tree e d)

-- what a field gives to its node
pub data Held : Type 0 where
  nothing : Held
  a_value : Atom → Held
  a_child : Tree → Held
  a_maybe : Maybe → Held
  a_list : Trees → Held
  a_maybe_list : MaybeTrees → Held

pub record Parts : Type 0 where
  pub values : List Atom
  pub slots : Slots

abbrev pub put_in : Held → Parts → Parts
put_in nothing p = p
put_in (a_value v) p = record { values = v ∷ p.values; slots = p.slots }
put_in (a_child t) p = record { values = p.values; slots = one t p.slots }
put_in (a_maybe m) p = record { values = p.values; slots = maybe m p.slots }
put_in (a_list ts) p = record { values = p.values; slots = many ts p.slots }
put_in (a_maybe_list l) p = record { values = p.values; slots = maybe_many l p.slots }

-- a child that may be absent has a place that may be empty
abbrev pub child_held : Presence → Tree → Held
child_held needed t = a_child t
child_held p t = a_maybe (given t)

-- where a value is given
abbrev pub given_held : List Tree → At → Presence → Sort → Data → Held
given_held e a p (sorts.child s) d = child_held p (child_tree e d)
given_held e a p (sorts.children s) d = a_list (trees (map (child_tree e) (ok_or_else [] (items_in a d))))
given_held e a p (sorts.maybe_children s) d = a_maybe_list (listed (trees (map (child_tree e) (ok_or_else [] (items_in a d)))))
given_held e a p (sorts.children_or_holes s) d = a_list (holed (map (child_or_hole e) (ok_or_else [] (items_in a d))))
given_held e a p s d = a_value (ok_or_else no_value (value_in a s d))

-- where the field is absent
abbrev pub absent_held : Presence → Sort → Held
absent_held p (sorts.child s) = a_maybe absent
absent_held p (sorts.children s) = a_list no_trees
absent_held p (sorts.maybe_children s) = a_maybe_list no_list
absent_held p (sorts.children_or_holes s) = a_list no_trees
absent_held p sorts.unread_child = nothing
absent_held p s = a_value (absent_value p)

abbrev pub held : List Tree → At → Presence → Sort → Option Data → Held
held e a p s None = absent_held p s
held e a p s (Some d) = given_held e a p s d

-- of a field that isn't read
abbrev pub unread_held : Sort → Held
unread_held s = if is_value s then a_value no_value else nothing

-- of any field
abbrev pub field_held : List Tree → At → Field → Data → Held
field_held e a f d = if f.is_read then held e a f.presence f.sort (field f.name d) else unread_held f.sort

abbrev pub fields_parts : List Tree → ℕ → ℕ → List Field → Data → Parts
fields_parts e k i [] d = record { values = []; slots = no_slots }
fields_parts e k i (f ∷ fs) d = put_in (field_held e (at k i) (in_row d f) d) (fields_parts e k (suc i) fs d)

abbrev pub node_of : NodeType → Span → Parts → Tree
node_of type span p = node type (record { span = span; values = p.values }) p.slots

abbrev pub typed_tree : List Tree → ℕ → Data → Result NodeType InputFault → Result Span InputFault → Tree
typed_tree e k d (Err f) span = no_tree
typed_tree e k d (Ok type) span = node_of type (ok_or_else (record { start = 0; end = 0 }) span) (fields_parts e k 2 (fields type) d)

abbrev pub row_tree : List Tree → Data → Tree
row_tree e d = typed_tree e (length e) d (type_of (length e) d) (span_of (length e) d)

-- ---- the faults, in their order

abbrev pub is_used : List ℕ → ℕ → Bool
is_used [] i = false
is_used (c ∷ u) i = (i == c) || is_used u i

abbrev pub found_faults : At → NodeSet → ℕ → Option Tree → Bool → List InputFault
found_faults a s c None used = Child a ∷ []
found_faults a s c (Some t) used = if in_set s (tree.type_of t) then (if used then Shared c ∷ [] else []) else Child a ∷ []

-- of a mark in a row after the trees e, where the rows u are children of places before it
abbrev pub mark_faults : List Tree → List ℕ → Mark → List InputFault
mark_faults e u (fault f) = f ∷ []
mark_faults e u (use_of a s c) = found_faults a s c (slice_get e c) (is_used u c)

abbrev pub with_mark : List ℕ → Mark → List ℕ
with_mark u (fault f) = u
with_mark u (use_of a s c) = c ∷ u

abbrev pub with_marks : List ℕ → List Mark → List ℕ
with_marks u [] = u
with_marks u (m ∷ ms) = with_marks (with_mark u m) ms

abbrev pub faults_in : List Tree → List ℕ → List Mark → List InputFault
faults_in e u [] = []
faults_in e u (m ∷ ms) = mark_faults e u m ++ faults_in e (with_mark u m) ms

-- the last row's tree
abbrev pub root_tree : List Tree → Option Tree
root_tree e = slice_get e (length e - 1)

abbrev pub root_faults : At → Option Tree → List InputFault
root_faults a None = Wrong a ∷ []
root_faults a (Some t) = if is_program (tree.type_of t) then [] else Wrong a ∷ []

-- the trees of all rows, after those before
abbrev pub trees_after : List Tree → List Data → List Tree
trees_after e [] = e
trees_after e (d ∷ ds) = trees_after (e ++ row_tree e d ∷ []) ds

-- row by row, and the last row has to be a program
abbrev pub faults_after : List Tree → List ℕ → List Data → List InputFault
faults_after e u [] = root_faults (at (length e - 1) 0) (root_tree e)
faults_after e u (d ∷ ds) = faults_in e u (row_marks (length e) d) ++ faults_after (e ++ row_tree e d ∷ []) (with_marks u (row_marks (length e) d)) ds

-- the first fault, or else the value
abbrev pub unless : {A : Type 0} → List InputFault → A → Result A InputFault
unless [] a = Ok a
unless (f ∷ fs) a = Err f

abbrev pub rows_meaning : List Data → Result Tree InputFault
rows_meaning ds = unless (faults_after [] [] ds) (unwrap_or (root_tree (trees_after [] ds)) no_tree)

-- the program of a job that was read as JSON
abbrev pub program_meaning : Data → Result Tree InputFault
program_meaning d = after (rows_in d) rows_meaning

-- the job that was read as JSON, or its first fault
abbrev pub value_meaning : Data → Result JobData InputFault
value_meaning d = after (options_in d) (λ options. after (tables_in d) (λ tables. after (program_meaning d) (λ program. Ok (record { options = options; tables = tables; program = program }))))
