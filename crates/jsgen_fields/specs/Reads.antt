-- A job read row by row, over the rows that are kept: each still there, or a child of an earlier place already.
-- The reader's functions are proved against it; that it gives what a job means is a law of its own.
use Rattle.std.specs.Prelude.{◌-◌, ◌≡◌, ℕ, suc, List, [], ◌∷◌, ◌++◌, length, Bool, Option, Some, None, Result, Ok, Err, slice_get, if◌then◌else◌}
use Rattle.serde_json.specs.Data.{Data, null, Num, unsigned, negative, float}
use Rattle.serde_json.specs.Find.{as_number}
use Rattle.jsgen_syntax.specs.declared.span.Span.{Span}
use Rattle.jsgen_tree.specs.declared.types.NodeType.{NodeType}
use Rattle.jsgen_tree.specs.declared.types.NodeSet.{NodeSet}
use Rattle.jsgen_tree.specs.Atom.{Atom}
use Rattle.jsgen_tree.specs.Tree.{Tree, node, no_slots, trees, holed, listed}
use Rattle.jsgen_tree.specs.Tree as tree
use Rattle.jsgen_tree.specs.Table.{Sort, Presence, Field, absent_value, is_value}
use Rattle.jsgen_tree.specs.Fields.{fields}
use Rattle.jsgen_tree.specs.Table as sorts
use Rattle.jsgen_pool.specs.Pool.{Entry, there, taken, Took, take_row}
use Rattle.jsgen_pool.specs.declared.TakeFault.TheVariants.{Absent, Taken}
use Rattle.jsgen_fields.specs.declared.At.{At}
use Rattle.jsgen_fields.specs.declared.InputFault.{InputFault}
use Rattle.jsgen_fields.specs.declared.InputFault.TheVariants.{Wrong, Child, Shared, Memory}
use Rattle.jsgen_fields.specs.Values.{after, at, field, not_given, field_in, in_row, is_needed, items_in, value_in, type_of, span_of, rows_in}
use Rattle.jsgen_fields.specs.Meaning.{Held, a_value, a_list, a_maybe_list, Parts, put_in, child_held, absent_held, unread_held}
use Rattle.jsgen_kept.specs.Kept.{is_program}

abbrev pub Read : Type 0 → Type 0
Read V = Result (V × List Entry) InputFault

-- a result of code and the rows that it kept, beside what the definition gives; want of memory may come in its place
abbrev pub Gives : {T V : Type 0} → (T → V) → Result T InputFault → List Entry → Read V → Type 0
Gives plain (Ok x) kept read = read ≡ Ok (plain x, kept)
Gives plain (Err e) kept read = (e ≡ Memory → ⊥) → read ≡ Err e

-- ---- children

-- a whole number below zero is no row's; anything else that is no whole number is of the wrong kind
abbrev pub number_in : At → Option Num → Result ℕ InputFault
number_in a None = Err (Wrong a)
number_in a (Some (unsigned c)) = Ok c
number_in a (Some (negative z)) = Err (Child a)
number_in a (Some (float x)) = Err (Wrong a)

abbrev pub told : At → Took → Read Tree
told a (Ok t) = Ok t
told a (Err Absent) = Err (Child a)
told a (Err (Taken c)) = Err (Shared c)

abbrev pub take_child : At → NodeSet → Data → List Entry → Read Tree
take_child a s d kept = after (number_in a (as_number d)) (λ c. told a (take_row s c kept))

abbrev pub take_or_hole : At → NodeSet → Data → List Entry → Read (Option Tree)
take_or_hole a s null kept = Ok (None, kept)
take_or_hole a s d kept = after (take_child a s d kept) (λ t. Ok (Some t.0, t.1))

abbrev pub take_each : {X : Type 0} → (Data → List Entry → Read X) → List X → List Data → List Entry → Read (List X)
take_each take done [] kept = Ok (done, kept)
take_each take done (d ∷ ds) kept = after (take d kept) (λ x. take_each take (done ++ x.0 ∷ []) ds x.1)

abbrev pub take_list : {X : Type 0} → At → (Data → List Entry → Read X) → (List X → Held) → Data → List Entry → Read Held
take_list a take hold d kept = after (items_in a d) (λ ds. after (take_each take [] ds kept) (λ xs. Ok (hold xs.0, xs.1)))

-- ---- fields

-- of a field with children that are given
abbrev pub take_sort : At → Presence → Sort → Data → List Entry → Read Held
take_sort a p (sorts.child s) d kept = after (take_child a s d kept) (λ t. Ok (child_held p t.0, t.1))
take_sort a p (sorts.children s) d kept = take_list a (take_child a s) (λ ts. a_list (trees ts)) d kept
take_sort a p (sorts.maybe_children s) d kept = take_list a (take_child a s) (λ ts. a_maybe_list (listed (trees ts))) d kept
take_sort a p (sorts.children_or_holes s) d kept = take_list a (take_or_hole a s) (λ os. a_list (holed os)) d kept
take_sort a p s d kept = Err (Wrong a)

abbrev pub take_given : At → Presence → Sort → Option Data → List Entry → Read Held
take_given a p s None kept = Ok (absent_held p s, kept)
take_given a p s (Some d) kept = take_sort a p s d kept

-- a field with children
unfoldable pub read_children : At → Bool → Presence → Sort → Option Data → List Entry → Read Held
read_children a b p s o kept = after (field_in a b o) (λ d. take_given a p s d kept)

abbrev pub value_or : Atom → At → Sort → Option Data → Result Atom InputFault
value_or v a s None = Ok v
value_or v a s (Some d) = value_in a s d

-- a field with a value, which is v where it is absent
unfoldable pub read_value : At → Bool → Atom → Sort → Option Data → Result Atom InputFault
read_value a b v s o = after (field_in a b o) (value_or v a s)

abbrev pub read_given : At → Bool → Presence → Sort → Option Data → List Entry → Read Held
read_given a b p s o kept = if is_value s then after (read_value a b (absent_value p) s o) (λ v. Ok (a_value v, kept)) else read_children a b p s o kept

abbrev pub read_field : At → Field → Data → List Entry → Read Held
read_field a f d kept =
    if f.is_read then read_given a (is_needed f.presence) f.presence f.sort (field f.name d) kept
    else after (not_given a (field f.name d)) (λ _. Ok (unread_held f.sort, kept))

-- the fields from number i on
abbrev pub read_fields : ℕ → ℕ → List Field → Data → List Entry → Read Parts
read_fields k i [] d kept = Ok (record { values = []; slots = no_slots }, kept)
read_fields k i (f ∷ fs) d kept = after (read_field (at k i) (in_row d f) d kept) (λ h. after (read_fields k (suc i) fs d h.1) (λ p. Ok (put_in h.0 p.0, p.1)))

-- ---- rows

unfoldable pub read_node : ℕ → NodeType → List Field → Span → Data → List Entry → Read Tree
read_node k type fs span d kept = after (read_fields k 2 fs d kept) (λ p. Ok (node type (record { span = span; values = p.0.values }) p.0.slots, p.1))

abbrev pub read_typed : ℕ → NodeType → Span → Data → List Entry → Read Tree
read_typed k type span d kept = read_node k type (fields type) span d kept

abbrev pub read_row : ℕ → Data → List Entry → Read Tree
read_row k d kept = after (type_of k d) (λ type. after (span_of k d) (λ span. read_typed k type span d kept))

-- the rows after those that are kept
abbrev pub read_rows : List Data → List Entry → Result (List Entry) InputFault
read_rows [] kept = Ok kept
read_rows (d ∷ ds) kept = after (read_row (length kept) d kept) (λ t. read_rows ds (t.1 ++ there t.0 ∷ []))

-- ---- the whole

abbrev pub root_found : At → Option Entry → Result Tree InputFault
root_found a None = Err (Wrong a)
root_found a (Some (taken type)) = Err (Wrong a)
root_found a (Some (there t)) = if is_program (tree.type_of t) then Ok t else Err (Wrong a)

abbrev pub root_of : List Entry → Result Tree InputFault
root_of kept = root_found (at (length kept - 1) 0) (slice_get kept (length kept - 1))

abbrev pub read_program : Data → Result Tree InputFault
read_program d = after (rows_in d) (λ ds. after (read_rows ds []) root_of)
