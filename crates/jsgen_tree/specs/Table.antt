-- The table of fields: what is said of a field. specs/Fields.antt has the fields of each type.
use Rattle.std.specs.Prelude.{ℕ, List, [], ◌∷◌, Bool, true, false, if◌then◌else◌}
use Rattle.std.specs.Str.{bytes_eq}
use Rattle.jsgen_tree.specs.declared.types.NodeSet.{NodeSet}
use Rattle.jsgen_tree.specs.Atom.{Atom, no_value}
use Rattle.jsgen_tree.specs.Places.{first_value, other_values}

-- a word, and what it stands for
pub record Word : Type 0 where
  pub spelling : List ℕ
  pub meaning : Atom

abbrev pub means : List ℕ → Atom → Word
means s a = record { spelling = s; meaning = a }

-- what the value of a field is
pub data Sort : Type 0 where
  text : Sort
  units : Sort
  digits : Sort
  -- a whole number below 2 ^ 32
  number : Sort
  flag : Sort
  -- a flag that may not be set
  unset_flag : Sort
  word : List Word → Sort
  -- a value that isn't kept
  passed_over : Sort → Sort
  child : NodeSet → Sort
  children : NodeSet → Sort
  -- a list with a hole at each null
  children_or_holes : NodeSet → Sort
  -- a list, or none where it's absent
  maybe_children : NodeSet → Sort
  -- children of types that aren't read yet
  unread_child : Sort

-- whether a field may be absent, and what stands for it then
pub data Presence : Type 0 where
  needed : Presence
  -- needed where the row's field `kind` is this word, and elsewhere not kept
  needed_for : List ℕ → Presence
  -- a flag, false by default, that may be set only where the row's field `kind` is this word
  settable_for : List ℕ → Presence
  -- no value, no child or an empty list
  may_be_absent : Presence
  -- a value by default
  by_default : Atom → Presence

-- a field of the format; one that isn't read yet may not be given
pub record Field : Type 0 where
  pub name : List ℕ
  pub presence : Presence
  pub sort : Sort
  pub is_read : Bool

abbrev pub needs : List ℕ → Sort → Field
needs n s = record { name = n; presence = needed; sort = s; is_read = true }

abbrev pub needs_for : List ℕ → List ℕ → Sort → Field
needs_for kind n s = record { name = n; presence = needed_for kind; sort = s; is_read = true }

abbrev pub may_have : List ℕ → Sort → Field
may_have n s = record { name = n; presence = may_be_absent; sort = s; is_read = true }

abbrev pub has_by_default : Atom → List ℕ → Sort → Field
has_by_default a n s = record { name = n; presence = by_default a; sort = s; is_read = true }

abbrev pub may_be_set_for : List ℕ → List ℕ → Sort → Field
may_be_set_for kind n s = record { name = n; presence = settable_for kind; sort = s; is_read = true }

abbrev pub not_yet : List ℕ → Sort → Field
not_yet n s = record { name = n; presence = may_be_absent; sort = s; is_read = false }

-- what the node holds where the field is absent
abbrev pub absent_value : Presence → Atom
absent_value (by_default a) = a
absent_value p = no_value

-- the field holds a value of the node, and no child
abbrev pub is_value : Sort → Bool
is_value (child s) = false
is_value (children s) = false
is_value (children_or_holes s) = false
is_value (maybe_children s) = false
is_value unread_child = false
is_value s = true

-- the sets of the fields that are read and hold children, in their order
abbrev pub child_sets : List Field → List NodeSet
child_sets [] = []
child_sets (f ∷ fs) = if f.is_read then with_set f.sort (child_sets fs) else child_sets fs
  where
    with_set : Sort → List NodeSet → List NodeSet
    with_set (child s) ss = s ∷ ss
    with_set (children s) ss = s ∷ ss
    with_set (children_or_holes s) ss = s ∷ ss
    with_set (maybe_children s) ss = s ∷ ss
    with_set other ss = ss

-- the value of the field with this name
abbrev pub value_named : List ℕ → List Field → List Atom → Atom
value_named name [] values = no_value
value_named name (f ∷ fs) values =
    if is_value f.sort then (if bytes_eq f.name name then first_value values else value_named name fs (other_values values))
    else value_named name fs values
