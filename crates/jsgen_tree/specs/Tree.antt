-- A tree as plain data: no box, no capacity, no allocator. Texts are lists of characters.
use Rattle.std.specs.Prelude.{List, [], ◌∷◌, Option, Some, None}
use Rattle.jsgen_syntax.specs.declared.span.Span.{Span}
use Rattle.jsgen_tree.specs.declared.types.NodeType.{NodeType}
use Rattle.jsgen_tree.specs.Atom.{Atom}

-- what a node holds beside its children: its span, and one value for each of its fields that is no child, in their order
pub record Atoms : Type 0 where
  pub span : Span
  pub values : List Atom

mutual
  -- a node: its type, what it holds, and its children field by field
  pub data Tree : Type 0 where
    node : NodeType → Atoms → Slots → Tree

  pub data Slots : Type 0 where
    no_slots : Slots
    one : Tree → Slots → Slots
    maybe : Maybe → Slots → Slots
    many : Trees → Slots → Slots
    maybe_many : MaybeTrees → Slots → Slots

  -- an optional child
  pub data Maybe : Type 0 where
    absent : Maybe
    given : Tree → Maybe

  -- a list of children, which may have holes
  pub data Trees : Type 0 where
    no_trees : Trees
    more : Tree → Trees → Trees
    hole : Trees → Trees

  -- an optional list, which is another thing than an empty one
  pub data MaybeTrees : Type 0 where
    no_list : MaybeTrees
    listed : Trees → MaybeTrees

abbrev pub optional : Option Tree → Maybe
optional None = absent
optional (Some t) = given t

abbrev pub trees : List Tree → Trees
trees [] = no_trees
trees (t ∷ ts) = more t (trees ts)

-- a list with a hole where one is left out
abbrev pub holed : List (Option Tree) → Trees
holed [] = no_trees
holed (None ∷ os) = hole (holed os)
holed (Some t ∷ os) = more t (holed os)

-- a list, or none
abbrev pub optional_list : Option (List Tree) → MaybeTrees
optional_list None = no_list
optional_list (Some ts) = listed (trees ts)

abbrev pub type_of : Tree → NodeType
type_of (node type a slots) = type

abbrev pub atoms_of : Tree → Atoms
atoms_of (node type a slots) = a

abbrev pub span_of : Tree → Span
span_of t = (atoms_of t).span
