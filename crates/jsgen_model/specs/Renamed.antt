-- A program in which each reference and each binding has the name that is printed for it.
use Rattle.std.specs.Prelude.{List, [], ◌∷◌, ℕ, false}
use Rattle.jsgen_tree.specs.Atom.{text, flag}
use Rattle.jsgen_tree.specs.Places.{other_values, bare}
use Rattle.jsgen_tree.specs.Tree.{Tree, node, Slots, no_slots, one, maybe, many, maybe_many, Maybe, absent, given, Trees, no_trees, more, hole, MaybeTrees, no_list, listed, Atoms}
use Rattle.jsgen_tree.specs.Nodes as tree
use Rattle.jsgen_tree.specs.Inside.{reference_named, binding_named}
use Rattle.jsgen_tree.specs.Job.{Tables}
use Rattle.jsgen_tree.specs.Named.{printed_name}
use Rattle.jsgen_tree.specs.Values.{identifier_reference_name}

-- a name, which is the first value of its node, and its number as it was
abbrev pub with_name : List ℕ → Atoms → Atoms
with_name w a = record a { values = text w ∷ other_values a.values }

-- what is given a value, which may have a default
abbrev pub with_default : Tree → Maybe → Tree
with_default t absent = t
with_default t (given init) = tree.target_with_default (bare []) t init

-- A property of a target that a reference alone says (ECMA-262, 13.15.5, AssignmentProperty), written out: its key is the reference's own name, and this is given its value
abbrev pub written_out : Atoms → Tree → Tree → Maybe → Tree
written_out a (tree.identifier_reference b) t init = tree.target_property (bare (flag false ∷ [])) (tree.identifier_name (bare (text (identifier_reference_name b) ∷ []))) (with_default t init)
written_out a binding t init = tree.target_property_identifier a t init

abbrev mutual
  pub renamed : Tables → Tree → Tree
  renamed tables (tree.identifier_reference a) = tree.identifier_reference (with_name (printed_name tables (reference_named a)) a)
  renamed tables (tree.binding_identifier a) = tree.binding_identifier (with_name (printed_name tables (binding_named a)) a)
  renamed tables (tree.target_property_identifier a binding init) = written_out a binding (renamed tables binding) (renamed_maybe tables init)
  renamed tables (node type a slots) = node type a (renamed_slots tables slots)

  pub renamed_slots : Tables → Slots → Slots
  renamed_slots tables no_slots = no_slots
  renamed_slots tables (one t slots) = one (renamed tables t) (renamed_slots tables slots)
  renamed_slots tables (maybe m slots) = maybe (renamed_maybe tables m) (renamed_slots tables slots)
  renamed_slots tables (many ts slots) = many (renamed_trees tables ts) (renamed_slots tables slots)
  renamed_slots tables (maybe_many ts slots) = maybe_many (renamed_maybe_trees tables ts) (renamed_slots tables slots)

  pub renamed_maybe : Tables → Maybe → Maybe
  renamed_maybe tables absent = absent
  renamed_maybe tables (given t) = given (renamed tables t)

  pub renamed_trees : Tables → Trees → Trees
  renamed_trees tables no_trees = no_trees
  renamed_trees tables (more t ts) = more (renamed tables t) (renamed_trees tables ts)
  renamed_trees tables (hole ts) = hole (renamed_trees tables ts)

  pub renamed_maybe_trees : Tables → MaybeTrees → MaybeTrees
  renamed_maybe_trees tables no_list = no_list
  renamed_maybe_trees tables (listed ts) = listed (renamed_trees tables ts)
