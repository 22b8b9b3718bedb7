-- A program in which each private name is the one that is printed for it. A class is known by its number: how many bodies of classes
-- begin before its own, in the order of the text, which is that of a node's children.
use Rattle.std.specs.Prelude.{ℕ, suc, List, []}
use Rattle.jsgen_tree.specs.Job.{Tables}
use Rattle.jsgen_tree.specs.Nodes as tree
use Rattle.jsgen_tree.specs.Tree.{Tree, node, Slots, no_slots, one, maybe, many, maybe_many, Maybe, absent, given, Trees, no_trees, more, hole, MaybeTrees, no_list, listed}
use Rattle.jsgen_tree.specs.Values.{private_identifier_name}
use Rattle.jsgen_model.specs.Private.{classes_within, printed_private}
use Rattle.jsgen_model.specs.Renamed.{with_name, renamed}

-- the number of the next class behind a tree, where it is this before it: nothing is added up, so that all of it computes
abbrev mutual
  pub after : Tree → ℕ → ℕ
  after (tree.class_body a body) n = after_trees body (suc n)
  after (node type a slots) n = after_slots slots n

  pub after_slots : Slots → ℕ → ℕ
  after_slots no_slots n = n
  after_slots (one t slots) n = after_slots slots (after t n)
  after_slots (maybe m slots) n = after_slots slots (after_maybe m n)
  after_slots (many ts slots) n = after_slots slots (after_trees ts n)
  after_slots (maybe_many ts slots) n = after_slots slots (after_maybe_trees ts n)

  pub after_maybe : Maybe → ℕ → ℕ
  after_maybe absent n = n
  after_maybe (given t) n = after t n

  pub after_trees : Trees → ℕ → ℕ
  after_trees no_trees n = n
  after_trees (more t ts) n = after_trees ts (after t n)
  after_trees (hole ts) n = after_trees ts n

  pub after_maybe_trees : MaybeTrees → ℕ → ℕ
  after_maybe_trees no_list n = n
  after_maybe_trees (listed ts) n = after_trees ts n

-- the tree with its private names as they are printed within these classes, where the next one has this number
abbrev mutual
  pub resolved : Tables → List ℕ → ℕ → Tree → Tree
  resolved tables classes next (tree.private_identifier a) = tree.private_identifier (with_name (printed_private tables classes (private_identifier_name a)) a)
  resolved tables classes next (tree.class_body a body) = tree.class_body a (resolved_trees tables (classes_within tables next classes) (suc next) body)
  resolved tables classes next (node type a slots) = node type a (resolved_slots tables classes next slots)

  pub resolved_slots : Tables → List ℕ → ℕ → Slots → Slots
  resolved_slots tables classes next no_slots = no_slots
  resolved_slots tables classes next (one t slots) = one (resolved tables classes next t) (resolved_slots tables classes (after t next) slots)
  resolved_slots tables classes next (maybe m slots) = maybe (resolved_maybe tables classes next m) (resolved_slots tables classes (after_maybe m next) slots)
  resolved_slots tables classes next (many ts slots) = many (resolved_trees tables classes next ts) (resolved_slots tables classes (after_trees ts next) slots)
  resolved_slots tables classes next (maybe_many ts slots) = maybe_many (resolved_maybe_trees tables classes next ts) (resolved_slots tables classes (after_maybe_trees ts next) slots)

  pub resolved_maybe : Tables → List ℕ → ℕ → Maybe → Maybe
  resolved_maybe tables classes next absent = absent
  resolved_maybe tables classes next (given t) = given (resolved tables classes next t)

  pub resolved_trees : Tables → List ℕ → ℕ → Trees → Trees
  resolved_trees tables classes next no_trees = no_trees
  resolved_trees tables classes next (more t ts) = more (resolved tables classes next t) (resolved_trees tables classes (after t next) ts)
  resolved_trees tables classes next (hole ts) = hole (resolved_trees tables classes next ts)

  pub resolved_maybe_trees : Tables → List ℕ → ℕ → MaybeTrees → MaybeTrees
  resolved_maybe_trees tables classes next no_list = no_list
  resolved_maybe_trees tables classes next (listed ts) = listed (resolved_trees tables classes next ts)

-- a program by its tables: each name is the one that is printed
abbrev pub renamed_program : Tables → Tree → Tree
renamed_program tables t = renamed tables (resolved tables [] 0 t)
