-- Whether names of imports and exports are printed the same.
use Rattle.std.specs.Prelude.{ℕ, List, Bool, false, Option, Some, bytes_eq, option_map}
use Rattle.jsgen_tree.specs.Tree.{Tree}
use Rattle.jsgen_tree.specs.Nodes as tree
use Rattle.jsgen_tree.specs.Job.{Tables}
use Rattle.jsgen_tree.specs.Named.{printed_name}
use Rattle.jsgen_tree.specs.Values.{string_literal_value}
use Rattle.jsgen_model.specs.Spell.{export_named}

abbrev pub is_same_text : Option (List ℕ) → Option (List ℕ) → Bool
is_same_text (Some a) (Some b) = bytes_eq a b
is_same_text a b = false

-- by the tables two names are printed the same, or two strings are the same
abbrev pub is_same_named : Tables → Tree → Tree → Bool
is_same_named tables (tree.string_literal a) (tree.string_literal b) = bytes_eq (string_literal_value a) (string_literal_value b)
is_same_named tables t u = is_same_text (option_map (printed_name tables) (export_named t)) (option_map (printed_name tables) (export_named u))
