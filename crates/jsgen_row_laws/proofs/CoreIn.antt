-- What the laws of the rows are proved of: core programs under tables without new names for private names, or without private names. Of all
-- others the reading follows, since resolving their private names gives such a program.
use Rattle.std.specs.Prelude.{◌&&◌, Bool, true, not}
use Rattle.std.specs.Option.{is_some}
use Rattle.jsgen_tree.specs.Everywhere.{Everywhere}
use Rattle.jsgen_tree.specs.Job.{Tables}
use Rattle.jsgen_tree.specs.Tree.{Tree, type_of}
use Rattle.jsgen_tree.specs.declared.types.NodeType.{NodeType}
use Rattle.jsgen_tree.specs.declared.types.NodeType.TheVariants as types
use Rattle.jsgen_model.specs.Plain as model

abbrev pub keeps_private_names : Tables → NodeType → Bool
keeps_private_names tables types.PrivateIdentifier = not (is_some tables.private)
keeps_private_names tables type = true

abbrev pub is_core_row : Tables → Tree → Bool
is_core_row tables t = keeps_private_names tables (type_of t) && model.is_core_row t

abbrev pub IsCoreIn : Tables → Tree → Type 0
IsCoreIn tables t = Everywhere (is_core_row tables) t
