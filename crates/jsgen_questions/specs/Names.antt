-- Names that are looked up, and names that are bound.
use Rattle.std.specs.Prelude.{Bool, true, false}
use Rattle.jsgen_tree.specs.Tree.{Tree, absent}
use Rattle.jsgen_tree.specs.Nodes as tree
use Rattle.jsgen_tree.specs.declared.types.NodeType.{NodeType}
use Rattle.jsgen_tree.specs.declared.types.NodeType.TheVariants as types

abbrev pub is_reference : NodeType → Bool
is_reference types.IdentifierReference = true
is_reference type = false

abbrev pub is_binding_name : Tree → Bool
is_binding_name (tree.binding_identifier a) = true
is_binding_name t = false

-- a parameter that is a name alone
abbrev pub is_name_parameter : Tree → Bool
is_name_parameter (tree.formal_parameter a (tree.binding_identifier i) absent) = true
is_name_parameter t = false
