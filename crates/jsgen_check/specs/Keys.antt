-- Keys of properties.
use Rattle.std.specs.Prelude.{Bool, true, false}
use Rattle.jsgen_tree.specs.declared.types.NodeType.{NodeType}
use Rattle.jsgen_tree.specs.declared.types.NodeType.TheVariants as types

abbrev pub is_number : NodeType → Bool
is_number types.NumericLiteral = true
is_number type = false

abbrev pub is_big_integer : NodeType → Bool
is_big_integer types.BigIntLiteral = true
is_big_integer type = false
