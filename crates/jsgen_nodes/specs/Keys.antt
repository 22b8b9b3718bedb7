-- Keys of properties, and which properties are their value alone.
use Rattle.std.specs.Prelude.{ℕ, List, Bool, true, false, Option, Some, None, if◌then◌else◌}
use Rattle.jsgen_syntax.specs.declared.precedence.Precedence.TheVariants.{Comma}
use Rattle.jsgen_tree.specs.Tree.{Tree}
use Rattle.jsgen_tree.specs.Job.{Tables}
use Rattle.jsgen_tree.specs.Named.{Named, as_written}
use Rattle.jsgen_tree.specs.Inside.{is_proto}
use Rattle.jsgen_tree.specs.declared.types.NodeType.{NodeType}
use Rattle.jsgen_tree.specs.declared.types.NodeType.TheVariants as types
use Rattle.jsgen_place.specs.Place.{in_brackets}
use Rattle.jsgen_model.specs.Items.{Items}
use Rattle.jsgen_model.specs.Layout.{are_printed_alike}
use Rattle.jsgen_model.specs.Spell.{spell, needs_brackets, key_items}

abbrev pub is_string : NodeType → Bool
is_string types.StringLiteral = true
is_string type = false

abbrev pub is_number : NodeType → Bool
is_number types.NumericLiteral = true
is_number type = false

-- by the tables a value, which may be a reference, is printed as this name is written
abbrev pub is_said : Tables → Option Named → List ℕ → Bool
is_said tables None w = false
is_said tables (Some value) w = are_printed_alike tables value (as_written w)

-- by the tables a property is its value alone, where its key may be a name, and its value a reference
abbrev pub is_value_alone : Tables → Bool → Option (List ℕ) → Option Named → Bool
is_value_alone tables shorthand None value = false
is_value_alone tables shorthand (Some w) value = if is_proto w then shorthand else is_said tables value w

-- by the tables a property of a pattern is what it is bound to alone, where its key may be a name, and that a name
abbrev pub is_bound_alone : Tables → Option (List ℕ) → Option Named → Bool
is_bound_alone tables None value = false
is_bound_alone tables (Some w) value = is_said tables value w

-- a key, in brackets where it needs them
abbrev pub key_of : Bool → Tree → Items
key_of computed key = key_items (needs_brackets computed key) key (spell key (in_brackets Comma))

-- by the tables a key, which may be a name, is what the target of a property is printed as
abbrev pub is_key_said : Tables → Option (List ℕ) → Option Named → Bool
is_key_said tables None target = false
is_key_said tables (Some w) target = is_said tables target w
