-- Which strings minified text keeps out of backticks: the lexer by which Node finds the names that a CommonJS module exports
-- looks for texts such as `require("x")`, and takes no template there (docs/LAYOUT.md). What is asked is asked of the tree as it
-- is, before names are changed.
use Rattle.std.specs.Prelude.{ℕ, List, Bool, true, false, not, ◌&&◌, ◌||◌, ◌==◌, codes}
use Rattle.std.specs.Option.{option_map_or}
use Rattle.std.specs.Str.{bytes_eq}
use Rattle.jsgen_syntax.specs.declared.operator.BinaryOperator.{BinaryOperator}
use Rattle.jsgen_syntax.specs.declared.precedence.Precedence.TheVariants.{Equals}
use Rattle.jsgen_syntax.specs.Precedence.{rank}
use Rattle.jsgen_syntax.specs.Operator.{binary_level}
use Rattle.jsgen_tree.specs.Inside.{inside_parentheses, reference_in, written_name_in}
use Rattle.jsgen_tree.specs.Tree.{Tree, Trees, no_trees, more}
use Rattle.jsgen_tree.specs.Nodes as tree
use Rattle.jsgen_tree.specs.Values.{string_literal_value, static_member_expression_optional}

-- a reference to this name
abbrev pub is_named : List ℕ → Tree → Bool
is_named name t = option_map_or (λ w. bytes_eq w name) (reference_in t) false

-- the member of this name of what has that name, by no optional link
abbrev pub is_member_of : List ℕ → List ℕ → Tree → Bool
is_member_of object name (tree.static_member a o property) = not (static_member_expression_optional a) && (is_named object o && option_map_or (λ w. bytes_eq w name) (written_name_in property) false)
is_member_of object name t = false

abbrev pub is_string : Tree → Bool
is_string (tree.string_literal a) = true
is_string t = false

-- `require("x")`

abbrev pub is_one_string : Trees → Bool
is_one_string (more t no_trees) = is_string t
is_one_string ts = false

abbrev pub is_require_call : Tree → Trees → Bool
is_require_call callee arguments = is_named (codes "require") callee && is_one_string arguments

-- `Object.defineProperty(x, "y", ..)` and `Reflect.defineProperty(x, "y", ..)`

abbrev pub has_second_string : Trees → Bool
has_second_string (more t (more u ts)) = is_string u
has_second_string ts = false

abbrev pub defines_property : Tree → Bool
defines_property callee = is_member_of (codes "Object") (codes "defineProperty") callee || is_member_of (codes "Reflect") (codes "defineProperty") callee

abbrev pub is_definition_call : Tree → Trees → Bool
is_definition_call callee arguments = defines_property callee && has_second_string arguments

-- `exports["x"]` and `module.exports["x"]`, where they are given a value

abbrev pub is_exports : Tree → Bool
is_exports t = is_named (codes "exports") t || is_member_of (codes "module") (codes "exports") t

abbrev pub is_key_of_exports : Tree → Bool
is_key_of_exports (tree.computed_member a object key) = is_exports object && is_string key
is_key_of_exports t = false

-- `"default"` and `"__esModule"`, where something is compared with them

abbrev pub is_equality : BinaryOperator → Bool
is_equality o = rank (binary_level o) == rank Equals

abbrev pub says_default : Tree → Bool
says_default (tree.string_literal a) = bytes_eq (string_literal_value a) (codes "default") || bytes_eq (string_literal_value a) (codes "__esModule")
says_default t = false

abbrev pub is_export_mark : BinaryOperator → Tree → Bool
is_export_mark o operand = is_equality o && says_default (inside_parentheses operand)
