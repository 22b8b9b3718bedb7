-- The trees of imports and exports, as the reader puts them together.
use Rattle.std.specs.Prelude.{ℕ, List, [], ◌∷◌, if◌then◌else◌}
use Rattle.jsgen_syntax.specs.Name.{is_free_name}
use Rattle.jsgen_tree.specs.Atom.{with_keyword}
use Rattle.jsgen_tree.specs.declared.modules.WithKeyword.TheVariants as with_keywords
use Rattle.jsgen_tree.specs.Tree.{Tree, Maybe, absent, given, Trees, MaybeTrees}
use Rattle.jsgen_tree.specs.Places.{bare}
use Rattle.jsgen_tree.specs.Nodes as tree
use Rattle.jsgen_model.specs.Normal.{nothing_of, unnumbered}
use Rattle.jsgen_model.specs.Grammar.{units_of, text_of, of_values}

-- ---- imports

-- `import(..)`, by what stands in its parentheses
abbrev pub import_call_of : Tree → Maybe → Tree
import_call_of e options = tree.import_call (nothing_of 0) e options

-- an import, before its source
abbrev pub import_of : MaybeTrees → Tree → Maybe → Tree
import_of names s clause = tree.import_declaration of_values names s clause

abbrev pub default_import : Tree → Tree
default_import b = tree.import_default_specifier (nothing_of 0) b

abbrev pub namespace_import : Tree → Tree
namespace_import b = tree.import_namespace_specifier (nothing_of 0) b

abbrev pub named_import : Tree → Tree → Tree
named_import k b = tree.import_specifier of_values k b

-- what a name binds if it stands alone
abbrev pub bound_alike : List ℕ → Maybe
bound_alike v = if is_free_name v then given (tree.binding_identifier (unnumbered v)) else absent

-- a word as a name of an import or an export
abbrev pub word_text : List ℕ → Tree
word_text v = text_of (units_of v)

abbrev pub attribute_of : Tree → Tree → Tree
attribute_of key value = tree.import_attribute (nothing_of 0) key value

abbrev pub attributes_of : Trees → Maybe
attributes_of es = given (tree.with_clause (bare (with_keyword with_keywords.With ∷ [])) es)

-- ---- exports

abbrev pub exported : Tree → Tree
exported d = tree.export_declaration (nothing_of 0) d

abbrev pub default_exported : Tree → Tree
default_exported d = tree.export_default_declaration (nothing_of 0) d

abbrev pub named_export : Tree → Tree → Tree
named_export k l = tree.export_specifier of_values k l

abbrev pub export_of : Trees → Tree
export_of ss = tree.export_named_declaration of_values ss

-- with a source
abbrev pub export_from : Trees → Tree → Maybe → Tree
export_from ss s clause = tree.export_from_declaration of_values ss s clause

abbrev pub export_all : Maybe → Tree → Maybe → Tree
export_all k s clause = tree.export_all_declaration of_values k s clause
