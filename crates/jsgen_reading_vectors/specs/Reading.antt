-- What a text is read as.
use Rattle.std.specs.Prelude.{ℕ, List}
use Rattle.jsgen_tree.specs.Tree.{Tree, absent, Trees, no_trees}
use Rattle.jsgen_tree.specs.Nodes as tree
use Rattle.jsgen_model.specs.Normal.{nothing_of, named, unnumbered}
use Rattle.jsgen_model.specs.Tokens.{Tokens, AreTokensOf}
use Rattle.jsgen_model.specs.Grammar.{ReadsModule}

-- the text has tokens, and they are read as this program
abbrev pub IsRead : List ℕ → Tree → Type 0
IsRead source t = (ts : Tokens) × AreTokensOf source ts × ReadsModule ts t

-- ---- trees

abbrev pub program_of : Trees → Trees → Tree
program_of directives body = tree.program (nothing_of 4) no_trees absent directives body

abbrev pub statement_of : Tree → Tree
statement_of expression = tree.expression_statement (nothing_of 0) expression

abbrev pub reference_of : List ℕ → Tree
reference_of name = tree.identifier_reference (unnumbered name)

abbrev pub name_of : List ℕ → Tree
name_of name = tree.binding_identifier (unnumbered name)

abbrev pub key_of : List ℕ → Tree
key_of name = tree.identifier_name (named name)
