-- The statement `console.log(MESSAGE, NAME);`, as the tree that it is.
use Rattle.std.specs.Prelude.{ℕ, List, [], ◌∷◌, false, flat_map, codes}
use Rattle.std.specs.Char.Escape.{encode_utf16}
use Rattle.jsgen_syntax.specs.declared.span.SourceKind.TheVariants.{Module}
use Rattle.jsgen_tree.specs.Atom.{Atom, no_value, text, units, flag, source_kind}
use Rattle.jsgen_tree.specs.Tree.{Tree, Atoms, absent, no_trees, trees}
use Rattle.jsgen_tree.specs.Nodes as tree
use Rattle.jsgen_tree.specs.Options.{default_options}
use Rattle.jsgen_tree.specs.Job.{JobData, no_tables}
use Rattle.jsgen_model.specs.Reading.{IsReadAs}
use Rattle.jsgen_model.specs.Valid.{IsValid}

-- what a node holds that stands in no source
abbrev pub holds : List Atom → Atoms
holds values = record { span = record { start = 0; end = 0 }; values = values }

-- a name that is looked up, which has no number of a reference
abbrev pub reference : List ℕ → Tree
reference name = tree.identifier_reference (holds (text name ∷ no_value ∷ []))

-- a string, whose value is units of UTF-16
abbrev pub string : List ℕ → Tree
string characters = tree.string_literal (holds (units (flat_map encode_utf16 characters) ∷ []))

-- `OBJECT.NAME`, with no `?`
abbrev pub member : Tree → List ℕ → Tree
member object name = tree.static_member (holds (flag false ∷ [])) object (tree.identifier_name (holds (text name ∷ [])))

-- `CALLEE(ARGUMENTS)`, with no `?` and no `pure` mark
abbrev pub call : Tree → List Tree → Tree
call callee arguments = tree.call (holds (flag false ∷ flag false ∷ [])) callee (trees arguments)

abbrev pub statement : Tree → Tree
statement expression = tree.expression_statement (holds []) expression

-- a module of one statement, without a source
abbrev pub only : Tree → Tree
only s = tree.program (holds (text [] ∷ source_kind Module ∷ no_value ∷ no_value ∷ [])) no_trees absent no_trees (trees (s ∷ []))

abbrev pub console_log : Tree
console_log = member (reference (codes "console")) (codes "log")

abbrev pub log_call : List ℕ → List ℕ → Tree
log_call message name = call console_log (string message ∷ reference name ∷ [])

abbrev pub log_program : List ℕ → List ℕ → Tree
log_program message name = only (statement (log_call message name))

-- the program to be printed by the default options
abbrev pub log_job : List ℕ → List ℕ → JobData
log_job message name = record { options = default_options; tables = no_tables; program = log_program message name }

-- the code is read, by the written grammar, as that program
abbrev pub ReadsAsLogCall : List ℕ → List ℕ → List ℕ → Type 0
ReadsAsLogCall message name code = IsReadAs code (log_job message name)

-- a rule is broken
abbrev pub IsBroken : JobData → Type 0
IsBroken job = IsValid job → ⊥
