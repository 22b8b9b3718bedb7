-- What is true of the reader, and of the grammar.
use Rattle.std.specs.Prelude.{◌≡◌, ℕ, List, Option, false}
use Rattle.std.specs.Str.{chars}
use Rattle.jsgen_tree.specs.declared.types.NodeType.TheVariants as types
use Rattle.jsgen_tree.specs.Tree.{Tree, Trees, absent, no_trees, type_of}
use Rattle.jsgen_tree.specs.Job.{JobData}
use Rattle.jsgen_tree.specs.Nodes as tree
use Rattle.jsgen_model.specs.Tokens.{Tokens}
use Rattle.jsgen_model.specs.Normal.{nothing_of}
use Rattle.jsgen_model.specs.Spell.{printed, text_bytes}
use Rattle.jsgen_model.specs.Valid.{IsValid}
use Rattle.jsgen_model.specs.Plain.{IsPlain, IsQuiet}
use Rattle.jsgen_model.specs.Grammar.{ReadsModule, ReadsProgram}
use Rattle.jsgen_model.specs.Reading.{IsReadOnlyAs}
use Rattle.jsgen_one_reading.specs.States.{directives, a_body}
use Rattle.jsgen_one_reading.specs.Reader.{run}

-- what the grammar reads as a module, the reader answers
abbrev pub ModuleIsRead : Type 0
ModuleIsRead = (ts : Tokens) (ds ss : Trees) → ReadsModule ts (tree.program (nothing_of 4) no_trees absent ds ss) → run (directives false no_trees) ts ≡ a_body ds ss

-- the grammar reads tokens as one program
abbrev pub OneReading : Type 0
OneReading = (ts : Tokens) (p q : Tree) → ReadsModule ts p → ReadsModule ts q → p ≡ q

-- and so it does behind a hashbang
abbrev pub OneProgram : Type 0
OneProgram = (hashbang : Option (List ℕ)) (ts : Tokens) (p q : Tree) → ReadsProgram hashbang ts p → ReadsProgram hashbang ts q → p ≡ q

-- the text of a valid, plain and quiet job is read as no program but those with the normal form of the job's, renamed by its tables
abbrev pub OneMeaning : Type 0
OneMeaning = (job : JobData) → type_of job.program ≡ types.Program → IsValid job → IsPlain job.program → IsQuiet job → IsReadOnlyAs (printed job) job

-- and so has the text of its bytes
abbrev pub BytesHaveOneMeaning : Type 0
BytesHaveOneMeaning = (job : JobData) → type_of job.program ≡ types.Program → IsValid job → IsPlain job.program → IsQuiet job → IsReadOnlyAs (chars (text_bytes job)) job
