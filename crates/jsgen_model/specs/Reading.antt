-- What a text is read as.
use Rattle.std.specs.Prelude.{◌≡◌, ℕ, List, Option, true}
use Rattle.jsgen_tree.specs.Tree.{Tree}
use Rattle.jsgen_tree.specs.Job.{JobData}
use Rattle.jsgen_model.specs.Tokens.{Tokens, AreTokensOf, AreTokensBehind, are_plain}
use Rattle.jsgen_model.specs.Grammar.{ReadsModule, ReadsProgram}
use Rattle.jsgen_model.specs.Normal.{normal}
use Rattle.jsgen_model.specs.Renamed.{renamed}
use Rattle.jsgen_model.specs.Resolved.{renamed_program}

-- the text has plain tokens, which are read as a program with the normal form of the job's program, renamed by its tables
pub record IsReadAs (text : List ℕ) (job : JobData) : Type 0 where
  pub tokens : Tokens
  pub are_tokens : AreTokensOf text tokens
  pub plain : are_plain tokens ≡ true
  pub reading : Tree
  pub reads : ReadsModule tokens reading
  pub same : normal reading ≡ normal (renamed job.tables job.program)

-- whatever plain tokens the text has, and whatever program they are read as, this has that normal form
abbrev pub IsReadOnlyAs : List ℕ → JobData → Type 0
IsReadOnlyAs text job = (ts : Tokens) (p : Tree) → AreTokensOf text ts → are_plain ts ≡ true → ReadsModule ts p → normal p ≡ normal (renamed job.tables job.program)

-- the text has tokens, behind a hashbang or without one, which are read as a program with the normal form of this one
pub record HasReadingAs (text : List ℕ) (program : Tree) : Type 0 where
  pub hashbang : Option (List ℕ)
  pub tokens : Tokens
  pub are_tokens : AreTokensBehind hashbang text tokens
  pub reading : Tree
  pub reads : ReadsProgram hashbang tokens reading
  pub same : normal reading ≡ normal program

-- it is the job's program, with private names too renamed by its tables
abbrev pub HasReading : List ℕ → JobData → Type 0
HasReading text job = HasReadingAs text (renamed_program job.tables job.program)
