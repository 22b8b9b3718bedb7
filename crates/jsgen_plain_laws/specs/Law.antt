-- What is promised of the tokens of a plain program.
use Rattle.std.specs.Prelude.{◌≡◌, true}
use Rattle.jsgen_tree.specs.Job.{Tables}
use Rattle.jsgen_tree.specs.Tree.{Tree}
use Rattle.jsgen_model.specs.Tokens.{Tokens, are_plain}
use Rattle.jsgen_model.specs.Grammar.{ReadsModule}
use Rattle.jsgen_model.specs.Normal.{normal}
use Rattle.jsgen_model.specs.Renamed.{renamed}
use Rattle.jsgen_model.specs.Plain.{IsPlain}

-- tokens that are read as a tree with the normal form of a plain program, whatever its names, are plain
abbrev pub PlainTokensOfPlain : Type 0
PlainTokensOfPlain = (names : Tables) (ts : Tokens) (reading program : Tree) → ReadsModule ts reading → normal reading ≡ normal (renamed names program) → IsPlain program → are_plain ts ≡ true
