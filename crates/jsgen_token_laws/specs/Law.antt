-- What is promised of a text's tokens.
use Rattle.std.specs.Prelude.{◌≡◌, ℕ, List, true}
use Rattle.jsgen_model.specs.Tokens.{Tokens, AreTokensOf, are_plain}

-- every text, printed or not, has at most one list of plain tokens
abbrev pub OneTokenList : Type 0
OneTokenList = (text : List ℕ) (ts us : Tokens) → AreTokensOf text ts → are_plain ts ≡ true → AreTokensOf text us → are_plain us ≡ true → ts ≡ us
