-- That a text has no plain tokens.
use Rattle.std.specs.Prelude.{◌≡◌, ℕ, List, true}
use Rattle.jsgen_model.specs.Tokens.{Tokens, AreTokensOf, are_plain}

-- no list of plain tokens is this text's
abbrev pub HasNoPlainTokens : List ℕ → Type 0
HasNoPlainTokens text = (ts : Tokens) → AreTokensOf text ts → are_plain ts ≡ true → ⊥
