-- Tokens as they are mostly written: without a line end before them.
use Rattle.std.proofs.Common.{ℕ, List, false}
use Rattle.jsgen_model.specs.Punctuator.{Punctuator}
use Rattle.jsgen_model.specs.Tokens.{Tokens, piece, Word, Sign}

abbrev pub word : List ℕ → Tokens → Tokens
word w ts = piece false (Word w) ts

abbrev pub sign : Punctuator → Tokens → Tokens
sign s ts = piece false (Sign s) ts
