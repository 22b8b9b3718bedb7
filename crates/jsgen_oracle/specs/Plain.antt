-- The program's tokens as those of the model.
use Rattle.std.specs.Prelude.{List, [], ◌∷◌, map}
use Rattle.jsgen_model.specs.Punctuator.{Bracket, Round, Square, Brace}
use Rattle.jsgen_model.specs.Tokens.{Tokens, done, piece, group, Piece, Word, Number, Quoted, Sign}
use Rattle.jsgen_oracle.specs.Signs.{punctuator_plain}
use Rattle.jsgen_oracle.specs.declared.token.Bracket as program_bracket
use Rattle.jsgen_oracle.specs.declared.token.Bracket.TheVariants as brackets
use Rattle.jsgen_oracle.specs.declared.token.Piece as program_piece
use Rattle.jsgen_oracle.specs.declared.token.Piece.TheVariants as pieces
use Rattle.jsgen_oracle.specs.declared.token.Token.{Token}
use Rattle.jsgen_oracle.specs.declared.token.Token.TheOpen.{Token-F}
use Rattle.jsgen_oracle.specs.declared.token.Token.TheOpen as tokens
use Rattle.jsgen_oracle.specs.declared.token.Token.TheFolds.{fold-Token}

abbrev pub bracket_plain : program_bracket.Bracket → Bracket
bracket_plain brackets.Round = Round
bracket_plain brackets.Square = Square
bracket_plain brackets.Brace = Brace

abbrev pub piece_plain : program_piece.Piece → Piece
piece_plain (pieces.Word w) = Word w.items
piece_plain (pieces.Number w) = Number w.items
piece_plain (pieces.Quoted q w) = Quoted q w.items
piece_plain (pieces.Sign s) = Sign (punctuator_plain s)

-- one token before the next
abbrev pub row_of : List (Tokens → Tokens) → Tokens
row_of [] = done
row_of (f ∷ fs) = f (row_of fs)

-- one layer, whose tokens are plain data already
abbrev pub token_layer : Token-F (Tokens → Tokens) → Tokens → Tokens
token_layer (tokens.Piece line p) ts = piece line (piece_plain p) ts
token_layer (tokens.Group line b inside) ts = group line (bracket_plain b) (row_of inside.items) ts

-- the token before a row
unfoldable pub token_plain : Token → Tokens → Tokens
token_plain = fold-Token (Tokens → Tokens) token_layer

abbrev pub tokens_plain : List Token → Tokens
tokens_plain ts = row_of (map token_plain ts)
