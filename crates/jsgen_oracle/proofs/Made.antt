-- The plain data of each kind of token.
use Rattle.std.proofs.Common.{◌≡◌, Bool, List, ◌∷◌, sym, ap, ◌∙◌}
use Rattle.std.specs.declared.vec.Vec.{Vec}
use Rattle.std.specs.declared.alloc.Global.{Global}
use Rattle.jsgen_model.specs.Tokens.{Tokens, piece, group}
use Rattle.jsgen_oracle.specs.Plain.{bracket_plain, piece_plain, token_plain, token_layer, tokens_plain}
use Rattle.jsgen_oracle.specs.declared.token.Bracket as program_bracket
use Rattle.jsgen_oracle.specs.declared.token.Piece as program_piece
use Rattle.jsgen_oracle.specs.declared.token.Token.{Token}
use Rattle.jsgen_oracle.specs.declared.token.Token.TheOpen as open_tokens
use Rattle.jsgen_oracle.specs.declared.token.Token.TheVariants.{Piece, Group, rolls-Piece, rolls-Group}
use Rattle.jsgen_oracle.specs.declared.token.Token.TheFolds.{fold-roll-Token}

pub piece_first : (line : Bool) (p : program_piece.Piece) (ts : List Token) → tokens_plain (Piece line p ∷ ts) ≡ piece line (piece_plain p) (tokens_plain ts)
unfolding token_plain
piece_first line p ts = ap (λ f. f (tokens_plain ts)) (ap token_plain (sym (rolls-Piece line p)) ∙ fold-roll-Token (Tokens → Tokens) token_layer (open_tokens.Piece line p))

pub group_first : (line : Bool) (b : program_bracket.Bracket) (v : Vec Token Global) (ts : List Token) → tokens_plain (Group line b v ∷ ts) ≡ group line (bracket_plain b) (tokens_plain v.items) (tokens_plain ts)
unfolding token_plain
group_first line b v ts = ap (λ f. f (tokens_plain ts)) (ap token_plain (sym (rolls-Group line b v)) ∙ fold-roll-Token (Tokens → Tokens) token_layer (open_tokens.Group line b v))
