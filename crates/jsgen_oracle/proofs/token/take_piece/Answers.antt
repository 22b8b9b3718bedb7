use Rattle.std.proofs.Common.{sym, ◌∙◌}
use Rattle.jsgen_oracle.specs.Plain.{piece_plain}
use Rattle.jsgen_oracle.specs.Steps.{StandsAt}
use Rattle.jsgen_oracle.proofs.Quoted.{sign_or_none}
use Rattle.jsgen_oracle.proofs.token.take_piece.Goals as goal

pub returns-in-None : goal.returns-in-None
returns-in-None c = sign_or_none c.take_sign.result (λ t. StandsAt c.args.text.now (piece_plain t.piece) t.rest.now) c.args.text.now (sym c.begins_word.ensures ∙ c.if-begins_word.false) (sym c.begins_number.ensures ∙ c.if-begins_number.false) (sym c.quote_at.ensures ∙ c.in-None.is) c.take_sign.ensures
