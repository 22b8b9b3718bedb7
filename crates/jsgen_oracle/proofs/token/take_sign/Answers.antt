use Rattle.std.proofs.Common.{length, drop, ap, ◌∙◌, sym, subst, arith}
use Rattle.jsgen_model.specs.Tokens.{Sign}
use Rattle.jsgen_oracle.specs.Signs.{punctuator_plain}
use Rattle.jsgen_oracle.specs.Steps.{StandsAt}
use Rattle.jsgen_oracle.proofs.Signs.{sign_stands, sign_fits}
use Rattle.jsgen_oracle.proofs.token.take_sign.Goals as goal

pub split_at-requires : goal.split_at-requires
split_at-requires c = omega (arith, sign_fits (punctuator_plain c.in-Some.sign) c.args.text.now c.in-Some.ensures, ap length c.text.ensures)

pub returns-in-Some : goal.returns-in-Some
returns-in-Some c = subst (λ r. StandsAt c.args.text.now (Sign (punctuator_plain c.in-Some.sign)) r) (sym (c.split_at.ensures.back ∙ ap (λ t. drop (length t) c.args.text.now) c.text.ensures)) (sign_stands (punctuator_plain c.in-Some.sign) c.args.text.now c.in-Some.ensures)
