use Rattle.jsgen_oracle.proofs.Signs.{first_is_sign}
use Rattle.jsgen_oracle.proofs.punctuator.sign_at.Goals as goal

pub returns : goal.returns
returns c = first_is_sign c.args.text.now _ c.first_standing.ensures
