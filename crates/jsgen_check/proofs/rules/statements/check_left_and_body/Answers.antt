use Rattle.jsgen_check.proofs.Steps.{broken, found, kept, two_rules}
use Rattle.jsgen_check.proofs.rules.statements.check_left_and_body.Goals as goal

pub returns-in_err-check_left : goal.returns-in_err-check_left
returns-in_err-check_left g c = broken c.from_residual.ensures.1 (two_rules _ _ (found _ c.in_err-check_left.ensures))

pub returns : goal.returns
returns g c = two_rules _ _ (kept c.in_ok-check_left.ensures (rw c.get.ensures at c.check_followed.ensures))
