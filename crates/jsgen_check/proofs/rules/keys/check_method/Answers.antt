use Rattle.jsgen_check.proofs.Steps.{broken, found, kept, two_rules}
use Rattle.jsgen_check.proofs.rules.keys.check_method.Goals as goal

pub returns-in_err-check_method_key : goal.returns-in_err-check_method_key
returns-in_err-check_method_key g c = broken c.from_residual.ensures.1 (two_rules _ _ (found _ c.in_err-check_method_key.ensures))

pub returns : goal.returns
returns g c = two_rules _ _ (kept c.in_ok-check_method_key.ensures (rw c.get.ensures at c.check_method_value.ensures))
