use Rattle.jsgen_check.proofs.Steps.{broken, found, kept, two_rules}
use Rattle.jsgen_check.proofs.rules.statements.check_if_statement_rules.Goals as goal

pub returns-in_err-check_followed : goal.returns-in_err-check_followed
returns-in_err-check_followed g c = broken c.from_residual.ensures.1 (two_rules _ _ (found _ (rw c.get.ensures at c.in_err-check_followed.ensures)))

pub returns : goal.returns
returns g c = two_rules _ _ (kept (rw c.get.ensures at c.in_ok-check_followed.ensures) c.check_alternate.ensures)
