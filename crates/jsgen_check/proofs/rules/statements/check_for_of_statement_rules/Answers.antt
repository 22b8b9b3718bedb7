use Rattle.jsgen_check.specs.Verdict.{surroundings_plain}
use Rattle.jsgen_check.proofs.Steps.{broken, found, kept, two_rules}
use Rattle.jsgen_check.proofs.rules.statements.check_for_of_statement_rules.Goals as goal

pub returns-in_err-check_await : goal.returns-in_err-check_await
unfolding surroundings_plain
returns-in_err-check_await g c = broken c.from_residual.ensures.1 (two_rules _ _ (found _ c.in_err-check_await.ensures))

pub returns : goal.returns
unfolding surroundings_plain
returns g c = two_rules _ _ (kept c.in_ok-check_await.ensures c.check_left_and_body.ensures)
