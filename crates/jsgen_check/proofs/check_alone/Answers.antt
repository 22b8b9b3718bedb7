use Rattle.jsgen_check.proofs.Steps.{broken, found, kept, of_child_of_set}
use Rattle.jsgen_check.proofs.check_alone.Goals as goal

pub returns-in_err-check_place_alone : goal.returns-in_err-check_place_alone
returns-in_err-check_place_alone c = broken c.from_residual.ensures.1 (of_child_of_set _ _ _ _ (found _ c.in_err-check_place_alone.ensures))

pub returns : goal.returns
returns c = of_child_of_set _ _ _ _ (kept c.in_ok-check_place_alone.ensures c.check_expression_set.ensures.found)
