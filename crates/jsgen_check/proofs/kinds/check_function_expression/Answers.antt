use Rattle.jsgen_check.proofs.Steps.{of_both_parts}
use Rattle.jsgen_check.proofs.kinds.check_function_expression.Goals as goal

pub returns : goal.returns
returns g c = record { found = of_both_parts _ _ _ _ c.both.ensures c.check_function_place-place.ensures c.check_function-found.ensures.found; number = c.check_function-found.ensures.number }
