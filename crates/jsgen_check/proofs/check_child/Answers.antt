use Rattle.jsgen_check.proofs.Steps.{of_both_parts}
use Rattle.jsgen_check.proofs.check_child.Goals as goal

pub returns : goal.returns
returns g c = record { found = of_both_parts _ _ _ _ c.both.ensures c.check_place-place.ensures c.check-found.ensures.found; number = c.check-found.ensures.number }
