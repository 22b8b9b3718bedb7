use Rattle.jsgen_check.specs.Verdict.{surroundings_plain}
use Rattle.jsgen_check.proofs.Numbers.{as_given}
use Rattle.jsgen_check.proofs.rules.check_binding_identifier_rules.Goals as goal

pub returns : goal.returns
unfolding surroundings_plain
returns c = rw as_given (rw c.deref.ensures at c.check_binding.ensures)
