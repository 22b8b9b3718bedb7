use Rattle.std.proofs.Common.{refl}
use Rattle.jsgen_rules.specs.Verdict.{verdict}
use Rattle.jsgen_check.proofs.rules.check_numeric_literal_rules.Goals as goal

pub returns-in-Whole : goal.returns-in-Whole
unfolding verdict
returns-in-Whole c = rw c.in-Whole.is refl
