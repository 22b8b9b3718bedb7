use Rattle.std.proofs.Common.{arith}
use Rattle.std.proofs.lemmas.Grind.{common_steps}
use Rattle.jsgen_oracle.proofs.number.+count_number.Goals as goal

pub returns-then-accepts-2-clause-value : goal.returns-then-accepts-2-clause-value
returns-then-accepts-2-clause-value t c = grind (arith, common_steps)

pub returns-else-accepts-2-clause-value : goal.returns-else-accepts-2-clause-value
returns-else-accepts-2-clause-value t c = grind (arith, common_steps)
