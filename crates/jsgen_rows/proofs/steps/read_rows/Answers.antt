use Rattle.std.proofs.Common.{arith}
use Rattle.std.proofs.lemmas.Grind.{common_steps}
use Rattle.jsgen_rows.proofs.steps.read_rows.Goals as goal

pub returns-in_err-read : goal.returns-in_err-read
returns-in_err-read l = grind (arith, common_steps)

pub loop-row-preserved : goal.loop-row-preserved
loop-row-preserved l = grind (arith, common_steps)

pub returns : goal.returns
returns l = grind (arith, common_steps)
