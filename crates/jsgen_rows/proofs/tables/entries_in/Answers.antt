use Rattle.std.proofs.Common.{arith}
use Rattle.std.proofs.lemmas.Grind.{common_steps}
use Rattle.jsgen_rows.proofs.tables.entries_in.Goals as goal

pub returns-in_err-entry : goal.returns-in_err-entry
returns-in_err-entry l = grind (arith, common_steps)

pub loop-item-preserved : goal.loop-item-preserved
loop-item-preserved l = grind (arith, common_steps)

pub returns : goal.returns
returns l = grind (arith, common_steps)
