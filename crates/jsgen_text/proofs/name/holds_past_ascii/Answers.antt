use Rattle.std.proofs.Common.{arith}
use Rattle.std.proofs.lemmas.Grind.{common_steps}
use Rattle.jsgen_text.proofs.name.holds_past_ascii.Goals as goal

pub returns-then-byte-ge128 : goal.returns-then-byte-ge128
returns-then-byte-ge128 c = grind (arith, common_steps)

pub loop-byte-preserved : goal.loop-byte-preserved
loop-byte-preserved c = grind (arith, common_steps)

pub returns : goal.returns
returns c = grind (arith, common_steps)
