use Rattle.std.proofs.Common.{refl}
use Rattle.jsgen_questions.proofs.operands.right_level.Goals as goal

pub returns-in-Exponential : goal.returns-in-Exponential
returns-in-Exponential c = rw c.in-Exponential.is refl
