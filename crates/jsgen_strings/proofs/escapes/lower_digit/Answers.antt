use Rattle.std.proofs.Common.{arith}
use Rattle.jsgen_strings.proofs.escapes.lower_digit.Goals as goal

pub returns-else-n-lt10 : goal.returns-else-n-lt10
returns-else-n-lt10 c = grind arith
