use Rattle.std.proofs.Common.{rules}
use Rattle.jsgen_tool.proofs.top.check.Goals as goal

pub returns-in-Err-Refused-clause-input : goal.returns-in-Err-Refused-clause-input
returns-in-Err-Refused-clause-input g c = search rules
