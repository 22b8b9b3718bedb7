use Rattle.std.proofs.Common.{arith}
use Rattle.std.proofs.lemmas.Grind.{common_steps}
use Rattle.jsgen_text.proofs.raw.print_string_escape.Goals as goal

pub returns-then-c-eq8233-clause-appended : goal.returns-then-c-eq8233-clause-appended
returns-then-c-eq8233-clause-appended c = grind (arith, common_steps)
