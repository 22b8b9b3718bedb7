use Rattle.std.proofs.Common.{arith}
use Rattle.std.proofs.lemmas.Grind.{common_steps}
use Rattle.jsgen_strings.proofs.printed.print_character.Goals as goal

pub returns-then-needs_backslash-clause-appended : goal.returns-then-needs_backslash-clause-appended
returns-then-needs_backslash-clause-appended c = grind (arith, common_steps)
