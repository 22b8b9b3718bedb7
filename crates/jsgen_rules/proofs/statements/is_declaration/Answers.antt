use Rattle.std.proofs.Common.{refl}
use Rattle.jsgen_rules.proofs.statements.is_declaration.Goals as goal

pub returns-in-None : goal.returns-in-None
returns-in-None c = rw c.in-None.is refl
