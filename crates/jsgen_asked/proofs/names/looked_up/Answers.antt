use Rattle.std.proofs.Common.{rules}
use Rattle.jsgen_asked.proofs.names.looked_up.Goals.{in_default-via-in-Some+in-Expression+in_default, in_default-via-in-Some+in-Target+in_default, in_default-via-in_default}
use Rattle.jsgen_asked.proofs.names.looked_up.Goals as goal

pub returns-in_default : goal.returns-in_default
returns-in_default c = elim c.in_default.branch [
  | in_default-via-in-Some+in-Expression+in_default w ↦ search rules
  | in_default-via-in-Some+in-Target+in_default w ↦ search rules
  | in_default-via-in_default w ↦ search rules
]
