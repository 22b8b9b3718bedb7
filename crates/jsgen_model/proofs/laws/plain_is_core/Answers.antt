use Rattle.jsgen_model.proofs.PlainPrograms as plain
use Rattle.jsgen_model.proofs.laws.plain_is_core.Goals as goal

pub returns : goal.returns
returns c = plain.plain_is_core
