use Rattle.jsgen_model.proofs.PlainPrograms as plain
use Rattle.jsgen_model.proofs.laws.core_by_types.Goals as goal

pub returns : goal.returns
returns c = plain.core_by_types
