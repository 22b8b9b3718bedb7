use Rattle.jsgen_one_reading.proofs.Meaning as meaning
use Rattle.jsgen_one_reading.proofs.one_meaning.Goals as goal

pub returns : goal.returns
returns c = meaning.one_meaning
