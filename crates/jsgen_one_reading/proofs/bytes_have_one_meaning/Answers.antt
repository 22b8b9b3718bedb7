use Rattle.jsgen_one_reading.proofs.Meaning as meaning
use Rattle.jsgen_one_reading.proofs.bytes_have_one_meaning.Goals as goal

pub returns : goal.returns
returns c = meaning.bytes_have_one_meaning
