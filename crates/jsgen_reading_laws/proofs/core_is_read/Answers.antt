use Rattle.jsgen_reading_laws.proofs.Reading as reading
use Rattle.jsgen_reading_laws.proofs.core_is_read.Goals as goal

pub returns : goal.returns
returns c = reading.core_is_read
