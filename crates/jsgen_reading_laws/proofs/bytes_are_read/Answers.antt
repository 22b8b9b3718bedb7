use Rattle.jsgen_reading_laws.proofs.Reading as reading
use Rattle.jsgen_reading_laws.proofs.bytes_are_read.Goals as goal

pub returns : goal.returns
returns c = reading.bytes_are_read
