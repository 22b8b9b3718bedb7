use Rattle.jsgen_reading_laws.proofs.Reading as reading
use Rattle.jsgen_reading_laws.proofs.printed_is_read.Goals as goal

pub returns : goal.returns
returns c = reading.printed_is_read
