use Rattle.jsgen_one_reading.proofs.Modules as modules
use Rattle.jsgen_one_reading.proofs.module_is_read.Goals as goal

pub returns : goal.returns
returns c = modules.module_read
