use Rattle.jsgen_one_reading.proofs.Modules as modules
use Rattle.jsgen_one_reading.proofs.one_program.Goals as goal

pub returns : goal.returns
returns c = modules.one_program
