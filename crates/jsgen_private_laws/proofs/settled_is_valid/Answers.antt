use Rattle.jsgen_private_laws.proofs.JobsSame as jobs
use Rattle.jsgen_private_laws.proofs.settled_is_valid.Goals as goal

pub returns : goal.returns
returns c = jobs.valid_same
