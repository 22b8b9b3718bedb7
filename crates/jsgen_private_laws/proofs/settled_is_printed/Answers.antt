use Rattle.jsgen_private_laws.proofs.Printed as jobs
use Rattle.jsgen_private_laws.proofs.settled_is_printed.Goals as goal

pub returns : goal.returns
returns c = jobs.text_same
