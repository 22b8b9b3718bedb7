use Rattle.jsgen_rows.proofs.Told.{told}
use Rattle.jsgen_rows.proofs.job_faults_are_told.Goals as goal

pub returns : goal.returns
returns c = told
