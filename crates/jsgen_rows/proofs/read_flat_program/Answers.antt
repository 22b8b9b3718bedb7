use Rattle.jsgen_flat.specs.Views.{sections}
use Rattle.jsgen_rows.proofs.JobLaw.{flat_law}
use Rattle.jsgen_rows.proofs.read_flat_program.Goals as goal

pub returns : goal.returns
returns c = rw (← flat_law (sections c.args.flat.now)) c.read_flat_steps.ensures
