use Rattle.serde_json.specs.View.{view}
use Rattle.jsgen_rows.proofs.JobLaw.{program_law}
use Rattle.jsgen_rows.proofs.read_program.Goals as goal

pub returns : goal.returns
returns c = rw (← program_law (view c.args.value.now)) c.read_steps.ensures
