use Rattle.jsgen_model.proofs.PlainPrograms.{core_by_types}
use Rattle.jsgen.proofs.laws.jobs_core_by_types.Goals as goal

pub returns : goal.returns
returns c = core_by_types c.args.job.now.program
