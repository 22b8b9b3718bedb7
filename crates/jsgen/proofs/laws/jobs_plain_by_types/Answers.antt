use Rattle.jsgen_model.proofs.PlainPrograms.{plain_by_types}
use Rattle.jsgen.proofs.laws.jobs_plain_by_types.Goals as goal

pub returns : goal.returns
returns c = plain_by_types c.args.job.now.program
