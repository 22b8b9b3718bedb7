use Rattle.jsgen_comment_laws.proofs.Laws.{comments_stand}
use Rattle.jsgen_model.proofs.PlainPrograms.{program_is_formed}
use Rattle.jsgen_rows.specs.Job.{job_plain}
use Rattle.jsgen.proofs.laws.comments_of_jobs_stand.Goals as goal

pub returns : goal.returns
returns c = comments_stand (job_plain c.args.job.now) (program_is_formed c.args.job.now.program)
