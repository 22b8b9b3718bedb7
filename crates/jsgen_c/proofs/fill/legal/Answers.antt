use Rattle.std.proofs.Common.{arith}
use Rattle.jsgen_jobs.specs.LegalText.{legal_bytes}
use Rattle.jsgen_c.proofs.Placing.{answered}
use Rattle.jsgen_c.proofs.fill.legal.Goals as goal

pub returns : goal.returns
returns c =
    answered legal_bytes c.legal_job.result c.fill.result c.args.job.now c.args.buffer.now c.fill.new.buffer
    (omega (arith, c.if-job-gt-LIMIT.false)) c.legal_job.ensures.answer c.legal_job.ensures.rule c.fill.ensures
