use Rattle.std.proofs.Common.{arith}
use Rattle.jsgen_jobs.specs.MapText.{map_bytes}
use Rattle.jsgen_c.proofs.Placing.{answered}
use Rattle.jsgen_c.proofs.fill.map.Goals as goal

pub returns : goal.returns
returns c =
    answered map_bytes c.map_job.result c.fill.result c.args.job.now c.args.buffer.now c.fill.new.buffer
    (omega (arith, c.if-job-gt-LIMIT.false)) c.map_job.ensures.answer c.map_job.ensures.rule c.fill.ensures
