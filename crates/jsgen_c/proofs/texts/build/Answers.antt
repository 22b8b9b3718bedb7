use Rattle.std.proofs.Common.{arith}
use Rattle.jsgen_c.proofs.Placing.{built_into}
use Rattle.jsgen_c.proofs.texts.build.Goals as goal

pub returns : goal.returns
returns c =
    built_into c.build_job.result c.fill_all.result c.args.job.now c.args.buffer.now c.fill_all.new.buffer
    (omega (arith, c.if-job-gt-LIMIT.false)) c.build_job.ensures.answer c.build_job.ensures.rule c.fill_all.ensures
