use Rattle.std.proofs.Common.{arith}
use Rattle.jsgen_model.specs.Spell.{text_bytes}
use Rattle.jsgen_c.proofs.Placing.{answered}
use Rattle.jsgen_c.proofs.fill.print.Goals as goal

pub returns : goal.returns
returns c =
    answered text_bytes c.print_job.result c.fill.result c.args.job.now c.args.buffer.now c.fill.new.buffer
    (omega (arith, c.if-job-gt-LIMIT.false)) c.print_job.ensures.answer c.print_job.ensures.rule c.fill.ensures
