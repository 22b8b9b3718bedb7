use Rattle.jsgen_c.proofs.Reading.{build_reads}
use Rattle.jsgen_c.proofs.jsgen_build_job.Goals as goal

pub returns-clause-reads : goal.returns-clause-reads
returns-clause-reads c =
    build_reads c.status.result c.answer.result c.args.job.now c.args.buffer.now c.build-outcome.new.buffer
    (c.build-outcome.result, c.status.ensures, c.answer.ensures, c.build-outcome.ensures)
