use Rattle.jsgen_c.proofs.Reading.{reads}
use Rattle.jsgen_c.proofs.jsgen_print_job.Goals as goal

pub returns-clause-reads : goal.returns-clause-reads
returns-clause-reads c =
    reads c.status.result c.answer.result c.args.job.now c.args.buffer.now c.print-outcome.new.buffer
    (c.print-outcome.result, c.status.ensures, c.answer.ensures, c.print-outcome.ensures)
