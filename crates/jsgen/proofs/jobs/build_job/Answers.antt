use Rattle.std.proofs.Common.{refl}
use Rattle.jsgen_tree.specs.Plain.{program_plain}
use Rattle.jsgen.specs.Codegen.{job_for}
use Rattle.jsgen.proofs.Answered.{builds, same_job}
use Rattle.jsgen.proofs.jobs.build_job.Goals as goal

pub returns-clause-answer : goal.returns-clause-answer
returns-clause-answer c =
    let made = c.printer_for-printer.ensures in
    let program = program_plain c.in_ok-options.field-0.program in
    builds c.args.bytes.now _ (job_for c.printer_for-printer.result program) c.built_of-built.result c.in_ok-options.ensures.read
    (same_job (job_for c.printer_for-printer.result program) _ made.options made.scoping made.private refl) c.built_of-built.ensures
