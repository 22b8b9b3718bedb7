use Rattle.std.proofs.Common.{◌∙◌}
use Rattle.jsgen_tree.specs.Plain.{program_plain}
use Rattle.jsgen.specs.Codegen.{job_for}
use Rattle.jsgen.proofs.Maps.{lines_are}
use Rattle.jsgen.proofs.jobs.map_text_of.Goals as goal

pub returns-in-Ok-lines_of : goal.returns-in-Ok-lines_of
returns-in-Ok-lines_of c = (c.in_default.ensures.judges, c.in-Ok-lines_of.ensures ∙ lines_are (job_for c.args.printer (program_plain c.args.program.now)) c.in-Ok.printed.map c.in-Ok.ensures.map)
