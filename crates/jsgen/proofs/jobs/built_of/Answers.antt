use Rattle.std.proofs.Common.{flat_map, ap, ◌∙◌}
use Rattle.jsgen_tree.specs.Plain.{program_plain}
use Rattle.jsgen_jobs.specs.LegalText.{licence_line}
use Rattle.jsgen.specs.Codegen.{job_for}
use Rattle.jsgen.proofs.Maps.{lines_are}
use Rattle.jsgen.proofs.jobs.built_of.Goals as goal

pub returns-in-Ok-texts_of : goal.returns-in-Ok-texts_of
returns-in-Ok-texts_of c =
    let made = c.in-Ok-texts_of.ensures in
    let printed = c.in-Ok.ensures in
    let job = job_for c.args.printer (program_plain c.args.program.now) in
    (c.in_default.ensures.judges, (made.code ∙ printed.text, made.map ∙ lines_are job c.in-Ok.printed.map printed.map, made.licences ∙ ap (λ rows. flat_map licence_line rows) printed.licences))
