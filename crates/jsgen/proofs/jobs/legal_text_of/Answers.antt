use Rattle.std.proofs.Common.{flat_map, ap, ◌∙◌}
use Rattle.jsgen_jobs.specs.LegalText.{licence_line}
use Rattle.jsgen.specs.Licences.{rows_plain}
use Rattle.jsgen.proofs.jobs.legal_text_of.Goals as goal

pub returns-in-Ok-licence_lines : goal.returns-in-Ok-licence_lines
returns-in-Ok-licence_lines c = (c.in_default.ensures.judges, c.in-Ok-licence_lines.ensures ∙ ap (λ rows. flat_map licence_line rows) (ap (λ cs. rows_plain cs) c.deref.ensures.value ∙ c.in-Ok.ensures.licences))
