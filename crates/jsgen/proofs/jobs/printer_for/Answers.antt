use Rattle.std.proofs.Common.{ap, ◌∙◌}
use Rattle.jsgen.proofs.jobs.printer_for.Goals as goal

pub returns-clause-scoping : goal.returns-clause-scoping
returns-clause-scoping c =
    ap (λ t. t.scoping) c.with_private_member_mappings.ensures.tables ∙ (ap (λ t. t.scoping) c.with_scoping.ensures.tables ∙ c.lent_scoping.ensures)
