use Rattle.std.proofs.Common.{◌++◌, codes, ap, sym}
use Rattle.jsgen_fields.specs.Texts.{fault_text}
use Rattle.jsgen_tool.proofs.status.not_job.Goals as goal

pub returns-in-Shared : goal.returns-in-Shared
returns-in-Shared c = sym (ap (λ fault. codes "not a job: " ++ fault_text fault) c.in-Shared.is)
