-- What is said of a job that has no text.
use Rattle.std.specs.Prelude.{ℕ, List, ◌++◌, codes}
use Rattle.jsgen_model.specs.Fault.{rule_text}
use Rattle.jsgen_fields.specs.Texts.{fault_text}
use Rattle.jsgen_jobs.specs.declared.JobFault.{JobFault}
use Rattle.jsgen_jobs.specs.declared.JobFault.TheVariants.{NotJob, Refused, Memory}

abbrev pub job_fault_text : JobFault → List ℕ
job_fault_text (NotJob fault) = codes "not a job: " ++ fault_text fault
job_fault_text (Refused rule) = codes "refused: " ++ rule_text rule
job_fault_text Memory = codes "out of memory"
