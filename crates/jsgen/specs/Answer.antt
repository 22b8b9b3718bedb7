-- What is answered of a job that was read.
use Rattle.std.specs.Prelude.{◌≡◌, ⊤, ℕ, List, Contains, String, string_bytes, Result, Ok, Err}
use Rattle.std.specs.declared.alloc.Global.{Global}
use Rattle.jsgen_tree.specs.Job.{JobData}
use Rattle.jsgen_model.specs.Valid.{job_breaches, IsValid}
use Rattle.jsgen_check.specs.Verdict.{told}
use Rattle.jsgen_jobs.specs.Built.{IsBuiltOf}
use Rattle.jsgen_jobs.specs.declared.Built.{Built}
use Rattle.jsgen_jobs.specs.declared.JobFault.{JobFault}
use Rattle.jsgen_jobs.specs.declared.JobFault.TheVariants.{NotJob, Refused, Memory}

-- a fault of it: a rule that it breaks, the one that is told, or want of memory
abbrev pub IsFaultOf : JobData → JobFault → Type 0
IsFaultOf job (NotJob fault) = ⊥
IsFaultOf job (Refused fault) = Contains (job_breaches job) fault × (told job ≡ Err fault)
IsFaultOf job Memory = ⊤

-- the verdict on it
abbrev pub VerdictOn : JobData → Result (Unit {0}) JobFault → Type 0
VerdictOn job (Ok done) = IsValid job
VerdictOn job (Err fault) = IsFaultOf job fault

-- a text of it
abbrev pub AnswersOn : (JobData → List ℕ) → JobData → Result (String Global) JobFault → Type 0
AnswersOn wanted job (Ok text) = IsValid job × (string_bytes text ≡ wanted job)
AnswersOn wanted job (Err fault) = IsFaultOf job fault

-- all that is made of it
abbrev pub BuildsOn : JobData → Result Built JobFault → Type 0
BuildsOn job (Ok built) = IsValid job × IsBuiltOf job built
BuildsOn job (Err fault) = IsFaultOf job fault
