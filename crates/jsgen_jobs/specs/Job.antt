-- The text of a job's bytes.
use Rattle.std.specs.Prelude.{◌≡◌, ⊤, ℕ, List, Contains, String, string_bytes, Result, Ok, Err}
use Rattle.std.specs.declared.alloc.Global.{Global}
use Rattle.jsgen_model.specs.Spell.{text_bytes}
use Rattle.jsgen_tree.specs.Job.{JobData}
use Rattle.jsgen_model.specs.Valid.{job_breaches, IsValid}
use Rattle.jsgen_model.specs.declared.fault.TreeFault.{TreeFault}
use Rattle.jsgen_rows.specs.Job.{job_of, job_plain}
use Rattle.jsgen_rows.specs.declared.Job.{Job}
use Rattle.jsgen_fields.specs.declared.InputFault.{InputFault}
use Rattle.jsgen_fields.specs.declared.InputFault.TheVariants as faults
use Rattle.jsgen_jobs.specs.declared.JobFault.{JobFault}
use Rattle.jsgen_jobs.specs.declared.JobFault.TheVariants.{NotJob, Refused, Memory}

-- the bytes are this job, whose program keeps the rules under its options and tables
abbrev pub IsJobOf : JobData → List ℕ → Type 0
IsJobOf job bytes = (job_of bytes ≡ Ok job) × IsValid job

-- the bytes are a job that keeps the rules
abbrev pub IsSomeJob : List ℕ → Type 0
IsSomeJob bytes = (job : JobData) × IsJobOf job bytes

-- the bytes are a job that breaks this rule
abbrev pub Breaks : TreeFault → List ℕ → Type 0
Breaks fault bytes = (job : JobData) × (job_of bytes ≡ Ok job) × Contains (job_breaches job) fault

-- the bytes are no job, and this is their first fault
abbrev pub IsNoJob : InputFault → List ℕ → Type 0
IsNoJob fault bytes = job_of bytes ≡ Err fault

-- what a fault says of an input; want of memory may come in place of any answer
abbrev pub IsFaulty : List ℕ → JobFault → Type 0
IsFaulty bytes (NotJob fault) = IsNoJob fault bytes × (fault ≡ faults.Memory → ⊥)
IsFaulty bytes (Refused fault) = Breaks fault bytes
IsFaulty bytes Memory = ⊤

-- what is read of an input
abbrev pub Reads : List ℕ → Result Job JobFault → Type 0
Reads bytes (Ok job) = job_of bytes ≡ Ok (job_plain job)
Reads bytes (Err fault) = IsFaulty bytes fault

-- the verdict on an input
abbrev pub Verdict : List ℕ → Result (Unit {0}) JobFault → Type 0
Verdict bytes (Ok done) = IsSomeJob bytes
Verdict bytes (Err fault) = IsFaulty bytes fault

-- the answer to an input where a text of its job is asked for
abbrev pub AnswersBy : (JobData → List ℕ) → List ℕ → Result (String Global) JobFault → Type 0
AnswersBy wanted bytes (Ok text) = (job : JobData) × IsJobOf job bytes × (string_bytes text ≡ wanted job)
AnswersBy wanted bytes (Err fault) = IsFaulty bytes fault

-- the text of its program
abbrev pub Answers : List ℕ → Result (String Global) JobFault → Type 0
Answers bytes answer = AnswersBy text_bytes bytes answer

-- of the rules that a job breaks, the one that is told is this verdict's, whatever is asked
abbrev pub Tells : {T : Type 0} → (JobData → Result (Unit {0}) TreeFault) → List ℕ → Result T JobFault → Type 0
Tells judged bytes (Err (Refused fault)) = (job : JobData) → job_of bytes ≡ Ok job → judged job ≡ Err fault
Tells judged bytes other = ⊤
