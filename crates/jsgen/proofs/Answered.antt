-- What is answered of a job is what is answered to its bytes.
use Rattle.std.proofs.Common.{◌≡◌, ℕ, List, String, Result, Ok, Err, ap, sym, ◌∙◌}
use Rattle.std.specs.declared.alloc.Global.{Global}
use Rattle.jsgen_tree.specs.Job.{JobData}
use Rattle.jsgen_rows.specs.Job.{job_of}
use Rattle.jsgen_jobs.specs.Built.{BuildsAll}
use Rattle.jsgen_jobs.specs.declared.Built.{Built}
use Rattle.jsgen_jobs.specs.declared.JobFault.{JobFault}
use Rattle.jsgen_jobs.specs.declared.JobFault.TheVariants.{NotJob, Refused, Memory}
use Rattle.jsgen_jobs.specs.Job.{AnswersBy}
use Rattle.jsgen.specs.Answer.{AnswersOn, BuildsOn}

pub answered : (wanted : JobData → List ℕ) (bytes : List ℕ) (job own : JobData) (answer : Result (String Global) JobFault) → job_of bytes ≡ Ok job → own ≡ job → AnswersOn wanted own answer → AnswersBy wanted bytes answer
answered wanted bytes job own (Ok text) read is h = (own, (read ∙ ap Ok (sym is), h.0), h.1)
answered wanted bytes job own (Err (NotJob fault)) read is h = absurd h
answered wanted bytes job own (Err (Refused fault)) read is h = (own, read ∙ ap Ok (sym is), h.0)
answered wanted bytes job own (Err Memory) read is h = tt

pub builds : (bytes : List ℕ) (job own : JobData) (answer : Result Built JobFault) → job_of bytes ≡ Ok job → own ≡ job → BuildsOn own answer → BuildsAll bytes answer
builds bytes job own (Ok built) read is h = (own, (read ∙ ap Ok (sym is), h.0), h.1)
builds bytes job own (Err (NotJob fault)) read is h = absurd h
builds bytes job own (Err (Refused fault)) read is h = (own, read ∙ ap Ok (sym is), h.0)
builds bytes job own (Err Memory) read is h = tt

-- the options, the tables and the program are those of a job
pub same_job : (own job : JobData) → own.options ≡ job.options → own.tables.scoping ≡ job.tables.scoping → own.tables.private ≡ job.tables.private → own.program ≡ job.program → own ≡ job
same_job own job options scoping private program i = record { options = options i; tables = record { scoping = scoping i; private = private i }; program = program i }
