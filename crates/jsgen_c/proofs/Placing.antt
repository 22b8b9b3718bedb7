-- What is put into a buffer is what was answered.
use Rattle.std.proofs.Common.{◌≡◌, ℕ, List, ◌++◌, length, ap, ap₂, sym, subst, ◌∙◌}
use Rattle.std.specs.Prelude.{String, Result, Ok, Err, string_bytes}
use Rattle.std.specs.declared.alloc.Global.{Global}
use Rattle.jsgen_tree.specs.Job.{JobData}
use Rattle.jsgen_check.specs.Verdict.{told}
use Rattle.jsgen_rows.specs.Job.{job_of}
use Rattle.jsgen_jobs.specs.Built.{BuildsAll, IsBuiltOf}
use Rattle.jsgen_jobs.specs.Job.{IsJobOf, IsFaulty, AnswersBy}
use Rattle.jsgen_jobs.specs.Job as jobs
use Rattle.jsgen_jobs.specs.declared.Built.{Built}
use Rattle.jsgen_jobs.specs.declared.JobFault.{JobFault}
use Rattle.jsgen_jobs.specs.declared.JobFault.TheVariants.{NotJob, Refused, Memory}
use Rattle.jsgen_tool.specs.Transfer.{IsWithin}
use Rattle.jsgen_c.specs.Outcome.{Placed, Filled, HasFault, Answered}
use Rattle.jsgen_c.specs.Texts.{as_one, in_a_row, lengths_of, job_bytes, job_lengths, HasLengths, AllFilled, BuiltInto}
use Rattle.jsgen_c.specs.declared.outcome.Outcome.{Outcome}
use Rattle.jsgen_c.specs.declared.outcome.Outcome.TheVariants.{Done, TooSmall, Faulty, TooLong}
use Rattle.jsgen_c.specs.declared.texts.BuildOutcome.{BuildOutcome}
use Rattle.jsgen_c.specs.declared.texts.Lengths.{Lengths}

of_job : (wanted : JobData → List ℕ) (outcome : Outcome) (bytes old new : List ℕ) (job : JobData) → IsWithin bytes → IsJobOf job bytes → Placed outcome (wanted job) old new → Answered wanted outcome bytes old new
of_job wanted (Done count) bytes old new job within is placed = (within, (job, is, placed))
of_job wanted (TooSmall count) bytes old new job within is placed = (within, (job, is, placed))
of_job wanted (Faulty fault) bytes old new job within is placed = absurd placed
of_job wanted TooLong bytes old new job within is placed = absurd placed

has_fault : (T : Type 0) (fault : JobFault) (bytes : List ℕ) → IsFaulty bytes fault → jobs.Tells {T = T} told bytes (Err fault) → HasFault fault bytes
has_fault T (NotJob fault) bytes is tells = is
has_fault T (Refused fault) bytes is tells = (is, tells)
has_fault T Memory bytes is tells = is

pub answered : (wanted : JobData → List ℕ) (answer : Result (String Global) JobFault) (outcome : Outcome) (bytes old new : List ℕ) → IsWithin bytes → AnswersBy wanted bytes answer → jobs.Tells told bytes answer → Filled answer outcome old new → Answered wanted outcome bytes old new
answered wanted (Ok text) outcome bytes old new within (job, is, same) tells filled =
    let P : List ℕ → Type 0 = λ text. Placed outcome text old new in
    of_job wanted outcome bytes old new job within is (subst P same filled)
answered wanted (Err fault) outcome bytes old new within is tells (failed, kept) =
    let P : Outcome → Type 0 = λ outcome. Answered wanted outcome bytes old new in
    subst P (sym failed) (within, has_fault (String Global) fault bytes is tells, kept)

-- bytes are one job
one_job : (bytes : List ℕ) (t u : JobData) → job_of bytes ≡ Ok t → job_of bytes ≡ Ok u → t ≡ u
one_job bytes t u h i = cc

-- what is built of a job has the bytes and the lengths of its texts
same_bytes : (job : JobData) (b : Built) → IsBuiltOf job b → in_a_row (string_bytes b.code) (string_bytes b.map) (string_bytes b.licences) ≡ job_bytes job
same_bytes job b (code, map, licences) = ap₂ (λ c rest. c ++ rest) code (ap₂ (λ m l. m ++ l) map licences)

same_lengths : (job : JobData) (b : Built) → IsBuiltOf job b → lengths_of (string_bytes b.code) (string_bytes b.map) (string_bytes b.licences) ≡ job_lengths job
same_lengths job b (code, map, licences) i = record { code = length (code i); map = length (map i); licences = length (licences i) }

pub built_into : (answer : Result Built JobFault) (outcome : BuildOutcome) (bytes old new : List ℕ) → IsWithin bytes → BuildsAll bytes answer → jobs.Tells told bytes answer → AllFilled answer outcome old new → BuiltInto outcome bytes old new
built_into (Ok b) outcome bytes old new within (job, is, made) tells (placed, lengths) =
    let Q : List ℕ → Type 0 = λ text. Placed (as_one outcome) text old new in
    (of_job job_bytes (as_one outcome) bytes old new job within is (subst Q (same_bytes job b made) placed), λ other of_bytes. subst (λ (l : Lengths). HasLengths outcome l) (same_lengths job b made ∙ ap job_lengths (one_job bytes job other is.0 of_bytes)) lengths)
built_into (Err fault) outcome bytes old new within is tells (failed, kept) =
    let P : BuildOutcome → Type 0 = λ outcome. BuiltInto outcome bytes old new in
    subst P (sym failed) ((within, has_fault Built fault bytes is tells, kept), λ other of_bytes. tt)
