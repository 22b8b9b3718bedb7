-- What each outcome says of the bytes of a job and of the caller's buffer.
use Rattle.std.specs.Prelude.{◌≡◌, ℕ, ◌<◌, List, ◌++◌, length, take, drop, String, string_bytes, Result, Ok, Err}
use Rattle.std.specs.declared.alloc.Global.{Global}
use Rattle.std.specs.Str.{chars, IsUtf8}
use Rattle.jsgen_tree.specs.Job.{JobData}
use Rattle.jsgen_model.specs.Plain.{IsPlain, IsQuiet}
use Rattle.jsgen_model.specs.Reading.{IsReadAs}
use Rattle.jsgen_model.specs.Spell.{text_bytes}
use Rattle.jsgen_check.specs.Verdict.{told}
use Rattle.jsgen_jobs.specs.Job.{IsJobOf, IsSomeJob, IsFaulty}
use Rattle.jsgen_jobs.specs.declared.JobFault.{JobFault}
use Rattle.jsgen_jobs.specs.declared.JobFault.TheVariants.{Refused}
use Rattle.jsgen_rows.specs.Job.{job_of}
use Rattle.jsgen_tool.specs.Transfer.{IsWithin, limit}
use Rattle.jsgen_c.specs.Numbers.{status_of, numbers_of}
use Rattle.jsgen_c.specs.declared.answer.Answer.{Answer}
use Rattle.jsgen_c.specs.declared.outcome.Outcome.{Outcome}
use Rattle.jsgen_c.specs.declared.outcome.Outcome.TheVariants.{Done, TooSmall, Faulty, TooLong}

-- a status and an answer are the numbers of an outcome of which this holds
abbrev pub Tells : ℕ → Answer → (Outcome → Type 0) → Type 0
Tells status answer Holds = (outcome : Outcome) × (status ≡ status_of outcome) × (answer ≡ numbers_of outcome) × Holds outcome

-- A text is put into a buffer: it begins with the text, and behind that it is as it was. A buffer that is shorter than the
-- text is as it was. Either way the number is the length of the text.
abbrev pub Placed : Outcome → List ℕ → List ℕ → List ℕ → Type 0
Placed (Done count) text old new = (count ≡ length text) × (new ≡ text ++ drop count old) × (length new ≡ length old)
Placed (TooSmall count) text old new = (count ≡ length text) × (length old < count) × (new ≡ old)
Placed (Faulty fault) text old new = ⊥
Placed TooLong text old new = ⊥

-- the bytes have this fault, which is told of their job whatever is asked
abbrev pub HasFault : JobFault → List ℕ → Type 0
HasFault (Refused fault) bytes = IsFaulty bytes (Refused fault) × ((job : JobData) → job_of bytes ≡ Ok job → told job ≡ Err fault)
HasFault other bytes = IsFaulty bytes other

-- what is wanted of a job that keeps the rules is put into the buffer, or the buffer is as it was
abbrev pub Answered : (JobData → List ℕ) → Outcome → List ℕ → List ℕ → List ℕ → Type 0
Answered wanted (Faulty fault) bytes old new = IsWithin bytes × HasFault fault bytes × (new ≡ old)
Answered wanted TooLong bytes old new = (limit < length bytes) × (new ≡ old)
Answered wanted placed bytes old new = IsWithin bytes × ((job : JobData) × IsJobOf job bytes × Placed placed (wanted job) old new)

-- the text of its program
abbrev pub Printed : Outcome → List ℕ → List ℕ → List ℕ → Type 0
Printed outcome bytes old new = Answered text_bytes outcome bytes old new

-- an answer is put into a buffer, or is a fault
abbrev pub Filled : Result (String Global) JobFault → Outcome → List ℕ → List ℕ → Type 0
Filled (Ok text) outcome old new = Placed outcome (string_bytes text) old new
Filled (Err fault) outcome old new = (outcome ≡ Faulty fault) × (new ≡ old)

-- the verdict on a job, without its text
abbrev pub Checked : Outcome → List ℕ → Type 0
Checked (Done count) bytes = IsWithin bytes × IsSomeJob bytes × (count ≡ 0)
Checked (TooSmall count) bytes = ⊥
Checked (Faulty fault) bytes = IsWithin bytes × HasFault fault bytes
Checked TooLong bytes = limit < length bytes

-- a buffer begins with so many bytes of UTF-8 that the grammar reads as a program with the normal form of the job's
abbrev pub BeginsAs : JobData → ℕ → List ℕ → Type 0
BeginsAs job count buffer = IsUtf8 (take count buffer) × IsReadAs (chars (take count buffer)) job

-- where the status is 0, and the bytes are a plain and quiet job that keeps the rules, it is read back from so many bytes of the buffer
abbrev pub IsReadBack : ℕ → ℕ → List ℕ → List ℕ → Type 0
IsReadBack status count bytes new = status ≡ 0 → (job : JobData) → IsJobOf job bytes → IsPlain job.program → IsQuiet job → BeginsAs job count new
