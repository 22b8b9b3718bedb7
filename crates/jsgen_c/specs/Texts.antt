-- What each outcome of a call that builds a job says: that of a call which writes all its texts as one, and how long each is.
use Rattle.std.specs.Prelude.{◌≡◌, ⊤, ℕ, ◌+◌, List, ◌++◌, length, string_bytes, Result, Ok, Err}
use Rattle.jsgen_tree.specs.Job.{JobData}
use Rattle.jsgen_model.specs.Spell.{text_bytes}
use Rattle.jsgen_rows.specs.Job.{job_of}
use Rattle.jsgen_jobs.specs.LegalText.{legal_bytes}
use Rattle.jsgen_jobs.specs.MapText.{map_bytes}
use Rattle.jsgen_jobs.specs.declared.Built.{Built}
use Rattle.jsgen_jobs.specs.declared.JobFault.{JobFault}
use Rattle.jsgen_c.specs.Numbers.{status_of, numbers_of}
use Rattle.jsgen_c.specs.Outcome.{Placed, Answered}
use Rattle.jsgen_c.specs.declared.answer.Answer.{Answer}
use Rattle.jsgen_c.specs.declared.outcome.Outcome.{Outcome}
use Rattle.jsgen_c.specs.declared.outcome.Outcome.TheVariants as one
use Rattle.jsgen_c.specs.declared.texts.BuildAnswer.{BuildAnswer}
use Rattle.jsgen_c.specs.declared.texts.BuildOutcome.{BuildOutcome}
use Rattle.jsgen_c.specs.declared.texts.BuildOutcome.TheVariants.{Done, TooSmall, Faulty, TooLong}
use Rattle.jsgen_c.specs.declared.texts.Lengths.{Lengths}

-- those of no texts
abbrev pub no_lengths : Lengths
no_lengths = record { code = 0; map = 0; licences = 0 }

-- the bytes of all texts
abbrev pub total : Lengths → ℕ
total lengths = lengths.code + (lengths.map + lengths.licences)

-- the outcome of a call that writes all texts as one
abbrev pub as_one : BuildOutcome → Outcome
as_one (Done lengths) = one.Done (total lengths)
as_one (TooSmall lengths) = one.TooSmall (total lengths)
as_one (Faulty fault) = one.Faulty fault
as_one TooLong = one.TooLong

-- the lengths that are told
abbrev pub lengths_told : BuildOutcome → Lengths
lengths_told (Done lengths) = lengths
lengths_told (TooSmall lengths) = lengths
lengths_told (Faulty fault) = no_lengths
lengths_told TooLong = no_lengths

-- beside what else an answer tells
abbrev pub with_lengths : Lengths → Answer → BuildAnswer
with_lengths lengths answer = record { code_length = lengths.code; map_length = lengths.map; legal_length = lengths.licences; row = answer.row; field = answer.field; has_row = answer.has_row; start = answer.start; rule = answer.rule }

-- all but the status
abbrev pub build_numbers : BuildOutcome → BuildAnswer
build_numbers outcome = with_lengths (lengths_told outcome) (numbers_of (as_one outcome))

-- a status and an answer are the numbers of an outcome of which this holds
abbrev pub TellsAll : ℕ → BuildAnswer → (BuildOutcome → Type 0) → Type 0
TellsAll status answer Holds = (outcome : BuildOutcome) × (status ≡ status_of (as_one outcome)) × (answer ≡ build_numbers outcome) × Holds outcome

-- a status and the other numbers are those of one outcome
abbrev pub BuildNumbersTell : Type 0
BuildNumbersTell = (a b : BuildOutcome) → status_of (as_one a) ≡ status_of (as_one b) → build_numbers a ≡ build_numbers b → a ≡ b

-- three texts one behind the other, and the length of each
abbrev pub in_a_row : List ℕ → List ℕ → List ℕ → List ℕ
in_a_row code map licences = code ++ (map ++ licences)

abbrev pub lengths_of : List ℕ → List ℕ → List ℕ → Lengths
lengths_of code map licences = record { code = length code; map = length map; licences = length licences }

-- those of a job
abbrev pub job_bytes : JobData → List ℕ
job_bytes job = in_a_row (text_bytes job) (map_bytes job) (legal_bytes job)

abbrev pub job_lengths : JobData → Lengths
job_lengths job = lengths_of (text_bytes job) (map_bytes job) (legal_bytes job)

-- where an outcome has lengths, it has these
abbrev pub HasLengths : BuildOutcome → Lengths → Type 0
HasLengths (Done lengths) wanted = lengths ≡ wanted
HasLengths (TooSmall lengths) wanted = lengths ≡ wanted
HasLengths (Faulty fault) wanted = ⊤
HasLengths TooLong wanted = ⊤

-- an answer is put into a buffer, or is a fault
abbrev pub AllFilled : Result Built JobFault → BuildOutcome → List ℕ → List ℕ → Type 0
AllFilled (Ok built) outcome old new = Placed (as_one outcome) (in_a_row (string_bytes built.code) (string_bytes built.map) (string_bytes built.licences)) old new × HasLengths outcome (lengths_of (string_bytes built.code) (string_bytes built.map) (string_bytes built.licences))
AllFilled (Err fault) outcome old new = (outcome ≡ Faulty fault) × (new ≡ old)

-- All texts of a job that keeps the rules are put into the buffer, one behind the other, or the buffer is as it was; and each text
-- has the length that is told of it.
abbrev pub BuiltInto : BuildOutcome → List ℕ → List ℕ → List ℕ → Type 0
BuiltInto outcome bytes old new = Answered job_bytes (as_one outcome) bytes old new × ((job : JobData) → job_of bytes ≡ Ok job → HasLengths outcome (job_lengths job))
