-- The table of answers of `run`.
use Rattle.std.specs.Prelude.{◌≡◌, ◌⊎◌, ⊤, ℕ, ◌<◌, ◌≤◌, List, [], ◌∷◌, map, length, codes, String, string_bytes, IfSome, Option, Result, Ok, Err}
use Rattle.std.specs.declared.alloc.Global.{Global}
use Rattle.std.specs.Io.KnownBytes.{Keeps, Appends}
use Rattle.jsgen_model.specs.declared.fault.TreeFault.{TreeFault}
use Rattle.jsgen_tree.specs.Job.{JobData}
use Rattle.jsgen_rows.specs.Job.{job_of}
use Rattle.jsgen_fields.specs.declared.InputFault.{InputFault}
use Rattle.jsgen_device.specs.Device.{Rose, AppendsPart}
use Rattle.jsgen_tool.specs.Transfer.{IsWithin, limit}
use Rattle.jsgen_jobs.specs.Job.{IsJobOf, IsSomeJob, Breaks, IsNoJob}
use Rattle.jsgen_tool.specs.declared.status.Status.{Status}
use Rattle.jsgen_tool.specs.declared.status.Status.TheVariants.{Done, Refused, NotJob, ReadFault, WriteFault, Memory, TooLong}

-- the words are this one command
abbrev pub IsPrint : List (String Global) → Type 0
IsPrint words = map string_bytes words ≡ codes "print" ∷ []

abbrev pub IsCheck : List (String Global) → Type 0
IsCheck words = map string_bytes words ≡ codes "check" ∷ []

abbrev pub IsMap : List (String Global) → Type 0
IsMap words = map string_bytes words ≡ codes "map" ∷ []

abbrev pub IsLegal : List (String Global) → Type 0
IsLegal words = map string_bytes words ≡ codes "legal" ∷ []

-- they ask for a text
abbrev pub IsWriting : List (String Global) → Type 0
IsWriting words = IsPrint words ⊎ IsMap words ⊎ IsLegal words

-- the words are a command
abbrev pub IsCommand : List (String Global) → Type 0
IsCommand words = IsWriting words ⊎ IsCheck words

-- what each answer says of the bytes that the source held
abbrev pub InputRow : Status → List ℕ → Type 0
InputRow TooLong bytes = limit < length bytes
InputRow (NotJob fault) bytes = IsWithin bytes × IsNoJob fault bytes
InputRow (Refused fault) bytes = IsWithin bytes × Breaks fault bytes
InputRow WriteFault bytes = IsWithin bytes × IsSomeJob bytes
InputRow Done bytes = IsWithin bytes × IsSomeJob bytes
InputRow other bytes = ⊤

-- of the rules that a job breaks, the one that is told is this verdict's, whatever the words ask for
abbrev pub TellsRule : (JobData → Result (Unit {0}) TreeFault) → Status → List ℕ → Type 0
TellsRule judged (Refused fault) bytes = (job : JobData) → job_of bytes ≡ Ok job → judged job ≡ Err fault
TellsRule judged other bytes = ⊤

-- what a source that tells its bytes held is a job within the limit, whose tree keeps the rules
abbrev pub HeldJob : Option (List ℕ) → JobData → Type 0
HeldJob held job = (bytes : List ℕ) × IfSome held (λ told. told ≡ bytes) × IsWithin bytes × IsJobOf job bytes

-- What each answer says of the bytes that the sink took, where a text of a job is asked for: on Done that of a valid job, on
-- WriteFault some first bytes of it. It is the job that the source held where the source tells its bytes, and else some job. Every other answer leaves the
-- sink as it was. Of a sink that doesn't tell what it took this says nothing.
abbrev pub OutputRow : (JobData → List ℕ) → Status → Option (List ℕ) → Option (List ℕ) → Option (List ℕ) → Type 0
OutputRow wanted Done held old new = (job : JobData) × HeldJob held job × Appends old new (wanted job)
OutputRow wanted WriteFault held old new = (job : JobData) × HeldJob held job × AppendsPart old new (wanted job)
OutputRow wanted other held old new = Keeps old new

-- ReadFault comes only where the source's count rose, and under every other answer it is as it was
abbrev pub SourceCount : Status → ℕ → ℕ → Type 0
SourceCount ReadFault before now = (before ≤ now) × Rose before now
SourceCount other before now = now ≡ before

-- WriteFault comes only where the sink's count rose, and under every other answer it is as it was
abbrev pub OutCount : Status → ℕ → ℕ → Type 0
OutCount WriteFault before now = (before ≤ now) × Rose before now
OutCount other before now = now ≡ before

abbrev pub IsRefused : Status → Type 0
IsRefused (Refused fault) = ⊤
IsRefused other = ⊥

-- What comes for these bytes where no read failed: the table's answer, or Memory.
pub record Due (write_failed : Type 0) (bytes : List ℕ) (status : Status) : Type 0 where
  pub too_long : limit < length bytes → (status ≡ TooLong) ⊎ (status ≡ Memory)
  pub not_job : IsWithin bytes → (fault : InputFault) → IsNoJob fault bytes → (status ≡ NotJob fault) ⊎ (status ≡ Memory)
  pub refused : IsWithin bytes → (fault : TreeFault) → Breaks fault bytes → IsRefused status ⊎ (status ≡ Memory)
  pub done : (write_failed → ⊥) → IsWithin bytes → IsSomeJob bytes → (status ≡ Done) ⊎ (status ≡ Memory)
