-- The promise of the program: what it prints is read back as the program that it was handed.
use Rattle.std.specs.Prelude.{◌≡◌, ⊤, ℕ, List, IsSomeAnd, Option}
use Rattle.std.specs.Str.{chars, IsUtf8}
use Rattle.std.specs.Io.KnownBytes.{Appends}
use Rattle.jsgen_tree.specs.Job.{JobData}
use Rattle.jsgen_model.specs.Reading.{HasReading, IsReadAs}
use Rattle.jsgen_tool.specs.Transfer.{IsWithin}
use Rattle.jsgen_jobs.specs.Job.{IsJobOf}
use Rattle.jsgen_tool.specs.declared.status.Status.{Status}
use Rattle.jsgen_tool.specs.declared.status.Status.TheVariants.{Done, ReadFault, WriteFault, Memory}

-- the source tells what it holds, within the limit, and it is this job, whose program keeps the rules
abbrev pub HoldsJob : Option (List ℕ) → JobData → Type 0
HoldsJob held job = IsSomeAnd held (λ bytes. IsWithin bytes × IsJobOf job bytes)

-- done, or want of memory, or a fault whose device failed in this call
abbrev pub IsDoneOrExcused : Type 0 → Type 0 → Status → Type 0
IsDoneOrExcused read_failed write_failed Done = ⊤
IsDoneOrExcused read_failed write_failed Memory = ⊤
IsDoneOrExcused read_failed write_failed ReadFault = read_failed
IsDoneOrExcused read_failed write_failed WriteFault = write_failed
IsDoneOrExcused read_failed write_failed other = ⊥

-- the sink took exactly one text, in UTF-8, which the grammar reads as a program with the normal form of the job's
abbrev pub TookText : JobData → Option (List ℕ) → Option (List ℕ) → Type 0
TookText job old new = (text : List ℕ) × Appends old new text × IsUtf8 text × IsReadAs (chars text) job

-- the sink took exactly one text, in UTF-8, which has a reading as such a program
abbrev pub TookCoreText : JobData → Option (List ℕ) → Option (List ℕ) → Type 0
TookCoreText job old new = (text : List ℕ) × Appends old new text × IsUtf8 text × HasReading (chars text) job

-- the answer is one of these, and where it is Done this was taken
pub record Answers (read_failed write_failed took : Type 0) (status : Status) : Type 0 where
  pub answer : IsDoneOrExcused read_failed write_failed status
  pub text : status ≡ Done → took

abbrev pub Prints : Type 0 → Type 0 → JobData → Option (List ℕ) → Option (List ℕ) → Status → Type 0
Prints read_failed write_failed job old new status = Answers read_failed write_failed (TookText job old new) status

abbrev pub CorePrints : Type 0 → Type 0 → JobData → Option (List ℕ) → Option (List ℕ) → Status → Type 0
CorePrints read_failed write_failed job old new status = Answers read_failed write_failed (TookCoreText job old new) status
