-- What is promised of a job whose private names are written as they are printed: what is said of it is what is said of the job.
use Rattle.std.specs.Prelude.{◌≡◌}
use Rattle.jsgen_tree.specs.Job.{JobData}
use Rattle.jsgen_model.specs.Resolved.{renamed_program}
use Rattle.jsgen_model.specs.Valid.{IsValid, job_breaches}
use Rattle.jsgen_model.specs.Plain.{IsCore, IsPlain, IsQuiet}
use Rattle.jsgen_private_laws.specs.Settled.{settled, code_of}

-- it breaks the same rules
abbrev pub SettledIsValid : Type 0
SettledIsValid = (job : JobData) → job_breaches (settled job) ≡ job_breaches job

-- it is core, plain and quiet where the job is
abbrev pub SettledIsCore : Type 0
SettledIsCore = (job : JobData) → IsCore job.program → IsCore (settled job).program

abbrev pub SettledIsPlain : Type 0
SettledIsPlain = (job : JobData) → IsPlain job.program → IsPlain (settled job).program

abbrev pub SettledIsQuiet : Type 0
SettledIsQuiet = (job : JobData) → IsQuiet job → IsQuiet (settled job)

-- and it is the same program with the names that are printed
abbrev pub SettledIsRenamed : Type 0
SettledIsRenamed = (job : JobData) → renamed_program (settled job).tables (settled job).program ≡ renamed_program job.tables job.program

-- what is printed of it is what is printed of the job, comments and marks aside
abbrev pub SettledIsPrinted : Type 0
SettledIsPrinted = (job : JobData) → IsValid job → IsCore job.program → code_of (settled job) ≡ code_of job
