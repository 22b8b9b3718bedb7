-- All that is made of a job's bytes.
use Rattle.std.specs.Prelude.{◌≡◌, ℕ, List, string_bytes, Result, Ok, Err}
use Rattle.jsgen_tree.specs.Job.{JobData}
use Rattle.jsgen_model.specs.Spell.{text_bytes}
use Rattle.jsgen_jobs.specs.Job.{IsJobOf, IsFaulty}
use Rattle.jsgen_jobs.specs.MapText.{map_bytes}
use Rattle.jsgen_jobs.specs.LegalText.{legal_bytes}
use Rattle.jsgen_jobs.specs.declared.Built.{Built}
use Rattle.jsgen_jobs.specs.declared.JobFault.{JobFault}

-- the text of this job's program, the lines of its map, and those of its licences
abbrev pub IsBuiltOf : JobData → Built → Type 0
IsBuiltOf job built = (string_bytes built.code ≡ text_bytes job) × (string_bytes built.map ≡ map_bytes job) × (string_bytes built.licences ≡ legal_bytes job)

-- the answer to an input where all that is made of its job is asked for
abbrev pub BuildsAll : List ℕ → Result Built JobFault → Type 0
BuildsAll bytes (Ok built) = (job : JobData) × IsJobOf job bytes × IsBuiltOf job built
BuildsAll bytes (Err fault) = IsFaulty bytes fault
