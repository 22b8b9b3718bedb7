-- What is promised of a printed program's text.
use Rattle.std.specs.Prelude.{◌≡◌}
use Rattle.std.specs.Str.{chars}
use Rattle.jsgen_tree.specs.declared.types.NodeType.TheVariants as types
use Rattle.jsgen_tree.specs.Tree.{type_of}
use Rattle.jsgen_tree.specs.Job.{JobData}
use Rattle.jsgen_model.specs.Spell.{printed, text_bytes}
use Rattle.jsgen_model.specs.Valid.{IsValid}
use Rattle.jsgen_model.specs.Plain.{IsCore, IsPlain, IsQuiet}
use Rattle.jsgen_model.specs.Reading.{HasReading, IsReadAs}

-- the characters of the text of a valid, plain and quiet job are read as its program with its names as they are printed, pretty and minified
abbrev pub PrintedIsRead : Type 0
PrintedIsRead = (job : JobData) → type_of job.program ≡ types.Program → IsValid job → IsPlain job.program → IsQuiet job → IsReadAs (printed job) job

-- and so are the characters of its bytes
abbrev pub BytesAreRead : Type 0
BytesAreRead = (job : JobData) → type_of job.program ≡ types.Program → IsValid job → IsPlain job.program → IsQuiet job → IsReadAs (chars (text_bytes job)) job

-- the text of such a job that is core, plain or not, has tokens that are read so
abbrev pub CoreIsRead : Type 0
CoreIsRead = (job : JobData) → type_of job.program ≡ types.Program → IsValid job → IsCore job.program → IsQuiet job → HasReading (printed job) job

-- and so has that of its bytes
abbrev pub CoreBytesAreRead : Type 0
CoreBytesAreRead = (job : JobData) → type_of job.program ≡ types.Program → IsValid job → IsCore job.program → IsQuiet job → HasReading (chars (text_bytes job)) job
