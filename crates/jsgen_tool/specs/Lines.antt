-- What is said of a status, and the number that the program ends with.
use Rattle.std.specs.Prelude.{ℕ, ◌≤◌, List, [], ◌++◌, codes, decimal, Option, Some}
use Rattle.std.specs.Io.KnownBytes.{Appends}
use Rattle.jsgen_device.specs.Device.{Rose, AppendsPart}
use Rattle.jsgen_model.specs.Fault.{rule_text}
use Rattle.jsgen_fields.specs.Texts.{row_text, at_text, fault_text}
use Rattle.jsgen_fields.specs.declared.At.{At}
use Rattle.jsgen_tool.specs.declared.status.Status.{Status}
use Rattle.jsgen_tool.specs.declared.status.Status.TheVariants.{Done, Refused, Usage, NotJob, ReadFault, WriteFault, Memory, TooLong}
use Rattle.jsgen_tool.specs.declared.status.Spot.{Spot}
use Rattle.jsgen_tool.specs.declared.status.Spot.TheVariants.{Nowhere, Start, Row, Field}

abbrev pub code_of : Status → ℕ
code_of Done = 0
code_of (Refused rule) = 1
code_of Usage = 2
code_of (NotJob fault) = 3
code_of ReadFault = 4
code_of WriteFault = 5
code_of Memory = 6
code_of TooLong = 7

-- behind a space: a row, or the head of the job
abbrev pub spot_row : Option ℕ → List ℕ
spot_row row = codes " " ++ row_text row

-- and a field of it
abbrev pub spot_field : At → List ℕ
spot_field at = codes " " ++ at_text at

-- where something is wrong
abbrev pub spot_text : Spot → List ℕ
spot_text Nowhere = []
spot_text (Start start) = codes " at " ++ decimal start
spot_text (Row row) = spot_row (Some row)
spot_text (Field at) = spot_field at

-- the line that is said of a status, with its end; of Done nothing is said
abbrev pub line_of : Status → List ℕ
line_of Done = []
line_of (Refused rule) = codes "refused: " ++ rule_text rule ++ codes "\n"
line_of Usage = codes "usage: jsgen COMMAND\n"
line_of (NotJob fault) = codes "not a job: " ++ fault_text fault ++ codes "\n"
line_of ReadFault = codes "read failed\n"
line_of WriteFault = codes "write failed\n"
line_of Memory = codes "out of memory\n"
line_of TooLong = codes "input too long\n"

-- a line is told whole where the count did not rise, and otherwise some first part of it
pub record Says (old new : Option (List ℕ)) (before now : ℕ) (line : List ℕ) : Type 0 where
  pub later : before ≤ now
  pub part : AppendsPart old new line
  pub whole : (Rose before now → ⊥) → Appends old new line
