-- What is said of the fault of a job: its kind, and where.
use Rattle.std.specs.Prelude.{ℕ, List, ◌++◌, codes, decimal, Option, Some, None}
use Rattle.jsgen_fields.specs.declared.At.{At}
use Rattle.jsgen_fields.specs.declared.InputFault.{InputFault}
use Rattle.jsgen_fields.specs.declared.InputFault.TheVariants as faults

-- a row, or the head of the job
abbrev pub row_text : Option ℕ → List ℕ
row_text None = codes "head"
row_text (Some row) = codes "row " ++ decimal row

-- a field of a row, or of the head of the job
abbrev pub at_text : At → List ℕ
at_text at = row_text at.row ++ (codes " field " ++ decimal at.field)

abbrev pub fault_text : InputFault → List ℕ
fault_text faults.Json = codes "Json"
fault_text (faults.Float at) = codes "Float " ++ at_text at
fault_text (faults.Missing at) = codes "Missing " ++ at_text at
fault_text (faults.Wrong at) = codes "Wrong " ++ at_text at
fault_text (faults.Child at) = codes "Child " ++ at_text at
fault_text (faults.Shared row) = codes "Shared " ++ row_text (Some row)
fault_text faults.Memory = codes "Memory"
