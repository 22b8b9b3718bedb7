-- The numbers that C is told of an outcome.
use Rattle.std.specs.Prelude.{◌≡◌, ℕ, Option, Some, None}
use Rattle.jsgen_model.specs.declared.fault.TreeFault.{TreeFault}
use Rattle.jsgen_model.specs.declared.fault.TreeFault.TheVariants as rules
use Rattle.jsgen_fields.specs.declared.InputFault.{InputFault}
use Rattle.jsgen_fields.specs.declared.InputFault.TheVariants as faults
use Rattle.jsgen_jobs.specs.declared.JobFault.TheVariants.{NotJob, Refused, Memory}
use Rattle.jsgen_tool.specs.Lines.{code_of}
use Rattle.jsgen_tool.specs.declared.status.Status.TheVariants as statuses
use Rattle.jsgen_c.specs.declared.answer.Answer.{Answer}
use Rattle.jsgen_c.specs.declared.outcome.Outcome.{Outcome}
use Rattle.jsgen_c.specs.declared.outcome.Outcome.TheVariants.{Done, TooSmall, Faulty, TooLong}

-- the status: that of the program where it has one, and 8 of a buffer that is too small
abbrev pub status_of : Outcome → ℕ
status_of (Done count) = code_of statuses.Done
status_of (TooSmall count) = 8
status_of (Faulty (NotJob fault)) = code_of (statuses.NotJob fault)
status_of (Faulty (Refused fault)) = code_of (statuses.Refused fault)
status_of (Faulty Memory) = code_of statuses.Memory
status_of TooLong = code_of statuses.TooLong

-- nothing besides the status
abbrev pub no_numbers : Answer
no_numbers = record { text_length = 0; row = 0; field = 0; has_row = 0; start = 0; rule = 0 }

-- the length of a text
abbrev pub text_numbers : ℕ → Answer
text_numbers count = record { text_length = count; row = 0; field = 0; has_row = 0; start = 0; rule = 0 }

-- a rule by its number, and the start of the node at which it is broken
abbrev pub broken_numbers : ℕ → ℕ → Answer
broken_numbers rule start = record { text_length = 0; row = 0; field = 0; has_row = 0; start = start; rule = rule }

abbrev pub rule_numbers : TreeFault → Answer
rule_numbers (rules.Place start) = broken_numbers 1 start
rule_numbers (rules.Name start) = broken_numbers 2 start
rule_numbers (rules.Literal start) = broken_numbers 3 start
rule_numbers (rules.Template start) = broken_numbers 4 start
rule_numbers (rules.Span start) = broken_numbers 5 start
rule_numbers (rules.Comment start) = broken_numbers 6 start
rule_numbers (rules.Indent start) = broken_numbers 7 start

-- a row's number, and how many rows are told
abbrev pub row_number : Option ℕ → ℕ
row_number None = 0
row_number (Some row) = row

abbrev pub row_count : Option ℕ → ℕ
row_count None = 0
row_count (Some row) = 1

-- a fault by its number, at a field of a row or else of the head
abbrev pub place_numbers : ℕ → Option ℕ → ℕ → Answer
place_numbers rule row field = record { text_length = 0; row = row_number row; field = field; has_row = row_count row; start = 0; rule = rule }

abbrev pub fault_numbers : InputFault → Answer
fault_numbers faults.Json = place_numbers 11 None 0
fault_numbers (faults.Float at) = place_numbers 12 at.row at.field
fault_numbers (faults.Missing at) = place_numbers 13 at.row at.field
fault_numbers (faults.Wrong at) = place_numbers 14 at.row at.field
fault_numbers (faults.Child at) = place_numbers 15 at.row at.field
fault_numbers (faults.Shared row) = place_numbers 16 (Some row) 0
fault_numbers faults.Memory = place_numbers 17 None 0

-- all but the status
abbrev pub numbers_of : Outcome → Answer
numbers_of (Done count) = text_numbers count
numbers_of (TooSmall count) = text_numbers count
numbers_of (Faulty (NotJob fault)) = fault_numbers fault
numbers_of (Faulty (Refused fault)) = rule_numbers fault
numbers_of (Faulty Memory) = no_numbers
numbers_of TooLong = no_numbers

-- a status and the other numbers are those of one outcome
abbrev pub NumbersTell : Type 0
NumbersTell = (a b : Outcome) → status_of a ≡ status_of b → numbers_of a ≡ numbers_of b → a ≡ b
