-- What the bytes of a job mean.
use Rattle.std.specs.Prelude.{◌≡◌, ℕ, List, option_map, Result, Ok, Err, if◌then◌else◌}
use Rattle.std.specs.Str.{is_utf8}
use Rattle.serde_json.specs.Data.{Data}
use Rattle.serde_json.specs.Read.{read}
use Rattle.jsgen_tree.specs.Job.{JobData, Tables}
use Rattle.jsgen_tree.specs.Scoping.{scoping_plain, private_plain}
use Rattle.jsgen_tree.specs.Options.{Options, options_plain}
use Rattle.jsgen_tree.specs.Plain.{program_plain}
use Rattle.jsgen_flat.specs.Flat.{Sections, begins_flat, flat_of, rows_of}
use Rattle.jsgen_fields.specs.declared.InputFault.{InputFault}
use Rattle.jsgen_fields.specs.declared.InputFault.TheVariants.{Json, Memory}
use Rattle.jsgen_rows.specs.declared.Job.{Job}
use Rattle.jsgen_fields.specs.Values.{after, or_fault, options_in, tables_in, some_rows}
use Rattle.jsgen_fields.specs.Meaning.{rows_meaning, value_meaning}

-- the plain data of a job
abbrev pub job_plain : Job → JobData
job_plain job = record { options = options_plain job.options; tables = record { scoping = option_map scoping_plain job.scoping; private = option_map private_plain job.private }; program = program_plain job.program }

-- The bytes are a text in UTF-8 that is one value of JSON (RFC 8259), read as `serde_json` reads it.
abbrev pub json_of : List ℕ → Result Data InputFault
json_of bytes = if is_utf8 bytes then or_fault Json (read bytes) else Err Json

-- the head of a job: its options, and its tables of names
abbrev pub head_in : Data → Result (Options × Tables) InputFault
head_in d = after (options_in d) (λ options. after (tables_in d) (λ tables. Ok (options, tables)))

-- a flat job: its head is JSON, and its rows stand for values of JSON
abbrev pub flat_meaning : Sections → Result JobData InputFault
flat_meaning p =
    after (json_of p.head)
    (λ d. after (head_in d)
    (λ head. after (after (some_rows (rows_of p)) rows_meaning)
    (λ program. Ok (record { options = head.0; tables = head.1; program = program }))))

-- The job that the bytes are, or their first fault; docs/FORMAT.md lists what the value has to hold.
unfoldable pub job_of : List ℕ → Result JobData InputFault
job_of bytes = if begins_flat bytes then after (or_fault Json (flat_of bytes)) flat_meaning else after (json_of bytes) value_meaning

-- want of memory is no fault of a job
abbrev pub FaultsAreTold : Type 0
FaultsAreTold = (bytes : List ℕ) → job_of bytes ≡ Err Memory → ⊥
