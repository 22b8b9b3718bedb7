-- A job read in parts: its head, and its program row by row.
use Rattle.std.specs.Prelude.{List, [], option_map, Result}
use Rattle.serde_json.specs.Data.{Data}
use Rattle.jsgen_tree.specs.Job.{JobData, Tables}
use Rattle.jsgen_tree.specs.Options.{Options, options_plain}
use Rattle.jsgen_tree.specs.Scoping.{scoping_plain, private_plain}
use Rattle.jsgen_tree.specs.Tree.{Tree}
use Rattle.jsgen_fields.specs.declared.InputFault.{InputFault}
use Rattle.jsgen_fields.specs.Values.{after}
use Rattle.jsgen_fields.specs.Reads.{read_rows, root_of}
use Rattle.jsgen_rows.specs.declared.Head.{Head}

abbrev pub head_plain : Head → (Options × Tables)
head_plain head = (options_plain head.options, record { scoping = option_map scoping_plain head.scoping; private = option_map private_plain head.private })

abbrev pub job_with : (Options × Tables) → Tree → JobData
job_with head program = record { options = head.0; tables = head.1; program = program }

-- the program, over the rows that are kept
abbrev pub rows_read : List Data → Result Tree InputFault
rows_read ds = after (read_rows ds []) root_of
