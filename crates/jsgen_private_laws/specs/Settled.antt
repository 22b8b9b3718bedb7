-- A program whose private names are written as they are printed needs no table of them. What surrounds its nodes is what surrounds those of the program it is of, but for those tables and for the classes, of which then nothing is asked.
use Rattle.std.specs.Prelude.{ℕ, List, [], None}
use Rattle.jsgen_tree.specs.Job.{Tables, JobData}
use Rattle.jsgen_place.specs.Place.{among_statements}
use Rattle.jsgen_model.specs.Layout.{layout, empty_pen, style_of}
use Rattle.jsgen_model.specs.Resolved.{resolved}
use Rattle.jsgen_model.specs.Spell.{spell}
use Rattle.jsgen_model.specs.Valid.{Surroundings}

abbrev pub without_private : Tables → Tables
without_private tables = record tables { private = None }

-- within these classes
abbrev pub settled_within : List ℕ → Surroundings → Surroundings
settled_within classes around = record around { tables = without_private around.tables; classes = classes }

abbrev pub settled_around : Surroundings → Surroundings
settled_around around = record around { tables = without_private around.tables }

-- the job of which the program's private names are written as they are printed
abbrev pub settled : JobData → JobData
settled job = record { options = job.options; tables = without_private job.tables; program = resolved job.tables [] 0 job.program }

-- what is laid out of a job's program: its text without its marks and comments
abbrev pub code_of : JobData → List ℕ
code_of job = (layout (spell job.program among_statements) (empty_pen (style_of job.options job.tables) job.options.initial_indent)).code
