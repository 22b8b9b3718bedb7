-- What is promised of the trees of programs, and of private names.
use Rattle.std.specs.Prelude.{◌≡◌, ℕ, List, ◌∷◌}
use Rattle.jsgen_tree.specs.Job.{Tables}
use Rattle.jsgen_tree.specs.Everywhere.{Everywhere}
use Rattle.jsgen_tree.specs.Plain.{program_plain}
use Rattle.jsgen_tree.specs.declared.statements.Program.{Program}
use Rattle.jsgen_tree.specs.declared.nodes.Node.{Node}
use Rattle.jsgen_tree.specs.Tree.{Tree}
use Rattle.jsgen_model.specs.Plain.{IsCore, IsPlain, is_core_by_type, is_plain_by_type}
use Rattle.jsgen_model.specs.Private.{classes_within, printed_private}

-- a program that is built in Rust is plain where each of its nodes is by its type and flags
abbrev pub PlainByTypes : Type 0
PlainByTypes = (program : Program Node) → Everywhere is_plain_by_type (program_plain program) → IsPlain (program_plain program)

-- and core where each is that by its type and flags, and by what a tag sees
abbrev pub CoreByTypes : Type 0
CoreByTypes = (program : Program Node) → Everywhere is_core_by_type (program_plain program) → IsCore (program_plain program)

-- what is plain is core
abbrev pub PlainIsCore : Type 0
PlainIsCore = (t : Tree) → IsPlain t → IsCore t

-- the classes round a name that are kept give what all of them give
abbrev pub KeptClassesAreEnough : Type 0
KeptClassesAreEnough = (tables : Tables) (number : ℕ) (classes w : List ℕ) → printed_private tables (classes_within tables number classes) w ≡ printed_private tables (number ∷ classes) w
