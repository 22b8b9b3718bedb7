-- What is true of normal forms.
use Rattle.std.specs.Prelude.{◌≡◌}
use Rattle.jsgen_tree.specs.Tree.{Tree}
use Rattle.jsgen_tree.specs.Job.{no_tables}
use Rattle.jsgen_model.specs.Normal.{normal}
use Rattle.jsgen_model.specs.Renamed.{renamed}

-- a normal form is its own normal form
abbrev pub NormalIsNormal : Type 0
NormalIsNormal = (t : Tree) → normal (normal t) ≡ normal t

-- without tables a program keeps its names
abbrev pub NoTablesRenameNothing : Type 0
NoTablesRenameNothing = (t : Tree) → normal (renamed no_tables t) ≡ normal t
