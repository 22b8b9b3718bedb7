-- The lines of the licences that stand in a file of their own.
use Rattle.std.specs.Prelude.{List, ℕ, ◌++◌, codes, decimal, flat_map}
use Rattle.jsgen_tree.specs.Job.{JobData}
use Rattle.jsgen_tree.specs.Tree.{Atoms}
use Rattle.jsgen_model.specs.Ends.{licences_apart}
use Rattle.jsgen_model.specs.Spell.{comments_in, source_bytes}

-- where one begins in the source, and where it ends
abbrev pub licence_line : Atoms → List ℕ
licence_line a = decimal a.span.start ++ (codes " " ++ (decimal a.span.end ++ codes "\n"))

-- one after another; nothing where the options have them elsewhere
abbrev pub legal_bytes : JobData → List ℕ
legal_bytes job = flat_map licence_line (licences_apart job.options.comments.legal (source_bytes job) (comments_in job.program))
