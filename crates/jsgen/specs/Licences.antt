-- What a printer has of licences that don't stand where they are.
use Rattle.std.specs.Prelude.{ℕ, List, [], map, if◌then◌else◌}
use Rattle.jsgen_tree.specs.Job.{JobData}
use Rattle.jsgen_tree.specs.Options.{legal_plain}
use Rattle.jsgen_tree.specs.Rows.{comment_row}
use Rattle.jsgen_tree.specs.Tree.{Atoms, atoms_of}
use Rattle.jsgen_tree.specs.declared.statements.Comment.{Comment}
use Rattle.jsgen_comments.specs.Plain.{comment_plain}
use Rattle.jsgen_model.specs.Ends.{licensed, stand_apart, licences_apart}
use Rattle.jsgen_model.specs.Layout.{Pen}
use Rattle.jsgen_model.specs.Spell.{comments_in, source_bytes}
use Rattle.jsgen.specs.declared.licences.End.{End}

-- comments by their values
abbrev pub rows_plain : List Comment → List Atoms
rows_plain comments = map (λ c. atoms_of (comment_row c)) comments

-- the pen behind them, where a program ends
abbrev pub ended_by : End → List ℕ → Pen → Pen
ended_by e source pen = licensed (legal_plain e.legal.now) (map (comment_plain source) e.licences.items) pen

-- those of a job that stand in a file of their own
abbrev pub job_licences : JobData → List Atoms
job_licences job = licences_apart job.options.comments.legal (source_bytes job) (comments_in job.program)

-- those of a printer
abbrev pub apart : End → List Atoms
apart e = if stand_apart (legal_plain e.legal.now) then rows_plain e.licences.items else []
