-- The text of a job's source map.
use Rattle.std.specs.Prelude.{List, ℕ, []}
use Rattle.std.specs.Option.{option_map_or}
use Rattle.jsgen_tree.specs.Job.{JobData}
use Rattle.jsgen_map_text.specs.Lines.{map_text}
use Rattle.jsgen_model.specs.Mapped.{names_in, tokens_in}

-- the lines of the map, and nothing where no path is set for one
abbrev pub map_bytes : JobData → List ℕ
map_bytes job = option_map_or (λ (path : List ℕ). map_text (names_in job) (tokens_in job)) job.options.source_map_path []
