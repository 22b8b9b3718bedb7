-- The source map of a job, by the marks of its layout.
use Rattle.std.specs.Prelude.{List, [], ℕ, Some, map}
use Rattle.jsgen_tree.specs.Job.{JobData}
use Rattle.jsgen_map.specs.Marks.{Mark, names_from, token_of}
use Rattle.jsgen_map.specs.declared.source_map.Token.{Token}
use Rattle.jsgen_place.specs.Place.{among_statements}
use Rattle.jsgen_model.specs.Layout.{Pen, style_of}
use Rattle.jsgen_model.specs.Lay.{lay}
use Rattle.jsgen_model.specs.Spell.{spell, first_pen, text_bytes}
pub use Rattle.jsgen_model.specs.Spell.{source_bytes}

-- before anything is printed, where marks lead to the source
abbrev pub mapped_pen : JobData → Pen
mapped_pen job = record (first_pen job) { style = record (style_of job.options job.tables) { source = Some (source_bytes job) } }

abbrev pub marks_of : JobData → List Mark
marks_of job = (lay (spell job.program among_statements) (mapped_pen job)).marks

-- the names of the map, each once, and its tokens
abbrev pub names_in : JobData → List (List ℕ)
names_in job = names_from [] (marks_of job)

abbrev pub tokens_in : JobData → List Token
tokens_in job = map (token_of (names_in job) (text_bytes job) (source_bytes job)) (marks_of job)
