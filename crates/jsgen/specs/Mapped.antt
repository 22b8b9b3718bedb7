-- What a source map is beside a printed program.
use Rattle.std.specs.Prelude.{◌≡◌, ⊤, ℕ, List, [], Option, Some, None, string_bytes}
use Rattle.std.specs.Str.{chars}
use Rattle.jsgen_tree.specs.Job.{JobData}
use Rattle.jsgen_place.specs.Place.{among_statements}
use Rattle.jsgen_map.specs.Marks.{MapOf}
use Rattle.jsgen_map.specs.Names.{texts}
use Rattle.jsgen_map.specs.declared.source_map.SourceMap.{SourceMap}
use Rattle.jsgen_map_text.specs.Lines.{map_text}
use Rattle.jsgen_model.specs.Mapped.{mapped_pen, marks_of, source_bytes}
use Rattle.jsgen_model.specs.Spell.{printed, spell, text_bytes}
use Rattle.jsgen_mark_laws.specs.Names.{names_of, NamePlaces}

-- a map has the path that it was asked for, the job's source, and the names and tokens of the marks
pub record IsMapOf (job : JobData) (path : List ℕ) (m : SourceMap) : Type 0 where
  pub asked : job.options.source_map_path ≡ Some path
  pub called : chars (string_bytes m.source_name) ≡ path
  pub source : m.source_content.now ≡ source_bytes job
  pub map : MapOf (text_bytes job) (source_bytes job) (marks_of job) (texts m.names.items) m.tokens.items

-- there is one exactly where a path is set
abbrev pub HasMap : JobData → Option SourceMap → Type 0
HasMap job None = job.options.source_map_path ≡ None
HasMap job (Some m) = (path : List ℕ) × IsMapOf job path m

-- each name that is printed and has a span in the source stands at a place of its own, where the last mark is that of its span
abbrev pub NamesStandIn : JobData → Option SourceMap → Type 0
NamesStandIn job None = ⊤
NamesStandIn job (Some m) = NamePlaces (printed job) (marks_of job) 0 (names_of (spell job.program among_statements) (mapped_pen job))

-- the lines of a map, if there is one
abbrev pub lines_of : Option SourceMap → List ℕ
lines_of None = []
lines_of (Some m) = map_text (texts m.names.items) m.tokens.items
