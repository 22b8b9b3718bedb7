-- What a printer of programs shows of itself.
use Rattle.std.specs.Prelude.{◌≡◌, ℕ, List, [], Bool, true, Option, Some, None, Result, is_err, string_bytes}
use Rattle.std.specs.Str.{encode_utf8_all}
use Rattle.jsgen_tree.specs.Options.{Options, options_plain}
use Rattle.jsgen_tree.specs.Job.{Tables, JobData}
use Rattle.jsgen_tree.specs.Scoping.{tables_plain}
use Rattle.jsgen_tree.specs.Tree.{Tree}
use Rattle.jsgen_model.specs.Layout.{Pen}
use Rattle.jsgen_model.specs.Printing.{Reaches}
use Rattle.jsgen_map.specs.Marks.{MapOf}
use Rattle.jsgen_map.specs.Names.{texts}
use Rattle.jsgen_map.specs.declared.source_map.SourceMap.{SourceMap}
use Rattle.jsgen_printer.specs.Printer.{pen_of, at_depth}
use Rattle.jsgen_printer.specs.Steps as steps
use Rattle.jsgen.specs.declared.codegen.Codegen.{Codegen}

-- how it prints
abbrev pub options_of : Codegen → Options
options_of c = options_plain c.options

-- by which names
abbrev pub tables_of : Codegen → Tables
tables_of c = tables_plain c.tables

-- the source text that print calls were given, in bytes
abbrev pub source_text_of : Codegen → List ℕ
source_text_of c = c.source_text.now

-- what it is asked for with a program
abbrev pub job_for : Codegen → Tree → JobData
job_for c program = record { options = options_of c; tables = tables_of c; program = program }

-- the text so far, and what matters of its end
abbrev pub pen_at : Codegen → Pen
pen_at c = pen_of c.printer

-- the text so far, in bytes
abbrev pub printed_so_far : Codegen → List ℕ
printed_so_far c = encode_utf8_all (pen_at c).code

-- whether a print call was made, and whether one failed
abbrev pub has_printed : Codegen → Bool
has_printed c = c.has_printed

abbrev pub has_failed : Codegen → Bool
has_failed c = steps.has_failed c.printer

-- what a call does: it goes on to this pen, and after want of memory it stops on the way there and has failed
pub record Prints {T E : Type 0} (old new : Codegen) (pen : Pen) (result : Result T E) : Type 0 where
  pub reaches : Reaches result (pen_at old) (pen_at new) pen
  pub failed : has_failed new ≡ is_err result
  pub printed : has_printed new ≡ true
  pub options : options_of new ≡ options_of old
  pub tables : tables_of new ≡ tables_of old
  pub source_text : source_text_of new ≡ source_text_of old

-- the pen at a level, which from here on leaves marks that lead to this source
abbrev pub mapped_from : ℕ → List ℕ → Pen → Pen
mapped_from depth source pen = at_depth depth (record pen { style = record pen.style { source = Some source }; marks = [] })

-- the map of the marks of a pen, which lead to this source, under this path
abbrev pub MapsTo : Pen → List ℕ → List ℕ → Option SourceMap → Type 0
MapsTo pen source path None = ⊥
MapsTo pen source path (Some m) = (string_bytes m.source_name ≡ path) × (m.source_content.now ≡ source) × MapOf (encode_utf8_all pen.code) source pen.marks (texts m.names.items) m.tokens.items
