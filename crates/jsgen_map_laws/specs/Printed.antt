-- The names that items print, each with its span.
use Rattle.std.specs.Prelude.{ℕ, Option, List, [], ◌∷◌, ◌++◌, ◌||◌, if◌then◌else◌, not}
use Rattle.jsgen_syntax.specs.declared.span.Span.{Span}
use Rattle.jsgen_tree.specs.Named.{printed_name}
use Rattle.jsgen_map.specs.Marks.{last_offset}
use Rattle.jsgen_model.specs.Punctuator.{Round, opening}
use Rattle.jsgen_model.specs.Items.{Items, ◌⊕◌, name, private_name, deeper, in_class, brackets, wrapped, wrapped_at_start, parentheses_unless_minified, unless_minified, where_same, held, lined_case, caught, all_of_them, annotated, commented, in_lines}
use Rattle.jsgen_model.specs.Marks.{size}
use Rattle.jsgen_model.specs.Layout.{Pen, other_end, written, written_if, is_barred, deeper_level, entered, are_printed_alike}
use Rattle.jsgen_model.specs.Lay.{lay, spaced, case_mark, annotated_from, commented_from}
use Rattle.jsgen_model.specs.Groups.{comments_at, has_orphans, case_begun, last_byte, without_ending, are_lined, lines_opened}
use Rattle.jsgen_model.specs.Private.{printed_private}

-- the span of a name in the source, the text that is printed for it, and before this how many bytes the output has, and where its last mark
-- leads
pub record PrintedName : Type 0 where
  pub span : Span
  pub text : List ℕ
  pub bytes : ℕ
  pub last : Option ℕ

abbrev pub printed_from : Pen → Span → List ℕ → PrintedName
printed_from pen span text = record { span = span; text = text; bytes = size pen.code; last = last_offset pen.marks }

-- the names that items print from a pen, in order, each as its tables have it and before escapes
abbrev pub printed_names : Items → Pen → List PrintedName
printed_names (a ⊕ b) pen = printed_names a pen ++ printed_names b (lay a pen)
printed_names (name span n) pen = printed_from (spaced pen) span (printed_name pen.style.tables n) ∷ []
printed_names (private_name span w) pen = printed_from pen span (35 ∷ printed_private pen.style.tables pen.classes w) ∷ []
printed_names (deeper items) pen = printed_names items (record pen { depth = deeper_level pen.style.minified pen.depth })
printed_names (in_class items) pen = printed_names items (entered pen)
printed_names (brackets b items) pen = printed_names items (written (opening b) other_end pen)
printed_names (wrapped test items) pen = printed_names items (written_if test (opening Round) pen)
printed_names (wrapped_at_start test opener items) pen = printed_names items (written_if (test || is_barred opener pen.start) (opening Round) pen)
printed_names (parentheses_unless_minified items) pen = printed_names items (written_if (not pen.style.minified) (opening Round) pen)
printed_names (unless_minified items) pen = if pen.style.minified then [] else printed_names items pen
printed_names (where_same m n a b) pen = if are_printed_alike pen.style.tables m n then printed_names a pen else printed_names b pen
printed_names (held offset items) pen = printed_names items (without_ending (last_byte offset) pen)
printed_names (lined_case only items) pen = printed_names items (case_mark (has_orphans only.start pen) only.lead (case_begun (has_orphans only.start pen) only.lead only.start pen))
printed_names (caught start body items) pen = printed_names items (comments_at all_of_them start pen)
printed_names (annotated call items) pen = printed_names items (annotated_from call pen)
printed_names (commented offset items) pen = printed_names items (commented_from offset pen)
printed_names (in_lines lines starts end items) pen = printed_names items (lines_opened (are_lined lines starts end pen) pen)
-- what has no other items in it prints no name: were it to leave a mark with one, the law would fail
printed_names item pen = []
