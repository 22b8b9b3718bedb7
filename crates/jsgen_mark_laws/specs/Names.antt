-- The names that items print, and the places where they stand.
use Rattle.std.specs.Prelude.{◌≡◌, ℕ, ◌+◌, ◌≤◌, nat_le, List, [], ◌∷◌, ◌++◌, Bool, true, false, ◌||◌, Option, Some, None, if◌then◌else◌, not}
use Rattle.jsgen_syntax.specs.Escapes.{name_text}
use Rattle.jsgen_syntax.specs.declared.span.Span.{Span}
use Rattle.jsgen_tree.specs.Named.{printed_name}
use Rattle.jsgen_model.specs.Punctuator.{Round, opening}
use Rattle.jsgen_model.specs.Items.{Items, nothing, ◌⊕◌, word, name, private_name, number, literal, regular_expression, template_part, string, first_string, directive, punctuator, operator, member_dot, soft_space, soft_line, hard_space, indentation, body_space, deeper, in_class, brackets, wrapped, wrapped_at_start, parentheses_unless_minified, unless_minified, where_same, statement_end, due_semicolon, drop_semicolon, statement_begins, arrow_body_begins, default_export_begins, mark, end_mark, link_mark, marked_word, marked_operator, marked_number, marked_indentation, apart, comments, orphans, orphan_lines, empty_body, held, lined_case, caught, all_of_them, annotation, annotation_line, annotated, commented, member_line, member_space, in_lines, line_break}
use Rattle.jsgen_map.specs.Marks.{Mark}
use Rattle.jsgen_model.specs.Marks.{size, has_start_mark}
use Rattle.jsgen_model.specs.Layout.{Pen, other_end, written, written_if, is_barred, deeper_level, entered, are_printed_alike}
use Rattle.jsgen_model.specs.Lay.{lay, case_mark, annotated_from, commented_from}
use Rattle.jsgen_model.specs.Groups.{comments_at, has_orphans, case_begun, last_byte, without_ending, are_lined, lines_opened}
use Rattle.jsgen_model.specs.Private.{printed_private}

-- the text of a name, with the start of its span
pub record NameText : Type 0 where
  pub start : ℕ
  pub text : List ℕ

-- a name whose span is empty, or begins behind the source, is nowhere in it, and one without text nowhere in the code
abbrev pub printed_at : Bool → Span → List ℕ → List NameText
printed_at false span text = []
printed_at true span [] = []
printed_at true span (c ∷ cs) = record { start = span.start; text = c ∷ cs } ∷ []

-- the names that items print from a pen, in order
abbrev pub names_of : Items → Pen → List NameText
names_of nothing pen = []
names_of (a ⊕ b) pen = names_of a pen ++ names_of b (lay a pen)
names_of (word w) pen = []
names_of (name span n) pen = printed_at (has_start_mark pen.style.source span) span (name_text pen.style.ascii (printed_name pen.style.tables n))
names_of (private_name span w) pen = printed_at (has_start_mark pen.style.source span) span (35 ∷ name_text pen.style.ascii (printed_private pen.style.tables pen.classes w))
names_of (number dot_is_its_own w) pen = []
names_of (literal w) pen = []
names_of (regular_expression pattern flags) pen = []
names_of (template_part part tagged span raw) pen = []
names_of (string backticks units) pen = []
names_of (first_string units) pen = []
names_of (directive raw) pen = []
names_of (punctuator p) pen = []
names_of (operator p) pen = []
names_of member_dot pen = []
names_of soft_space pen = []
names_of soft_line pen = []
names_of hard_space pen = []
names_of indentation pen = []
names_of body_space pen = []
names_of (deeper items) pen = names_of items (record pen { depth = deeper_level pen.style.minified pen.depth })
names_of (in_class items) pen = names_of items (entered pen)
names_of (brackets b items) pen = names_of items (written (opening b) other_end pen)
names_of (wrapped test items) pen = names_of items (written_if test (opening Round) pen)
names_of (wrapped_at_start test opener items) pen = names_of items (written_if (test || is_barred opener pen.start) (opening Round) pen)
names_of (parentheses_unless_minified items) pen = names_of items (written_if (not pen.style.minified) (opening Round) pen)
names_of (unless_minified items) pen = if pen.style.minified then [] else names_of items pen
names_of (where_same m n a b) pen = if are_printed_alike pen.style.tables m n then names_of a pen else names_of b pen
names_of statement_end pen = []
names_of due_semicolon pen = []
names_of drop_semicolon pen = []
names_of statement_begins pen = []
names_of arrow_body_begins pen = []
names_of default_export_begins pen = []
names_of (mark span) pen = []
names_of (end_mark span) pen = []
names_of (link_mark span) pen = []
names_of (marked_word span w) pen = []
names_of (marked_operator span p) pen = []
names_of (marked_number span dot_is_its_own w) pen = []
names_of (marked_indentation always span) pen = []
names_of apart pen = []
names_of (comments manner offset) pen = []
names_of (orphans offset) pen = []
names_of (orphan_lines offset) pen = []
names_of (empty_body offset) pen = []
names_of (held offset items) pen = names_of items (without_ending (last_byte offset) pen)
names_of (lined_case only items) pen = names_of items (case_mark (has_orphans only.start pen) only.lead (case_begun (has_orphans only.start pen) only.lead only.start pen))
names_of (caught start body items) pen = names_of items (comments_at all_of_them start pen)
names_of (annotation test kind offset) pen = []
names_of (annotation_line indented test offset) pen = []
names_of (annotated call items) pen = names_of items (annotated_from call pen)
names_of (commented offset items) pen = names_of items (commented_from offset pen)
names_of (member_line offset) pen = []
names_of (member_space offset) pen = []
names_of (in_lines lines starts end items) pen = names_of items (lines_opened (are_lined lines starts end pen) pen)
names_of (line_break at) pen = []

-- ---- the last of the marks up to so many bytes

abbrev pub later_mark : Option Mark → Option Mark → Option Mark
later_mark first None = first
later_mark first (Some m) = Some m

abbrev pub if_before : Bool → Mark → Option Mark
if_before true m = Some m
if_before false m = None

abbrev pub last_before : ℕ → List Mark → Option Mark
last_before bytes [] = None
last_before bytes (m ∷ ms) = later_mark (if_before (nat_le m.bytes bytes) m) (last_before bytes ms)

-- ---- places

-- at a place behind so many bytes of the code stands the name's text, and the last mark up to there has the start of its span
pub record StandsAt (code : List ℕ) (marks : List Mark) (least : ℕ) (printed : NameText) : Type 0 where
  pub before : List ℕ
  pub rest : List ℕ
  pub is : code ≡ before ++ (printed.text ++ rest)
  pub behind : least ≤ size before
  pub some : 1 ≤ size printed.text
  pub own : Mark
  pub last : last_before (size before) marks ≡ Some own
  pub its : own.offset ≡ printed.start

-- one place for each name, each behind the text of the one before
abbrev pub NamePlaces : List ℕ → List Mark → ℕ → List NameText → Type 0
NamePlaces code marks least [] = least ≤ size code
NamePlaces code marks least (p ∷ ps) = (s : StandsAt code marks least p) × NamePlaces code marks (size s.before + size p.text) ps
