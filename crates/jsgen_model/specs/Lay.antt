-- The text, the comments and the marks that items give, from a pen: `layout` has the text alone, as it is without comments.
use Rattle.std.specs.Prelude.{ℕ, List, ◌∷◌, ◌++◌, nat_lt, Bool, true, false, Option, None, ◌&&◌, ◌||◌, codes, if◌then◌else◌, not}
use Rattle.jsgen_syntax.specs.Escapes.{name_text, has_escapes}
use Rattle.jsgen_syntax.specs.Raw.{template_text}
use Rattle.jsgen_syntax.specs.declared.span.Span.{Span}
use Rattle.jsgen_tree.specs.Named.{printed_name}
use Rattle.jsgen_model.specs.Punctuator.{Punctuator, Round, opening, closing, punctuator_text}
use Rattle.jsgen_model.specs.Items.{Items, AnnotatedCall, a_brace, TemplatePart, whole_part, head_part, middle_part, tail_part, ◌⊕◌, name, private_name, template_part, deeper, in_class, brackets, wrapped, wrapped_at_start, parentheses_unless_minified, unless_minified, where_same, mark, end_mark, link_mark, marked_word, marked_operator, marked_number, marked_indentation, indentation, comments, orphans, orphan_lines, empty_body, held, lined_case, caught, annotation, annotation_line, annotated, commented, member_line, member_space, in_lines, line_break, is_pure, Lead, to_empty, all_of_them}
use Rattle.jsgen_model.specs.Marks.{one_more_if, size, other_name_in, has_start_mark, has_end_mark, end_offset, has_link_mark}
use Rattle.jsgen_model.specs.Layout.{Pen, Start, nowhere, other_end, operator_end, written, written_if, is_apart, joins, number_ending, name_ending, is_barred, deeper_level, entered, with_private_name, are_printed_alike, layout, begun_at}
use Rattle.jsgen_model.specs.Private.{printed_private}
use Rattle.jsgen_model.specs.Comments.{are_any}
use Rattle.jsgen_model.specs.Groups.{comments_at, orphans_before, has_orphans, orphan_lines_at, empty_body_at, group_at, last_byte, ending_at, without_ending, closing_group, case_begun, case_ended, space_behind, annotation_at, annotation_line_at, commented_if, member_line_at, member_space_at, break_at, are_lined, lines_opened, lines_closed}

-- ---- marks

-- one more mark where the test holds, of an offset and with the name that stands there
abbrev pub marked_if : Bool → ℕ → Option (List ℕ) → Pen → Pen
marked_if test offset named pen = record pen { marks = one_more_if test (record { bytes = size pen.code; offset = offset; name = named }) pen.marks }

-- the mark of a span's start, of its last character, and of what follows it behind the object of a link
abbrev pub span_mark : Span → Pen → Pen
span_mark span pen = marked_if (has_start_mark pen.style.source span) span.start None pen

abbrev pub span_end_mark : Span → Pen → Pen
span_end_mark span pen = marked_if (has_end_mark pen.style.source span) (end_offset pen.style.source span) None pen

abbrev pub link_end_mark : Span → Pen → Pen
link_end_mark span pen = marked_if (has_link_mark pen.style.source span pen.code) span.end None pen

-- the mark of a name, by what it is printed as
abbrev pub name_mark : Span → List ℕ → Pen → Pen
name_mark span printed pen = marked_if (has_start_mark pen.style.source span) span.start (other_name_in pen.style.source span printed) pen

-- the mark of a piece of a template, behind the brace before it
abbrev pub has_piece_mark : TemplatePart → Option (List ℕ) → Span → Bool
has_piece_mark whole_part source span = false
has_piece_mark head_part source span = false
has_piece_mark middle_part source span = has_start_mark source span
has_piece_mark tail_part source span = has_start_mark source span

abbrev pub piece_mark : TemplatePart → Span → Pen → Pen
piece_mark part span pen = marked_if (has_piece_mark part pen.style.source span) span.start None pen

-- the mark behind indentation: where the level is above 0, or a space is pending; in minified text, which prints neither, where the test holds
abbrev pub may_be_indented : Bool → Pen → Bool
may_be_indented always pen = (always || not pen.style.minified) && (pen.pending_space || nat_lt 0 pen.depth)

abbrev pub mark_behind : Bool → Span → Pen → Pen
mark_behind test span pen = marked_if (test && has_start_mark pen.style.source span) span.start None pen

-- ---- what stands round a mark

-- the space before a word and a name
abbrev pub spaced : Pen → Pen
spaced pen = written_if (is_apart pen.ending pen.code) (codes " ") pen

-- and before a sign that another one would join
abbrev pub parted : Punctuator → Pen → Pen
parted p pen = written_if (joins pen.ending pen.code p) (codes " ") pen

-- a name behind a space
abbrev pub name_written : List ℕ → Pen → Pen
name_written w pen = written (name_text pen.style.ascii w) (name_ending (has_escapes pen.style.ascii w)) pen

-- what stands before the piece of a part, and behind it
abbrev pub part_opening : TemplatePart → List ℕ
part_opening whole_part = codes "`"
part_opening head_part = codes "`"
part_opening middle_part = codes "}"
part_opening tail_part = codes "}"

abbrev pub part_closing : TemplatePart → List ℕ
part_closing whole_part = codes "`"
part_closing head_part = codes "${"
part_closing middle_part = codes "${"
part_closing tail_part = codes "`"

-- ---- comments

-- on a line of its own an empty statement has its mark
abbrev pub case_mark : Bool → Lead → Pen → Pen
case_mark true (to_empty s) pen = span_mark s pen
case_mark long lead pen = pen

-- comments stand there, or stood there before
abbrev pub stood : Bool → ℕ → Pen → Bool
stood before o pen = before || are_any (group_at o pen)

-- the start of a block behind `catch`
abbrev pub before_block : Bool → ℕ → Pen → Pen
before_block before o pen = space_behind (stood before o pen) (comments_at all_of_them o pen)

-- an object stands in parentheses, and before it stand its comments
abbrev pub is_enclosed : ℕ → Pen → Bool
is_enclosed o pen = are_any (group_at o pen) || is_barred a_brace pen.start

abbrev pub commented_from : ℕ → Pen → Pen
commented_from o pen = begun_at nowhere (commented_if (are_any (group_at o pen)) o (written_if (is_enclosed o pen) (opening Round) pen))

-- ---- annotations

-- an annotation is printed, and puts the call behind it in parentheses
abbrev pub lifts : AnnotatedCall → Pen → Bool
lifts call pen = (call.pure && pen.style.annotated) && call.lifted

-- the annotation of what is pure, where the test holds, which began so
abbrev pub annotated_if : Bool → Span → ℕ → Start → Pen → Pen
annotated_if true span o start pen = begun_at start (annotation_at is_pure o (span_mark span pen))
annotated_if false span o start pen = pen

-- what stands before a call
abbrev pub annotated_from : AnnotatedCall → Pen → Pen
annotated_from call pen = annotated_if (call.pure && pen.style.annotated) call.span call.start pen.start (written_if (lifts call pen || call.wrapped) (opening Round) pen)

-- ---- the whole

-- the pen after the items: of two, after the second from where the first ends
abbrev pub lay : Items → Pen → Pen
lay (a ⊕ b) pen = lay b (lay a pen)
lay (name span n) pen = name_written (printed_name pen.style.tables n) (name_mark span (printed_name pen.style.tables n) (spaced pen))
lay (private_name span w) pen = with_private_name (printed_private pen.style.tables pen.classes w) (name_mark span (35 ∷ printed_private pen.style.tables pen.classes w) pen)
lay (template_part part tagged span raw) pen = written (template_text tagged pen.style.minified pen.style.ascii raw ++ part_closing part) other_end (piece_mark part span (written (part_opening part) other_end pen))
lay (deeper items) pen = record (lay items (record pen { depth = deeper_level pen.style.minified pen.depth })) { depth = pen.depth }
lay (in_class items) pen = record (lay items (entered pen)) { classes = pen.classes }
lay (brackets b items) pen = written (closing b) other_end (lay items (written (opening b) other_end pen))
lay (wrapped test items) pen = written_if test (closing Round) (lay items (written_if test (opening Round) pen))
lay (wrapped_at_start test opener items) pen = written_if (test || is_barred opener pen.start) (closing Round) (lay items (written_if (test || is_barred opener pen.start) (opening Round) pen))
lay (parentheses_unless_minified items) pen = written_if (not pen.style.minified) (closing Round) (lay items (written_if (not pen.style.minified) (opening Round) pen))
lay (unless_minified items) pen = if pen.style.minified then pen else lay items pen
lay (where_same m n a b) pen = if are_printed_alike pen.style.tables m n then lay a pen else lay b pen
lay (mark span) pen = span_mark span pen
lay (end_mark span) pen = span_end_mark span pen
lay (link_mark span) pen = link_end_mark span pen
lay (marked_word span w) pen = written w other_end (span_mark span (spaced pen))
lay (marked_operator span p) pen = written (punctuator_text p) (operator_end p) (span_mark span (parted p pen))
lay (marked_number span dot_is_its_own w) pen = written w (number_ending dot_is_its_own) (span_mark span (spaced pen))
lay (marked_indentation always span) pen = mark_behind (may_be_indented always pen) span (layout indentation pen)
lay (comments manner o) pen = comments_at manner o pen
lay (orphans o) pen = orphans_before o pen
lay (orphan_lines o) pen = orphan_lines_at o pen
lay (empty_body o) pen = empty_body_at o pen
lay (held o items) pen = closing_group (ending_at (last_byte o) pen) (lay items (without_ending (last_byte o) pen))
lay (lined_case only items) pen = case_ended (has_orphans only.start pen) pen.depth only.end (lay items (case_mark (has_orphans only.start pen) only.lead (case_begun (has_orphans only.start pen) only.lead only.start pen)))
lay (caught start body items) pen = before_block (are_any (group_at start pen)) body (lay items (comments_at all_of_them start pen))
lay (annotation test kind o) pen = if test && pen.style.annotated then begun_at pen.start (annotation_at kind o pen) else pen
lay (annotation_line indented test o) pen = if test && pen.style.annotated then annotation_line_at indented o pen else pen
lay (annotated call items) pen = written_if (lifts call pen || call.wrapped) (closing Round) (lay items (annotated_from call pen))
lay (commented o items) pen = begun_at nowhere (written_if (is_enclosed o pen) (closing Round) (lay items (commented_from o pen)))
lay (member_line o) pen = member_line_at o pen
lay (member_space o) pen = member_space_at o pen
lay (in_lines lines starts end items) pen = lines_closed (are_lined lines starts end pen) lines end pen.depth pen.lines (lay items (lines_opened (are_lined lines starts end pen) pen))
lay (line_break at) pen = break_at at pen
-- what has no mark and no comment is as in the text
lay item pen = layout item pen
