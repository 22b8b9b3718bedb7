-- The text of comments, from a pen.
use Rattle.std.specs.Prelude.{ℕ, ◌-◌, List, [], ◌∷◌, Bool, true, false, Option, Some, None, ◌&&◌, ◌||◌, ◌==◌, codes, drop, if◌then◌else◌, not}
use Rattle.std.specs.List.{filter, last_or, list_any, list_all}
use Rattle.std.specs.Option.{option_map_or}
use Rattle.std.specs.Str.{skip_leading_whitespace}
use Rattle.jsgen_syntax.specs.Raw.{tag_free}
use Rattle.jsgen_tree.specs.declared.statements.CommentKind.{CommentKind}
use Rattle.jsgen_tree.specs.declared.statements.CommentKind.TheVariants as kinds
use Rattle.jsgen_tree.specs.declared.statements.CommentContent.{CommentContent}
use Rattle.jsgen_tree.specs.declared.statements.CommentContent.TheVariants as contents
use Rattle.jsgen_model.specs.Items.{Annotation, is_pure, no_side_effects, Lines, of_call, of_import, Break, first_argument, other_argument, import_source, import_options, Manner, all_of_them, then_space, with_due_space, annotation_before_it, with_key_annotation, none_of_them, Lead, to_body}
use Rattle.jsgen_model.specs.Comments.{Comment, Store, there, without, are_any, taken, orphans_below, left_below, has_orphans_below}
use Rattle.jsgen_model.specs.Layout.{Pen, Style, on_one_line, other_end, written, written_if, white_if, begun_at, at_indentation, deeper_level, led}
use Rattle.jsgen_model.specs.Tokens.{is_line_terminator}

-- ---- steps

abbrev pub line_ended : Pen → Pen
line_ended pen = written (codes "\n") other_end pen

abbrev pub indented_here : Pen → Pen
indented_here pen = at_indentation pen.style.minified pen

abbrev pub softly_spaced : Pen → Pen
softly_spaced pen = white_if (not pen.style.minified) (codes " ") pen

abbrev pub with_pending_space : Bool → Pen → Pen
with_pending_space pending pen = record pen { pending_space = pending }

-- a pending space is a soft one, where the test holds, and is used up
abbrev pub used_up_if : Bool → Pen → Pen
used_up_if true pen = with_pending_space false (softly_spaced pen)
used_up_if false pen = pen

abbrev pub used_up : Pen → Pen
used_up pen = used_up_if pen.pending_space pen

-- ---- one comment

-- the lines of a text without their ends (ECMA-262, 12.3); behind the last end none begins. The test tells that a carriage return ended the line before
abbrev pub onto : ℕ → List (List ℕ) → List (List ℕ)
onto c [] = (c ∷ []) ∷ []
onto c (l ∷ ls) = (c ∷ l) ∷ ls

abbrev pub lines_behind : Bool → List ℕ → List (List ℕ)
lines_behind returned [] = []
lines_behind returned (c ∷ cs) = if returned && (c == 10) then lines_behind false cs else (if is_line_terminator c then [] ∷ lines_behind (c == 13) cs else onto c (lines_behind false cs))

abbrev pub lines_of : List ℕ → List (List ℕ)
lines_of text = lines_behind false text

abbrev pub opens_block : List ℕ → Bool
opens_block (c ∷ d ∷ cs) = (c == 47) && (d == 42)
opens_block cs = false

abbrev pub closes_block : List ℕ → Bool
closes_block [] = false
closes_block (c ∷ []) = false
closes_block (c ∷ d ∷ []) = (c == 42) && (d == 47)
closes_block (c ∷ d ∷ cs) = closes_block (d ∷ cs)

abbrev pub indented_if : Bool → Pen → Pen
indented_if true pen = indented_here pen
indented_if false pen = pen

-- a line of a block: behind the indentation, but for the first, without the white space that it begins with, and with its end, but for the last
abbrev pub block_line : List ℕ → Pen → Pen
block_line l pen = written_if (not (closes_block l)) (codes "\n") (written (tag_free (skip_leading_whitespace l)) other_end (indented_if (not (opens_block l)) pen))

abbrev pub block_lines : List (List ℕ) → Pen → Pen
block_lines [] pen = pen
block_lines (l ∷ ls) pen = block_lines ls (block_line l pen)

abbrev pub is_dark : ℕ → Bool
is_dark c = not ((c == 32) || (c == 9))

-- the line that the code ends in holds more than blanks
abbrev pub is_mid_line : List ℕ → Bool
is_mid_line code = option_map_or (λ c. not (c == 10)) (last_or None (filter is_dark code)) false

-- `-->` begins a comment only at the start of a line (ECMA-262, B.1.1): elsewhere `//` stands in its place
abbrev pub html_close : Bool → List ℕ → Pen → Pen
html_close true text pen = written (tag_free (drop 3 text)) other_end (written (codes "//") other_end pen)
html_close false text pen = written (tag_free text) other_end pen

abbrev pub text_written : CommentKind → List ℕ → Pen → Pen
text_written kinds.MultiLineBlock text pen = block_lines (lines_of text) pen
text_written kinds.HtmlClose text pen = html_close (is_mid_line pen.code) text pen
text_written kind text pen = written (tag_free text) other_end pen

abbrev pub comment_written : Comment → Pen → Pen
comment_written c pen = text_written c.kind c.text pen

-- ---- a group

abbrev pub last_of : List ℕ → Option ℕ
last_of code = last_or None code

-- what stands before the first, by what the code ends in
abbrev pub on_new_line : Option ℕ → Pen → Pen
on_new_line None pen = pen
on_new_line (Some c) pen = if c == 10 then indented_here pen else (if c == 9 then pen else indented_here (line_ended pen))

abbrev pub at_line_start : Option ℕ → Bool
at_line_start None = true
at_line_start (Some c) = c == 10

abbrev pub before_first : Bool → Pen → Pen
before_first true pen = on_new_line (last_of pen.code) pen
before_first false pen = if pen.pending_space then used_up pen else indented_if (at_line_start (last_of pen.code)) pen

abbrev pub is_legal : CommentContent → Bool
is_legal contents.Legal = true
is_legal contents.JsdocLegal = true
is_legal content = false

-- what stands before another one
abbrev pub before_later : Bool → Bool → Pen → Pen
before_later true legal pen = indented_here (line_ended pen)
before_later false true pen = line_ended pen
before_later false false pen = softly_spaced pen

abbrev pub is_line : CommentKind → Bool
is_line kinds.Line = true
is_line kinds.HtmlOpen = true
is_line kinds.HtmlClose = true
is_line kind = false

-- nothing may follow it on its line, or nothing did
abbrev pub ends_its_line : Comment → Bool
ends_its_line c = is_line c.kind || c.newline_behind

-- behind the last stands a line end, or a space in place of the next indentation
abbrev pub behind_last : Bool → Pen → Pen
behind_last true pen = line_ended pen
behind_last false pen = with_pending_space true pen

-- those behind a comment, which nothing follows on its line where it goes to the end of one; the test tells that a line ends behind the last, whatever stood there
abbrev pub behind_comment : Bool → Comment → List Comment → Pen → Pen
behind_comment ended c [] pen = behind_last (ended || ends_its_line c) pen
behind_comment ended c (d ∷ cs) pen = behind_comment ended d cs (comment_written d (before_later (d.newline_before || is_line c.kind) (is_legal d.content) pen))

-- what began before comments begins behind them
abbrev pub group : Bool → List Comment → Pen → Pen
group ended [] pen = pen
group ended (c ∷ cs) pen = begun_at pen.start (behind_comment ended c cs (comment_written c (before_first c.newline_before pen)))

-- ---- what is printed of the store

abbrev pub with_store : Store → Pen → Pen
with_store store pen = record pen { store = store }

-- the group at an offset
abbrev pub group_at : ℕ → Pen → List Comment
group_at o pen = there o pen.store.groups

abbrev pub without_group : ℕ → Pen → Pen
without_group o pen = with_store (taken o pen.store) pen

abbrev pub is_key : CommentContent → Bool
is_key contents.PropertyKey = true
is_key content = false

abbrev pub is_key_annotation : Comment → Bool
is_key_annotation c = is_key c.content

-- an annotation of a bundler or of a coverage tool, or of a property's key
abbrev pub is_for_tools : CommentContent → Bool
is_for_tools contents.Webpack = true
is_for_tools contents.Vite = true
is_for_tools contents.PropertyKey = true
is_for_tools contents.CoverageIgnore = true
is_for_tools contents.CoverageIgnoreFile = true
is_for_tools content = false

abbrev pub is_tool_annotation : Comment → Bool
is_tool_annotation c = is_for_tools c.content

-- which group is printed, and what stands before it and behind it
abbrev pub is_printed : Manner → List Comment → Bool
is_printed with_key_annotation cs = list_any is_key_annotation cs
is_printed annotation_before_it cs = list_any is_tool_annotation cs
is_printed none_of_them cs = false
is_printed manner cs = are_any cs

abbrev pub code_ends_in : ℕ → Pen → Bool
code_ends_in c pen = option_map_or (λ d. d == c) (last_of pen.code) false

-- behind `/` a comment would be another one
abbrev pub before_group : Manner → Pen → Pen
before_group with_key_annotation pen = white_if (code_ends_in 47 pen) (codes " ") pen
before_group manner pen = pen

abbrev pub behind_group : Manner → Pen → Pen
behind_group all_of_them pen = pen
behind_group then_space pen = with_pending_space false (softly_spaced pen)
behind_group with_due_space pen = used_up pen
behind_group manner pen = if code_ends_in 10 pen then indented_here pen else used_up pen

abbrev pub printed_if : Bool → Manner → ℕ → Pen → Pen
printed_if true manner o pen = behind_group manner (group false (group_at o pen) (without_group o (before_group manner pen)))
printed_if false manner o pen = pen

abbrev pub comments_at : Manner → ℕ → Pen → Pen
comments_at manner o pen = printed_if (is_printed manner (group_at o pen)) manner o pen

-- those at smaller offsets that outlive their places
abbrev pub orphans_before : ℕ → Pen → Pen
orphans_before o pen = group true (orphans_below o pen.store) (with_store (left_below o pen.store) pen)

abbrev pub has_orphans : ℕ → Pen → Bool
has_orphans o pen = has_orphans_below o pen.store

-- ---- where they stand in an object, and before it

-- a member on a line of its own, and one that stands on the line of its braces
abbrev pub member_line_at : ℕ → Pen → Pen
member_line_at o pen = indented_here (comments_at all_of_them o (written_if (not pen.style.minified) (codes "\n") pen))

abbrev pub member_space_at : ℕ → Pen → Pen
member_space_at o pen = comments_at with_due_space o (written_if (not pen.style.minified) (codes " ") pen)

-- the comments before an object, where there are any
abbrev pub commented_if : Bool → ℕ → Pen → Pen
commented_if true o pen = indented_here (comments_at all_of_them o pen)
commented_if false o pen = pen

-- ---- where they stand in braces

abbrev pub one_deeper : Pen → Pen
one_deeper pen = record pen { depth = deeper_level pen.style.minified pen.depth }

abbrev pub at_level : ℕ → Pen → Pen
at_level depth pen = record pen { depth = depth }

abbrev pub soft_line_ended : Pen → Pen
soft_line_ended pen = white_if (not pen.style.minified) (codes "\n") pen

-- orphans on lines of their own, one level deeper, where there are any
abbrev pub orphan_lines_at : ℕ → Pen → Pen
orphan_lines_at o pen = if has_orphans o pen then indented_here (at_level pen.depth (orphans_before o (one_deeper (soft_line_ended pen)))) else pen

-- the offset of the last byte before an offset
abbrev pub last_byte : ℕ → Option ℕ
last_byte o = if o == 0 then None else Some (o - 1)

-- the comments at the last byte of a body, which are taken before it, and printed at its end
abbrev pub ending_at : Option ℕ → Pen → List Comment
ending_at None pen = []
ending_at (Some o) pen = group_at o pen

abbrev pub without_ending : Option ℕ → Pen → Pen
without_ending None pen = pen
without_ending (Some o) pen = without_group o pen

abbrev pub closing_group : List Comment → Pen → Pen
closing_group [] pen = pen
closing_group (c ∷ cs) pen = with_pending_space false (group false (c ∷ cs) pen)

abbrev pub has_no_newlines : Comment → Bool
has_no_newlines c = not c.newline_before && not c.newline_behind

-- a body in which nothing stands, whose comments are these: on one line where none of them has a line end beside it, and no orphan waits
abbrev pub body_lines : ℕ → List Comment → Pen → Pen
body_lines o cs pen = indented_here (at_level pen.depth (closing_group cs (orphans_before o (one_deeper (soft_line_ended pen)))))

abbrev pub body_of : ℕ → List Comment → Pen → Pen
body_of o cs pen = if not (has_orphans o pen) && list_all has_no_newlines cs then closing_group cs pen else body_lines o cs pen

abbrev pub empty_body_at : ℕ → Pen → Pen
empty_body_at o pen = body_of o (ending_at (last_byte o) pen) (without_ending (last_byte o) pen)

-- ---- annotations

-- what an annotation is, where the source has none
abbrev pub annotation_text : Annotation → List ℕ
annotation_text is_pure = codes "/* @__PURE__ */"
annotation_text no_side_effects = codes "/* @__NO_SIDE_EFFECTS__ */"

abbrev pub says : Annotation → CommentContent → Bool
says is_pure contents.Pure = true
says no_side_effects contents.NoSideEffects = true
says kind content = false

-- a comment of the source is the annotation, where it says the same, and a line ends behind it or may follow it on its line
abbrev pub fits : Bool → Annotation → Comment → Bool
fits ends kind c = says kind c.content && (ends || not (is_line c.kind))

abbrev pub fitting_at : Bool → Annotation → ℕ → Pen → List Comment
fitting_at ends kind o pen = filter (fits ends kind) (there o pen.annotations)

abbrev pub without_annotation : ℕ → Pen → Pen
without_annotation o pen = record pen { annotations = without o pen.annotations }

abbrev pub annotation_by : List Comment → Annotation → ℕ → Pen → Pen
annotation_by [] kind o pen = written (annotation_text kind) other_end pen
annotation_by (c ∷ cs) kind o pen = comment_written c (without_annotation o pen)

-- behind `/` an annotation would be another comment
abbrev pub annotation_written : Bool → Annotation → ℕ → Pen → Pen
annotation_written ends kind o pen = annotation_by (fitting_at ends kind o pen) kind o (written_if (code_ends_in 47 pen) (codes " ") pen)

-- before what begins here
abbrev pub annotation_at : Annotation → ℕ → Pen → Pen
annotation_at kind o pen = written (codes " ") other_end (annotation_written false kind o pen)

-- on a line of its own
abbrev pub annotation_line_at : Bool → ℕ → Pen → Pen
annotation_line_at indented o pen = line_ended (annotation_written true no_side_effects o (indented_if indented pen))

-- ---- arguments on lines of their own

-- each behind a line end and indentation
abbrev pub each_on_line : List Comment → Pen → Pen
each_on_line [] pen = pen
each_on_line (c ∷ cs) pen = each_on_line cs (comment_written c (indented_here (line_ended pen)))

-- comments and a line end, or a line end that minified text leaves out
abbrev pub broken_by : List Comment → Pen → Pen
broken_by [] pen = soft_line_ended pen
broken_by (c ∷ cs) pen = begun_at pen.start (line_ended (each_on_line (c ∷ cs) pen))

abbrev pub broken_at : ℕ → Pen → Pen
broken_at o pen = indented_here (broken_by (group_at o pen) (without_group o pen))

-- what stands before an argument on a line of its own, and before the source of `import()` where comments stand there; behind it begins what
-- does so where all stand on one line
abbrev pub on_a_line : Break → Pen → Pen
on_a_line (first_argument o) pen = broken_at o pen
on_a_line (other_argument o) pen = begun_at (on_one_line (other_argument o) pen).start (broken_at o pen)
on_a_line (import_source o) pen = broken_at o pen
on_a_line import_options pen = indented_here (written_if (not pen.style.minified) (codes "\n") pen)

abbrev pub unless_on_line : Break → Pen → Pen
unless_on_line (import_source o) pen = if are_any (group_at o pen) then broken_at o pen else pen
unless_on_line at pen = on_one_line at pen

abbrev pub break_at : Break → Pen → Pen
break_at at pen = if pen.lines then on_a_line at pen else unless_on_line at pen

-- comments stand at one of these offsets
abbrev pub any_group : List ℕ → Pen → Bool
any_group [] pen = false
any_group (o ∷ os) pen = are_any (group_at o pen) || any_group os pen

-- arguments may stand on lines
abbrev pub may_be_lined : Lines → Style → Bool
may_be_lined (of_call quoted) style = not (quoted && style.minified)
may_be_lined of_import style = style.annotated

-- arguments with these starts stand on lines, in a call with this end
abbrev pub are_lined : Lines → List ℕ → ℕ → Pen → Bool
are_lined lines starts end pen = may_be_lined lines pen.style && (are_any (ending_at (last_byte end) pen) || any_group starts pen)

abbrev pub with_lines : Bool → Pen → Pen
with_lines lines pen = record pen { lines = lines }

abbrev pub lines_opened : Bool → Pen → Pen
lines_opened true pen = with_lines true (one_deeper pen)
lines_opened false pen = with_lines false pen

abbrev pub indents : Lines → Bool
indents (of_call quoted) = true
indents of_import = false

-- behind the last argument: the level is the one round the call, and so is whether its lines are ended
abbrev pub lines_closed : Bool → Lines → ℕ → ℕ → Bool → Pen → Pen
lines_closed true lines end depth outer pen = indented_if (indents lines) (at_level depth (with_lines outer (broken_by (ending_at (last_byte end) pen) (without_ending (last_byte end) pen))))
lines_closed false lines end depth outer pen = with_lines outer pen

-- ---- where they stand before the one statement of a case, and in a `catch`

-- what stands before the statement on a line of its own
abbrev pub led_on_line : Lead → ℕ → Pen → Pen
led_on_line to_body o pen = pen
led_on_line lead o pen = indented_here (comments_at all_of_them o pen)

abbrev pub case_begun : Bool → Lead → ℕ → Pen → Pen
case_begun true lead o pen = begun_at (led lead pen).start (led_on_line lead o (orphans_before o (one_deeper (soft_line_ended pen))))
case_begun false lead o pen = led lead pen

abbrev pub case_ended : Bool → ℕ → ℕ → Pen → Pen
case_ended true depth end pen = at_level depth (orphans_before end pen)
case_ended false depth end pen = pen

-- pretty, the pending space is used up where a group stood there
abbrev pub space_behind : Bool → Pen → Pen
space_behind stood pen = used_up_if (stood && (pen.pending_space && not pen.style.minified)) pen
