-- Comments: what their steps add stands behind the code before, and the classes round here stay as they are.
use Rattle.std.proofs.Common.{◌≡◌, ℕ, Bool, true, false, ◌||◌, ◌&&◌, ◌==◌, if◌then◌else◌, List, [], ◌∷◌, Option, Some, None, drop, codes, refl, ◌∙◌, not}
use Rattle.std.specs.List.{list_all}
use Rattle.std.specs.Str.{skip_leading_whitespace}
use Rattle.jsgen_syntax.specs.Raw.{tag_free}
use Rattle.jsgen_tree.specs.declared.statements.CommentKind.{CommentKind}
use Rattle.jsgen_tree.specs.declared.statements.CommentKind.TheVariants as kinds
use Rattle.jsgen_model.specs.Comments.{Comment, are_any, orphans_below, left_below}
use Rattle.jsgen_model.specs.Groups.{line_ended, indented_here, softly_spaced, used_up_if, indented_if, opens_block, block_line, block_lines, lines_of, is_mid_line, html_close, text_written, comment_written, last_of, on_new_line, at_line_start, before_first, before_later, is_legal, behind_last, is_line, ends_its_line, behind_comment, group, with_store, group_at, without_group, code_ends_in, before_group, behind_group, printed_if, is_printed, comments_at, orphans_before, has_orphans, one_deeper, at_level, soft_line_ended, orphan_lines_at, last_byte, ending_at, without_ending, closing_group, has_no_newlines, body_lines, body_of, empty_body_at, led_on_line, case_begun, case_ended, used_up, annotation_text, fitting_at, without_annotation, annotation_by, annotation_written, annotation_at, annotation_line_at, commented_if, member_line_at, member_space_at, each_on_line, broken_by, broken_at, on_a_line, unless_on_line, break_at, with_lines, lines_opened, indents, lines_closed}
use Rattle.jsgen_model.specs.Ends.{each_written}
use Rattle.jsgen_model.specs.Items.{Annotation, AnnotatedCall, is_pure, no_side_effects, Lines, Break, first_argument, other_argument, import_source, import_options, Manner, all_of_them, then_space, with_due_space, before_it, annotation_before_it, with_key_annotation, none_of_them, Lead, to_block, to_body, to_empty}
use Rattle.jsgen_model.specs.Lay.{case_mark, stood, before_block, span_mark, lifts, annotated_if, annotated_from, is_enclosed, commented_from}
use Rattle.jsgen_model.specs.Layout.{Pen, Start, Ending, other_end, written, written_if, text_if, indented, indent_or_space, at_indentation, led, white_if, begun_at}
use Rattle.jsgen_model.specs.Printing.{IsPrefix}
use Rattle.jsgen_model.specs.Punctuator.{Round, opening}
use Rattle.jsgen_syntax.specs.declared.span.Span.{Span}
use Rattle.jsgen_printer.proofs.Prefixes.{whole_prefix, prefix_append, prefix_of_prefix}

-- a step that adds text, and enters or leaves no class
pub record Adds (old new : Pen) : Type 0 where
  pub text : IsPrefix old.code new.code
  pub classes : new.classes ≡ old.classes

pub adds_then : {a b c : Pen} → Adds a b → Adds b c → Adds a c
adds_then h k = record { text = prefix_of_prefix h.text k.text; classes = k.classes ∙ h.classes }

pub adds_nothing : (pen : Pen) → Adds pen pen
adds_nothing pen = record { text = whole_prefix pen.code; classes = refl }

pub adds_text : (text : List ℕ) (ending : Ending) (pen : Pen) → Adds pen (written text ending pen)
adds_text text ending pen = record { text = prefix_append pen.code text; classes = refl }

pub adds_text_if : (test : Bool) (text : List ℕ) (pen : Pen) → Adds pen (written_if test text pen)
adds_text_if test text pen = record { text = prefix_append pen.code (text_if test text); classes = refl }

adds_either : (test : Bool) (old a b : Pen) → Adds old a → Adds old b → Adds old (if test then a else b)
adds_either true old a b h k = h
adds_either false old a b h k = k

-- ---- indentation

indented_adds : (text : List ℕ) (pen : Pen) → Adds pen (indented text pen)
indented_adds [] pen = adds_nothing pen
indented_adds (c ∷ cs) pen = record { text = prefix_append pen.code (c ∷ cs); classes = refl }

space_adds : (pending : Bool) (pen : Pen) → Adds pen (indent_or_space pending pen)
space_adds true pen = record { text = prefix_append pen.code _; classes = refl }
space_adds false pen = indented_adds _ pen

pub indentation_adds : (minified : Bool) (pen : Pen) → Adds pen (at_indentation minified pen)
indentation_adds true pen = adds_nothing pen
indentation_adds false pen = space_adds pen.pending_space pen

pub here_adds : (pen : Pen) → Adds pen (indented_here pen)
here_adds pen = indentation_adds pen.style.minified pen

-- ---- one comment

pub white_adds : (test : Bool) (text : List ℕ) (pen : Pen) → Adds pen (white_if test text pen)
white_adds test text pen = record { text = prefix_append pen.code (text_if test text); classes = refl }

pub line_adds : (pen : Pen) → Adds pen (line_ended pen)
line_adds pen = adds_text (codes "\n") other_end pen

pub softly_adds : (pen : Pen) → Adds pen (softly_spaced pen)
softly_adds pen = white_adds (not pen.style.minified) (codes " ") pen

-- a new line's indentation
pub new_line_adds : (pen : Pen) → Adds pen (indented_here (line_ended pen))
new_line_adds pen = adds_then (line_adds pen) (here_adds (line_ended pen))

pub used_up_adds : (test : Bool) (pen : Pen) → Adds pen (used_up_if test pen)
used_up_adds true pen = record { text = prefix_append pen.code _; classes = refl }
used_up_adds false pen = adds_nothing pen

pub indented_if_adds : (test : Bool) (pen : Pen) → Adds pen (indented_if test pen)
indented_if_adds true pen = here_adds pen
indented_if_adds false pen = adds_nothing pen

pub block_line_adds : (line : List ℕ) (pen : Pen) → Adds pen (block_line line pen)
block_line_adds line pen =
    let at : Pen = indented_if (not (opens_block line)) pen in
    let text = tag_free (skip_leading_whitespace line) in
    adds_then (adds_then (indented_if_adds (not (opens_block line)) pen) (adds_text text other_end at)) (adds_text_if _ _ (written text other_end at))

pub block_lines_add : (lines : List (List ℕ)) (pen : Pen) → Adds pen (block_lines lines pen)
block_lines_add [] pen = adds_nothing pen
block_lines_add (l ∷ ls) pen = adds_then (block_line_adds l pen) (block_lines_add ls (block_line l pen))

pub html_close_adds : (test : Bool) (text : List ℕ) (pen : Pen) → Adds pen (html_close test text pen)
html_close_adds true text pen = adds_then (adds_text (codes "//") other_end pen) (adds_text (tag_free (drop 3 text)) other_end (written (codes "//") other_end pen))
html_close_adds false text pen = adds_text (tag_free text) other_end pen

text_adds : (kind : CommentKind) (text : List ℕ) (pen : Pen) → Adds pen (text_written kind text pen)
text_adds kinds.Line text pen = adds_text (tag_free text) other_end pen
text_adds kinds.SingleLineBlock text pen = adds_text (tag_free text) other_end pen
text_adds kinds.MultiLineBlock text pen = block_lines_add (lines_of text) pen
text_adds kinds.HtmlOpen text pen = adds_text (tag_free text) other_end pen
text_adds kinds.HtmlClose text pen = html_close_adds (is_mid_line pen.code) text pen

pub comment_adds : (c : Comment) (pen : Pen) → Adds pen (comment_written c pen)
comment_adds c pen = text_adds c.kind c.text pen

-- ---- a group

pub on_new_line_adds : (last : Option ℕ) (pen : Pen) → Adds pen (on_new_line last pen)
on_new_line_adds None pen = adds_nothing pen
on_new_line_adds (Some c) pen = adds_either (c == 10) pen _ _ (here_adds pen) (adds_either (c == 9) pen _ _ (adds_nothing pen) (new_line_adds pen))

pub before_first_adds : (preceded : Bool) (pen : Pen) → Adds pen (before_first preceded pen)
before_first_adds true pen = on_new_line_adds (last_of pen.code) pen
before_first_adds false pen = adds_either pen.pending_space pen _ _ (used_up_adds pen.pending_space pen) (indented_if_adds (at_line_start (last_of pen.code)) pen)

pub before_later_adds : (preceded legal : Bool) (pen : Pen) → Adds pen (before_later preceded legal pen)
before_later_adds true legal pen = new_line_adds pen
before_later_adds false true pen = line_adds pen
before_later_adds false false pen = softly_adds pen

pub behind_last_adds : (ends : Bool) (pen : Pen) → Adds pen (behind_last ends pen)
behind_last_adds true pen = line_adds pen
behind_last_adds false pen = record { text = whole_prefix pen.code; classes = refl }

-- what stands before a comment behind another, and the comment
pub later_adds : (on_new_line : Bool) (c : Comment) (pen : Pen) → Adds pen (comment_written c (before_later on_new_line (is_legal c.content) pen))
later_adds on_new_line c pen = adds_then (before_later_adds on_new_line (is_legal c.content) pen) (comment_adds c (before_later on_new_line (is_legal c.content) pen))

pub behind_adds : (ended : Bool) (c : Comment) (cs : List Comment) (pen : Pen) → Adds pen (behind_comment ended c cs pen)
behind_adds ended c [] pen = behind_last_adds (ended || ends_its_line c) pen
behind_adds ended c (d ∷ cs) pen = adds_then (later_adds (d.newline_before || is_line c.kind) d pen) (behind_adds ended d cs _)

pub first_adds : (c : Comment) (pen : Pen) → Adds pen (comment_written c (before_first c.newline_before pen))
first_adds c pen = adds_then (before_first_adds c.newline_before pen) (comment_adds c (before_first c.newline_before pen))

-- ---- at the end of a text

pub each_adds : (cs : List Comment) (pen : Pen) → Adds pen (each_written cs pen)
each_adds [] pen = adds_nothing pen
each_adds (c ∷ cs) pen = adds_then (adds_then (comment_adds c pen) (line_adds (comment_written c pen))) (each_adds cs (line_ended (comment_written c pen)))

pub group_adds : (ended : Bool) (cs : List Comment) (pen : Pen) → Adds pen (group ended cs pen)
group_adds ended [] pen = adds_nothing pen
group_adds ended (c ∷ cs) pen = let h = adds_then (first_adds c pen) (behind_adds ended c cs _) in record { text = h.text; classes = h.classes }

-- ---- what is printed of the store

before_group_adds : (manner : Manner) (pen : Pen) → Adds pen (before_group manner pen)
before_group_adds all_of_them pen = adds_nothing pen
before_group_adds with_key_annotation pen = white_adds (code_ends_in 47 pen) (codes " ") pen
before_group_adds then_space pen = adds_nothing pen
before_group_adds with_due_space pen = adds_nothing pen
before_group_adds before_it pen = adds_nothing pen
before_group_adds annotation_before_it pen = adds_nothing pen
before_group_adds none_of_them pen = adds_nothing pen

-- what is due before an expression
pub due_adds : (pen : Pen) → Adds pen (if code_ends_in 10 pen then indented_here pen else used_up pen)
due_adds pen = adds_either (code_ends_in 10 pen) pen _ _ (here_adds pen) (used_up_adds pen.pending_space pen)

pub behind_group_adds : (manner : Manner) (pen : Pen) → Adds pen (behind_group manner pen)
behind_group_adds all_of_them pen = adds_nothing pen
behind_group_adds with_due_space pen = used_up_adds pen.pending_space pen
behind_group_adds before_it pen = due_adds pen
behind_group_adds annotation_before_it pen = due_adds pen
behind_group_adds with_key_annotation pen = due_adds pen
behind_group_adds none_of_them pen = due_adds pen
behind_group_adds then_space pen = record { text = prefix_append pen.code _; classes = refl }

-- the group at an offset, which leaves the store
pub taken_adds : (manner : Manner) (o : ℕ) (cs : List Comment) (pen : Pen) → Adds pen (group false cs (without_group o (before_group manner pen)))
taken_adds manner o cs pen =
    let at : Pen = before_group manner pen in
    let left : Adds at (without_group o at) = record { text = whole_prefix at.code; classes = refl } in
    adds_then (adds_then (before_group_adds manner pen) left) (group_adds false cs (without_group o at))

printed_adds : (test : Bool) (manner : Manner) (o : ℕ) (pen : Pen) → Adds pen (printed_if test manner o pen)
printed_adds true manner o pen = adds_then (taken_adds manner o (group_at o pen) pen) (behind_group_adds manner _)
printed_adds false manner o pen = adds_nothing pen

pub comments_add : (manner : Manner) (o : ℕ) (pen : Pen) → Adds pen (comments_at manner o pen)
comments_add manner o pen = printed_adds (is_printed manner (group_at o pen)) manner o pen

pub orphans_add : (o : ℕ) (pen : Pen) → Adds pen (orphans_before o pen)
orphans_add o pen =
    let left : Adds pen (with_store (left_below o pen.store) pen) = record { text = whole_prefix pen.code; classes = refl } in
    adds_then left (group_adds true (orphans_below o pen.store) (with_store (left_below o pen.store) pen))

-- ---- where they stand in braces

-- a line end and orphans, a level deeper
pub deeper_orphans_add : (o : ℕ) (pen : Pen) → Adds pen (orphans_before o (one_deeper (soft_line_ended pen)))
deeper_orphans_add o pen =
    let at : Pen = one_deeper (soft_line_ended pen) in
    let line : Adds pen at = record { text = prefix_append pen.code _; classes = refl } in
    adds_then line (orphans_add o at)

-- the level before, and indentation
pub back_adds : (depth : ℕ) (pen : Pen) → Adds pen (indented_here (at_level depth pen))
back_adds depth pen =
    let back : Adds pen (at_level depth pen) = record { text = whole_prefix pen.code; classes = refl } in
    adds_then back (here_adds (at_level depth pen))

level_adds : {a b : Pen} (depth : ℕ) → Adds a b → Adds a (indented_here (at_level depth b))
level_adds {a} {b} depth h = adds_then h (back_adds depth b)

pub orphan_lines_add : (o : ℕ) (pen : Pen) → Adds pen (orphan_lines_at o pen)
orphan_lines_add o pen = adds_either (has_orphans o pen) pen _ _ (level_adds pen.depth (deeper_orphans_add o pen)) (adds_nothing pen)

pub ending_adds : (at : Option ℕ) (pen : Pen) → Adds pen (without_ending at pen)
ending_adds None pen = adds_nothing pen
ending_adds (Some o) pen = record { text = whole_prefix pen.code; classes = refl }

pub closing_adds : (cs : List Comment) (pen : Pen) → Adds pen (closing_group cs pen)
closing_adds [] pen = adds_nothing pen
closing_adds (c ∷ cs) pen = let g = group_adds false (c ∷ cs) pen in record { text = g.text; classes = g.classes }

pub body_lines_add : (o : ℕ) (cs : List Comment) (pen : Pen) → Adds pen (body_lines o cs pen)
body_lines_add o cs pen = level_adds pen.depth (adds_then (deeper_orphans_add o pen) (closing_adds cs (orphans_before o (one_deeper (soft_line_ended pen)))))

pub body_adds : (o : ℕ) (cs : List Comment) (pen : Pen) → Adds pen (body_of o cs pen)
body_adds o cs pen = adds_either (not (has_orphans o pen) && list_all has_no_newlines cs) pen _ _ (closing_adds cs pen) (body_lines_add o cs pen)

pub empty_body_adds : (o : ℕ) (pen : Pen) → Adds pen (empty_body_at o pen)
empty_body_adds o pen = adds_then (ending_adds (last_byte o) pen) (body_adds o (ending_at (last_byte o) pen) (without_ending (last_byte o) pen))

-- ---- before the one statement of a case, and in a `catch`

mark_adds : (long : Bool) (lead : Lead) (pen : Pen) → Adds pen (case_mark long lead pen)
mark_adds true (to_empty s) pen = record { text = whole_prefix pen.code; classes = refl }
mark_adds true to_block pen = adds_nothing pen
mark_adds true to_body pen = adds_nothing pen
mark_adds false (to_empty s) pen = adds_nothing pen
mark_adds false to_block pen = adds_nothing pen
mark_adds false to_body pen = adds_nothing pen

led_adds : (lead : Lead) (pen : Pen) → Adds pen (led lead pen)
led_adds to_block pen = adds_text_if (not pen.style.minified) (codes " ") pen
led_adds to_body pen = record { text = whole_prefix pen.code; classes = refl }
led_adds (to_empty s) pen = adds_nothing pen

-- comments on lines of their own
pub lined_adds : (o : ℕ) (pen : Pen) → Adds pen (indented_here (comments_at all_of_them o pen))
lined_adds o pen = adds_then (comments_add all_of_them o pen) (here_adds (comments_at all_of_them o pen))

led_on_line_adds : (lead : Lead) (o : ℕ) (pen : Pen) → Adds pen (led_on_line lead o pen)
led_on_line_adds to_block o pen = lined_adds o pen
led_on_line_adds to_body o pen = adds_nothing pen
led_on_line_adds (to_empty s) o pen = lined_adds o pen

pub lead_on_line_adds : (lead : Lead) (o : ℕ) (pen : Pen) → Adds pen (case_mark true lead (led_on_line lead o pen))
lead_on_line_adds lead o pen = adds_then (led_on_line_adds lead o pen) (mark_adds true lead (led_on_line lead o pen))

begun_adds : (long : Bool) (lead : Lead) (o : ℕ) (pen : Pen) → Adds pen (case_begun long lead o pen)
begun_adds true lead o pen =
    let h = adds_then (deeper_orphans_add o pen) (led_on_line_adds lead o (orphans_before o (one_deeper (soft_line_ended pen)))) in
    record { text = h.text; classes = h.classes }
begun_adds false lead o pen = led_adds lead pen

pub case_adds : (long : Bool) (lead : Lead) (o : ℕ) (pen : Pen) → Adds pen (case_mark long lead (case_begun long lead o pen))
case_adds long lead o pen = adds_then (begun_adds long lead o pen) (mark_adds long lead (case_begun long lead o pen))

pub case_end_adds : (long : Bool) (depth end : ℕ) (pen : Pen) → Adds pen (case_ended long depth end pen)
case_end_adds true depth end pen = let o = orphans_add end pen in record { text = o.text; classes = o.classes }
case_end_adds false depth end pen = adds_nothing pen

pub block_adds : (before : Bool) (o : ℕ) (pen : Pen) → Adds pen (before_block before o pen)
block_adds before o pen =
    let at : Pen = comments_at all_of_them o pen in
    adds_then (comments_add all_of_them o pen) (used_up_adds (stood before o pen && (at.pending_space && not at.style.minified)) at)

-- ---- annotations

pub annotation_by_adds : (cs : List Comment) (kind : Annotation) (o : ℕ) (pen : Pen) → Adds pen (annotation_by cs kind o pen)
annotation_by_adds [] kind o pen = adds_text (annotation_text kind) other_end pen
annotation_by_adds (c ∷ cs) kind o pen =
    let at : Pen = without_annotation o pen in
    let left : Adds pen at = record { text = whole_prefix pen.code; classes = refl } in
    adds_then left (comment_adds c at)

pub annotation_text_adds : (ends : Bool) (kind : Annotation) (o : ℕ) (pen : Pen) → Adds pen (annotation_written ends kind o pen)
annotation_text_adds ends kind o pen = adds_then (adds_text_if (code_ends_in 47 pen) (codes " ") pen) (annotation_by_adds (fitting_at ends kind o pen) kind o (written_if (code_ends_in 47 pen) (codes " ") pen))

pub annotation_adds : (start : Start) (kind : Annotation) (o : ℕ) (pen : Pen) → Adds pen (begun_at start (annotation_at kind o pen))
annotation_adds start kind o pen =
    let at : Pen = annotation_written false kind o pen in
    let h = adds_then (annotation_text_adds false kind o pen) (adds_text (codes " ") other_end at) in
    record { text = h.text; classes = h.classes }

pub annotation_line_adds : (indented : Bool) (o : ℕ) (pen : Pen) → Adds pen (annotation_line_at indented o pen)
annotation_line_adds indented o pen =
    let at : Pen = indented_if indented pen in
    adds_then (adds_then (indented_if_adds indented pen) (annotation_text_adds true no_side_effects o at)) (line_adds (annotation_written true no_side_effects o at))

pub annotated_if_adds : (on : Bool) (s : Span) (o : ℕ) (start : Start) (pen : Pen) → Adds pen (annotated_if on s o start pen)
annotated_if_adds true s o start pen =
    let at : Pen = span_mark s pen in
    let marked : Adds pen at = record { text = whole_prefix pen.code; classes = refl } in
    adds_then marked (annotation_adds start is_pure o at)
annotated_if_adds false s o start pen = adds_nothing pen

pub annotated_adds : (call : AnnotatedCall) (pen : Pen) → Adds pen (annotated_from call pen)
annotated_adds call pen =
    let wraps : Bool = lifts call pen || call.wrapped in
    adds_then (adds_text_if wraps (opening Round) pen) (annotated_if_adds (call.pure && pen.style.annotated) call.span call.start pen.start (written_if wraps (opening Round) pen))

-- ---- in an object, and before it

pub commented_if_adds : (test : Bool) (o : ℕ) (pen : Pen) → Adds pen (commented_if test o pen)
commented_if_adds true o pen = lined_adds o pen
commented_if_adds false o pen = adds_nothing pen

pub commented_adds : (o : ℕ) (pen : Pen) → Adds pen (commented_from o pen)
commented_adds o pen =
    let at : Pen = written_if (is_enclosed o pen) (opening Round) pen in
    let h = adds_then (adds_text_if (is_enclosed o pen) (opening Round) pen) (commented_if_adds (are_any (group_at o pen)) o at) in
    record { text = h.text; classes = h.classes }

pub soft_line_adds : (pen : Pen) → Adds pen (soft_line_ended pen)
soft_line_adds pen = white_adds (not pen.style.minified) (codes "\n") pen

pub member_line_adds : (o : ℕ) (pen : Pen) → Adds pen (member_line_at o pen)
member_line_adds o pen = adds_then (adds_text_if (not pen.style.minified) (codes "\n") pen) (lined_adds o (written_if (not pen.style.minified) (codes "\n") pen))

pub member_space_adds : (o : ℕ) (pen : Pen) → Adds pen (member_space_at o pen)
member_space_adds o pen = adds_then (adds_text_if (not pen.style.minified) (codes " ") pen) (comments_add with_due_space o (written_if (not pen.style.minified) (codes " ") pen))

-- ---- arguments on lines

pub each_on_line_adds : (cs : List Comment) (pen : Pen) → Adds pen (each_on_line cs pen)
each_on_line_adds [] pen = adds_nothing pen
each_on_line_adds (c ∷ cs) pen =
    let at : Pen = indented_here (line_ended pen) in
    adds_then (adds_then (new_line_adds pen) (comment_adds c at)) (each_on_line_adds cs (comment_written c at))

pub broken_adds : (cs : List Comment) (pen : Pen) → Adds pen (broken_by cs pen)
broken_adds [] pen = soft_line_adds pen
broken_adds (c ∷ cs) pen = let h = adds_then (each_on_line_adds (c ∷ cs) pen) (line_adds (each_on_line (c ∷ cs) pen)) in record { text = h.text; classes = h.classes }

-- where the group at an offset leaves the store
pub broken_taken_adds : (o : ℕ) (cs : List Comment) (pen : Pen) → Adds pen (broken_by cs (without_group o pen))
broken_taken_adds o cs pen =
    let left : Adds pen (without_group o pen) = record { text = whole_prefix pen.code; classes = refl } in
    adds_then left (broken_adds cs (without_group o pen))

pub broken_at_adds : (o : ℕ) (pen : Pen) → Adds pen (broken_at o pen)
broken_at_adds o pen = adds_then (broken_taken_adds o (group_at o pen) pen) (here_adds (broken_by (group_at o pen) (without_group o pen)))

on_a_line_adds : (at : Break) (pen : Pen) → Adds pen (on_a_line at pen)
on_a_line_adds (first_argument o) pen = broken_at_adds o pen
on_a_line_adds (other_argument o) pen = let h = broken_at_adds o pen in record { text = h.text; classes = h.classes }
on_a_line_adds (import_source o) pen = broken_at_adds o pen
on_a_line_adds import_options pen = adds_then (adds_text_if (not pen.style.minified) (codes "\n") pen) (here_adds (written_if (not pen.style.minified) (codes "\n") pen))

unless_on_line_adds : (at : Break) (pen : Pen) → Adds pen (unless_on_line at pen)
unless_on_line_adds (first_argument o) pen = adds_nothing pen
unless_on_line_adds (other_argument o) pen = adds_text_if (not pen.style.minified) (codes " ") pen
unless_on_line_adds (import_source o) pen = adds_either (are_any (group_at o pen)) pen _ _ (broken_at_adds o pen) (adds_nothing pen)
unless_on_line_adds import_options pen = adds_text_if (not pen.style.minified) (codes " ") pen

pub break_adds : (at : Break) (pen : Pen) → Adds pen (break_at at pen)
break_adds at pen = adds_either pen.lines pen _ _ (on_a_line_adds at pen) (unless_on_line_adds at pen)

pub opened_adds : (lined : Bool) (pen : Pen) → Adds pen (lines_opened lined pen)
opened_adds true pen = record { text = whole_prefix pen.code; classes = refl }
opened_adds false pen = record { text = whole_prefix pen.code; classes = refl }

pub closed_adds : (lined : Bool) (lines : Lines) (end depth : ℕ) (outer : Bool) (pen : Pen) → Adds pen (lines_closed lined lines end depth outer pen)
closed_adds true lines end depth outer pen =
    let last = last_byte end in
    let at : Pen = broken_by (ending_at last pen) (without_ending last pen) in
    let before : Pen = at_level depth (with_lines outer at) in
    let broken = adds_then (ending_adds last pen) (broken_adds (ending_at last pen) (without_ending last pen)) in
    let back : Adds at before = record { text = whole_prefix at.code; classes = refl } in
    adds_then (adds_then broken back) (indented_if_adds (indents lines) before)
closed_adds false lines end depth outer pen = record { text = whole_prefix pen.code; classes = refl }
