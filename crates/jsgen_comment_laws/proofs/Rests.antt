-- What comments leave as it was: the style, the classes round here, whether a semicolon is due, and what begins there.
use Rattle.std.proofs.Common.{◌≡◌, ℕ, ◌*◌, Bool, true, false, ◌&&◌, ◌||◌, ◌==◌, List, [], ◌∷◌, Option, Some, None, codes, replicate, refl, ◌∙◌, if◌then◌else◌, not}
use Rattle.std.specs.List.{list_all}
use Rattle.jsgen_syntax.specs.declared.span.Span.{Span}
use Rattle.jsgen_tree.specs.declared.statements.CommentKind.{CommentKind}
use Rattle.jsgen_tree.specs.declared.statements.CommentKind.TheVariants as kinds
use Rattle.jsgen_model.specs.Items.{Annotation, is_pure, no_side_effects, Break, first_argument, other_argument, import_source, import_options, Manner, all_of_them, then_space, with_due_space, before_it, annotation_before_it, with_key_annotation, none_of_them, Lead, to_block, to_body, to_empty, Lines}
use Rattle.jsgen_model.specs.Comments.{Comment, are_any, orphans_below, left_below}
use Rattle.jsgen_model.specs.Groups.{line_ended, indented_here, used_up_if, used_up, lines_of, opens_block, indented_if, block_line, block_lines, is_mid_line, html_close, text_written, comment_written, last_of, on_new_line, at_line_start, before_first, is_legal, before_later, is_line, ends_its_line, behind_last, behind_comment, group, with_store, group_at, without_group, is_printed, code_ends_in, before_group, behind_group, printed_if, comments_at, orphans_before, has_orphans, one_deeper, at_level, soft_line_ended, orphan_lines_at, last_byte, ending_at, without_ending, closing_group, has_no_newlines, body_lines, body_of, empty_body_at, fitting_at, without_annotation, annotation_by, annotation_written, annotation_at, annotation_line_at, each_on_line, broken_by, broken_at, on_a_line, unless_on_line, break_at, with_lines, lines_opened, indents as are_indented, lines_closed, led_on_line, case_begun, case_ended, member_line_at, member_space_at, commented_if}
use Rattle.jsgen_model.specs.Layout.{Pen, Style, Start, nowhere, written_if, unless_printed, indented, indent_or_space, at_indentation, led, on_one_line, begun_at}
use Rattle.jsgen_model.specs.Lay.{case_mark, before_block, stood, annotated_if, span_mark}

pub record Rest : Type 0 where
  pub style : Style
  pub classes : List ℕ
  pub next_class : ℕ
  pub semicolon : Bool

abbrev pub rest_of : Pen → Rest
rest_of p = record { style = p.style; classes = p.classes; next_class = p.next_class; semicolon = p.pending_semicolon }

abbrev pub Keeps : Pen → Pen → Type 0
Keeps p q = rest_of q ≡ rest_of p

one_keeps : (b : Bool) (p x y : Pen) → Keeps p x → Keeps p y → Keeps p (if b then x else y)
one_keeps true p x y h k = h
one_keeps false p x y h k = k

-- ---- steps

indented_keeps : (t : List ℕ) (p : Pen) → Keeps p (indented t p)
indented_keeps [] p = refl
indented_keeps (c ∷ cs) p = refl

or_space_keeps : (b : Bool) (p : Pen) → Keeps p (indent_or_space b p)
or_space_keeps true p = refl
or_space_keeps false p = indented_keeps (replicate (p.depth * p.style.width) p.style.indent) p

pub indentation_keeps : (b : Bool) (p : Pen) → Keeps p (at_indentation b p)
indentation_keeps true p = refl
indentation_keeps false p = or_space_keeps p.pending_space p

here : (p : Pen) → Keeps p (indented_here p)
here p = indentation_keeps p.style.minified p

here_if : (b : Bool) (p : Pen) → Keeps p (indented_if b p)
here_if true p = here p
here_if false p = refl

pub used_up_keeps : (b : Bool) (p : Pen) → Keeps p (used_up_if b p)
used_up_keeps true p = refl
used_up_keeps false p = refl

line_keeps : (l : List ℕ) (p : Pen) → Keeps p (block_line l p)
line_keeps l p = here_if (not (opens_block l)) p

lines_keep : (ls : List (List ℕ)) (p : Pen) → Keeps p (block_lines ls p)
lines_keep [] p = refl
lines_keep (l ∷ ls) p = lines_keep ls (block_line l p) ∙ line_keeps l p

html_keeps : (b : Bool) (text : List ℕ) (p : Pen) → Keeps p (html_close b text p)
html_keeps true text p = refl
html_keeps false text p = refl

text_keeps : (kind : CommentKind) (text : List ℕ) (p : Pen) → Keeps p (text_written kind text p)
text_keeps kinds.MultiLineBlock text p = lines_keep (lines_of text) p
text_keeps kinds.HtmlClose text p = html_keeps (is_mid_line p.code) text p
text_keeps kinds.Line text p = refl
text_keeps kinds.SingleLineBlock text p = refl
text_keeps kinds.HtmlOpen text p = refl

comment_keeps : (c : Comment) (p : Pen) → Keeps p (comment_written c p)
comment_keeps c p = text_keeps c.kind c.text p

new_line : (last : Option ℕ) (p : Pen) → Keeps p (on_new_line last p)
new_line None p = refl
new_line (Some c) p = one_keeps (c == 10) p (indented_here p) (if c == 9 then p else indented_here (line_ended p)) (here p) (one_keeps (c == 9) p p (indented_here (line_ended p)) refl (here (line_ended p)))

first_keeps : (b : Bool) (p : Pen) → Keeps p (before_first b p)
first_keeps true p = new_line (last_of p.code) p
first_keeps false p = one_keeps p.pending_space p (used_up p) (indented_if (at_line_start (last_of p.code)) p) (used_up_keeps p.pending_space p) (here_if (at_line_start (last_of p.code)) p)

later_keeps : (b legal : Bool) (p : Pen) → Keeps p (before_later b legal p)
later_keeps true legal p = here (line_ended p)
later_keeps false true p = refl
later_keeps false false p = refl

last_keeps : (b : Bool) (p : Pen) → Keeps p (behind_last b p)
last_keeps true p = refl
last_keeps false p = refl

behind_keeps : (ended : Bool) (c : Comment) (cs : List Comment) (p : Pen) → Keeps p (behind_comment ended c cs p)
behind_keeps ended c [] p = last_keeps (ended || ends_its_line c) p
behind_keeps ended c (d ∷ cs) p =
    let p1 : Pen = before_later (d.newline_before || is_line c.kind) (is_legal d.content) p in
    behind_keeps ended d cs (comment_written d p1) ∙ (comment_keeps d p1 ∙ later_keeps (d.newline_before || is_line c.kind) (is_legal d.content) p)

group_keeps : (ended : Bool) (cs : List Comment) (p : Pen) → Keeps p (group ended cs p)
group_keeps ended [] p = refl
group_keeps ended (c ∷ cs) p =
    let p1 : Pen = before_first c.newline_before p in
    behind_keeps ended c cs (comment_written c p1) ∙ (comment_keeps c p1 ∙ first_keeps c.newline_before p)

-- ---- what is printed of the store

before_keeps : (m : Manner) (p : Pen) → Keeps p (before_group m p)
before_keeps with_key_annotation p = refl
before_keeps all_of_them p = refl
before_keeps then_space p = refl
before_keeps with_due_space p = refl
before_keeps before_it p = refl
before_keeps annotation_before_it p = refl
before_keeps none_of_them p = refl

due_keeps : (p : Pen) → Keeps p (if code_ends_in 10 p then indented_here p else used_up p)
due_keeps p = one_keeps (code_ends_in 10 p) p (indented_here p) (used_up p) (here p) (used_up_keeps p.pending_space p)

behind_group_keeps : (m : Manner) (p : Pen) → Keeps p (behind_group m p)
behind_group_keeps all_of_them p = refl
behind_group_keeps then_space p = refl
behind_group_keeps with_due_space p = used_up_keeps p.pending_space p
behind_group_keeps before_it p = due_keeps p
behind_group_keeps annotation_before_it p = due_keeps p
behind_group_keeps with_key_annotation p = due_keeps p
behind_group_keeps none_of_them p = due_keeps p

printed_keeps : (b : Bool) (m : Manner) (o : ℕ) (p : Pen) → Keeps p (printed_if b m o p)
printed_keeps true m o p =
    let p1 : Pen = before_group m p in
    let p2 : Pen = group false (group_at o p) (without_group o p1) in
    behind_group_keeps m p2 ∙ (group_keeps false (group_at o p) (without_group o p1) ∙ before_keeps m p)
printed_keeps false m o p = refl

pub comments_keep : (m : Manner) (o : ℕ) (p : Pen) → Keeps p (comments_at m o p)
comments_keep m o p = printed_keeps (is_printed m (group_at o p)) m o p

pub orphans_keep : (o : ℕ) (p : Pen) → Keeps p (orphans_before o p)
orphans_keep o p = group_keeps true (orphans_below o p.store) (with_store (left_below o p.store) p)

pub orphan_lines_keep : (o : ℕ) (p : Pen) → Keeps p (orphan_lines_at o p)
orphan_lines_keep o p =
    let p1 : Pen = one_deeper (soft_line_ended p) in
    one_keeps (has_orphans o p) p (indented_here (at_level p.depth (orphans_before o p1))) p (here (at_level p.depth (orphans_before o p1)) ∙ orphans_keep o p1) refl

pub ending_keeps : (last : Option ℕ) (p : Pen) → Keeps p (without_ending last p)
ending_keeps None p = refl
ending_keeps (Some o) p = refl

pub closing_keeps : (cs : List Comment) (p : Pen) → Keeps p (closing_group cs p)
closing_keeps [] p = refl
closing_keeps (c ∷ cs) p = group_keeps false (c ∷ cs) p

body_keeps : (o : ℕ) (cs : List Comment) (p : Pen) → Keeps p (body_of o cs p)
body_keeps o cs p =
    let p1 : Pen = one_deeper (soft_line_ended p) in
    let p2 : Pen = orphans_before o p1 in
    one_keeps (not (has_orphans o p) && list_all has_no_newlines cs) p (closing_group cs p) (body_lines o cs p) (closing_keeps cs p) (here (at_level p.depth (closing_group cs p2)) ∙ (closing_keeps cs p2 ∙ orphans_keep o p1))

pub empty_body_keeps : (o : ℕ) (p : Pen) → Keeps p (empty_body_at o p)
empty_body_keeps o p = body_keeps o (ending_at (last_byte o) p) (without_ending (last_byte o) p) ∙ ending_keeps (last_byte o) p

-- ---- annotations

by_keeps : (cs : List Comment) (kind : Annotation) (o : ℕ) (p : Pen) → Keeps p (annotation_by cs kind o p)
by_keeps [] kind o p = refl
by_keeps (c ∷ cs) kind o p = comment_keeps c (without_annotation o p)

annotation_written_keeps : (line : Bool) (kind : Annotation) (o : ℕ) (p : Pen) → Keeps p (annotation_written line kind o p)
annotation_written_keeps line kind o p = by_keeps (fitting_at line kind o p) kind o (written_if (code_ends_in 47 p) (codes " ") p)

pub annotation_keeps : (start : Start) (kind : Annotation) (o : ℕ) (p : Pen) → Keeps p (begun_at start (annotation_at kind o p))
annotation_keeps start kind o p = annotation_written_keeps false kind o p

pub annotation_line_keeps : (b : Bool) (o : ℕ) (p : Pen) → Keeps p (annotation_line_at b o p)
annotation_line_keeps b o p = annotation_written_keeps true no_side_effects o (indented_if b p) ∙ here_if b p

pub annotated_keeps : (on : Bool) (span : Span) (o : ℕ) (start : Start) (p : Pen) → Keeps p (annotated_if on span o start p)
annotated_keeps true span o start p = annotation_keeps start is_pure o (span_mark span p)
annotated_keeps false span o start p = refl

-- ---- in a case, and in a `catch`

pub led_keeps : (lead : Lead) (p : Pen) → Keeps p (led lead p)
led_keeps to_block p = refl
led_keeps to_body p = refl
led_keeps (to_empty span) p = refl

own_line_keeps : (o : ℕ) (p : Pen) → Keeps p (indented_here (comments_at all_of_them o p))
own_line_keeps o p = here (comments_at all_of_them o p) ∙ comments_keep all_of_them o p

led_on_line_keeps : (lead : Lead) (o : ℕ) (p : Pen) → Keeps p (led_on_line lead o p)
led_on_line_keeps to_block o p = own_line_keeps o p
led_on_line_keeps to_body o p = refl
led_on_line_keeps (to_empty span) o p = own_line_keeps o p

pub begun_keeps : (b : Bool) (lead : Lead) (o : ℕ) (p : Pen) → Keeps p (case_begun b lead o p)
begun_keeps true lead o p =
    let p1 : Pen = one_deeper (soft_line_ended p) in
    led_on_line_keeps lead o (orphans_before o p1) ∙ orphans_keep o p1
begun_keeps false lead o p = led_keeps lead p

pub case_mark_keeps : (b : Bool) (lead : Lead) (p : Pen) → Keeps p (case_mark b lead p)
case_mark_keeps true to_block p = refl
case_mark_keeps true to_body p = refl
case_mark_keeps true (to_empty span) p = refl
case_mark_keeps false lead p = refl

pub ended_keeps : (b : Bool) (depth end : ℕ) (p : Pen) → Keeps p (case_ended b depth end p)
ended_keeps true depth end p = orphans_keep end p
ended_keeps false depth end p = refl

pub block_keeps : (before : Bool) (o : ℕ) (p : Pen) → Keeps p (before_block before o p)
block_keeps before o p =
    let p1 : Pen = comments_at all_of_them o p in
    used_up_keeps (stood before o p && (p1.pending_space && not p1.style.minified)) p1 ∙ comments_keep all_of_them o p

-- ---- an object, and before it

pub commented_keeps : (b : Bool) (o : ℕ) (p : Pen) → Keeps p (commented_if b o p)
commented_keeps true o p = own_line_keeps o p
commented_keeps false o p = refl

pub member_line_keeps : (o : ℕ) (p : Pen) → Keeps p (member_line_at o p)
member_line_keeps o p = own_line_keeps o (written_if (not p.style.minified) (codes "\n") p)

pub member_space_keeps : (o : ℕ) (p : Pen) → Keeps p (member_space_at o p)
member_space_keeps o p = comments_keep with_due_space o (written_if (not p.style.minified) (codes " ") p)

-- ---- arguments on lines

each_keeps : (cs : List Comment) (p : Pen) → Keeps p (each_on_line cs p)
each_keeps [] p = refl
each_keeps (c ∷ cs) p =
    let p1 : Pen = indented_here (line_ended p) in
    each_keeps cs (comment_written c p1) ∙ (comment_keeps c p1 ∙ here (line_ended p))

broken_by_keeps : (cs : List Comment) (p : Pen) → Keeps p (broken_by cs p)
broken_by_keeps [] p = refl
broken_by_keeps (c ∷ cs) p = each_keeps (c ∷ cs) p

broken_keeps : (o : ℕ) (p : Pen) → Keeps p (broken_at o p)
broken_keeps o p = here (broken_by (group_at o p) (without_group o p)) ∙ broken_by_keeps (group_at o p) (without_group o p)

on_a_line_keeps : (at : Break) (p : Pen) → Keeps p (on_a_line at p)
on_a_line_keeps (first_argument o) p = broken_keeps o p
on_a_line_keeps (other_argument o) p = broken_keeps o p
on_a_line_keeps (import_source o) p = broken_keeps o p
on_a_line_keeps import_options p = here (written_if (not p.style.minified) (codes "\n") p)

unless_keeps : (at : Break) (p : Pen) → Keeps p (unless_on_line at p)
unless_keeps (first_argument o) p = refl
unless_keeps (other_argument o) p = refl
unless_keeps (import_source o) p = one_keeps (are_any (group_at o p)) p (broken_at o p) p (broken_keeps o p) refl
unless_keeps import_options p = refl

pub break_keeps : (at : Break) (p : Pen) → Keeps p (break_at at p)
break_keeps at p = one_keeps p.lines p (on_a_line at p) (unless_on_line at p) (on_a_line_keeps at p) (unless_keeps at p)

pub opened_keeps : (b : Bool) (p : Pen) → Keeps p (lines_opened b p)
opened_keeps true p = refl
opened_keeps false p = refl

last_break_keeps : (last : Option ℕ) (p : Pen) → Keeps p (broken_by (ending_at last p) (without_ending last p))
last_break_keeps None p = refl
last_break_keeps (Some o) p = broken_by_keeps (group_at o p) (without_group o p)

pub closed_keeps : (b : Bool) (lines : Lines) (end depth : ℕ) (outer : Bool) (p : Pen) → Keeps p (lines_closed b lines end depth outer p)
closed_keeps true lines end depth outer p =
    let last = last_byte end in
    let p1 : Pen = broken_by (ending_at last p) (without_ending last p) in
    here_if (are_indented lines) (at_level depth (with_lines outer p1)) ∙ last_break_keeps last p
closed_keeps false lines end depth outer p = refl

-- ---- what begins there

pub if_start : (b : Bool) (x p : Pen) → x.start ≡ p.start → (if b then x else p).start ≡ p.start
if_start true x p e = e
if_start false x p e = refl

-- nothing begins behind a line
pub line_start : (b : Bool) (x p : Pen) → x.start ≡ nowhere → (if b then x else p).start ≡ unless_printed b p.start
line_start true x p e = e
line_start false x p e = refl

indented_start : (t : List ℕ) (p : Pen) → (indented t p).start ≡ p.start
indented_start [] p = refl
indented_start (c ∷ cs) p = refl

or_space_start : (b : Bool) (p : Pen) → (indent_or_space b p).start ≡ p.start
or_space_start true p = refl
or_space_start false p = indented_start (replicate (p.depth * p.style.width) p.style.indent) p

pub indentation_start : (b : Bool) (p : Pen) → (at_indentation b p).start ≡ p.start
indentation_start true p = refl
indentation_start false p = or_space_start p.pending_space p

group_start : (ended : Bool) (cs : List Comment) (p : Pen) → (group ended cs p).start ≡ p.start
group_start ended [] p = refl
group_start ended (c ∷ cs) p = refl

used_up_start : (b : Bool) (p : Pen) → (used_up_if b p).start ≡ p.start
used_up_start true p = refl
used_up_start false p = refl

before_start : (m : Manner) (p : Pen) → (before_group m p).start ≡ p.start
before_start with_key_annotation p = refl
before_start all_of_them p = refl
before_start then_space p = refl
before_start with_due_space p = refl
before_start before_it p = refl
before_start annotation_before_it p = refl
before_start none_of_them p = refl

either_start : (b : Bool) (x y p : Pen) → x.start ≡ p.start → y.start ≡ p.start → (if b then x else y).start ≡ p.start
either_start true x y p e f = e
either_start false x y p e f = f

due_start : (p : Pen) → (if code_ends_in 10 p then indented_here p else used_up p).start ≡ p.start
due_start p = either_start (code_ends_in 10 p) (indented_here p) (used_up p) p (indentation_start p.style.minified p) (used_up_start p.pending_space p)

behind_group_start : (m : Manner) (p : Pen) → (behind_group m p).start ≡ p.start
behind_group_start all_of_them p = refl
behind_group_start then_space p = refl
behind_group_start with_due_space p = used_up_start p.pending_space p
behind_group_start before_it p = due_start p
behind_group_start annotation_before_it p = due_start p
behind_group_start with_key_annotation p = due_start p
behind_group_start none_of_them p = due_start p

printed_start : (b : Bool) (m : Manner) (o : ℕ) (p : Pen) → (printed_if b m o p).start ≡ p.start
printed_start true m o p =
    let p1 : Pen = before_group m p in
    let p2 : Pen = group false (group_at o p) (without_group o p1) in
    behind_group_start m p2 ∙ (group_start false (group_at o p) (without_group o p1) ∙ before_start m p)
printed_start false m o p = refl

pub comments_start : (m : Manner) (o : ℕ) (p : Pen) → (comments_at m o p).start ≡ p.start
comments_start m o p = printed_start (is_printed m (group_at o p)) m o p

pub orphans_start : (o : ℕ) (p : Pen) → (orphans_before o p).start ≡ p.start
orphans_start o p = group_start true (orphans_below o p.store) (with_store (left_below o p.store) p)

here_start : (p : Pen) → (indented_here p).start ≡ p.start
here_start p = indentation_start p.style.minified p

pub own_line_start : (o : ℕ) (p : Pen) → (indented_here (comments_at all_of_them o p)).start ≡ p.start
own_line_start o p = here_start (comments_at all_of_them o p) ∙ comments_start all_of_them o p

pub orphan_lines_start : (o : ℕ) (p : Pen) → (orphan_lines_at o p).start ≡ p.start
orphan_lines_start o p =
    let p1 : Pen = one_deeper (soft_line_ended p) in
    if_start (has_orphans o p) (indented_here (at_level p.depth (orphans_before o p1))) p (here_start (at_level p.depth (orphans_before o p1)) ∙ orphans_start o p1)

pub ending_start : (last : Option ℕ) (p : Pen) → (without_ending last p).start ≡ p.start
ending_start None p = refl
ending_start (Some o) p = refl

pub closing_start : (cs : List Comment) (p : Pen) → (closing_group cs p).start ≡ p.start
closing_start [] p = refl
closing_start (c ∷ cs) p = refl

pub empty_body_start : (o : ℕ) (p : Pen) → (empty_body_at o p).start ≡ p.start
empty_body_start o p =
    let cs = ending_at (last_byte o) p in
    let p1 : Pen = without_ending (last_byte o) p in
    let p2 : Pen = one_deeper (soft_line_ended p1) in
    let p3 : Pen = closing_group cs (orphans_before o p2) in
    let lines = here_start (at_level p1.depth p3) ∙ (closing_start cs (orphans_before o p2) ∙ orphans_start o p2) in
    either_start (not (has_orphans o p1) && list_all has_no_newlines cs) (closing_group cs p1) (body_lines o cs p1) p1 (closing_start cs p1) lines ∙ ending_start (last_byte o) p

pub annotated_start : (on : Bool) (span : Span) (o : ℕ) (start : Start) (p : Pen) → (annotated_if on span o start p).start ≡ (if on then start else p.start)
annotated_start true span o start p = refl
annotated_start false span o start p = refl

case_mark_start : (b : Bool) (lead : Lead) (p : Pen) → (case_mark b lead p).start ≡ p.start
case_mark_start true to_block p = refl
case_mark_start true to_body p = refl
case_mark_start true (to_empty span) p = refl
case_mark_start false lead p = refl

led_start : (b : Bool) (lead : Lead) (o : ℕ) (p : Pen) → (case_begun b lead o p).start ≡ (led lead p).start
led_start true lead o p = refl
led_start false lead o p = refl

-- before the one statement of a case begins what does so where no comment waits
pub begun_start : (b : Bool) (lead : Lead) (o : ℕ) (p : Pen) → (case_mark b lead (case_begun b lead o p)).start ≡ (led lead p).start
begun_start b lead o p = case_mark_start b lead (case_begun b lead o p) ∙ led_start b lead o p

pub ended_start : (b : Bool) (depth end : ℕ) (p : Pen) → (case_ended b depth end p).start ≡ p.start
ended_start true depth end p = orphans_start end p
ended_start false depth end p = refl

pub opened_start : (b : Bool) (p : Pen) → (lines_opened b p).start ≡ p.start
opened_start true p = refl
opened_start false p = refl

pub block_start : (before : Bool) (o : ℕ) (p : Pen) → (before_block before o p).start ≡ p.start
block_start before o p =
    let p1 : Pen = comments_at all_of_them o p in
    used_up_start (stood before o p && (p1.pending_space && not p1.style.minified)) p1 ∙ comments_start all_of_them o p

broken_by_start : (cs : List Comment) (p : Pen) → (broken_by cs p).start ≡ p.start
broken_by_start [] p = refl
broken_by_start (c ∷ cs) p = refl

broken_start : (o : ℕ) (p : Pen) → (broken_at o p).start ≡ p.start
broken_start o p = here_start (broken_by (group_at o p) (without_group o p)) ∙ broken_by_start (group_at o p) (without_group o p)

on_a_line_start : (at : Break) (p : Pen) → (on_a_line at p).start ≡ (on_one_line at p).start
on_a_line_start (first_argument o) p = broken_start o p
on_a_line_start (other_argument o) p = refl
on_a_line_start (import_source o) p = broken_start o p
on_a_line_start import_options p = here_start (written_if (not p.style.minified) (codes "\n") p)

unless_start : (at : Break) (p : Pen) → (unless_on_line at p).start ≡ (on_one_line at p).start
unless_start (first_argument o) p = refl
unless_start (other_argument o) p = refl
unless_start (import_source o) p = if_start (are_any (group_at o p)) (broken_at o p) p (broken_start o p)
unless_start import_options p = refl

-- before an argument begins what does so where all stand on one line
pub break_start : (at : Break) (p : Pen) → (break_at at p).start ≡ (on_one_line at p).start
break_start at p = either_start p.lines (on_a_line at p) (unless_on_line at p) (on_one_line at p) (on_a_line_start at p) (unless_start at p)

last_break_start : (last : Option ℕ) (p : Pen) → (broken_by (ending_at last p) (without_ending last p)).start ≡ p.start
last_break_start None p = refl
last_break_start (Some o) p = broken_by_start (group_at o p) (without_group o p)

here_if_start : (b : Bool) (p : Pen) → (indented_if b p).start ≡ p.start
here_if_start true p = here_start p
here_if_start false p = refl

pub closed_start : (b : Bool) (lines : Lines) (end depth : ℕ) (outer : Bool) (p : Pen) → (lines_closed b lines end depth outer p).start ≡ p.start
closed_start true lines end depth outer p =
    let last = last_byte end in
    let p1 : Pen = broken_by (ending_at last p) (without_ending last p) in
    here_if_start (are_indented lines) (at_level depth (with_lines outer p1)) ∙ last_break_start last p
closed_start false lines end depth outer p = refl
