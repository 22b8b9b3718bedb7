-- What items add: text behind the code, and marks that lead to its end or behind it. All other laws of marks take this one.
use Rattle.std.proofs.Common.{ℕ, Bool, true, false, ◌&&◌, ◌||◌, ◌∷◌, None, codes, refl, not}
use Rattle.jsgen_syntax.specs.Escapes.{name_text}
use Rattle.jsgen_syntax.specs.declared.span.Span.{Span}
use Rattle.jsgen_tree.specs.Named.{printed_name}
use Rattle.jsgen_model.specs.Punctuator.{Round, opening, closing, punctuator_text}
use Rattle.jsgen_model.specs.Items.{Items, nothing, ◌⊕◌, word, name, private_name, number, literal, regular_expression, template_part, string, first_string, directive, punctuator, operator, member_dot, soft_space, soft_line, hard_space, indentation, body_space, deeper, in_class, brackets, wrapped, wrapped_at_start, parentheses_unless_minified, unless_minified, where_same, statement_end, due_semicolon, drop_semicolon, statement_begins, arrow_body_begins, default_export_begins, mark, end_mark, link_mark, marked_word, marked_operator, marked_number, marked_indentation, apart, comments, orphans, orphan_lines, empty_body, held, lined_case, caught, all_of_them, Lead, to_block, to_body, to_empty, annotation, annotation_line, annotated, is_pure, commented, member_line, member_space, in_lines, line_break}
use Rattle.jsgen_model.specs.Marks.{has_end_mark, end_offset, has_link_mark}
use Rattle.jsgen_model.specs.Layout.{Pen, Start, other_end, operator_end, number_ending, joins, written, written_if, text_if, is_apart, is_barred, deeper_level, entered, indented, at_indentation, are_printed_alike}
use Rattle.jsgen_model.specs.Lay.{lay, lifts, annotated_if, is_enclosed, commented_from, case_mark, stood, before_block, name_mark, may_be_indented, has_piece_mark, parted, spaced, part_opening, piece_mark, span_mark}
use Rattle.jsgen_model.specs.Private.{printed_private}
use Rattle.jsgen_mark_laws.specs.Law.{Adds}
use Rattle.jsgen_mark_laws.proofs.Marked.{none, same, step_then, texted, written_step, written_if_step, indentation_step, end_step, one_of, marked_if_step, end_leads, link_leads, piece_leads, start_step, name_step, behind_step, spaced_step}
use Rattle.jsgen_model.specs.Comments.{are_any}
use Rattle.jsgen_model.specs.Groups.{has_orphans, group_at, comments_at, case_begun, last_byte, ending_at, without_ending, are_lined, lines_opened}
use Rattle.jsgen_mark_laws.proofs.Comments.{passes_comments, passes_orphans, passes_lines_of_orphans, passes_empty_body, passes_without, passes_closing, passes_begun, passes_ended, passes_space, passes_annotation, passes_annotation_line, passes_opening, passes_closing_round, passes_member_line, passes_member_space, passes_opened, passes_closed, passes_break}

-- the mark of an empty statement, where it stands on a line of its own in a case
pub mark_step : (long : Bool) (lead : Lead) (p : Pen) → Adds p (case_mark long lead p)
mark_step true to_block p = none p
mark_step true to_body p = none p
mark_step true (to_empty span) p = start_step span None p
mark_step false lead p = none p

-- comments before a block, and the space behind them
pub block_step : (before : Bool) (o : ℕ) (p : Pen) → Adds p (before_block before o p)
block_step before o p = step_then (passes_comments all_of_them o p).adds (passes_space (stood before o p) (comments_at all_of_them o p)).adds

-- the annotation of what is pure, behind its mark
pub annotated_step : (on : Bool) (span : Span) (o : ℕ) (start : Start) (p : Pen) → Adds p (annotated_if on span o start p)
annotated_step true span o start p = step_then (start_step span None p) (passes_annotation start is_pure o (span_mark span p)).adds
annotated_step false span o start p = none p

pub lay_steps : (items : Items) (p : Pen) → Adds p (lay items p)
lay_steps nothing p = none p
lay_steps (a ⊕ b) p = step_then (lay_steps a p) (lay_steps b (lay a p))
lay_steps (name span n) p =
    let w = printed_name p.style.tables n in
    let p1 : Pen = spaced p in
    let p2 : Pen = name_mark span w p1 in
    step_then (spaced_step p) (step_then (name_step span w p1) (texted p2 (lay (name span n) p) (name_text p.style.ascii w) refl refl refl))
lay_steps (private_name span w) p =
    let own = printed_private p.style.tables p.classes w in
    let p1 : Pen = name_mark span (35 ∷ own) p in
    step_then (name_step span (35 ∷ own) p) (texted p1 (lay (private_name span w) p) (35 ∷ name_text p.style.ascii own) refl refl refl)
lay_steps (template_part part tagged span raw) p =
    let p1 : Pen = written (part_opening part) other_end p in
    let p2 : Pen = piece_mark part span p1 in
    step_then (written_step (part_opening part) other_end p) (step_then (marked_if_step (has_piece_mark part p.style.source span) span.start None p1 (piece_leads part p.style.source span)) (texted p2 (lay (template_part part tagged span raw) p) _ refl refl refl))
lay_steps (deeper items) p =
    let p1 : Pen = record p { depth = deeper_level p.style.minified p.depth } in
    let q : Pen = lay items p1 in
    step_then (same p p1 refl refl refl) (step_then (lay_steps items p1) (same q (record q { depth = p.depth }) refl refl refl))
lay_steps (in_class items) p =
    let p1 : Pen = entered p in
    let q : Pen = lay items p1 in
    step_then (same p p1 refl refl refl) (step_then (lay_steps items p1) (same q (record q { classes = p.classes }) refl refl refl))
lay_steps (brackets b items) p =
    let p1 : Pen = written (opening b) other_end p in
    step_then (written_step (opening b) other_end p) (step_then (lay_steps items p1) (written_step (closing b) other_end (lay items p1)))
lay_steps (wrapped test items) p =
    let p1 : Pen = written_if test (opening Round) p in
    step_then (written_if_step test (opening Round) p) (step_then (lay_steps items p1) (written_if_step test (closing Round) (lay items p1)))
lay_steps (wrapped_at_start own opener items) p =
    let test : Bool = own || is_barred opener p.start in
    let p1 : Pen = written_if test (opening Round) p in
    step_then (written_if_step test (opening Round) p) (step_then (lay_steps items p1) (written_if_step test (closing Round) (lay items p1)))
lay_steps (parentheses_unless_minified items) p =
    let test : Bool = not p.style.minified in
    let p1 : Pen = written_if test (opening Round) p in
    step_then (written_if_step test (opening Round) p) (step_then (lay_steps items p1) (written_if_step test (closing Round) (lay items p1)))
lay_steps (unless_minified items) p = one_of p.style.minified (none p) (lay_steps items p)
lay_steps (where_same m n a b) p = one_of (are_printed_alike p.style.tables m n) (lay_steps a p) (lay_steps b p)
lay_steps (mark span) p = start_step span None p
lay_steps (end_mark span) p = marked_if_step (has_end_mark p.style.source span) (end_offset p.style.source span) None p (end_leads p.style.source span)
lay_steps (link_mark span) p = marked_if_step (has_link_mark p.style.source span p.code) span.end None p (link_leads p.style.source span p.code)
lay_steps (marked_word span w) p =
    let p1 : Pen = spaced p in
    step_then (spaced_step p) (step_then (start_step span None p1) (written_step w other_end (span_mark span p1)))
lay_steps (marked_operator span sign) p =
    let p1 : Pen = parted sign p in
    step_then (written_if_step (joins p.ending p.code sign) (codes " ") p) (step_then (start_step span None p1) (written_step (punctuator_text sign) (operator_end sign) (span_mark span p1)))
lay_steps (marked_number span dot_is_its_own w) p =
    let p1 : Pen = spaced p in
    step_then (spaced_step p) (step_then (start_step span None p1) (written_step w (number_ending dot_is_its_own) (span_mark span p1)))
lay_steps (marked_indentation always span) p = step_then (indentation_step p.style.minified p) (behind_step (may_be_indented always p) span (at_indentation p.style.minified p))
lay_steps apart p = texted p (lay apart p) (text_if (is_apart p.ending p.code) (codes " ")) refl refl refl
lay_steps (word w) p = written_step _ _ p
lay_steps (number dot_is_its_own w) p = written_step _ _ p
lay_steps (literal w) p = written_step _ _ p
lay_steps (regular_expression pattern flags) p = written_step _ _ p
lay_steps (string backticks units) p = written_step _ _ p
lay_steps (first_string units) p = written_step _ _ p
lay_steps (directive raw) p = written_step _ _ p
lay_steps (punctuator sign) p = written_step _ _ p
lay_steps (operator sign) p = written_step _ _ p
lay_steps member_dot p = written_step _ _ p
lay_steps soft_space p = written_if_step _ _ p
lay_steps soft_line p = written_if_step _ _ p
lay_steps hard_space p = written_step _ _ p
lay_steps indentation p = indentation_step p.style.minified p
lay_steps body_space p = same p (lay body_space p) refl refl refl
lay_steps statement_end p = end_step p.style.minified p
lay_steps due_semicolon p = texted p (lay due_semicolon p) (text_if p.pending_semicolon (codes ";")) refl refl refl
lay_steps drop_semicolon p = same p (lay drop_semicolon p) refl refl refl
lay_steps statement_begins p = same p (lay statement_begins p) refl refl refl
lay_steps arrow_body_begins p = same p (lay arrow_body_begins p) refl refl refl
lay_steps default_export_begins p = same p (lay default_export_begins p) refl refl refl
lay_steps (comments manner o) p = (passes_comments manner o p).adds
lay_steps (orphans o) p = (passes_orphans o p).adds
lay_steps (orphan_lines o) p = (passes_lines_of_orphans o p).adds
lay_steps (empty_body o) p = (passes_empty_body o p).adds
lay_steps (held o items) p =
    let p1 : Pen = without_ending (last_byte o) p in
    step_then (passes_without (last_byte o) p).adds (step_then (lay_steps items p1) (passes_closing (ending_at (last_byte o) p) (lay items p1)).adds)
lay_steps (lined_case only items) p =
    let long : Bool = has_orphans only.start p in
    let p1 : Pen = case_begun long only.lead only.start p in
    let p2 : Pen = case_mark long only.lead p1 in
    step_then (passes_begun long only.lead only.start p).adds (step_then (mark_step long only.lead p1) (step_then (lay_steps items p2) (passes_ended long p.depth only.end (lay items p2)).adds))
lay_steps (caught start body items) p =
    let p1 : Pen = comments_at all_of_them start p in
    step_then (passes_comments all_of_them start p).adds (step_then (lay_steps items p1) (block_step (are_any (group_at start p)) body (lay items p1)))
lay_steps (annotation test kind o) p = one_of (test && p.style.annotated) (passes_annotation p.start kind o p).adds (none p)
lay_steps (annotation_line indented test o) p = one_of (test && p.style.annotated) (passes_annotation_line indented o p).adds (none p)
lay_steps (annotated call items) p =
    let wraps : Bool = lifts call p || call.wrapped in
    let on : Bool = call.pure && p.style.annotated in
    let p1 : Pen = written_if wraps (opening Round) p in
    let p2 : Pen = annotated_if on call.span call.start p.start p1 in
    step_then (written_if_step wraps (opening Round) p) (step_then (annotated_step on call.span call.start p.start p1) (step_then (lay_steps items p2) (written_if_step wraps (closing Round) (lay items p2))))
lay_steps (commented o items) p =
    let test : Bool = is_enclosed o p in
    let stand : Bool = are_any (group_at o p) in
    let p1 : Pen = commented_from o p in
    step_then (passes_opening test stand o p).adds (step_then (lay_steps items p1) (passes_closing_round test (lay items p1)).adds)
lay_steps (member_line o) p = (passes_member_line o p).adds
lay_steps (member_space o) p = (passes_member_space o p).adds
lay_steps (in_lines lines starts end items) p =
    let lined : Bool = are_lined lines starts end p in
    let p1 : Pen = lines_opened lined p in
    step_then (passes_opened lined p).adds (step_then (lay_steps items p1) (passes_closed lined lines end p.depth p.lines (lay items p1)).adds)
lay_steps (line_break at) p = (passes_break at p).adds
