-- Where no comment waits, the text and all that matters to what follows is that of the layout, with marks or without.
use Rattle.std.proofs.Common.{◌≡◌, ℕ, ◌*◌, Bool, true, false, ◌&&◌, ◌||◌, List, [], ◌∷◌, ◌++◌, Option, Some, None, codes, replicate, refl, ap, sym, ◌∙◌, append_assoc, if◌then◌else◌, not}
use Rattle.jsgen_syntax.specs.Escapes.{name_text, has_escapes}
use Rattle.jsgen_syntax.specs.Raw.{template_text}
use Rattle.jsgen_tree.specs.Named.{printed_name}
use Rattle.jsgen_model.specs.Punctuator.{Round, opening, closing, punctuator_text}
use Rattle.jsgen_model.specs.Items.{Items, a_brace, annotation, annotation_line, annotated, commented, member_line, in_lines, line_break, Lines, Break, first_argument, other_argument, import_source, import_options, with_due_space, before_it, annotation_before_it, none_of_them, TemplatePart, whole_part, head_part, middle_part, tail_part, ◌⊕◌, name, private_name, template_part, indentation, deeper, in_class, brackets, wrapped, wrapped_at_start, parentheses_unless_minified, unless_minified, where_same, statement_end, mark, end_mark, link_mark, marked_word, marked_operator, marked_number, marked_indentation, comments, empty_body, held, lined_case, caught, all_of_them, with_key_annotation, then_space, Lead, to_block, to_body, to_empty}
use Rattle.jsgen_map.specs.Marks.{Mark}
use Rattle.jsgen_model.specs.Layout.{Pen, Ending, nowhere, other_end, operator_end, number_ending, joins, written, written_if, text_if, space_if, is_apart, name_ending, is_barred, deeper_level, entered, indented, indent_or_space, at_indentation, end_statement, are_printed_alike, part_text, led, on_one_line, begun_at, layout}
use Rattle.jsgen_model.specs.Comments.{empty_store, are_any}
use Rattle.jsgen_model.specs.Groups.{last_byte, ending_at, without_ending, closing_group, body_of, any_group, may_be_lined, are_lined, break_at, with_lines, lines_opened, lines_closed}
use Rattle.jsgen_model.specs.Lay.{lay, annotated_if, before_block, span_mark, name_mark, piece_mark, parted, spaced, part_opening, part_closing}
use Rattle.jsgen_model.specs.Private.{printed_private}
use Rattle.jsgen_mark_laws.specs.Law.{with_marks, PrintsNone}
use Rattle.jsgen_mark_laws.proofs.Steps.{lay_steps}

-- ---- texts

space_text : (apart : Bool) → text_if apart (codes " ") ≡ space_if apart
space_text true = refl
space_text false = refl

-- a text behind a space or none, in two steps and in one
in_steps : (apart : Bool) (text : List ℕ) (ending : Ending) (ms : List Mark) (q : Pen) → record q { code = (q.code ++ text_if apart (codes " ")) ++ text; ending = ending; start = nowhere; marks = ms } ≡ with_marks ms (written (space_if apart ++ text) ending q)
in_steps apart text ending ms q = ap (λ code. record q { code = code; ending = ending; start = nowhere; marks = ms }) (append_assoc q.code (text_if apart (codes " ")) text ∙ ap (λ space. q.code ++ (space ++ text)) (space_text apart))

piece_text : (part : TemplatePart) (raw : List ℕ) → part_opening part ++ (raw ++ part_closing part) ≡ part_text part raw
piece_text whole_part raw = refl
piece_text head_part raw = refl
piece_text middle_part raw = refl
piece_text tail_part raw = refl

-- ---- steps that look at no mark

indented_alike : (t : List ℕ) (ms : List Mark) (q : Pen) → indented t (with_marks ms q) ≡ with_marks ms (indented t q)
indented_alike [] ms q = refl
indented_alike (c ∷ cs) ms q = refl

or_space_alike : (b : Bool) (ms : List Mark) (q : Pen) → indent_or_space b (with_marks ms q) ≡ with_marks ms (indent_or_space b q)
or_space_alike true ms q = refl
or_space_alike false ms q = indented_alike (replicate (q.depth * q.style.width) q.style.indent) ms q

indentation_alike : (b : Bool) (ms : List Mark) (q : Pen) → at_indentation b (with_marks ms q) ≡ with_marks ms (at_indentation b q)
indentation_alike true ms q = refl
indentation_alike false ms q = or_space_alike q.pending_space ms q

end_alike : (b : Bool) (ms : List Mark) (q : Pen) → end_statement b (with_marks ms q) ≡ with_marks ms (end_statement b q)
end_alike true ms q = refl
end_alike false ms q = refl

-- ---- items

-- the same pen, where no comment waits, and no argument stands on a line of its own
abbrev quiet : Pen → Pen
quiet q = record q { store = empty_store; lines = false }

-- the same pen but for its marks, where no comment waits
record Alike (a b : Pen) : Type 0 where
  marks : List Mark
  same : a ≡ with_marks marks (quiet b)

either_alike : (t : Bool) {a b c d : Pen} → Alike a c → Alike b d → Alike (if t then a else b) (if t then c else d)
either_alike true h k = h
either_alike false h k = k

-- in parentheses where the test holds
around : (test : Bool) (items : Items) (q : Pen) {a : Pen} → Alike a (layout items (written_if test (opening Round) q)) → Alike (written_if test (closing Round) a) (layout (wrapped test items) q)
around test items q x = record { marks = x.marks; same = ap (λ p. written_if test (closing Round) p) x.same }

-- ---- steps look at no comment that waits

indented_quiet : (t : List ℕ) (q : Pen) → indented t (quiet q) ≡ quiet (indented t q)
indented_quiet [] q = refl
indented_quiet (c ∷ cs) q = refl

or_space_quiet : (b : Bool) (q : Pen) → indent_or_space b (quiet q) ≡ quiet (indent_or_space b q)
or_space_quiet true q = refl
or_space_quiet false q = indented_quiet (replicate (q.depth * q.style.width) q.style.indent) q

indentation_quiet : (b : Bool) (q : Pen) → at_indentation b (quiet q) ≡ quiet (at_indentation b q)
indentation_quiet true q = refl
indentation_quiet false q = or_space_quiet q.pending_space q

end_quiet : (b : Bool) (q : Pen) → end_statement b (quiet q) ≡ quiet (end_statement b q)
end_quiet true q = refl
end_quiet false q = refl

either_quiet : (t : Bool) (a b c d : Pen) → a ≡ quiet c → b ≡ quiet d → (if t then a else b) ≡ quiet (if t then c else d)
either_quiet true a b c d h k = h
either_quiet false a b c d h k = k

led_quiet : (lead : Lead) (q : Pen) → led lead (quiet q) ≡ quiet (led lead q)
led_quiet to_block q = refl
led_quiet to_body q = refl
led_quiet (to_empty span) q = refl

-- ---- items without comments

-- nothing is held, and nothing stands in an empty body
none_held : (last : Option ℕ) (items : Items) (p : Pen) → closing_group (ending_at last (quiet p)) (lay items (without_ending last (quiet p))) ≡ lay items (quiet p)
none_held None items p = refl
none_held (Some o) items p = refl

no_body : (o : ℕ) (last : Option ℕ) (p : Pen) → body_of o (ending_at last (quiet p)) (without_ending last (quiet p)) ≡ quiet p
no_body o None p = refl
no_body o (Some n) p = refl

led_alike : (lead : Lead) (ms : List Mark) (q : Pen) → led lead (with_marks ms (quiet q)) ≡ with_marks ms (quiet (led lead q))
led_alike to_block ms q = refl
led_alike to_body ms q = refl
led_alike (to_empty span) ms q = refl

-- no argument stands on a line of its own
no_group : (starts : List ℕ) (p : Pen) → any_group starts (quiet p) ≡ false
no_group [] p = refl
no_group (o ∷ os) p = no_group os p

none_ending : (last : Option ℕ) (p : Pen) → are_any (ending_at last (quiet p)) ≡ false
none_ending None p = refl
none_ending (Some o) p = refl

and_false : (b : Bool) → (b && false) ≡ false
and_false true = refl
and_false false = refl

none_lined : (lines : Lines) (starts : List ℕ) (end : ℕ) (ms : List Mark) (p : Pen) → are_lined lines starts end (with_marks ms (quiet p)) ≡ false
none_lined lines starts end ms p = (λ i. may_be_lined lines p.style && (none_ending (last_byte end) (with_marks ms p) i || no_group starts (with_marks ms p) i)) ∙ and_false (may_be_lined lines p.style)

break_alike : (at : Break) (ms : List Mark) (q : Pen) → break_at at (with_marks ms (quiet q)) ≡ with_marks ms (quiet (on_one_line at q))
break_alike (first_argument o) ms q = refl
break_alike (other_argument o) ms q = refl
break_alike (import_source o) ms q = refl
break_alike import_options ms q = refl

break_quiet : (at : Break) (q : Pen) → on_one_line at (quiet q) ≡ quiet (on_one_line at q)
break_quiet (first_argument o) q = refl
break_quiet (other_argument o) q = refl
break_quiet (import_source o) q = refl
break_quiet import_options q = refl

-- a step that is passed over
unless : (t : Bool) (a : Pen) {b c : Pen} → t ≡ false → Alike b c → Alike (if t then a else b) c
unless t a e x = record { marks = x.marks; same = rw e x.same }

-- the style is as it was
style_kept : (items : Items) (p q : Pen) (x : Alike (lay items p) q) → q.style ≡ p.style
style_kept items p q x = sym (ap (λ r. r.style) x.same) ∙ (lay_steps items p).style

led_style : (lead : Lead) (q : Pen) → (led lead q).style.annotated ≡ q.style.annotated
led_style to_block q = refl
led_style to_body q = refl
led_style (to_empty span) q = refl

alike : (items : Items) (ms : List Mark) (q : Pen) (printed : Bool) → q.style.annotated ≡ printed → PrintsNone printed items → Alike (lay items (with_marks ms (quiet q))) (layout items q)
alike (a ⊕ b) ms q printed e h =
    let x = alike a ms q printed e h.0 in
    let s : (layout a q).style ≡ q.style = style_kept a (with_marks ms (quiet q)) (layout a q) x in
    let y = alike b x.marks (layout a q) printed (ap (λ st. st.annotated) s ∙ e) h.1 in
    record { marks = y.marks; same = ap (λ p. lay b p) x.same ∙ y.same }
alike (name span n) ms q printed e h =
    let w = printed_name q.style.tables n in
    let marks : List Mark = (name_mark span w (spaced (with_marks ms (quiet q)))).marks in
    record { marks = marks; same = in_steps (is_apart q.ending q.code) (name_text q.style.ascii w) (name_ending (has_escapes q.style.ascii w)) marks (quiet q) }
alike (private_name span w) ms q printed e h = record { marks = (name_mark span (35 ∷ printed_private q.style.tables q.classes w) (with_marks ms (quiet q))).marks; same = refl }
alike (template_part part tagged span raw) ms q printed e h =
    let text = template_text tagged q.style.minified q.style.ascii raw in
    let marks : List Mark = (piece_mark part span (written (part_opening part) other_end (with_marks ms (quiet q)))).marks in
    record { marks = marks; same = ap (λ code. record (quiet q) { code = code; ending = other_end; start = nowhere; marks = marks }) (append_assoc q.code (part_opening part) (text ++ part_closing part) ∙ ap (λ t. q.code ++ t) (piece_text part text)) }
alike (deeper items) ms q printed e h =
    let x = alike items ms (record q { depth = deeper_level q.style.minified q.depth }) printed e h in
    record { marks = x.marks; same = ap {A = Pen} (λ p. record p { depth = q.depth }) x.same }
alike (in_class items) ms q printed e h =
    let x = alike items ms (entered q) printed e h in
    record { marks = x.marks; same = ap {A = Pen} (λ p. record p { classes = q.classes }) x.same }
alike (brackets b items) ms q printed e h =
    let x = alike items ms (written (opening b) other_end q) printed e h in
    record { marks = x.marks; same = ap (λ p. written (closing b) other_end p) x.same }
alike (wrapped test items) ms q printed e h = around test items q (alike items ms (written_if test (opening Round) q) printed e h)
alike (wrapped_at_start own opener items) ms q printed e h = let test : Bool = own || is_barred opener q.start in around test items q (alike items ms (written_if test (opening Round) q) printed e h)
alike (parentheses_unless_minified items) ms q printed e h = let test : Bool = not q.style.minified in around test items q (alike items ms (written_if test (opening Round) q) printed e h)
alike (unless_minified items) ms q printed e h = either_alike q.style.minified (record { marks = ms; same = refl }) (alike items ms q printed e h)
alike (where_same m n a b) ms q printed e h = either_alike (are_printed_alike q.style.tables m n) (alike a ms q printed e h.0) (alike b ms q printed e h.1)
alike (mark span) ms q printed e h = record { marks = (lay (mark span) (with_marks ms (quiet q))).marks; same = refl }
alike (end_mark span) ms q printed e h = record { marks = (lay (end_mark span) (with_marks ms (quiet q))).marks; same = refl }
alike (link_mark span) ms q printed e h = record { marks = (lay (link_mark span) (with_marks ms (quiet q))).marks; same = refl }
alike (marked_word span w) ms q printed e h =
    let marks : List Mark = (span_mark span (spaced (with_marks ms (quiet q)))).marks in
    record { marks = marks; same = in_steps (is_apart q.ending q.code) w other_end marks (quiet q) }
alike (marked_operator span p) ms q printed e h =
    let marks : List Mark = (span_mark span (parted p (with_marks ms (quiet q)))).marks in
    record { marks = marks; same = in_steps (joins q.ending q.code p) (punctuator_text p) (operator_end p) marks (quiet q) }
alike (marked_number span dot_is_its_own w) ms q printed e h =
    let marks : List Mark = (span_mark span (spaced (with_marks ms (quiet q)))).marks in
    record { marks = marks; same = in_steps (is_apart q.ending q.code) w (number_ending dot_is_its_own) marks (quiet q) }
alike (marked_indentation always span) ms q printed e h =
    let marks : List Mark = (lay (marked_indentation always span) (with_marks ms (quiet q))).marks in
    record { marks = marks; same = ap (λ p. with_marks marks p) (indentation_alike q.style.minified ms (quiet q) ∙ ap (with_marks ms) (indentation_quiet q.style.minified q)) }
alike indentation ms q printed e h = record { marks = ms; same = indentation_alike q.style.minified ms (quiet q) ∙ ap (with_marks ms) (indentation_quiet q.style.minified q) }
alike statement_end ms q printed e h = record { marks = ms; same = end_alike q.style.minified ms (quiet q) ∙ ap (with_marks ms) (end_quiet q.style.minified q) }
alike (comments all_of_them o) ms q printed e h = record { marks = ms; same = refl }
alike (comments with_key_annotation o) ms q printed e h = record { marks = ms; same = refl }
alike (comments then_space o) ms q printed e h = record { marks = ms; same = refl }
alike (empty_body o) ms q printed e h = record { marks = ms; same = no_body o (last_byte o) (with_marks ms q) }
alike (held o items) ms q printed e h =
    let x = alike items ms q printed e h in
    record { marks = x.marks; same = none_held (last_byte o) items (with_marks ms q) ∙ x.same }
alike (lined_case only items) ms q printed e h =
    let x = alike items ms (led only.lead q) printed (led_style only.lead q ∙ e) h in
    record { marks = x.marks; same = ap (lay items) (led_alike only.lead ms q) ∙ x.same }
alike (caught start body items) ms q printed e h =
    let x = alike items ms q printed e h in
    record { marks = x.marks; same = ap (before_block false body) x.same }
alike (annotation test kind o) ms q printed e h = unless (test && q.style.annotated) _ (ap (λ b. test && b) e ∙ h) (record { marks = ms; same = refl })
alike (annotation_line own test o) ms q printed e h = unless (test && q.style.annotated) _ (ap (λ b. test && b) e ∙ h) (record { marks = ms; same = refl })
alike (annotated call items) ms q printed e h =
    let f : (call.pure && q.style.annotated) ≡ false = ap (λ b. call.pure && b) e ∙ h.0 in
    let x = alike items ms (written_if call.wrapped (opening Round) q) printed e h.1 in
    record { marks = x.marks; same = (λ i. written_if (f i && call.lifted || call.wrapped) (closing Round) (lay items (annotated_if (f i) call.span call.start q.start (written_if (f i && call.lifted || call.wrapped) (opening Round) (with_marks ms (quiet q)))))) ∙ ap (λ p. written_if call.wrapped (closing Round) p) x.same }
alike (commented o items) ms q printed e h =
    let test : Bool = is_barred a_brace q.start in
    let x = alike items ms (begun_at nowhere (written_if test (opening Round) q)) printed e h in
    record { marks = x.marks; same = ap (λ p. begun_at nowhere (written_if test (closing Round) p)) x.same }
alike (member_line o) ms q printed e h =
    let p1 : Pen = written_if (not q.style.minified) (codes "\n") q in
    record { marks = ms; same = indentation_alike q.style.minified ms (quiet p1) ∙ ap (with_marks ms) (indentation_quiet q.style.minified p1) }
alike (in_lines lines starts end items) ms q printed e h =
    let x = alike items ms q printed e h in
    record { marks = x.marks; same = ap (λ b. lines_closed b lines end q.depth false (lay items (lines_opened b (with_marks ms (quiet q))))) (none_lined lines starts end ms q) ∙ ap (with_lines false) x.same }
alike (line_break at) ms q printed e h = record { marks = ms; same = break_alike at ms q }
alike (comments with_due_space o) ms q printed e h = record { marks = ms; same = refl }
alike (comments before_it o) ms q printed e h = record { marks = ms; same = refl }
alike (comments annotation_before_it o) ms q printed e h = record { marks = ms; same = refl }
alike (comments none_of_them o) ms q printed e h = record { marks = ms; same = refl }
alike item ms q printed e h = record { marks = ms; same = refl }

stored_alike : (items : Items) (q : Pen) → layout items (quiet q) ≡ quiet (layout items q)
stored_alike (a ⊕ b) q = ap (λ p. layout b p) (stored_alike a q) ∙ stored_alike b (layout a q)
stored_alike (deeper items) q = ap {A = Pen} (λ p. record p { depth = q.depth }) (stored_alike items (record q { depth = deeper_level q.style.minified q.depth }))
stored_alike (in_class items) q = ap {A = Pen} (λ p. record p { classes = q.classes }) (stored_alike items (entered q))
stored_alike (brackets b items) q = ap (λ p. written (closing b) other_end p) (stored_alike items (written (opening b) other_end q))
stored_alike (wrapped test items) q = ap (λ p. written_if test (closing Round) p) (stored_alike items (written_if test (opening Round) q))
stored_alike (wrapped_at_start own opener items) q = let test : Bool = own || is_barred opener q.start in ap (λ p. written_if test (closing Round) p) (stored_alike items (written_if test (opening Round) q))
stored_alike (parentheses_unless_minified items) q = let test : Bool = not q.style.minified in ap (λ p. written_if test (closing Round) p) (stored_alike items (written_if test (opening Round) q))
stored_alike (held o items) q = stored_alike items q
stored_alike (lined_case only items) q = ap (layout items) (led_quiet only.lead q) ∙ stored_alike items (led only.lead q)
stored_alike (caught start body items) q = stored_alike items q
stored_alike (unless_minified items) q = either_quiet q.style.minified (quiet q) (layout items (quiet q)) q (layout items q) refl (stored_alike items q)
stored_alike (where_same m n a b) q = either_quiet (are_printed_alike q.style.tables m n) (layout a (quiet q)) (layout b (quiet q)) (layout a q) (layout b q) (stored_alike a q) (stored_alike b q)
stored_alike indentation q = indentation_quiet q.style.minified q
stored_alike (marked_indentation always span) q = indentation_quiet q.style.minified q
stored_alike statement_end q = end_quiet q.style.minified q
stored_alike (annotated call items) q = ap (λ p. written_if call.wrapped (closing Round) p) (stored_alike items (written_if call.wrapped (opening Round) q))
stored_alike (commented o items) q = let test : Bool = is_barred a_brace q.start in ap (λ p. begun_at nowhere (written_if test (closing Round) p)) (stored_alike items (begun_at nowhere (written_if test (opening Round) q)))
stored_alike (member_line o) q = indentation_quiet q.style.minified (written_if (not q.style.minified) (codes "\n") q)
stored_alike (in_lines lines starts end items) q = stored_alike items q
stored_alike (line_break at) q = break_quiet at q
stored_alike item q = refl

pub quiet_is_quiet : (items : Items) (p : Pen) → p.store ≡ empty_store → p.lines ≡ false → PrintsNone p.style.annotated items → lay items p ≡ with_marks (lay items p).marks (layout items p)
quiet_is_quiet items p e f h =
    let own : quiet p ≡ p = λ i. record p { store = sym e i; lines = sym f i } in
    let x = alike items p.marks p p.style.annotated refl h in
    let laid : lay items p ≡ with_marks x.marks (layout items p) = ap (lay items) (sym own) ∙ (x.same ∙ ap (with_marks x.marks) (sym (stored_alike items p) ∙ ap (layout items) own)) in
    laid ∙ ap (λ ms. with_marks ms (layout items p)) (sym (ap (λ q. q.marks) laid))

-- the text is the same
pub same_text : (items : Items) (p : Pen) → p.store ≡ empty_store → p.lines ≡ false → PrintsNone p.style.annotated items → (lay items p).code ≡ (layout items p).code
same_text items p e f h = ap (λ q. q.code) (quiet_is_quiet items p e f h)
