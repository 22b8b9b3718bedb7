-- Steps that print comments: each adds text, whatever marks there are and whatever source.
use Rattle.std.proofs.Common.{◌≡◌, ℕ, ◌*◌, Bool, true, false, ◌&&◌, ◌||◌, ◌==◌, List, [], ◌∷◌, Option, Some, None, codes, drop, replicate, refl, ap, ◌∙◌, if◌then◌else◌, not}
use Rattle.std.specs.List.{list_all}
use Rattle.std.specs.Str.{skip_leading_whitespace}
use Rattle.jsgen_syntax.specs.Raw.{tag_free}
use Rattle.jsgen_tree.specs.declared.statements.CommentKind.{CommentKind}
use Rattle.jsgen_tree.specs.declared.statements.CommentKind.TheVariants as kinds
use Rattle.jsgen_map.specs.Marks.{Mark}
use Rattle.jsgen_model.specs.Items.{Annotation, no_side_effects, Lines, of_call, of_import, Break, first_argument, other_argument, import_source, import_options, Manner, all_of_them, then_space, with_due_space, before_it, annotation_before_it, with_key_annotation, none_of_them, Lead, to_block, to_body, to_empty}
use Rattle.jsgen_model.specs.Comments.{Comment, Store, are_any, left_below, orphans_below}
use Rattle.jsgen_model.specs.Groups.{line_ended, indented_here, softly_spaced, with_pending_space, used_up_if, used_up, lines_of, opens_block, closes_block, indented_if, block_line, block_lines, is_mid_line, html_close, text_written, comment_written, last_of, on_new_line, at_line_start, before_first, is_legal, before_later, is_line, ends_its_line, behind_last, behind_comment, group, with_store, group_at, without_group, is_printed, code_ends_in, before_group, behind_group, printed_if, comments_at, orphans_before, has_orphans, one_deeper, at_level, soft_line_ended, orphan_lines_at, last_byte, ending_at, without_ending, closing_group, has_no_newlines, body_lines, body_of, empty_body_at, led_on_line, case_begun, case_ended, space_behind, annotation_text, fitting_at, without_annotation, annotation_by, annotation_written, annotation_at, annotation_line_at, each_on_line, broken_by, broken_at, on_a_line, unless_on_line, break_at, any_group, may_be_lined, are_lined, with_lines, lines_opened, indents as are_indented, lines_closed, member_line_at, member_space_at, commented_if}
use Rattle.jsgen_model.specs.Layout.{Pen, Start, Ending, other_end, written, written_if, indented, indent_or_space, at_indentation, deeper_level, led, on_one_line, nowhere, white_if, begun_at}
use Rattle.jsgen_model.specs.Punctuator.{Round, opening, closing}
use Rattle.jsgen_model.specs.Ends.{each_written, licensed, reference}
use Rattle.jsgen_tree.specs.Options.{Legal, left_out, inline, at_end, linked, external}
use Rattle.jsgen_mark_laws.specs.Law.{Adds}
use Rattle.jsgen_mark_laws.proofs.Marked.{none, same, step_then, written_step, written_if_step, indentation_step}

-- the same pen with another source and other marks
abbrev pub bare : Option (List ℕ) → List Mark → Pen → Pen
bare s ms pen = record pen { style = record pen.style { source = s }; marks = ms }

-- what a step adds from a pen, and that it looks at neither
pub record Passes (f : Pen → Pen) (p : Pen) : Type 0 where
  pub adds : Adds p (f p)
  pub alike : (s : Option (List ℕ)) (ms : List Mark) → f (bare s ms p) ≡ bare s ms (f p)

pub passes_then : {p : Pen} (f g : Pen → Pen) → Passes f p → Passes g (f p) → Passes (λ q. g (f q)) p
passes_then f g a b = record { adds = step_then a.adds b.adds; alike = λ s ms. ap g (a.alike s ms) ∙ b.alike s ms }

-- a step that a test of the pen chooses, which looks at neither
pub either : {p : Pen} (b : Bool) (f g : Pen → Pen) → Passes f p → Passes g p → Passes (λ q. if b then f q else g q) p
either true f g h k = record { adds = h.adds; alike = h.alike }
either false f g h k = record { adds = k.adds; alike = k.alike }

pub stays : (p : Pen) → Passes (λ q. q) p
stays p = record { adds = none p; alike = λ s ms. refl }

pub writes : (t : List ℕ) (e : Ending) (p : Pen) → Passes (λ q. written t e q) p
writes t e p = record { adds = written_step t e p; alike = λ s ms. refl }

pub writes_if : (b : Bool) (t : List ℕ) (p : Pen) → Passes (λ q. written_if b t q) p
writes_if b t p = record { adds = written_if_step b t p; alike = λ s ms. refl }

begins : (start : Start) (p : Pen) → Passes (begun_at start) p
begins start p = record { adds = same p (begun_at start p) refl refl refl; alike = λ s ms. refl }

-- what begins behind a step is told by the pen before it
begins_by : (start : Pen → Start) (f : Pen → Pen) {p : Pen} → ((s : Option (List ℕ)) (ms : List Mark) → start (bare s ms p) ≡ start p) → Passes f p → Passes (λ q. begun_at (start q) (f q)) p
begins_by start f {p} e h = record { adds = step_then h.adds (begins (start p) (f p)).adds; alike = λ s ms. λ i. begun_at (e s ms i) (h.alike s ms i) }

-- as what began before it
begins_as : (f : Pen → Pen) {p : Pen} → Passes f p → Passes (λ q. begun_at q.start (f q)) p
begins_as f h = begins_by (λ q. q.start) f (λ s ms. refl) h

white : (b : Bool) (t : List ℕ) (p : Pen) → Passes (λ q. white_if b t q) p
white b t p = begins_as (written_if b t) (writes_if b t p)

pub with_pending : (b : Bool) (p : Pen) → Passes (λ q. with_pending_space b q) p
with_pending b p = record { adds = same p (with_pending_space b p) refl refl refl; alike = λ s ms. refl }

pub stores : (t : Store) (p : Pen) → Passes (λ q. with_store t q) p
stores t p = record { adds = same p (with_store t p) refl refl refl; alike = λ s ms. refl }

pub levels : (depth : ℕ) (p : Pen) → Passes (λ q. at_level depth q) p
levels depth p = record { adds = same p (at_level depth p) refl refl refl; alike = λ s ms. refl }

-- ---- indentation

indented_alike : (t : List ℕ) (s : Option (List ℕ)) (ms : List Mark) (q : Pen) → indented t (bare s ms q) ≡ bare s ms (indented t q)
indented_alike [] s ms q = refl
indented_alike (c ∷ cs) s ms q = refl

or_space_alike : (b : Bool) (s : Option (List ℕ)) (ms : List Mark) (q : Pen) → indent_or_space b (bare s ms q) ≡ bare s ms (indent_or_space b q)
or_space_alike true s ms q = refl
or_space_alike false s ms q = indented_alike (replicate (q.depth * q.style.width) q.style.indent) s ms q

pub indentation_alike : (b : Bool) (s : Option (List ℕ)) (ms : List Mark) (q : Pen) → at_indentation b (bare s ms q) ≡ bare s ms (at_indentation b q)
indentation_alike true s ms q = refl
indentation_alike false s ms q = or_space_alike q.pending_space s ms q

pub indents : (p : Pen) → Passes indented_here p
indents p = record { adds = indentation_step p.style.minified p; alike = λ s ms. indentation_alike p.style.minified s ms p }

indents_if : (b : Bool) (p : Pen) → Passes (indented_if b) p
indents_if true p = let i = indents p in record { adds = i.adds; alike = i.alike }
indents_if false p = record { adds = none p; alike = λ s ms. refl }

uses_up_if : (b : Bool) (p : Pen) → Passes (used_up_if b) p
uses_up_if true p = record { adds = step_then (white (not p.style.minified) (codes " ") p).adds (same (softly_spaced p) (used_up_if true p) refl refl refl); alike = λ s ms. refl }
uses_up_if false p = record { adds = none p; alike = λ s ms. refl }

uses_up : (p : Pen) → Passes used_up p
uses_up p = let u = uses_up_if p.pending_space p in record { adds = u.adds; alike = u.alike }

-- ---- one comment

passes_line : (l : List ℕ) (p : Pen) → Passes (block_line l) p
passes_line l p =
    let text : List ℕ = tag_free (skip_leading_whitespace l) in
    let first = indents_if (not (opens_block l)) p in
    let p1 : Pen = indented_if (not (opens_block l)) p in
    passes_then (λ q. written text other_end (indented_if (not (opens_block l)) q)) (λ q. written_if (not (closes_block l)) (codes "\n") q) (passes_then (indented_if (not (opens_block l))) (λ q. written text other_end q) first (writes text other_end p1)) (writes_if (not (closes_block l)) (codes "\n") (written text other_end p1))

passes_lines : (ls : List (List ℕ)) (p : Pen) → Passes (block_lines ls) p
passes_lines [] p = record { adds = none p; alike = λ s ms. refl }
passes_lines (l ∷ ls) p = passes_then (block_line l) (block_lines ls) (passes_line l p) (passes_lines ls (block_line l p))

passes_html : (b : Bool) (text : List ℕ) (p : Pen) → Passes (html_close b text) p
passes_html true text p = passes_then (λ q. written (codes "//") other_end q) (λ q. written (tag_free (drop 3 text)) other_end q) (writes (codes "//") other_end p) (writes (tag_free (drop 3 text)) other_end (written (codes "//") other_end p))
passes_html false text p = writes (tag_free text) other_end p

passes_text : (kind : CommentKind) (text : List ℕ) (p : Pen) → Passes (text_written kind text) p
passes_text kinds.MultiLineBlock text p = let x = passes_lines (lines_of text) p in record { adds = x.adds; alike = x.alike }
passes_text kinds.HtmlClose text p = let x = passes_html (is_mid_line p.code) text p in record { adds = x.adds; alike = x.alike }
passes_text kinds.Line text p = writes (tag_free text) other_end p
passes_text kinds.SingleLineBlock text p = writes (tag_free text) other_end p
passes_text kinds.HtmlOpen text p = writes (tag_free text) other_end p

passes_comment : (c : Comment) (p : Pen) → Passes (comment_written c) p
passes_comment c p = passes_text c.kind c.text p

-- ---- a group

ends_line_passes : (p : Pen) → Passes line_ended p
ends_line_passes p = writes (codes "\n") other_end p

passes_new_line : (p : Pen) → Passes (λ q. indented_here (line_ended q)) p
passes_new_line p = passes_then line_ended indented_here (ends_line_passes p) (indents (line_ended p))

passes_on_new_line : (last : Option ℕ) (p : Pen) → Passes (on_new_line last) p
passes_on_new_line None p = record { adds = none p; alike = λ s ms. refl }
passes_on_new_line (Some c) p = either (c == 10) indented_here (λ q. if c == 9 then q else indented_here (line_ended q)) (indents p) (either (c == 9) (λ q. q) (λ q. indented_here (line_ended q)) (stays p) (passes_new_line p))

passes_before_first : (b : Bool) (p : Pen) → Passes (before_first b) p
passes_before_first true p = let x = passes_on_new_line (last_of p.code) p in record { adds = x.adds; alike = x.alike }
passes_before_first false p =
    let x = either p.pending_space used_up (indented_if (at_line_start (last_of p.code))) (uses_up p) (indents_if (at_line_start (last_of p.code)) p) in
    record { adds = x.adds; alike = x.alike }

passes_before_later : (b legal : Bool) (p : Pen) → Passes (before_later b legal) p
passes_before_later true legal p = passes_new_line p
passes_before_later false true p = ends_line_passes p
passes_before_later false false p = let x = white (not p.style.minified) (codes " ") p in record { adds = x.adds; alike = x.alike }

passes_behind_last : (b : Bool) (p : Pen) → Passes (behind_last b) p
passes_behind_last true p = ends_line_passes p
passes_behind_last false p = with_pending true p

passes_behind : (ended : Bool) (c : Comment) (cs : List Comment) (p : Pen) → Passes (behind_comment ended c cs) p
passes_behind ended c [] p = passes_behind_last (ended || ends_its_line c) p
passes_behind ended c (d ∷ cs) p =
    let on_new_line : Bool = d.newline_before || is_line c.kind in
    let before = before_later on_new_line (is_legal d.content) in
    passes_then (λ q. comment_written d (before q)) (behind_comment ended d cs) (passes_then before (comment_written d) (passes_before_later on_new_line (is_legal d.content) p) (passes_comment d (before p))) (passes_behind ended d cs (comment_written d (before p)))

pub passes_group : (ended : Bool) (cs : List Comment) (p : Pen) → Passes (group ended cs) p
passes_group ended [] p = record { adds = none p; alike = λ s ms. refl }
passes_group ended (c ∷ cs) p =
    let before = before_first c.newline_before in
    begins_as (λ q. behind_comment ended c cs (comment_written c (before q))) (passes_then (λ q. comment_written c (before q)) (behind_comment ended c cs) (passes_then before (comment_written c) (passes_before_first c.newline_before p) (passes_comment c (before p))) (passes_behind ended c cs (comment_written c (before p))))

-- ---- what is printed of the store

passes_before_group : (m : Manner) (p : Pen) → Passes (before_group m) p
passes_before_group all_of_them p = record { adds = none p; alike = λ s ms. refl }
passes_before_group with_key_annotation p = let x = white (code_ends_in 47 p) (codes " ") p in record { adds = x.adds; alike = λ s ms. refl }
passes_before_group then_space p = record { adds = none p; alike = λ s ms. refl }
passes_before_group with_due_space p = record { adds = none p; alike = λ s ms. refl }
passes_before_group before_it p = record { adds = none p; alike = λ s ms. refl }
passes_before_group annotation_before_it p = record { adds = none p; alike = λ s ms. refl }
passes_before_group none_of_them p = record { adds = none p; alike = λ s ms. refl }

-- what is due before an expression
passes_due : (p : Pen) → Passes (λ q. if code_ends_in 10 q then indented_here q else used_up q) p
passes_due p = let x = either (code_ends_in 10 p) indented_here used_up (indents p) (uses_up p) in record { adds = x.adds; alike = x.alike }

passes_behind_group : (m : Manner) (p : Pen) → Passes (behind_group m) p
passes_behind_group all_of_them p = record { adds = none p; alike = λ s ms. refl }
passes_behind_group with_due_space p = uses_up p
passes_behind_group before_it p = passes_due p
passes_behind_group annotation_before_it p = passes_due p
passes_behind_group with_key_annotation p = passes_due p
passes_behind_group none_of_them p = passes_due p
passes_behind_group then_space p = record { adds = step_then (white (not p.style.minified) (codes " ") p).adds (same (softly_spaced p) (behind_group then_space p) refl refl refl); alike = λ s ms. refl }

pub passes_taken : (o : ℕ) (p : Pen) → Passes (without_group o) p
passes_taken o p = record { adds = same p (without_group o p) refl refl refl; alike = λ s ms. refl }

passes_printed : (b : Bool) (m : Manner) (o : ℕ) (p : Pen) → Passes (printed_if b m o) p
passes_printed true m o p =
    let cs = group_at o p in
    let p1 : Pen = before_group m p in
    let p2 : Pen = without_group o p1 in
    let p3 : Pen = group false cs p2 in
    let x = passes_then (λ q. group false cs (without_group o (before_group m q))) (behind_group m) (passes_then (λ q. without_group o (before_group m q)) (group false cs) (passes_then (before_group m) (without_group o) (passes_before_group m p) (passes_taken o p1)) (passes_group false cs p2)) (passes_behind_group m p3) in
    record { adds = x.adds; alike = x.alike }
passes_printed false m o p = record { adds = none p; alike = λ s ms. refl }

pub passes_comments : (m : Manner) (o : ℕ) (p : Pen) → Passes (comments_at m o) p
passes_comments m o p = let x = passes_printed (is_printed m (group_at o p)) m o p in record { adds = x.adds; alike = x.alike }

pub passes_orphans : (o : ℕ) (p : Pen) → Passes (orphans_before o) p
passes_orphans o p =
    let x = passes_then (λ q. with_store (left_below o p.store) q) (group true (orphans_below o p.store)) (stores (left_below o p.store) p) (passes_group true (orphans_below o p.store) (with_store (left_below o p.store) p)) in
    record { adds = x.adds; alike = x.alike }

-- ---- in braces

passes_deeper : (p : Pen) → Passes (λ q. one_deeper (soft_line_ended q)) p
passes_deeper p =
    let p1 : Pen = soft_line_ended p in
    record { adds = step_then (white (not p.style.minified) (codes "\n") p).adds (same p1 (one_deeper p1) refl refl refl); alike = λ s ms. refl }

passes_back : (depth : ℕ) (p : Pen) → Passes (λ q. indented_here (at_level depth q)) p
passes_back depth p = passes_then (at_level depth) indented_here (levels depth p) (indents (at_level depth p))

passes_orphan_lines : (b : Bool) (o : ℕ) (p : Pen) → Passes (λ q. if b then indented_here (at_level q.depth (orphans_before o (one_deeper (soft_line_ended q)))) else q) p
passes_orphan_lines true o p =
    let p1 : Pen = one_deeper (soft_line_ended p) in
    let x = passes_then (λ q. orphans_before o (one_deeper (soft_line_ended q))) (λ q. indented_here (at_level p.depth q)) (passes_then (λ q. one_deeper (soft_line_ended q)) (orphans_before o) (passes_deeper p) (passes_orphans o p1)) (passes_back p.depth (orphans_before o p1)) in
    record { adds = x.adds; alike = x.alike }
passes_orphan_lines false o p = record { adds = none p; alike = λ s ms. refl }

pub passes_lines_of_orphans : (o : ℕ) (p : Pen) → Passes (orphan_lines_at o) p
passes_lines_of_orphans o p = let x = passes_orphan_lines (has_orphans o p) o p in record { adds = x.adds; alike = x.alike }

pub passes_without : (last : Option ℕ) (p : Pen) → Passes (without_ending last) p
passes_without None p = record { adds = none p; alike = λ s ms. refl }
passes_without (Some o) p = passes_taken o p

pub passes_closing : (cs : List Comment) (p : Pen) → Passes (closing_group cs) p
passes_closing [] p = record { adds = none p; alike = λ s ms. refl }
passes_closing (c ∷ cs) p = passes_then (group false (c ∷ cs)) (λ q. with_pending_space false q) (passes_group false (c ∷ cs) p) (with_pending false (group false (c ∷ cs) p))

passes_body_lines : (o : ℕ) (cs : List Comment) (p : Pen) → Passes (body_lines o cs) p
passes_body_lines o cs p =
    let p1 : Pen = one_deeper (soft_line_ended p) in
    let p2 : Pen = orphans_before o p1 in
    let x = passes_then (λ q. closing_group cs (orphans_before o (one_deeper (soft_line_ended q)))) (λ q. indented_here (at_level p.depth q)) (passes_then (λ q. orphans_before o (one_deeper (soft_line_ended q))) (closing_group cs) (passes_then (λ q. one_deeper (soft_line_ended q)) (orphans_before o) (passes_deeper p) (passes_orphans o p1)) (passes_closing cs p2)) (passes_back p.depth (closing_group cs p2)) in
    record { adds = x.adds; alike = x.alike }

passes_body : (o : ℕ) (cs : List Comment) (p : Pen) → Passes (body_of o cs) p
passes_body o cs p =
    let x = either (not (has_orphans o p) && list_all has_no_newlines cs) (closing_group cs) (body_lines o cs) (passes_closing cs p) (passes_body_lines o cs p) in
    record { adds = x.adds; alike = x.alike }

passes_empty : (o : ℕ) (last : Option ℕ) (p : Pen) → Passes (λ q. body_of o (ending_at last q) (without_ending last q)) p
passes_empty o None p = passes_body o [] p
passes_empty o (Some n) p =
    let x = passes_then (without_group n) (body_of o (group_at n p)) (passes_taken n p) (passes_body o (group_at n p) (without_group n p)) in
    record { adds = x.adds; alike = x.alike }

pub passes_empty_body : (o : ℕ) (p : Pen) → Passes (empty_body_at o) p
passes_empty_body o p = passes_empty o (last_byte o) p

-- ---- at the end of a text

passes_each : (cs : List Comment) (p : Pen) → Passes (each_written cs) p
passes_each [] p = record { adds = none p; alike = λ s ms. refl }
passes_each (c ∷ cs) p =
    let p1 : Pen = comment_written c p in
    passes_then (λ q. line_ended (comment_written c q)) (each_written cs) (passes_then (comment_written c) line_ended (passes_comment c p) (ends_line_passes p1)) (passes_each cs (line_ended p1))

pub passes_licences : (legal : Legal) (cs : List Comment) (p : Pen) → Passes (licensed legal cs) p
passes_licences legal [] p = record { adds = none p; alike = λ s ms. refl }
passes_licences at_end (c ∷ cs) p =
    let p1 : Pen = with_pending_space false (line_ended p) in
    passes_then (λ q. with_pending_space false (line_ended q)) (each_written (c ∷ cs)) (passes_then line_ended (λ q. with_pending_space false q) (ends_line_passes p) (with_pending false (line_ended p))) (passes_each (c ∷ cs) p1)
passes_licences (linked path) (c ∷ cs) p = writes (reference path) other_end p
passes_licences left_out (c ∷ cs) p = record { adds = none p; alike = λ s ms. refl }
passes_licences inline (c ∷ cs) p = record { adds = none p; alike = λ s ms. refl }
passes_licences external (c ∷ cs) p = record { adds = none p; alike = λ s ms. refl }

-- marks and source stay
pub marks_kept : {f : Pen → Pen} {p : Pen} → Passes f p → (f p).marks ≡ p.marks
marks_kept {f} {p} h = ap (λ q. q.marks) (h.alike p.style.source p.marks)

-- ---- in a case, and in a `catch`

passes_led : (lead : Lead) (p : Pen) → Passes (led lead) p
passes_led to_block p = let x = writes_if (not p.style.minified) (codes " ") p in record { adds = x.adds; alike = x.alike }
passes_led to_body p = with_pending true p
passes_led (to_empty span) p = record { adds = none p; alike = λ s ms. refl }

led_start : (lead : Lead) (s : Option (List ℕ)) (ms : List Mark) (p : Pen) → (led lead (bare s ms p)).start ≡ (led lead p).start
led_start to_block s ms p = refl
led_start to_body s ms p = refl
led_start (to_empty span) s ms p = refl

passes_own : (o : ℕ) (p : Pen) → Passes (λ q. indented_here (comments_at all_of_them o q)) p
passes_own o p = passes_then (comments_at all_of_them o) indented_here (passes_comments all_of_them o p) (indents (comments_at all_of_them o p))

passes_led_on_line : (lead : Lead) (o : ℕ) (p : Pen) → Passes (led_on_line lead o) p
passes_led_on_line to_block o p = passes_own o p
passes_led_on_line to_body o p = record { adds = none p; alike = λ s ms. refl }
passes_led_on_line (to_empty span) o p = passes_own o p

pub passes_begun : (b : Bool) (lead : Lead) (o : ℕ) (p : Pen) → Passes (case_begun b lead o) p
passes_begun true lead o p =
    let p1 : Pen = one_deeper (soft_line_ended p) in
    begins_by (λ q. (led lead q).start) (λ q. led_on_line lead o (orphans_before o (one_deeper (soft_line_ended q)))) (λ s ms. led_start lead s ms p) (passes_then (λ q. orphans_before o (one_deeper (soft_line_ended q))) (led_on_line lead o) (passes_then (λ q. one_deeper (soft_line_ended q)) (orphans_before o) (passes_deeper p) (passes_orphans o p1)) (passes_led_on_line lead o (orphans_before o p1)))
passes_begun false lead o p = passes_led lead p

pub passes_ended : (b : Bool) (depth end : ℕ) (p : Pen) → Passes (case_ended b depth end) p
passes_ended true depth end p = passes_then (orphans_before end) (at_level depth) (passes_orphans end p) (levels depth (orphans_before end p))
passes_ended false depth end p = record { adds = none p; alike = λ s ms. refl }

pub passes_space : (b : Bool) (p : Pen) → Passes (space_behind b) p
passes_space b p = let x = uses_up_if (b && (p.pending_space && not p.style.minified)) p in record { adds = x.adds; alike = x.alike }

-- ---- annotations

passes_annotation_by : (cs : List Comment) (kind : Annotation) (o : ℕ) (p : Pen) → Passes (annotation_by cs kind o) p
passes_annotation_by [] kind o p = writes (annotation_text kind) other_end p
passes_annotation_by (c ∷ cs) kind o p =
    let p1 : Pen = without_annotation o p in
    passes_then (without_annotation o) (comment_written c) (record { adds = same p p1 refl refl refl; alike = λ s ms. refl }) (passes_comment c p1)

passes_annotation_written : (ends : Bool) (kind : Annotation) (o : ℕ) (p : Pen) → Passes (annotation_written ends kind o) p
passes_annotation_written ends kind o p =
    let test : Bool = code_ends_in 47 p in
    let cs = fitting_at ends kind o p in
    let x = passes_then (λ q. written_if test (codes " ") q) (annotation_by cs kind o) (writes_if test (codes " ") p) (passes_annotation_by cs kind o (written_if test (codes " ") p)) in
    record { adds = x.adds; alike = x.alike }

pub passes_annotation : (start : Start) (kind : Annotation) (o : ℕ) (p : Pen) → Passes (λ q. begun_at start (annotation_at kind o q)) p
passes_annotation start kind o p =
    let p1 : Pen = annotation_written false kind o p in
    let p2 : Pen = written (codes " ") other_end p1 in
    passes_then (annotation_at kind o) (begun_at start) (passes_then (annotation_written false kind o) (λ q. written (codes " ") other_end q) (passes_annotation_written false kind o p) (writes (codes " ") other_end p1)) (begins start p2)

pub passes_annotation_line : (indented : Bool) (o : ℕ) (p : Pen) → Passes (annotation_line_at indented o) p
passes_annotation_line indented o p =
    let p1 : Pen = indented_if indented p in
    passes_then (λ q. annotation_written true no_side_effects o (indented_if indented q)) line_ended (passes_then (indented_if indented) (annotation_written true no_side_effects o) (indents_if indented p) (passes_annotation_written true no_side_effects o p1)) (ends_line_passes (annotation_written true no_side_effects o p1))

-- ---- an object, and before it

passes_soft_line : (p : Pen) → Passes soft_line_ended p
passes_soft_line p = let x = white (not p.style.minified) (codes "\n") p in record { adds = x.adds; alike = x.alike }

-- text that minified text leaves out
passes_softly : (t : List ℕ) (p : Pen) → Passes (λ q. written_if (not q.style.minified) t q) p
passes_softly t p = let x = writes_if (not p.style.minified) t p in record { adds = x.adds; alike = x.alike }

pub passes_member_line : (o : ℕ) (p : Pen) → Passes (member_line_at o) p
passes_member_line o p =
    let line = λ (q : Pen). written_if (not q.style.minified) (codes "\n") q in
    passes_then (λ q. comments_at all_of_them o (line q)) indented_here (passes_then line (comments_at all_of_them o) (passes_softly (codes "\n") p) (passes_comments all_of_them o (line p))) (indents (comments_at all_of_them o (line p)))

pub passes_member_space : (o : ℕ) (p : Pen) → Passes (member_space_at o) p
passes_member_space o p =
    let space = λ (q : Pen). written_if (not q.style.minified) (codes " ") q in
    passes_then space (comments_at with_due_space o) (passes_softly (codes " ") p) (passes_comments with_due_space o (space p))

passes_commented : (b : Bool) (o : ℕ) (p : Pen) → Passes (commented_if b o) p
passes_commented true o p = passes_own o p
passes_commented false o p = record { adds = none p; alike = λ s ms. refl }

-- in parentheses where the first test holds, with comments where the second does
pub passes_opening : (test stand : Bool) (o : ℕ) (p : Pen) → Passes (λ q. begun_at nowhere (commented_if stand o (written_if test (opening Round) q))) p
passes_opening test stand o p =
    let p1 : Pen = written_if test (opening Round) p in
    let p2 : Pen = commented_if stand o p1 in
    passes_then (λ q. commented_if stand o (written_if test (opening Round) q)) (begun_at nowhere) (passes_then (λ q. written_if test (opening Round) q) (commented_if stand o) (writes_if test (opening Round) p) (passes_commented stand o p1)) (begins nowhere p2)

pub passes_closing_round : (test : Bool) (p : Pen) → Passes (λ q. begun_at nowhere (written_if test (closing Round) q)) p
passes_closing_round test p = passes_then (λ q. written_if test (closing Round) q) (begun_at nowhere) (writes_if test (closing Round) p) (begins nowhere (written_if test (closing Round) p))

-- ---- arguments on lines

passes_each_on_line : (cs : List Comment) (p : Pen) → Passes (each_on_line cs) p
passes_each_on_line [] p = record { adds = none p; alike = λ s ms. refl }
passes_each_on_line (c ∷ cs) p =
    let p1 : Pen = indented_here (line_ended p) in
    passes_then (λ q. comment_written c (indented_here (line_ended q))) (each_on_line cs) (passes_then (λ q. indented_here (line_ended q)) (comment_written c) (passes_new_line p) (passes_comment c p1)) (passes_each_on_line cs (comment_written c p1))

passes_broken : (cs : List Comment) (p : Pen) → Passes (broken_by cs) p
passes_broken [] p = passes_soft_line p
passes_broken (c ∷ cs) p = begins_as (λ q. line_ended (each_on_line (c ∷ cs) q)) (passes_then (each_on_line (c ∷ cs)) line_ended (passes_each_on_line (c ∷ cs) p) (ends_line_passes (each_on_line (c ∷ cs) p)))

passes_broken_at : (o : ℕ) (p : Pen) → Passes (broken_at o) p
passes_broken_at o p =
    let cs = group_at o p in
    let p1 : Pen = without_group o p in
    let x = passes_then (λ q. broken_by cs (without_group o q)) indented_here (passes_then (without_group o) (broken_by cs) (passes_taken o p) (passes_broken cs p1)) (indents (broken_by cs p1)) in
    record { adds = x.adds; alike = x.alike }

passes_on_a_line : (at : Break) (p : Pen) → Passes (on_a_line at) p
passes_on_a_line (first_argument o) p = passes_broken_at o p
passes_on_a_line (other_argument o) p = begins_by (λ q. (on_one_line (other_argument o) q).start) (broken_at o) (λ s ms. refl) (passes_broken_at o p)
passes_on_a_line (import_source o) p = passes_broken_at o p
passes_on_a_line import_options p =
    let line = λ (q : Pen). written_if (not q.style.minified) (codes "\n") q in
    passes_then line indented_here (passes_softly (codes "\n") p) (indents (line p))

passes_unless_on_line : (at : Break) (p : Pen) → Passes (unless_on_line at) p
passes_unless_on_line (first_argument o) p = record { adds = none p; alike = λ s ms. refl }
passes_unless_on_line (other_argument o) p = passes_softly (codes " ") p
passes_unless_on_line (import_source o) p = let x = either (are_any (group_at o p)) (broken_at o) (λ q. q) (passes_broken_at o p) (stays p) in record { adds = x.adds; alike = x.alike }
passes_unless_on_line import_options p = passes_softly (codes " ") p

pub passes_break : (at : Break) (p : Pen) → Passes (break_at at) p
passes_break at p = let x = either p.lines (on_a_line at) (unless_on_line at) (passes_on_a_line at p) (passes_unless_on_line at p) in record { adds = x.adds; alike = x.alike }

any_alike : (os : List ℕ) (s : Option (List ℕ)) (ms : List Mark) (p : Pen) → any_group os (bare s ms p) ≡ any_group os p
any_alike [] s ms p = refl
any_alike (o ∷ os) s ms p = ap (λ b. are_any (group_at o p) || b) (any_alike os s ms p)

pub ending_alike : (last : Option ℕ) (s : Option (List ℕ)) (ms : List Mark) (q : Pen) → ending_at last (bare s ms q) ≡ ending_at last q
ending_alike None s ms q = refl
ending_alike (Some o) s ms q = refl

may_alike : (lines : Lines) (s : Option (List ℕ)) (ms : List Mark) (p : Pen) → may_be_lined lines (bare s ms p).style ≡ may_be_lined lines p.style
may_alike (of_call quoted) s ms p = refl
may_alike of_import s ms p = refl

-- whether they stand on lines is asked of neither
pub lined_alike : (lines : Lines) (starts : List ℕ) (end : ℕ) (s : Option (List ℕ)) (ms : List Mark) (p : Pen) → are_lined lines starts end (bare s ms p) ≡ are_lined lines starts end p
lined_alike lines starts end s ms p = let e = may_alike lines s ms p in let f = ending_alike (last_byte end) s ms p in let g = any_alike starts s ms p in λ i. e i && (are_any (f i) || g i)

pub passes_opened : (b : Bool) (p : Pen) → Passes (lines_opened b) p
passes_opened true p = record { adds = same p (lines_opened true p) refl refl refl; alike = λ s ms. refl }
passes_opened false p = record { adds = same p (lines_opened false p) refl refl refl; alike = λ s ms. refl }

passes_last_break : (last : Option ℕ) (p : Pen) → Passes (λ q. broken_by (ending_at last q) (without_ending last q)) p
passes_last_break None p = passes_broken [] p
passes_last_break (Some n) p =
    let x = passes_then (without_group n) (broken_by (group_at n p)) (passes_taken n p) (passes_broken (group_at n p) (without_group n p)) in
    record { adds = x.adds; alike = x.alike }

passes_back_to : (depth : ℕ) (outer : Bool) (p : Pen) → Passes (λ q. at_level depth (with_lines outer q)) p
passes_back_to depth outer p = record { adds = same p (at_level depth (with_lines outer p)) refl refl refl; alike = λ s ms. refl }

pub passes_closed : (b : Bool) (lines : Lines) (end depth : ℕ) (outer : Bool) (p : Pen) → Passes (lines_closed b lines end depth outer) p
passes_closed true lines end depth outer p =
    let last = last_byte end in
    let p1 : Pen = broken_by (ending_at last p) (without_ending last p) in
    let p2 : Pen = at_level depth (with_lines outer p1) in
    passes_then (λ q. at_level depth (with_lines outer (broken_by (ending_at last q) (without_ending last q)))) (indented_if (are_indented lines)) (passes_then (λ q. broken_by (ending_at last q) (without_ending last q)) (λ q. at_level depth (with_lines outer q)) (passes_last_break last p) (passes_back_to depth outer p1)) (indents_if (are_indented lines) p2)
passes_closed false lines end depth outer p = record { adds = same p (with_lines outer p) refl refl refl; alike = λ s ms. refl }
