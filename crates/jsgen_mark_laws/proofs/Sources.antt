-- With a source or without, the text, the comments and all that matters to what follows is the same.
use Rattle.std.proofs.Common.{◌≡◌, ℕ, Bool, true, false, ◌&&◌, ◌||◌, List, Option, refl, ap, ◌∙◌, if◌then◌else◌, not}
use Rattle.jsgen_map.specs.Marks.{Mark}
use Rattle.jsgen_syntax.specs.declared.span.Span.{Span}
use Rattle.jsgen_model.specs.Punctuator.{Round, opening, closing}
use Rattle.jsgen_model.specs.Items.{Items, ◌⊕◌, name, private_name, template_part, indentation, deeper, in_class, brackets, wrapped, wrapped_at_start, parentheses_unless_minified, unless_minified, where_same, statement_end, mark, end_mark, link_mark, marked_word, marked_operator, marked_number, marked_indentation, comments, orphans, orphan_lines, empty_body, held, lined_case, caught, all_of_them, annotation, annotation_line, annotated, is_pure, commented, member_line, member_space, in_lines, line_break, Lead, to_block, to_body, to_empty}
use Rattle.jsgen_tree.specs.Options.{Legal}
use Rattle.jsgen_model.specs.Comments.{Comment, are_any}
use Rattle.jsgen_model.specs.Ends.{licensed}
use Rattle.jsgen_model.specs.Groups.{comments_at, group_at, has_orphans, last_byte, ending_at, without_ending, closing_group, case_begun, case_ended, space_behind, are_lined, lines_opened, lines_closed}
use Rattle.jsgen_model.specs.Layout.{Pen, Start, nowhere, begun_at, other_end, written, written_if, is_barred, deeper_level, entered, end_statement, are_printed_alike}
use Rattle.jsgen_model.specs.Lay.{lay, span_mark, lifts, annotated_if, is_enclosed, commented_from, case_mark, stood, before_block}
use Rattle.jsgen_mark_laws.specs.Law.{with_source}
use Rattle.jsgen_mark_laws.proofs.Comments.{Passes, bare, indentation_alike, passes_comments, passes_orphans, passes_lines_of_orphans, passes_empty_body, passes_without, passes_closing, passes_begun, passes_ended, passes_space, passes_licences, ending_alike, passes_annotation, passes_annotation_line, passes_opening, passes_closing_round, passes_member_line, passes_member_space, passes_opened, passes_closed, passes_break, lined_alike}

-- the same pen but for its source and its marks
record Alike (s : Option (List ℕ)) (a b : Pen) : Type 0 where
  marks : List Mark
  same : a ≡ bare s marks b

either_alike : (t : Bool) {s : Option (List ℕ)} {a b c d : Pen} → Alike s a c → Alike s b d → Alike s (if t then a else b) (if t then c else d)
either_alike true h k = h
either_alike false h k = k

end_alike : (b : Bool) (s : Option (List ℕ)) (ms : List Mark) (q : Pen) → end_statement b (bare s ms q) ≡ bare s ms (end_statement b q)
end_alike true s ms q = refl
end_alike false s ms q = refl

-- a step that looks at neither, before and behind
going : {s : Option (List ℕ)} {a b : Pen} (f : Pen → Pen) → Alike s a b → Passes f b → Alike s (f a) (f b)
going {s} f x p = record { marks = x.marks; same = ap f x.same ∙ p.alike s x.marks }

-- in parentheses where the test holds
around : (test : Bool) {s : Option (List ℕ)} {a b : Pen} → Alike s a b → Alike s (written_if test (closing Round) a) (written_if test (closing Round) b)
around test x = record { marks = x.marks; same = ap (λ p. written_if test (closing Round) p) x.same }

case_alike : (long : Bool) (lead : Lead) (s : Option (List ℕ)) (ms : List Mark) (q : Pen) → Alike s (case_mark long lead (bare s ms q)) (case_mark long lead q)
case_alike true to_block s ms q = record { marks = ms; same = refl }
case_alike true to_body s ms q = record { marks = ms; same = refl }
case_alike true (to_empty span) s ms q = record { marks = (case_mark true (to_empty span) (bare s ms q)).marks; same = refl }
case_alike false lead s ms q = record { marks = ms; same = refl }

block_alike : (before : Bool) (o : ℕ) (s : Option (List ℕ)) (ms : List Mark) (q : Pen) → before_block before o (bare s ms q) ≡ bare s ms (before_block before o q)
block_alike before o s ms q =
    let test : Bool = stood before o q in
    ap (space_behind test) ((passes_comments all_of_them o q).alike s ms) ∙ (passes_space test (comments_at all_of_them o q)).alike s ms

annotated_alike : (on : Bool) (span : Span) (o : ℕ) (start : Start) (s : Option (List ℕ)) (ms : List Mark) (q : Pen) → Alike s (annotated_if on span o start (bare s ms q)) (annotated_if on span o start q)
annotated_alike true span o start s ms q =
    let marks : List Mark = (span_mark span (bare s ms q)).marks in
    record { marks = marks; same = (passes_annotation start is_pure o (span_mark span q)).alike s marks }
annotated_alike false span o start s ms q = record { marks = ms; same = refl }

alike : (items : Items) (s : Option (List ℕ)) (ms : List Mark) (q : Pen) → Alike s (lay items (bare s ms q)) (lay items q)
alike (a ⊕ b) s ms q =
    let x = alike a s ms q in
    let y = alike b s x.marks (lay a q) in
    record { marks = y.marks; same = ap (lay b) x.same ∙ y.same }
alike (deeper items) s ms q =
    let x = alike items s ms (record q { depth = deeper_level q.style.minified q.depth }) in
    record { marks = x.marks; same = ap {A = Pen} (λ p. record p { depth = q.depth }) x.same }
alike (in_class items) s ms q =
    let x = alike items s ms (entered q) in
    record { marks = x.marks; same = ap {A = Pen} (λ p. record p { classes = q.classes }) x.same }
alike (brackets b items) s ms q =
    let x = alike items s ms (written (opening b) other_end q) in
    record { marks = x.marks; same = ap (λ p. written (closing b) other_end p) x.same }
alike (wrapped test items) s ms q = around test (alike items s ms (written_if test (opening Round) q))
alike (wrapped_at_start own opener items) s ms q = let test : Bool = own || is_barred opener q.start in around test (alike items s ms (written_if test (opening Round) q))
alike (parentheses_unless_minified items) s ms q = let test : Bool = not q.style.minified in around test (alike items s ms (written_if test (opening Round) q))
alike (unless_minified items) s ms q = either_alike q.style.minified (record { marks = ms; same = refl }) (alike items s ms q)
alike (where_same m n a b) s ms q = either_alike (are_printed_alike q.style.tables m n) (alike a s ms q) (alike b s ms q)
alike (comments manner o) s ms q = record { marks = ms; same = (passes_comments manner o q).alike s ms }
alike (orphans o) s ms q = record { marks = ms; same = (passes_orphans o q).alike s ms }
alike (orphan_lines o) s ms q = record { marks = ms; same = (passes_lines_of_orphans o q).alike s ms }
alike (empty_body o) s ms q = record { marks = ms; same = (passes_empty_body o q).alike s ms }
alike (held o items) s ms q =
    let last = last_byte o in
    let x = alike items s ms (without_ending last q) in
    let y : Alike s (lay items (without_ending last (bare s ms q))) (lay items (without_ending last q)) = record { marks = x.marks; same = ap (lay items) ((passes_without last q).alike s ms) ∙ x.same } in
    let z = going (closing_group (ending_at last q)) y (passes_closing (ending_at last q) (lay items (without_ending last q))) in
    record { marks = z.marks; same = ap (λ cs. closing_group cs (lay items (without_ending last (bare s ms q)))) (ending_alike last s ms q) ∙ z.same }
alike (lined_case only items) s ms q =
    let long : Bool = has_orphans only.start q in
    let p1 : Pen = case_begun long only.lead only.start q in
    let m = case_alike long only.lead s ms p1 in
    let x = alike items s m.marks (case_mark long only.lead p1) in
    let y : Alike s (lay items (case_mark long only.lead (case_begun long only.lead only.start (bare s ms q)))) (lay items (case_mark long only.lead p1)) = record { marks = x.marks; same = ap (λ p. lay items (case_mark long only.lead p)) ((passes_begun long only.lead only.start q).alike s ms) ∙ (ap (lay items) m.same ∙ x.same) } in
    going (case_ended long q.depth only.end) y (passes_ended long q.depth only.end (lay items (case_mark long only.lead p1)))
alike (caught start body items) s ms q =
    let p1 : Pen = comments_at all_of_them start q in
    let x = alike items s ms p1 in
    let before : Bool = are_any (group_at start q) in
    let r : Pen = lay items p1 in
    let y : Alike s (lay items (comments_at all_of_them start (bare s ms q))) r = record { marks = x.marks; same = ap (lay items) ((passes_comments all_of_them start q).alike s ms) ∙ x.same } in
    record { marks = y.marks; same = ap (before_block before body) y.same ∙ block_alike before body s y.marks r }
alike (annotation test kind o) s ms q = either_alike (test && q.style.annotated) (record { marks = ms; same = (passes_annotation q.start kind o q).alike s ms }) (record { marks = ms; same = refl })
alike (annotation_line indented test o) s ms q = either_alike (test && q.style.annotated) (record { marks = ms; same = (passes_annotation_line indented o q).alike s ms }) (record { marks = ms; same = refl })
alike (annotated call items) s ms q =
    let wraps : Bool = lifts call q || call.wrapped in
    let on : Bool = call.pure && q.style.annotated in
    let p1 : Pen = written_if wraps (opening Round) q in
    let a = annotated_alike on call.span call.start q.start s ms p1 in
    let x = alike items s a.marks (annotated_if on call.span call.start q.start p1) in
    let y : Alike s (lay items (annotated_if on call.span call.start q.start (written_if wraps (opening Round) (bare s ms q)))) (lay items (annotated_if on call.span call.start q.start p1)) = record { marks = x.marks; same = ap (lay items) a.same ∙ x.same } in
    around wraps y
alike (commented o items) s ms q =
    let test : Bool = is_enclosed o q in
    let stand : Bool = are_any (group_at o q) in
    let p1 : Pen = commented_from o q in
    let x = alike items s ms p1 in
    let y : Alike s (lay items (commented_from o (bare s ms q))) (lay items p1) = record { marks = x.marks; same = ap (lay items) ((passes_opening test stand o q).alike s ms) ∙ x.same } in
    going (λ p. begun_at nowhere (written_if test (closing Round) p)) y (passes_closing_round test (lay items p1))
alike (member_line o) s ms q = record { marks = ms; same = (passes_member_line o q).alike s ms }
alike (member_space o) s ms q = record { marks = ms; same = (passes_member_space o q).alike s ms }
alike (in_lines lines starts end items) s ms q =
    let lined : Bool = are_lined lines starts end q in
    let p1 : Pen = lines_opened lined q in
    let x = alike items s ms p1 in
    let y : Alike s (lay items (lines_opened lined (bare s ms q))) (lay items p1) = record { marks = x.marks; same = ap (lay items) ((passes_opened lined q).alike s ms) ∙ x.same } in
    let z = going (lines_closed lined lines end q.depth q.lines) y (passes_closed lined lines end q.depth q.lines (lay items p1)) in
    record { marks = z.marks; same = ap (λ b. lines_closed b lines end q.depth q.lines (lay items (lines_opened b (bare s ms q)))) (lined_alike lines starts end s ms q) ∙ z.same }
alike (line_break at) s ms q = record { marks = ms; same = (passes_break at q).alike s ms }
alike indentation s ms q = record { marks = ms; same = indentation_alike q.style.minified s ms q }
alike (marked_indentation always span) s ms q =
    let marks : List Mark = (lay (marked_indentation always span) (bare s ms q)).marks in
    record { marks = marks; same = ap {A = Pen} (λ p. record p { marks = marks }) (indentation_alike q.style.minified s ms q) }
alike statement_end s ms q = record { marks = ms; same = end_alike q.style.minified s ms q }
alike (name span n) s ms q = record { marks = (lay (name span n) (bare s ms q)).marks; same = refl }
alike (private_name span w) s ms q = record { marks = (lay (private_name span w) (bare s ms q)).marks; same = refl }
alike (template_part part tagged span raw) s ms q = record { marks = (lay (template_part part tagged span raw) (bare s ms q)).marks; same = refl }
alike (mark span) s ms q = record { marks = (lay (mark span) (bare s ms q)).marks; same = refl }
alike (end_mark span) s ms q = record { marks = (lay (end_mark span) (bare s ms q)).marks; same = refl }
alike (link_mark span) s ms q = record { marks = (lay (link_mark span) (bare s ms q)).marks; same = refl }
alike (marked_word span w) s ms q = record { marks = (lay (marked_word span w) (bare s ms q)).marks; same = refl }
alike (marked_operator span p) s ms q = record { marks = (lay (marked_operator span p) (bare s ms q)).marks; same = refl }
alike (marked_number span dot_is_its_own w) s ms q = record { marks = (lay (marked_number span dot_is_its_own w) (bare s ms q)).marks; same = refl }
alike item s ms q = record { marks = ms; same = refl }

-- and with what stands at the end
pub ended_alike : (items : Items) (legal : Legal) (cs : List Comment) (p : Pen) (s : Option (List ℕ)) → (licensed legal cs (lay items (with_source s p))).code ≡ (licensed legal cs (lay items p)).code
ended_alike items legal cs p s =
    let x = alike items s p.marks p in
    ap (λ q. (licensed legal cs q).code) x.same ∙ ap (λ q. q.code) ((passes_licences legal cs (lay items p)).alike s x.marks)

pub sources_are_alike : (items : Items) (p : Pen) (s : Option (List ℕ)) → (lay items (with_source s p)).code ≡ (lay items p).code
sources_are_alike items p s = ap (λ q. q.code) (alike items s p.marks p).same
