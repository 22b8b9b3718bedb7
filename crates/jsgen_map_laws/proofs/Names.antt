-- Each name that a mark has is what the source has where another name is printed.
use Rattle.std.proofs.Common.{◌≡◌, ℕ, Bool, true, false, ◌&&◌, ◌||◌, List, [], ◌∷◌, ◌++◌, Option, Some, None, refl, ap, sym, subst, ◌∙◌, append_assoc, append-nil, if◌then◌else◌, not}
use Rattle.std.specs.Prelude.{All, Contains, encode_utf8_all}
use Rattle.std.specs.Option.{IfSome}
use Rattle.std.specs.Str.{bytes_eq}
use Rattle.std.proofs.lemmas.List.Elements.{All-nil, All-cons, All-head, All-tail, All-append, Contains-append_left, Contains-append_right, Contains-push}
use Rattle.std.proofs.lemmas.Bool.{both_ways}
use Rattle.std.proofs.lemmas.Slice.Eq.{bytes_eq-Decides}
use Rattle.jsgen_syntax.specs.declared.span.Span.{Span}
use Rattle.jsgen_tree.specs.Named.{printed_name}
use Rattle.jsgen_model.specs.Punctuator.{Round, opening}
use Rattle.jsgen_model.specs.Items.{Items, ◌⊕◌, name, private_name, template_part, indentation, deeper, in_class, brackets, wrapped, wrapped_at_start, parentheses_unless_minified, unless_minified, where_same, statement_end, mark, end_mark, link_mark, marked_word, marked_operator, marked_number, marked_indentation, comments, orphans, orphan_lines, empty_body, held, lined_case, caught, all_of_them, Lead, to_block, to_body, to_empty, annotation, annotation_line, annotated, is_pure, commented, member_line, member_space, in_lines, line_break}
use Rattle.jsgen_map.specs.Marks.{Mark, last_offset, is_last, unless_last}
use Rattle.jsgen_model.specs.Marks.{size, name_text_at, other_than, other_name_in, has_start_mark, has_end_mark, end_offset, has_link_mark}
use Rattle.jsgen_model.specs.Layout.{Pen, Start, other_end, written, written_if, is_barred, deeper_level, entered, end_statement, at_indentation, are_printed_alike}
use Rattle.jsgen_model.specs.Lay.{lay, lifts, annotated_if, is_enclosed, commented_from, case_mark, stood, marked_if, name_mark, mark_behind, may_be_indented, has_piece_mark, spaced, parted, part_opening, span_mark}
use Rattle.jsgen_model.specs.Private.{printed_private}
use Rattle.jsgen_model.specs.Comments.{are_any}
use Rattle.jsgen_model.specs.Groups.{has_orphans, group_at, comments_at, case_begun, last_byte, ending_at, without_ending, are_lined, lines_opened}
use Rattle.jsgen_mark_laws.proofs.Comments.{indents, marks_kept, passes_comments, passes_orphans, passes_lines_of_orphans, passes_empty_body, passes_without, passes_closing, passes_begun, passes_ended, passes_space, passes_annotation, passes_annotation_line, passes_opening, passes_closing_round, passes_member_line, passes_member_space, passes_opened, passes_closed, passes_break}
use Rattle.jsgen_mark_laws.proofs.Marked.{step_then, written_if_step}
use Rattle.jsgen_mark_laws.proofs.Names.{source_behind}
use Rattle.jsgen_mark_laws.proofs.Steps.{lay_steps, mark_step, annotated_step}
use Rattle.jsgen_map_laws.specs.Printed.{PrintedName, printed_from, printed_names}
use Rattle.jsgen_map_laws.specs.Law.{IsNameOf, AddsNamesOf}

-- ---- marks whose names are names that are printed

abbrev HasNameOf : List ℕ → List PrintedName → Mark → Type 0
HasNameOf src ns m = IfSome m.name (IsNameOf src ns m)

abbrev HaveNamesOf : List ℕ → List PrintedName → List Mark → Type 0
HaveNamesOf src ns ms = All (HasNameOf src ns) ms

-- among more names, too
has_more : (src : List ℕ) (ms ns : List PrintedName) → ((n : PrintedName) → Contains ms n → Contains ns n) → (m : Mark) (was : Option (List ℕ)) → IfSome was (IsNameOf src ms m) → IfSome was (IsNameOf src ns m)
has_more src ms ns more m None h = tt
has_more src ms ns more m (Some was) h = record { printed = h.printed; among = more h.printed h.among; stands = h.stands; leads = h.leads; was = h.was }

have_more : (src : List ℕ) (ms ns : List PrintedName) → ((n : PrintedName) → Contains ms n → Contains ns n) → (marks : List Mark) → HaveNamesOf src ms marks → HaveNamesOf src ns marks
have_more src ms ns more [] h = All-nil (HasNameOf src ns)
have_more src ms ns more (m ∷ marks) h = All-cons (HasNameOf src ns) m marks (has_more src ms ns more m m.name (All-head (HasNameOf src ms) m marks h)) (have_more src ms ns more marks (All-tail (HasNameOf src ms) m marks h))

-- ---- steps

-- one step behind the other
names_then : {p q r : Pen} (src : List ℕ) (ms ns : List PrintedName) → AddsNamesOf src ms p q → AddsNamesOf src ns q r → AddsNamesOf src (ms ++ ns) p r
names_then {p} {q} {r} src ms ns a b = record {
  more = a.more ++ b.more;
  marks = b.marks ∙ (ap (λ x. x ++ b.more) a.marks ∙ append_assoc p.marks a.more b.more);
  named = All-append (HasNameOf src (ms ++ ns)) a.more b.more
      (have_more src ms (ms ++ ns) (Contains-append_left ms ns) a.more a.named)
      (have_more src ns (ms ++ ns) (Contains-append_right ms ns) b.more b.named);
}

-- a step that leaves no mark
quiet : (src : List ℕ) (p q : Pen) → q.marks ≡ p.marks → AddsNamesOf src [] p q
quiet src p q e = record { more = []; marks = e ∙ sym (append-nil p.marks); named = All-nil (HasNameOf src []) }

-- names, with steps round them that print none
names_round : {p a b q : Pen} (src : List ℕ) (ns : List PrintedName) → AddsNamesOf src [] p a → AddsNamesOf src ns a b → b.marks ≡ q.marks → AddsNamesOf src ns p q
names_round {p} {a} {b} {q} src ns s h e = let both = names_then src [] ns s h in record { more = both.more; marks = sym e ∙ both.marks; named = both.named }

-- a mark behind the last, if it has another offset
one_added : (src : List ℕ) (ns : List PrintedName) (p : Pen) (m : Mark) (last : Bool) → HasNameOf src ns m → AddsNamesOf src ns p (record p { marks = unless_last last m p.marks })
one_added src ns p m true h = record { more = []; marks = sym (append-nil p.marks); named = All-nil (HasNameOf src ns) }
one_added src ns p m false h = record { more = m ∷ []; marks = refl; named = All-cons (HasNameOf src ns) m [] h (All-nil (HasNameOf src ns)) }

marked : (src : List ℕ) (ns : List PrintedName) (test : Bool) (o : ℕ) (called : Option (List ℕ)) (p : Pen) → HasNameOf src ns (record { bytes = size p.code; offset = o; name = called }) → AddsNamesOf src ns p (marked_if test o called p)
marked src ns true o called p h = one_added src ns p (record { bytes = size p.code; offset = o; name = called }) (is_last (last_offset p.marks) o) h
marked src ns false o called p h = record { more = []; marks = sym (append-nil p.marks); named = All-nil (HasNameOf src ns) }

-- one without a name
unnamed : (src : List ℕ) (test : Bool) (o : ℕ) (p : Pen) → AddsNamesOf src [] p (marked_if test o None p)
unnamed src test o p = marked src [] test o None p tt

behind : (src : List ℕ) (test : Bool) (span : Span) (p : Pen) → AddsNamesOf src [] p (mark_behind test span p)
behind src test span p = unnamed src (test && has_start_mark p.style.source span) span.start p

-- one with the name that is printed there, if the source has another
named_there : (src : List ℕ) (span : Span) (w : List ℕ) (p : Pen) (m : Mark) → m.bytes ≡ size p.code → m.offset ≡ span.start → IfSome (other_name_in (Some src) span w) (IsNameOf src (printed_from p span w ∷ []) m)
named_there src span w p m bytes offset = there (name_text_at src span) refl
  where
    other : (was : List ℕ) → name_text_at src span ≡ Some was → (b : Bool) → bytes_eq was (encode_utf8_all w) ≡ b → IfSome (if b then None else Some was) (IsNameOf src (printed_from p span w ∷ []) m)
    other was e true f = tt
    other was e false f = record {
      printed = printed_from p span w;
      among = Contains-push [] (printed_from p span w);
      stands = sym bytes;
      leads = sym offset;
      was = record { stood = e; renamed = λ same. both_ways (bytes_eq was (encode_utf8_all w)) f ((bytes_eq-Decides was (encode_utf8_all w)).1 (sym same)) };
    }

    there : (o : Option (List ℕ)) → name_text_at src span ≡ o → IfSome (other_than o w) (IsNameOf src (printed_from p span w ∷ []) m)
    there None e = tt
    there (Some was) e = other was e (bytes_eq was (encode_utf8_all w)) refl

name_added : (src : List ℕ) (span : Span) (w : List ℕ) (p : Pen) → p.style.source ≡ Some src → AddsNamesOf src (printed_from p span w ∷ []) p (name_mark span w p)
name_added src span w p e =
    marked src (printed_from p span w ∷ []) (has_start_mark p.style.source span) span.start (other_name_in p.style.source span w) p
    (subst (λ s. HasNameOf src (printed_from p span w ∷ []) (record { bytes = size p.code; offset = span.start; name = other_name_in s span w })) (sym e) (named_there src span w p (record { bytes = size p.code; offset = span.start; name = other_name_in (Some src) span w }) refl refl))

-- ---- steps of items

mark_named : (src : List ℕ) (long : Bool) (lead : Lead) (p : Pen) → AddsNamesOf src [] p (case_mark long lead p)
mark_named src true to_block p = quiet src p p refl
mark_named src true to_body p = quiet src p p refl
mark_named src true (to_empty span) p = unnamed src (has_start_mark p.style.source span) span.start p
mark_named src false lead p = quiet src p p refl

annotated_named : (src : List ℕ) (on : Bool) (span : Span) (o : ℕ) (start : Start) (p : Pen) → AddsNamesOf src [] p (annotated_if on span o start p)
annotated_named src true span o start p =
    names_round src [] (quiet src p p refl) (unnamed src (has_start_mark p.style.source span) span.start p) (sym (marks_kept (passes_annotation start is_pure o (span_mark span p))))
annotated_named src false span o start p = quiet src p p refl

one_of : (src : List ℕ) (test : Bool) {p a b : Pen} {ms ns : List PrintedName} → AddsNamesOf src ms p a → AddsNamesOf src ns p b → AddsNamesOf src (if test then ms else ns) p (if test then a else b)
one_of src true h k = h
one_of src false h k = k

-- where neither has a name
either : (src : List ℕ) (test : Bool) {p a b : Pen} → AddsNamesOf src [] p a → AddsNamesOf src [] p b → AddsNamesOf src [] p (if test then a else b)
either src true h k = h
either src false h k = k

ended_marks : (minified : Bool) (p : Pen) → (end_statement minified p).marks ≡ p.marks
ended_marks true p = refl
ended_marks false p = refl

abbrev Named : List ℕ → Items → Pen → Type 0
Named src items p = p.style.source ≡ Some src → AddsNamesOf src (printed_names items p) p (lay items p)

in_parentheses : (src : List ℕ) (test : Bool) (items : Items) (p : Pen) → Named src items (written_if test (opening Round) p) → Named src (wrapped test items) p
in_parentheses src test items p inside e =
    let p1 : Pen = written_if test (opening Round) p in
    names_round src (printed_names items p1) (quiet src p p1 refl) (inside e) refl

pub names_added : (src : List ℕ) (items : Items) (p : Pen) → Named src items p
names_added src (a ⊕ b) p e = names_then src (printed_names a p) (printed_names b (lay a p)) (names_added src a p e) (names_added src b (lay a p) (source_behind src (lay_steps a p) e))
names_added src (name span n) p e =
    let w = printed_name p.style.tables n in
    let p1 : Pen = spaced p in
    names_round src (printed_from p1 span w ∷ []) (quiet src p p1 refl) (name_added src span w p1 e) refl
names_added src (private_name span w) p e =
    let own = 35 ∷ printed_private p.style.tables p.classes w in
    names_round src (printed_from p span own ∷ []) (quiet src p p refl) (name_added src span own p e) refl
names_added src (deeper items) p e =
    let p1 : Pen = record p { depth = deeper_level p.style.minified p.depth } in
    names_round src (printed_names items p1) (quiet src p p1 refl) (names_added src items p1 e) refl
names_added src (in_class items) p e = names_round src (printed_names items (entered p)) (quiet src p (entered p) refl) (names_added src items (entered p) e) refl
names_added src (brackets b items) p e =
    let p1 : Pen = written (opening b) other_end p in
    names_round src (printed_names items p1) (quiet src p p1 refl) (names_added src items p1 e) refl
names_added src (wrapped test items) p e = in_parentheses src test items p (names_added src items (written_if test (opening Round) p)) e
names_added src (wrapped_at_start own opener items) p e = let test : Bool = own || is_barred opener p.start in in_parentheses src test items p (names_added src items (written_if test (opening Round) p)) e
names_added src (parentheses_unless_minified items) p e = let test : Bool = not p.style.minified in in_parentheses src test items p (names_added src items (written_if test (opening Round) p)) e
names_added src (unless_minified items) p e = one_of src p.style.minified (quiet src p p refl) (names_added src items p e)
names_added src (where_same m n a b) p e = one_of src (are_printed_alike p.style.tables m n) (names_added src a p e) (names_added src b p e)
names_added src (held o items) p e =
    let p1 : Pen = without_ending (last_byte o) p in
    let s = passes_without (last_byte o) p in
    names_round src (printed_names items p1) (quiet src p p1 (marks_kept s)) (names_added src items p1 (source_behind src s.adds e)) (sym (marks_kept (passes_closing (ending_at (last_byte o) p) (lay items p1))))
names_added src (lined_case only items) p e =
    let long : Bool = has_orphans only.start p in
    let p1 : Pen = case_begun long only.lead only.start p in
    let p2 : Pen = case_mark long only.lead p1 in
    let s = passes_begun long only.lead only.start p in
    names_round src (printed_names items p2) (names_then src [] [] (quiet src p p1 (marks_kept s)) (mark_named src long only.lead p1)) (names_added src items p2 (source_behind src (step_then s.adds (mark_step long only.lead p1)) e)) (sym (marks_kept (passes_ended long p.depth only.end (lay items p2))))
names_added src (caught start body items) p e =
    let p1 : Pen = comments_at all_of_them start p in
    let s = passes_comments all_of_them start p in
    let q : Pen = lay items p1 in
    let before : Bool = are_any (group_at start p) in
    names_round src (printed_names items p1) (quiet src p p1 (marks_kept s)) (names_added src items p1 (source_behind src s.adds e))
    (sym (marks_kept (passes_space (stood before body q) (comments_at all_of_them body q)) ∙ marks_kept (passes_comments all_of_them body q)))
names_added src (annotated call items) p e =
    let wraps : Bool = lifts call p || call.wrapped in
    let on : Bool = call.pure && p.style.annotated in
    let p1 : Pen = written_if wraps (opening Round) p in
    let p2 : Pen = annotated_if on call.span call.start p.start p1 in
    names_round src (printed_names items p2) (names_then src [] [] (quiet src p p1 refl) (annotated_named src on call.span call.start p.start p1)) (names_added src items p2 (source_behind src (step_then (written_if_step wraps (opening Round) p) (annotated_step on call.span call.start p.start p1)) e)) refl
names_added src (commented o items) p e =
    let test : Bool = is_enclosed o p in
    let stand : Bool = are_any (group_at o p) in
    let p1 : Pen = commented_from o p in
    let s = passes_opening test stand o p in
    names_round src (printed_names items p1) (quiet src p p1 (marks_kept s)) (names_added src items p1 (source_behind src s.adds e)) (sym (marks_kept (passes_closing_round test (lay items p1))))
names_added src (in_lines lines starts end items) p e =
    let lined : Bool = are_lined lines starts end p in
    let p1 : Pen = lines_opened lined p in
    let s = passes_opened lined p in
    names_round src (printed_names items p1) (quiet src p p1 (marks_kept s)) (names_added src items p1 (source_behind src s.adds e)) (sym (marks_kept (passes_closed lined lines end p.depth p.lines (lay items p1))))
names_added src (template_part part tagged span raw) p e =
    let p1 : Pen = written (part_opening part) other_end p in
    names_round src [] (quiet src p p1 refl) (unnamed src (has_piece_mark part p.style.source span) span.start p1) refl
names_added src (mark span) p e = unnamed src (has_start_mark p.style.source span) span.start p
names_added src (end_mark span) p e = unnamed src (has_end_mark p.style.source span) (end_offset p.style.source span) p
names_added src (link_mark span) p e = unnamed src (has_link_mark p.style.source span p.code) span.end p
names_added src (marked_word span w) p e = names_round src [] (quiet src p (spaced p) refl) (unnamed src (has_start_mark p.style.source span) span.start (spaced p)) refl
names_added src (marked_operator span sign) p e = names_round src [] (quiet src p (parted sign p) refl) (unnamed src (has_start_mark p.style.source span) span.start (parted sign p)) refl
names_added src (marked_number span dot_is_its_own w) p e = names_round src [] (quiet src p (spaced p) refl) (unnamed src (has_start_mark p.style.source span) span.start (spaced p)) refl
names_added src (marked_indentation always span) p e =
    let p1 : Pen = at_indentation p.style.minified p in
    names_round src [] (quiet src p p1 (marks_kept (indents p))) (behind src (may_be_indented always p) span p1) refl
names_added src indentation p e = quiet src p _ (marks_kept (indents p))
names_added src statement_end p e = quiet src p _ (ended_marks p.style.minified p)
names_added src (comments manner o) p e = quiet src p _ (marks_kept (passes_comments manner o p))
names_added src (orphans o) p e = quiet src p _ (marks_kept (passes_orphans o p))
names_added src (orphan_lines o) p e = quiet src p _ (marks_kept (passes_lines_of_orphans o p))
names_added src (empty_body o) p e = quiet src p _ (marks_kept (passes_empty_body o p))
names_added src (annotation test kind o) p e = either src (test && p.style.annotated) (quiet src p _ (marks_kept (passes_annotation p.start kind o p))) (quiet src p p refl)
names_added src (annotation_line indented test o) p e = either src (test && p.style.annotated) (quiet src p _ (marks_kept (passes_annotation_line indented o p))) (quiet src p p refl)
names_added src (member_line o) p e = quiet src p _ (marks_kept (passes_member_line o p))
names_added src (member_space o) p e = quiet src p _ (marks_kept (passes_member_space o p))
names_added src (line_break at) p e = quiet src p _ (marks_kept (passes_break at p))
names_added src item p e = quiet src p (lay item p) refl
