-- Marks stand in order, and names where their marks are, for all items.
use Rattle.std.proofs.Common.{◌≡◌, ℕ, ◌+◌, ◌≤◌, Bool, true, false, ◌&&◌, ◌||◌, List, [], ◌∷◌, ◌++◌, Option, Some, None, is_some, refl, ap, sym, subst, ◌∙◌, arith, append_assoc, append-nil, if◌then◌else◌, not}
use Rattle.std.proofs.lemmas.Bool.{both_ways}
use Rattle.jsgen_syntax.specs.Escapes.{name_text}
use Rattle.jsgen_syntax.specs.declared.span.Span.{Span}
use Rattle.jsgen_tree.specs.Named.{printed_name}
use Rattle.jsgen_model.specs.Punctuator.{Round, opening, closing}
use Rattle.jsgen_model.specs.Items.{Items, ◌⊕◌, name, private_name, deeper, in_class, brackets, wrapped, wrapped_at_start, parentheses_unless_minified, unless_minified, where_same, held, lined_case, caught, all_of_them, annotated, commented, in_lines}
use Rattle.jsgen_map.specs.Marks.{Mark, Ordered, OffsetsDiffer, last_from, last_offset, is_last, unless_last}
use Rattle.jsgen_model.specs.Marks.{size, has_start_mark, other_name_in}
use Rattle.jsgen_model.specs.Layout.{Pen, other_end, written, written_if, is_barred, deeper_level, entered, are_printed_alike}
use Rattle.jsgen_model.specs.Lay.{lay, lifts, annotated_if, is_enclosed, commented_from, case_mark, marked_if, name_mark, spaced}
use Rattle.jsgen_model.specs.Private.{printed_private}
use Rattle.jsgen_mark_laws.specs.Law.{Adds, ArePlaced, Right}
use Rattle.jsgen_mark_laws.specs.Names.{NameText, names_of, printed_at, last_before, StandsAt, NamePlaces}
use Rattle.jsgen_mark_laws.proofs.Sizes.{size_append, size_some, longer}
use Rattle.jsgen_mark_laws.proofs.Marks.{ordered_append, parted_append, was_last, before_longer, before_end, last_is}
use Rattle.jsgen_model.specs.Comments.{are_any}
use Rattle.jsgen_model.specs.Groups.{has_orphans, group_at, comments_at, case_begun, last_byte, ending_at, without_ending, are_lined, lines_opened}
use Rattle.jsgen_mark_laws.proofs.Comments.{passes_comments, passes_without, passes_closing, passes_begun, passes_ended, passes_opening, passes_closing_round, passes_opened, passes_closed}
use Rattle.jsgen_mark_laws.proofs.Marked.{placed_append, placed_on, same, step_then, spaced_step, written_step, written_if_step}
use Rattle.jsgen_mark_laws.proofs.Steps.{lay_steps, mark_step, block_step, annotated_step}

pub right_behind : {p q : Pen} → Adds p q → Right p → Right q
right_behind {p} {q} s r = record {
  ordered = subst (λ ms. Ordered 0 ms (size q.code)) (sym s.marks) (ordered_append p.marks s.more 0 (size p.code) (size q.code) r.ordered s.ordered);
  parted = subst (λ ms. OffsetsDiffer None ms) (sym s.marks) (parted_append None p.marks s.more r.parted s.parted);
  placed = subst (λ ms. ArePlaced q.code q.style.source ms) (sym s.marks) (placed_append q.code q.style.source p.marks s.more (placed_on s p.marks r.placed) s.placed);
}

pub marks_are_right : (items : Items) (p : Pen) → Right p → Right (lay items p)
marks_are_right items p r = right_behind (lay_steps items p) r

-- ---- names that stand stay where they are

stand_from : (code : List ℕ) (marks : List Mark) (a b : ℕ) (ns : List NameText) → a ≤ b → NamePlaces code marks b ns → NamePlaces code marks a ns
stand_from code marks a b [] h k = omega (arith, h, k)
stand_from code marks a b (n ∷ ns) h k = (record { before = k.0.before; rest = k.0.rest; is = k.0.is; behind = omega (arith, h, k.0.behind); some = k.0.some; own = k.0.own; last = k.0.last; its = k.0.its }, k.1)

at_longer : {p q : Pen} (s : Adds p q) (least : ℕ) (n : NameText) → (a : StandsAt p.code p.marks least n) → StandsAt q.code q.marks least n
at_longer {p} {q} s least n a = record {
  before = a.before;
  rest = a.rest ++ s.text;
  is = s.code ∙ (ap (λ x. x ++ s.text) a.is ∙ (append_assoc a.before (n.text ++ a.rest) s.text ∙ ap (λ x. a.before ++ x) (append_assoc n.text a.rest s.text)));
  behind = a.behind;
  some = a.some;
  own = a.own;
  last = ap (λ ms. last_before (size a.before) ms) s.marks ∙ (before_longer (size a.before) p.marks s.more (size p.code) (size q.code) s.ordered (omega (arith, ap size a.is, size_append a.before (n.text ++ a.rest), size_append n.text a.rest, a.some)) ∙ a.last);
  its = a.its;
}

pub stand_longer : {p q : Pen} (s : Adds p q) (least : ℕ) (ns : List NameText) → NamePlaces p.code p.marks least ns → NamePlaces q.code q.marks least ns
unfolding at_longer
stand_longer {p} {q} s least [] h = omega (arith, h, longer p.code q.code s.text s.code)
stand_longer {p} {q} s least (n ∷ ns) h = (at_longer s least n h.0, stand_longer s (size h.0.before + size n.text) ns h.1)

stand_then : {p q : Pen} (s : Adds p q) (least : ℕ) (ms ns : List NameText) → NamePlaces p.code p.marks least ms → NamePlaces q.code q.marks (size p.code) ns → NamePlaces q.code q.marks least (ms ++ ns)
unfolding at_longer
stand_then {p} {q} s least [] ns h k = stand_from q.code q.marks least (size p.code) ns h k
stand_then {p} {q} s least (m ∷ ms) ns h k = (at_longer s least m h.0, stand_then s (size h.0.before + size m.text) ms ns h.1 k)

-- names, with steps round them that print none
stand_round : {p a b q : Pen} (ns : List NameText) → Adds p a → NamePlaces b.code b.marks (size a.code) ns → Adds b q → NamePlaces q.code q.marks (size p.code) ns
stand_round {p} {a} {b} {q} ns s h t = stand_from q.code q.marks (size p.code) (size a.code) ns (longer p.code a.code s.text s.code) (stand_longer t (size a.code) ns h)

-- ---- the mark of a name

last_own : (ms : List Mark) (n o : ℕ) → Ordered 0 ms n → last_from None ms ≡ Some o → (m : Mark) × (last_before n ms ≡ Some m) × (m.offset ≡ o)
last_own [] n o h e = absurd (both_ways false refl (ap is_some e))
last_own (m ∷ ms) n o h e = last_is n o m ms 0 n h (omega arith) e

marked_own : (o : ℕ) (called : Option (List ℕ)) (p : Pen) → Right p → (m : Mark) × (last_before (size p.code) (marked_if true o called p).marks ≡ Some m) × (m.offset ≡ o)
marked_own o called p r = go (is_last (last_offset p.marks) o) refl
  where
    m : Mark
    m = record { bytes = size p.code; offset = o; name = called }

    go : (b : Bool) → is_last (last_offset p.marks) o ≡ b → (k : Mark) × (last_before (size p.code) (unless_last b m p.marks) ≡ Some k) × (k.offset ≡ o)
    go true e = last_own p.marks (size p.code) o r.ordered (was_last (last_offset p.marks) o e)
    go false e = (m, before_end (size p.code) p.marks m (omega arith), refl)

name_own : (span : Span) (w : List ℕ) (p : Pen) → has_start_mark p.style.source span ≡ true → Right p → (m : Mark) × (last_before (size p.code) (name_mark span w p).marks ≡ Some m) × (m.offset ≡ span.start)
name_own span w p f r = subst (λ b. (m : Mark) × (last_before (size p.code) (marked_if b span.start (other_name_in p.style.source span w) p).marks ≡ Some m) × (m.offset ≡ span.start)) (sym f) (marked_own span.start (other_name_in p.style.source span w) p r)

-- ---- for all items

no_name : (items : Items) (p : Pen) → size p.code ≤ size (lay items p).code
no_name items p = let s = lay_steps items p in longer p.code (lay items p).code s.text s.code

-- a name behind the code of a pen, whose mark stands there
stands : (span : Span) (w text : List ℕ) (p at q : Pen) → size p.code ≤ size at.code → Right at → q.code ≡ at.code ++ text → q.marks ≡ (name_mark span w at).marks → NamePlaces q.code q.marks (size p.code) (printed_at (has_start_mark at.style.source span) span text)
stands span w text p at q grown r code marks = go (has_start_mark at.style.source span) refl text refl
  where
    whole : size q.code ≡ size at.code + size text
    whole = ap size code ∙ size_append at.code text

    go : (b : Bool) → has_start_mark at.style.source span ≡ b → (v : List ℕ) → text ≡ v → NamePlaces q.code q.marks (size p.code) (printed_at b span v)
    go false f v g = omega (arith, grown, whole)
    go true f [] g = omega (arith, grown, whole)
    go true f (c ∷ cs) g =
        let own = name_own span w at f r in (
          record {
            before = at.code;
            rest = [];
            is = code ∙ (ap (λ x. at.code ++ x) g ∙ ap (λ x. at.code ++ x) (sym (append-nil (c ∷ cs))));
            behind = grown;
            some = size_some c cs;
            own = own.0;
            last = ap (λ ms. last_before (size at.code) ms) marks ∙ own.1;
            its = own.2;
          },
          omega (arith, whole, ap size g),
        )

either_stand : (t : Bool) (p a b : Pen) (ms ns : List NameText) → NamePlaces a.code a.marks (size p.code) ms → NamePlaces b.code b.marks (size p.code) ns → NamePlaces (if t then a else b).code (if t then a else b).marks (size p.code) (if t then ms else ns)
either_stand true p a b ms ns h k = h
either_stand false p a b ms ns h k = k

pub source_behind : {p q : Pen} (src : List ℕ) → Adds p q → p.style.source ≡ Some src → q.style.source ≡ Some src
source_behind src s e = ap (λ st. st.source) s.style ∙ e

abbrev Stands : Items → Pen → Type 0
Stands items p = (src : List ℕ) → p.style.source ≡ Some src → Right p → NamePlaces (lay items p).code (lay items p).marks (size p.code) (names_of items p)

in_parentheses : (test : Bool) (items : Items) (p : Pen) → Stands items (written_if test (opening Round) p) → Stands (wrapped test items) p
in_parentheses test items p inside = λ src e r.
    let p1 : Pen = written_if test (opening Round) p in
    let s = written_if_step test (opening Round) p in
    stand_round (names_of items p1) s (inside src (source_behind src s e) (right_behind s r)) (written_if_step test (closing Round) (lay items p1))

pub names_stand : (items : Items) (p : Pen) → Stands items p
names_stand (a ⊕ b) p = λ src e r.
    let s = lay_steps a p in
    stand_then (lay_steps b (lay a p)) (size p.code) (names_of a p) (names_of b (lay a p)) (names_stand a p src e r) (names_stand b (lay a p) src (source_behind src s e) (right_behind s r))
names_stand (name span n) p = λ src e r.
    let w = printed_name p.style.tables n in
    stands span w (name_text p.style.ascii w) p (spaced p) (lay (name span n) p) (longer p.code (spaced p).code _ refl) (right_behind (spaced_step p) r) refl refl
names_stand (private_name span w) p = λ src e r.
    let own = printed_private p.style.tables p.classes w in
    stands span (35 ∷ own) (35 ∷ name_text p.style.ascii own) p p (lay (private_name span w) p) (omega arith) r refl refl
names_stand (deeper items) p = λ src e r.
    let p1 : Pen = record p { depth = deeper_level p.style.minified p.depth } in
    let q : Pen = lay items p1 in
    let s = same p p1 refl refl refl in
    stand_round (names_of items p1) s (names_stand items p1 src (source_behind src s e) (right_behind s r)) (same q (record q { depth = p.depth }) refl refl refl)
names_stand (in_class items) p = λ src e r.
    let p1 : Pen = entered p in
    let q : Pen = lay items p1 in
    let s = same p p1 refl refl refl in
    stand_round (names_of items p1) s (names_stand items p1 src (source_behind src s e) (right_behind s r)) (same q (record q { classes = p.classes }) refl refl refl)
names_stand (brackets b items) p = λ src e r.
    let p1 : Pen = written (opening b) other_end p in
    let s = written_step (opening b) other_end p in
    stand_round (names_of items p1) s (names_stand items p1 src (source_behind src s e) (right_behind s r)) (written_step (closing b) other_end (lay items p1))
names_stand (wrapped test items) p = in_parentheses test items p (names_stand items (written_if test (opening Round) p))
names_stand (wrapped_at_start own opener items) p = let test : Bool = own || is_barred opener p.start in in_parentheses test items p (names_stand items (written_if test (opening Round) p))
names_stand (parentheses_unless_minified items) p = let test : Bool = not p.style.minified in in_parentheses test items p (names_stand items (written_if test (opening Round) p))
names_stand (unless_minified items) p = λ src e r. either_stand p.style.minified p p (lay items p) [] (names_of items p) (omega arith) (names_stand items p src e r)
names_stand (where_same m n a b) p = λ src e r. either_stand (are_printed_alike p.style.tables m n) p (lay a p) (lay b p) (names_of a p) (names_of b p) (names_stand a p src e r) (names_stand b p src e r)
names_stand (held o items) p = λ src e r.
    let p1 : Pen = without_ending (last_byte o) p in
    let s = (passes_without (last_byte o) p).adds in
    stand_round (names_of items p1) s (names_stand items p1 src (source_behind src s e) (right_behind s r)) (passes_closing (ending_at (last_byte o) p) (lay items p1)).adds
names_stand (lined_case only items) p = λ src e r.
    let long : Bool = has_orphans only.start p in
    let p1 : Pen = case_begun long only.lead only.start p in
    let p2 : Pen = case_mark long only.lead p1 in
    let s = step_then (passes_begun long only.lead only.start p).adds (mark_step long only.lead p1) in
    stand_round (names_of items p2) s (names_stand items p2 src (source_behind src s e) (right_behind s r)) (passes_ended long p.depth only.end (lay items p2)).adds
names_stand (caught start body items) p = λ src e r.
    let p1 : Pen = comments_at all_of_them start p in
    let s = (passes_comments all_of_them start p).adds in
    stand_round (names_of items p1) s (names_stand items p1 src (source_behind src s e) (right_behind s r)) (block_step (are_any (group_at start p)) body (lay items p1))
names_stand (annotated call items) p = λ src e r.
    let wraps : Bool = lifts call p || call.wrapped in
    let on : Bool = call.pure && p.style.annotated in
    let p1 : Pen = written_if wraps (opening Round) p in
    let p2 : Pen = annotated_if on call.span call.start p.start p1 in
    let s = step_then (written_if_step wraps (opening Round) p) (annotated_step on call.span call.start p.start p1) in
    stand_round (names_of items p2) s (names_stand items p2 src (source_behind src s e) (right_behind s r)) (written_if_step wraps (closing Round) (lay items p2))
names_stand (commented o items) p = λ src e r.
    let test : Bool = is_enclosed o p in
    let stand : Bool = are_any (group_at o p) in
    let p1 : Pen = commented_from o p in
    let s = (passes_opening test stand o p).adds in
    stand_round (names_of items p1) s (names_stand items p1 src (source_behind src s e) (right_behind s r)) (passes_closing_round test (lay items p1)).adds
names_stand (in_lines lines starts end items) p = λ src e r.
    let lined : Bool = are_lined lines starts end p in
    let p1 : Pen = lines_opened lined p in
    let s = (passes_opened lined p).adds in
    stand_round (names_of items p1) s (names_stand items p1 src (source_behind src s e) (right_behind s r)) (passes_closed lined lines end p.depth p.lines (lay items p1)).adds
names_stand item p = λ src e r. no_name item p
