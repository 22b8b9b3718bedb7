-- No name is missing among the names of marks.
use Rattle.std.proofs.Common.{◌≡◌, ℕ, Bool, true, false, ◌&&◌, ◌||◌, inl, inr, List, [], ◌∷◌, ◌++◌, Some, None, refl, ap, sym, subst, ◌∙◌, arith, if◌then◌else◌, not}
use Rattle.std.specs.Prelude.{Contains, encode_utf8_all}
use Rattle.std.specs.Str.{bytes_eq}
use Rattle.std.proofs.lemmas.List.Elements.{Contains-append_left, Contains-append_cases, Contains-push, Contains-push_cases}
use Rattle.std.proofs.lemmas.Slice.Eq.{bytes_eq-Decides}
use Rattle.jsgen_syntax.specs.declared.span.Span.{Span}
use Rattle.jsgen_tree.specs.Named.{printed_name}
use Rattle.jsgen_model.specs.Punctuator.{Round, opening, closing}
use Rattle.jsgen_model.specs.Items.{Items, ◌⊕◌, name, private_name, deeper, in_class, brackets, wrapped, wrapped_at_start, parentheses_unless_minified, unless_minified, where_same, held, lined_case, caught, all_of_them, annotated, commented, in_lines}
use Rattle.jsgen_map.specs.Marks.{unless_last}
use Rattle.jsgen_model.specs.Marks.{other_than, other_name_in, has_start_mark}
use Rattle.jsgen_model.specs.Layout.{Pen, other_end, written, written_if, is_barred, deeper_level, entered, are_printed_alike}
use Rattle.jsgen_model.specs.Lay.{lay, lifts, annotated_if, is_enclosed, commented_from, case_mark, marked_if, name_mark, spaced}
use Rattle.jsgen_model.specs.Private.{printed_private}
use Rattle.jsgen_model.specs.Comments.{are_any}
use Rattle.jsgen_model.specs.Groups.{has_orphans, group_at, comments_at, case_begun, last_byte, ending_at, without_ending, are_lined, lines_opened}
use Rattle.jsgen_mark_laws.specs.Law.{Adds}
use Rattle.jsgen_mark_laws.proofs.Comments.{passes_comments, passes_without, passes_closing, passes_begun, passes_ended, passes_opening, passes_closing_round, passes_opened, passes_closed}
use Rattle.jsgen_mark_laws.proofs.Marked.{step_then, written_if_step}
use Rattle.jsgen_mark_laws.proofs.Names.{source_behind}
use Rattle.jsgen_mark_laws.proofs.Steps.{lay_steps, mark_step, block_step, annotated_step}
use Rattle.jsgen_map_laws.specs.Printed.{PrintedName, printed_from, printed_names}
use Rattle.jsgen_map_laws.specs.Law.{StoodFor, IsMarked, HasMarksOf, mark_of}

-- ---- a list of one

pub is_it : {X : Type 0} (x y : X) → Contains (x ∷ []) y → x ≡ y
is_it x y h = elim (Contains-push_cases [] x y h) [ inl c ↦ absurd (omega (arith, c.1)) | inr e ↦ e ]

-- ---- steps

kept_none : (src : List ℕ) (q : Pen) → HasMarksOf src [] q
kept_none src q = λ n text c. absurd (omega (arith, c.1))

kept_later : {q r : Pen} (src : List ℕ) (ns : List PrintedName) → HasMarksOf src ns q → Adds q r → HasMarksOf src ns r
kept_later {q} {r} src ns h s = λ n text c stood marked. subst (λ ms. Contains ms (mark_of n text)) (sym s.marks) (Contains-append_left q.marks s.more (mark_of n text) (h n text c stood marked))

kept_both : (src : List ℕ) (ms ns : List PrintedName) (q : Pen) → HasMarksOf src ms q → HasMarksOf src ns q → HasMarksOf src (ms ++ ns) q
kept_both src ms ns q h k = λ n text c stood marked. elim (Contains-append_cases ms ns n c) [ inl a ↦ h n text a stood marked | inr b ↦ k n text b stood marked ]

either_kept : (src : List ℕ) (test : Bool) (a b : Pen) (ms ns : List PrintedName) → HasMarksOf src ms a → HasMarksOf src ns b → HasMarksOf src (if test then ms else ns) (if test then a else b)
either_kept src true a b ms ns h k = h
either_kept src false a b ms ns h k = k

-- ---- the mark of a name

its_name : (src : List ℕ) (span : Span) (w text : List ℕ) (p : Pen) → StoodFor src (printed_from p span w) text → other_name_in (Some src) span w ≡ Some text
its_name src span w text p h = ap (λ o. other_than o w) h.stood ∙ apart (bytes_eq text (encode_utf8_all w)) refl
  where
    apart : (b : Bool) → bytes_eq text (encode_utf8_all w) ≡ b → (if b then None else Some text) ≡ Some text
    apart true e = absurd (h.renamed (sym ((bytes_eq-Decides text (encode_utf8_all w)).0 e)))
    apart false e = refl

its_marks : (src : List ℕ) (span : Span) (w text : List ℕ) (p : Pen) → p.style.source ≡ Some src → StoodFor src (printed_from p span w) text → IsMarked src (printed_from p span w) → (name_mark span w p).marks ≡ p.marks ++ (mark_of (printed_from p span w) text ∷ [])
its_marks src span w text p e stood marked =
    ap (λ s. (marked_if (has_start_mark s span) span.start (other_name_in s span w) p).marks) e
    ∙ (ap (λ called. (marked_if (has_start_mark (Some src) span) span.start called p).marks) (its_name src span w text p stood)
    ∙ (ap (λ b. (marked_if b span.start (Some text) p).marks) marked.begins
    ∙ ap (λ b. unless_last b (mark_of (printed_from p span w) text) p.marks) marked.elsewhere))

name_kept : (src : List ℕ) (span : Span) (w : List ℕ) (p : Pen) → p.style.source ≡ Some src → HasMarksOf src (printed_from p span w ∷ []) (name_mark span w p)
name_kept src span w p e n text c stood marked =
    let it : printed_from p span w ≡ n = is_it (printed_from p span w) n c in
    let own : StoodFor src (printed_from p span w) text = subst (λ k. StoodFor src k text) (sym it) stood in
    let its : IsMarked src (printed_from p span w) = subst (IsMarked src) (sym it) marked in
    subst (λ k. Contains (name_mark span w p).marks (mark_of k text)) it
    (subst (λ ms. Contains ms (mark_of (printed_from p span w) text)) (sym (its_marks src span w text p e own its)) (Contains-push p.marks (mark_of (printed_from p span w) text)))

-- ---- for all items

abbrev Kept : List ℕ → Items → Pen → Type 0
Kept src items p = p.style.source ≡ Some src → HasMarksOf src (printed_names items p) (lay items p)

in_parentheses : (src : List ℕ) (test : Bool) (items : Items) (p : Pen) → Kept src items (written_if test (opening Round) p) → Kept src (wrapped test items) p
in_parentheses src test items p inside e = let p1 : Pen = written_if test (opening Round) p in kept_later src (printed_names items p1) (inside e) (written_if_step test (closing Round) (lay items p1))

pub names_kept : (src : List ℕ) (items : Items) (p : Pen) → Kept src items p
names_kept src (a ⊕ b) p e =
    let q : Pen = lay a p in
    kept_both src (printed_names a p) (printed_names b q) (lay b q) (kept_later src (printed_names a p) (names_kept src a p e) (lay_steps b q)) (names_kept src b q (source_behind src (lay_steps a p) e))
names_kept src (name span n) p e = name_kept src span (printed_name p.style.tables n) (spaced p) e
names_kept src (private_name span w) p e = name_kept src span (35 ∷ printed_private p.style.tables p.classes w) p e
names_kept src (deeper items) p e = names_kept src items (record p { depth = deeper_level p.style.minified p.depth }) e
names_kept src (in_class items) p e = names_kept src items (entered p) e
names_kept src (brackets b items) p e = names_kept src items (written (opening b) other_end p) e
names_kept src (wrapped test items) p e = in_parentheses src test items p (names_kept src items (written_if test (opening Round) p)) e
names_kept src (wrapped_at_start own opener items) p e = let test : Bool = own || is_barred opener p.start in in_parentheses src test items p (names_kept src items (written_if test (opening Round) p)) e
names_kept src (parentheses_unless_minified items) p e = let test : Bool = not p.style.minified in in_parentheses src test items p (names_kept src items (written_if test (opening Round) p)) e
names_kept src (unless_minified items) p e = either_kept src p.style.minified p (lay items p) [] (printed_names items p) (kept_none src p) (names_kept src items p e)
names_kept src (where_same m n a b) p e = either_kept src (are_printed_alike p.style.tables m n) (lay a p) (lay b p) (printed_names a p) (printed_names b p) (names_kept src a p e) (names_kept src b p e)
names_kept src (held o items) p e =
    let p1 : Pen = without_ending (last_byte o) p in
    kept_later src (printed_names items p1) (names_kept src items p1 (source_behind src (passes_without (last_byte o) p).adds e)) (passes_closing (ending_at (last_byte o) p) (lay items p1)).adds
names_kept src (lined_case only items) p e =
    let long : Bool = has_orphans only.start p in
    let p1 : Pen = case_begun long only.lead only.start p in
    let p2 : Pen = case_mark long only.lead p1 in
    let s = step_then (passes_begun long only.lead only.start p).adds (mark_step long only.lead p1) in
    kept_later src (printed_names items p2) (names_kept src items p2 (source_behind src s e)) (passes_ended long p.depth only.end (lay items p2)).adds
names_kept src (caught start body items) p e =
    let p1 : Pen = comments_at all_of_them start p in
    kept_later src (printed_names items p1) (names_kept src items p1 (source_behind src (passes_comments all_of_them start p).adds e)) (block_step (are_any (group_at start p)) body (lay items p1))
names_kept src (annotated call items) p e =
    let wraps : Bool = lifts call p || call.wrapped in
    let on : Bool = call.pure && p.style.annotated in
    let p1 : Pen = written_if wraps (opening Round) p in
    let p2 : Pen = annotated_if on call.span call.start p.start p1 in
    let s = step_then (written_if_step wraps (opening Round) p) (annotated_step on call.span call.start p.start p1) in
    kept_later src (printed_names items p2) (names_kept src items p2 (source_behind src s e)) (written_if_step wraps (closing Round) (lay items p2))
names_kept src (commented o items) p e =
    let test : Bool = is_enclosed o p in
    let p1 : Pen = commented_from o p in
    kept_later src (printed_names items p1) (names_kept src items p1 (source_behind src (passes_opening test (are_any (group_at o p)) o p).adds e)) (passes_closing_round test (lay items p1)).adds
names_kept src (in_lines lines starts end items) p e =
    let lined : Bool = are_lined lines starts end p in
    let p1 : Pen = lines_opened lined p in
    kept_later src (printed_names items p1) (names_kept src items p1 (source_behind src (passes_opened lined p).adds e)) (passes_closed lined lines end p.depth p.lines (lay items p1)).adds
names_kept src item p e = kept_none src (lay item p)
