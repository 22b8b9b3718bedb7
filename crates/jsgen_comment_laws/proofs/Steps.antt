-- What items print of the comments that wait, and how it is woven. All laws on comments take this one.
use Rattle.std.specs.Prelude.{Contains, not}
use Rattle.std.proofs.lemmas.Bool.{false≢true}
use Rattle.std.proofs.Common.{inl, inr, ◌++◌, ap, ◌∙◌, append-nil, ◌≡◌, ℕ, Bool, true, false, ◌&&◌, ◌||◌, List, [], ◌∷◌, Option, Some, None, codes, refl, sym, subst, append_assoc, if◌then◌else◌}
use Rattle.std.specs.List.{list_all}
use Rattle.jsgen_syntax.specs.declared.span.Span.{Span}
use Rattle.jsgen_model.specs.Punctuator.{Round, opening, closing}
use Rattle.jsgen_model.specs.Items.{Items, Annotation, no_side_effects, a_brace, nothing, ◌⊕◌, word, name, private_name, number, literal, regular_expression, template_part, string, first_string, directive, punctuator, operator, member_dot, soft_space, soft_line, hard_space, indentation, body_space, deeper, in_class, brackets, wrapped, wrapped_at_start, parentheses_unless_minified, unless_minified, where_same, statement_end, due_semicolon, drop_semicolon, statement_begins, arrow_body_begins, default_export_begins, mark, end_mark, link_mark, marked_word, marked_operator, marked_number, marked_indentation, apart, comments, orphans, orphan_lines, empty_body, held, lined_case, caught, annotation, annotation_line, annotated, commented, member_line, member_space, in_lines, line_break, is_pure, Manner, all_of_them, with_due_space, Lead, to_block, to_body, to_empty, Lines, Break, first_argument, other_argument, import_source, import_options}
use Rattle.jsgen_model.specs.Comments.{Comment, there, are_any, orphans_below, left_below}
use Rattle.jsgen_model.specs.Groups.{indented_here, soft_line_ended, one_deeper, at_level, group, with_store, group_at, without_group, is_printed, before_group, printed_if, comments_at, orphans_before, has_orphans, orphan_lines_at, last_byte, ending_at, without_ending, closing_group, has_no_newlines, body_lines, empty_body_at, led_on_line, case_begun, case_ended, broken_by, broken_at, on_a_line, unless_on_line, break_at, are_lined, with_lines, lines_opened, indents as are_indented, lines_closed, member_line_at, member_space_at, commented_if}
use Rattle.jsgen_model.specs.Layout.{Pen, Start, nowhere, begun_at, on_one_line, is_apart, other_end, written, written_if, text_if, is_barred, deeper_level, entered, at_indentation, are_printed_alike, led}
use Rattle.jsgen_model.specs.Lay.{lay, lifts, annotated_if, is_enclosed, commented_from, case_mark, before_block, stood, may_be_indented, mark_behind, span_mark}
use Rattle.jsgen_comment_laws.specs.Stand.{Waiting}
use Rattle.jsgen_comment_laws.specs.Woven.{dark_of, Bones, no_bones, comment_gap, orphan_gap, annotation_gap, object_gap, gap_if, annotation_if, object_bones, break_offset, bones, InRound, Woven}
use Rattle.jsgen_comment_laws.proofs.Counts.{waiting}
use Rattle.jsgen_comment_laws.proofs.Writes.{Writes, both, ended_by, stays, none, adds, adds_if, adds_then, dark_both, indents_by, indents, indents_if, ends_statement, uses_up_if, writes_if, ends_line_softly, writes_group, writes_before, writes_behind, writes_closing, breaks, leads}
use Rattle.jsgen_comment_laws.proofs.Stores.{Goes, goes_then, keeps_adds}
use Rattle.jsgen_comment_laws.proofs.Held.{Every, every_there}
use Rattle.jsgen_comment_laws.proofs.Weaves.{Held, Weave, Does, alone, does_then, does_last, one_does, white, prints, prints_between, fills_none, finds_none, fills, finds, holds_ending, in_round}
use Rattle.jsgen_comment_laws.proofs.Annotations.{does_annotation, does_annotation_line}

module _ (k a : List Waiting) where
  -- what begins there has no part in it
  begun : (start : Start) {bs : Bones} {p q : Pen} → Does k a bs p q → Does k a bs p (begun_at start q)
  begun start {bs} {p} {q} d = does_last k a d (white k a (stays q (begun_at start q) refl refl refl refl))

  -- ---- groups

  does_printed : (b : Bool) (m : Manner) (o : ℕ) (p : Pen) → Does k a (comment_gap (o ∷ []) no_bones) p (printed_if b m o p)
  does_printed true m o p =
      let p1 : Pen = before_group m p in
      let p2 : Pen = group false (group_at o p) (without_group o p1) in
      does_then k a (white k a (writes_before m p)) (does_last k a (fills k a o p1 p2 (of_same (writes_group false (group_at o p) (without_group o p1)))) (white k a (writes_behind m p2)))
    where
      of_same : Writes (group_at o p) (without_group o (before_group m p)) (group false (group_at o p) (without_group o (before_group m p))) → Writes (group_at o (before_group m p)) (without_group o (before_group m p)) (group false (group_at o p) (without_group o (before_group m p)))
      of_same w = subst (λ s. Writes (there o s.groups) (without_group o (before_group m p)) (group false (group_at o p) (without_group o (before_group m p)))) (sym (writes_before m p).adds.store) w
  does_printed false m o p = fills_none k a (o ∷ []) (none p)

  pub does_comments : (m : Manner) (o : ℕ) (p : Pen) → Does k a (comment_gap (o ∷ []) no_bones) p (comments_at m o p)
  does_comments m o p = does_printed (is_printed m (group_at o p)) m o p

  pub does_orphans : (o : ℕ) (p : Pen) → Does k a (orphan_gap o no_bones) p (orphans_before o p)
  does_orphans o p = finds k a o p (orphans_before o p) (writes_group true (orphans_below o p.store) (with_store (left_below o p.store) p))

  -- ---- in braces

  goes_deeper : (p : Pen) → Does k a no_bones p (one_deeper (soft_line_ended p))
  goes_deeper p = white k a (ended_by (ends_line_softly p) (stays (soft_line_ended p) (one_deeper (soft_line_ended p)) refl refl refl refl))

  goes_back : (depth : ℕ) (p : Pen) → Does k a no_bones p (indented_here (at_level depth p))
  goes_back depth p = white k a (both (stays p (at_level depth p) refl refl refl refl) (indents (at_level depth p)))

  does_orphan_lines : (o : ℕ) (p : Pen) → Does k a (orphan_gap o no_bones) p (orphan_lines_at o p)
  does_orphan_lines o p =
      let p1 : Pen = one_deeper (soft_line_ended p) in
      one_does k a (has_orphans o p) (does_then k a (goes_deeper p) (does_last k a (does_orphans o p1) (goes_back p.depth (orphans_before o p1)))) (finds_none k a o (none p))

  body_does : (o : ℕ) (last : Option ℕ) (p : Pen) (one_line : Bool) → Does k a (orphan_gap o (gap_if last)) p (if one_line then closing_group (ending_at last p) (without_ending last p) else body_lines o (ending_at last p) (without_ending last p))
  body_does o last p true =
      let p1 : Pen = without_ending last p in
      holds_ending k a last (orphan_gap o no_bones) p p1 (closing_group (ending_at last p) p1) (finds_none k a o (none p1)) (writes_closing (ending_at last p) p1)
  body_does o last p false =
      let p1 : Pen = without_ending last p in
      let p2 : Pen = orphans_before o (one_deeper (soft_line_ended p1)) in
      let p3 : Pen = closing_group (ending_at last p) p2 in
      does_last k a (holds_ending k a last (orphan_gap o no_bones) p p2 p3 (does_then k a (goes_deeper p1) (does_orphans o (one_deeper (soft_line_ended p1)))) (writes_closing (ending_at last p) p2)) (goes_back p1.depth p3)

  does_empty_body : (o : ℕ) (p : Pen) → Does k a (orphan_gap o (gap_if (last_byte o))) p (empty_body_at o p)
  does_empty_body o p =
      let last = last_byte o in
      body_does o last p (not (has_orphans o (without_ending last p)) && list_all has_no_newlines (ending_at last p))

  -- ---- in a case, and in a `catch`

  own_line : (o : ℕ) (p : Pen) → Does k a (comment_gap (o ∷ []) no_bones) p (indented_here (comments_at all_of_them o p))
  own_line o p = does_last k a (does_comments all_of_them o p) (white k a (indents (comments_at all_of_them o p)))

  does_led : (lead : Lead) (o : ℕ) (p : Pen) → Does k a (comment_gap (o ∷ []) no_bones) p (led_on_line lead o p)
  does_led to_block o p = own_line o p
  does_led to_body o p = fills_none k a (o ∷ []) (none p)
  does_led (to_empty span) o p = own_line o p

  does_begun : (b : Bool) (lead : Lead) (o : ℕ) (p : Pen) → Does k a (orphan_gap o (comment_gap (o ∷ []) no_bones)) p (case_begun b lead o p)
  does_begun true lead o p =
      let p1 : Pen = one_deeper (soft_line_ended p) in
      begun (led lead p).start (does_then k a (goes_deeper p) (does_then k a (does_orphans o p1) (does_led lead o (orphans_before o p1))))
  does_begun false lead o p = does_then k a (finds_none k a o (leads lead p)) (fills_none k a (o ∷ []) (none (led lead p)))

  does_mark : (long : Bool) (lead : Lead) (p : Pen) → Does k a no_bones p (case_mark long lead p)
  does_mark true to_block p = white k a (none p)
  does_mark true to_body p = white k a (none p)
  does_mark true (to_empty span) p = white k a (stays p (case_mark true (to_empty span) p) refl refl refl refl)
  does_mark false lead p = white k a (none p)

  does_ended : (b : Bool) (depth end : ℕ) (p : Pen) → Does k a (orphan_gap end no_bones) p (case_ended b depth end p)
  does_ended true depth end p = does_last k a (does_orphans end p) (white k a (stays (orphans_before end p) (case_ended true depth end p) refl refl refl refl))
  does_ended false depth end p = finds_none k a end (none p)

  does_block : (before : Bool) (o : ℕ) (p : Pen) → Does k a (comment_gap (o ∷ []) no_bones) p (before_block before o p)
  does_block before o p =
      let p1 : Pen = comments_at all_of_them o p in
      does_last k a (does_comments all_of_them o p) (white k a (uses_up_if (stood before o p && (p1.pending_space && not p1.style.minified)) p1))

  -- ---- an object, and before it

  does_commented : (b : Bool) (o : ℕ) (p : Pen) → Does k a (comment_gap (o ∷ []) no_bones) p (commented_if b o p)
  does_commented true o p = own_line o p
  does_commented false o p = fills_none k a (o ∷ []) (none p)

  does_member_line : (o : ℕ) (p : Pen) → Does k a (comment_gap (o ∷ []) no_bones) p (member_line_at o p)
  does_member_line o p =
      let p1 : Pen = written_if (not p.style.minified) (codes "\n") p in
      does_then k a (white k a (writes_if (not p.style.minified) (codes "\n") p refl)) (own_line o p1)

  does_member_space : (o : ℕ) (p : Pen) → Does k a (comment_gap (o ∷ []) no_bones) p (member_space_at o p)
  does_member_space o p =
      let p1 : Pen = written_if (not p.style.minified) (codes " ") p in
      does_then k a (white k a (writes_if (not p.style.minified) (codes " ") p refl)) (does_comments with_due_space o p1)

  -- ---- arguments on lines

  does_broken : (o : ℕ) (p : Pen) → Does k a (comment_gap (o ∷ []) no_bones) p (broken_at o p)
  does_broken o p =
      let p1 : Pen = broken_by (group_at o p) (without_group o p) in
      does_last k a (fills k a o p p1 (breaks (group_at o p) (without_group o p))) (white k a (indents p1))

  does_on_a_line : (at : Break) (p : Pen) → Does k a (gap_if (break_offset at)) p (on_a_line at p)
  does_on_a_line (first_argument o) p = does_broken o p
  does_on_a_line (other_argument o) p = begun (on_one_line (other_argument o) p).start (does_broken o p)
  does_on_a_line (import_source o) p = does_broken o p
  does_on_a_line import_options p =
      let p1 : Pen = written_if (not p.style.minified) (codes "\n") p in
      white k a (both (writes_if (not p.style.minified) (codes "\n") p refl) (indents p1))

  does_unless : (at : Break) (p : Pen) → Does k a (gap_if (break_offset at)) p (unless_on_line at p)
  does_unless (first_argument o) p = fills_none k a (o ∷ []) (none p)
  does_unless (other_argument o) p = fills_none k a (o ∷ []) (writes_if (not p.style.minified) (codes " ") p refl)
  does_unless (import_source o) p = one_does k a (are_any (group_at o p)) (does_broken o p) (fills_none k a (o ∷ []) (none p))
  does_unless import_options p = white k a (writes_if (not p.style.minified) (codes " ") p refl)

  does_break : (at : Break) (p : Pen) → Does k a (gap_if (break_offset at)) p (break_at at p)
  does_break at p = one_does k a p.lines (does_on_a_line at p) (does_unless at p)

  opens_lines : (b : Bool) (p : Pen) → Does k a no_bones p (lines_opened b p)
  opens_lines true p = white k a (stays p (lines_opened true p) refl refl refl refl)
  opens_lines false p = white k a (stays p (lines_opened false p) refl refl refl refl)

  does_last_break : (last : Option ℕ) (p : Pen) → Does k a (gap_if last) p (broken_by (ending_at last p) (without_ending last p))
  does_last_break None p = white k a (breaks [] p)
  does_last_break (Some o) p = fills k a o p (broken_by (group_at o p) (without_group o p)) (breaks (group_at o p) (without_group o p))

  no_gap : (last : Option ℕ) {p q : Pen} → Writes [] p q → Does k a (gap_if last) p q
  no_gap None w = white k a w
  no_gap (Some o) w = fills_none k a (o ∷ []) w

  does_closed : (b : Bool) (lines : Lines) (end depth : ℕ) (outer : Bool) (p : Pen) → Does k a (gap_if (last_byte end)) p (lines_closed b lines end depth outer p)
  does_closed true lines end depth outer p =
      let last = last_byte end in
      let p1 : Pen = broken_by (ending_at last p) (without_ending last p) in
      let p2 : Pen = at_level depth (with_lines outer p1) in
      does_last k a (does_last_break last p) (white k a (both (stays p1 p2 refl refl refl refl) (indents_if (are_indented lines) p2)))
  does_closed false lines end depth outer p = no_gap (last_byte end) (stays p (with_lines outer p) refl refl refl refl)

  -- ---- marks, and annotations

  does_annotated : (on : Bool) (span : Span) (o : ℕ) (start : Start) (p : Pen) → Does k a (annotation_if on is_pure o) p (annotated_if on span o start p)
  does_annotated true span o start p = does_then k a (white k a (stays p (span_mark span p) refl refl refl refl)) (does_annotation k a start is_pure o (span_mark span p))
  does_annotated false span o start p = white k a (none p)

  annotation_if_on : (on : Bool) (kind : Annotation) (o : ℕ) {p q : Pen} → Does k a (annotation_gap kind o no_bones) p q → Does k a (annotation_if on kind o) p (if on then q else p)
  annotation_if_on true kind o d = d
  annotation_if_on false kind o {p} d = white k a (none p)

  items_unless : (b : Bool) {bs : Bones} {p q : Pen} → Does k a bs p q → Does k a (if b then no_bones else bs) p (if b then p else q)
  items_unless true {bs} {p} d = white k a (none p)
  items_unless false d = d

  either_does : (b : Bool) {bs cs : Bones} {p q r : Pen} → Does k a bs p q → Does k a cs p r → Does k a (if b then bs else cs) p (if b then q else r)
  either_does true d e = d
  either_does false d e = e

  -- ---- objects

  -- some comment is there
  some_there : (o : ℕ) (cs : List Comment) → are_any cs ≡ true → Every (Contains k) o cs → (c : Comment) × Contains k (waiting o c)
  some_there o [] e h = absurd (false≢true e)
  some_there o (c ∷ cs) e h = (c, h.0)

  -- a part of a text in a gap of its own
  gap_does : (Gap : Bones → Bones) {bs : Bones} {p q : Pen} → Does k a bs p q → ((ws : List Waiting) (bytes : List ℕ) → Woven k a bs ws bytes → Woven k a (Gap bs) ws bytes) → Does k a (Gap bs) p q
  gap_does Gap {bs} {p} {q} d f = record { goes = d.goes; weaves = λ h sound. in_it (d.weaves h sound) }
    where
      in_it : {ws : List Waiting} → Weave k a bs ws p q → Weave k a (Gap bs) ws p q
      in_it {ws} v = record { text = v.text; code = v.code; woven = f ws (dark_of v.text) v.woven; held = v.held }

  -- in parentheses
  abbrev InRoundHere : Bones → List Waiting → List ℕ → Type 0
  InRoundHere bs ws bytes = InRound (λ own. Woven k a bs ws own) bytes

  round_does : (Gap : Bones → Bones) {bs : Bones} (p q : Pen) → (Held k a p → (ws : List Waiting) (bytes : List ℕ) → InRoundHere bs ws bytes → Woven k a (Gap bs) ws bytes) → Does k a bs (written_if true (opening Round) p) q → Does k a (Gap bs) p (written_if true (closing Round) q)
  round_does Gap {bs} p q f d = record {
    goes = goes_then (keeps_adds (adds_if true (opening Round) p)) (goes_then d.goes (keeps_adds (adds_if true (closing Round) q)));
    weaves = λ h sound.
        let inside = (keeps_adds (adds_if true (opening Round) p) sound).sound in
        subst (λ ws. Weave k a (Gap bs) ws p (written_if true (closing Round) q)) (sym (append-nil (d.goes inside).printed)) (round h (d.weaves (record { store = h.store; annotations = h.annotations; white = h.white }) inside));
  }
    where
      round : {ws : List Waiting} → Held k a p → Weave k a bs ws (written_if true (opening Round) p) q → Weave k a (Gap bs) ws p (written_if true (closing Round) q)
      round {ws} h v = record {
        text = opening Round ++ (v.text ++ closing Round);
        code = ap (λ x. x ++ closing Round) v.code ∙ (append_assoc (p.code ++ opening Round) v.text (closing Round) ∙ append_assoc p.code (opening Round) (v.text ++ closing Round));
        woven = f h ws (dark_of (opening Round ++ (v.text ++ closing Round))) (dark_of v.text, (dark_both (opening Round) (v.text ++ closing Round) ∙ ap (λ x. opening Round ++ x) (dark_both v.text (closing Round)), v.woven));
        held = record { store = v.held.store; annotations = v.held.annotations; white = v.held.white };
      }

  object_does : (barred stand : Bool) (o : ℕ) {bs : Bones} (p q : Pen) → are_any (group_at o p) ≡ stand → Does k a bs (written_if (stand || barred) (opening Round) p) q → Does k a (object_bones barred o bs) p (written_if (stand || barred) (closing Round) q)
  object_does true true o p q e d = in_round k a true d
  object_does true false o p q e d = in_round k a true d
  object_does false true o p q e d = round_does (λ x. object_gap o x no_bones) p q (λ h ws bytes r. alone k a ws bytes (inr (r, some_there o (group_at o p) e (every_there (Contains k) o p.store.groups h.store)))) d
  object_does false false o p q e d = gap_does (λ x. object_gap o x no_bones) (in_round k a false d) (λ ws bytes w. alone k a ws bytes (inl w))

  -- ---- the whole

  pub lay_does : (items : Items) (p : Pen) → Does k a (bones items p) p (lay items p)
  lay_does nothing p = prints_between k a (none p).adds
  lay_does (x ⊕ y) p = does_then k a (lay_does x p) (lay_does y (lay x p))
  lay_does (name span n) p = prints_between k a (record { text = _; code = append_assoc p.code _ _; store = refl; style = refl; annotations = refl })
  lay_does (private_name span w) p = prints_between k a (record { text = _; code = refl; store = refl; style = refl; annotations = refl })
  lay_does (template_part part tagged span raw) p = prints_between k a (record { text = _; code = append_assoc p.code _ _; store = refl; style = refl; annotations = refl })
  lay_does (deeper items) p =
      let p1 : Pen = record p { depth = deeper_level p.style.minified p.depth } in
      let q : Pen = lay items p1 in
      does_then k a (white k a (stays p p1 refl refl refl refl)) (does_last k a (lay_does items p1) (white k a (stays q (record q { depth = p.depth }) refl refl refl refl)))
  lay_does (in_class items) p =
      let p1 : Pen = entered p in
      let q : Pen = lay items p1 in
      does_then k a (white k a (stays p p1 refl refl refl refl)) (does_last k a (lay_does items p1) (white k a (stays q (record q { classes = p.classes }) refl refl refl refl)))
  lay_does (brackets b items) p =
      let p1 : Pen = written (opening b) other_end p in
      does_then k a (prints k a (adds (opening b) other_end p)) (does_then k a (lay_does items p1) (prints k a (adds (closing b) other_end (lay items p1))))
  lay_does (wrapped test items) p =
      in_round k a test (lay_does items (written_if test (opening Round) p))
  lay_does (wrapped_at_start own opener items) p =
      let test : Bool = own || is_barred opener p.start in
      let p1 : Pen = written_if test (opening Round) p in
      in_round k a test (lay_does items p1)
  lay_does (parentheses_unless_minified items) p =
      let test : Bool = not p.style.minified in
      in_round k a test (lay_does items (written_if test (opening Round) p))
  lay_does (unless_minified items) p = items_unless p.style.minified (lay_does items p)
  lay_does (where_same m n x y) p = either_does (are_printed_alike p.style.tables m n) (lay_does x p) (lay_does y p)
  lay_does (mark span) p = prints_between k a (stays p (lay (mark span) p) refl refl refl refl).adds
  lay_does (end_mark span) p = prints_between k a (stays p (lay (end_mark span) p) refl refl refl refl).adds
  lay_does (link_mark span) p = prints_between k a (stays p (lay (link_mark span) p) refl refl refl refl).adds
  lay_does (marked_word span w) p = prints_between k a (record { text = _; code = append_assoc p.code _ _; store = refl; style = refl; annotations = refl })
  lay_does (marked_operator span sign) p = prints_between k a (record { text = _; code = append_assoc p.code _ _; store = refl; style = refl; annotations = refl })
  lay_does (marked_number span dot_is_its_own w) p = prints_between k a (record { text = _; code = append_assoc p.code _ _; store = refl; style = refl; annotations = refl })
  lay_does (marked_indentation always span) p = prints_between k a (adds_then (indents_by p.style.minified p).adds (stays (at_indentation p.style.minified p) (mark_behind (may_be_indented always p) span (at_indentation p.style.minified p)) refl refl refl refl).adds)
  lay_does apart p = prints_between k a (record { text = text_if (is_apart p.ending p.code) (codes " "); code = refl; store = refl; style = refl; annotations = refl })
  lay_does (word w) p = prints_between k a (adds _ _ p)
  lay_does (number dot_is_its_own w) p = prints_between k a (adds _ _ p)
  lay_does (literal w) p = prints_between k a (adds _ _ p)
  lay_does (regular_expression pattern flags) p = prints_between k a (adds _ _ p)
  lay_does (string backticks units) p = prints_between k a (adds _ _ p)
  lay_does (first_string units) p = prints_between k a (adds _ _ p)
  lay_does (directive raw) p = prints_between k a (adds _ _ p)
  lay_does (punctuator sign) p = prints_between k a (adds _ _ p)
  lay_does (operator sign) p = prints_between k a (adds _ _ p)
  lay_does member_dot p = prints_between k a (adds _ _ p)
  lay_does soft_space p = prints_between k a (adds_if _ _ p)
  lay_does soft_line p = prints_between k a (adds_if _ _ p)
  lay_does hard_space p = prints_between k a (adds _ _ p)
  lay_does indentation p = prints_between k a (indents_by p.style.minified p).adds
  lay_does body_space p = prints_between k a (stays p (lay body_space p) refl refl refl refl).adds
  lay_does statement_end p = prints_between k a (ends_statement p.style.minified p)
  lay_does due_semicolon p = prints_between k a (record { text = text_if p.pending_semicolon (codes ";"); code = refl; store = refl; style = refl; annotations = refl })
  lay_does drop_semicolon p = prints_between k a (stays p (lay drop_semicolon p) refl refl refl refl).adds
  lay_does statement_begins p = prints_between k a (stays p (lay statement_begins p) refl refl refl refl).adds
  lay_does arrow_body_begins p = prints_between k a (stays p (lay arrow_body_begins p) refl refl refl refl).adds
  lay_does default_export_begins p = prints_between k a (stays p (lay default_export_begins p) refl refl refl refl).adds
  lay_does (comments manner o) p = does_comments manner o p
  lay_does (orphans o) p = does_orphans o p
  lay_does (orphan_lines o) p = does_orphan_lines o p
  lay_does (empty_body o) p = does_empty_body o p
  lay_does (held o items) p =
      let p1 : Pen = without_ending (last_byte o) p in
      holds_ending k a (last_byte o) (bones items p1) p (lay items p1) (lay (held o items) p) (lay_does items p1) (writes_closing (ending_at (last_byte o) p) (lay items p1))
  lay_does (lined_case only items) p =
      let long : Bool = has_orphans only.start p in
      let p1 : Pen = case_begun long only.lead only.start p in
      let p2 : Pen = case_mark long only.lead p1 in
      does_then k a (does_begun long only.lead only.start p) (does_then k a (does_mark long only.lead p1) (does_then k a (lay_does items p2) (does_ended long p.depth only.end (lay items p2))))
  lay_does (caught start body items) p =
      let p1 : Pen = comments_at all_of_them start p in
      does_then k a (does_comments all_of_them start p) (does_then k a (lay_does items p1) (does_block (are_any (group_at start p)) body (lay items p1)))
  lay_does (annotation test kind o) p = annotation_if_on (test && p.style.annotated) kind o (does_annotation k a p.start kind o p)
  lay_does (annotation_line indented test o) p = annotation_if_on (test && p.style.annotated) no_side_effects o (does_annotation_line k a indented o p)
  lay_does (annotated call items) p =
      let wraps : Bool = lifts call p || call.wrapped in
      let on : Bool = call.pure && p.style.annotated in
      let p1 : Pen = written_if wraps (opening Round) p in
      let p2 : Pen = annotated_if on call.span call.start p.start p1 in
      in_round k a wraps (does_then k a (does_annotated on call.span call.start p.start p1) (lay_does items p2))
  lay_does (commented o items) p =
      let stand : Bool = are_any (group_at o p) in
      let p1 : Pen = written_if (is_enclosed o p) (opening Round) p in
      let p2 : Pen = commented_from o p in
      begun nowhere (object_does (is_barred a_brace p.start) stand o p (lay items p2) refl (does_then k a (begun nowhere (does_commented stand o p1)) (lay_does items p2)))
  lay_does (member_line o) p = does_member_line o p
  lay_does (member_space o) p = does_member_space o p
  lay_does (in_lines lines starts end items) p =
      let lined : Bool = are_lined lines starts end p in
      let p1 : Pen = lines_opened lined p in
      does_then k a (opens_lines lined p) (does_then k a (lay_does items p1) (does_closed lined lines end p.depth p.lines (lay items p1)))
  lay_does (line_break at) p = does_break at p

-- what leaves the store is printed, whatever is kept
pub lay_goes : (items : Items) (p : Pen) → Goes p (lay items p)
lay_goes items p = (lay_does [] [] items p).goes
