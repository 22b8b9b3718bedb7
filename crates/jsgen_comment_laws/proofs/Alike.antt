-- The bones of items from two pens are the same where their style, their classes, their semicolon and what begins there are: what waits to be
-- printed has no part in them.
use Rattle.std.proofs.lemmas.Bool.{true≢false, false≢true}
use Rattle.std.proofs.Common.{◌≡◌, ℕ, suc, Bool, true, false, ◌&&◌, ◌||◌, List, [], ◌∷◌, ◌++◌, length, drop, codes, refl, sym, ap, ◌∙◌, append_assoc, if◌then◌else◌, not}
use Rattle.jsgen_syntax.specs.Escapes.{name_text}
use Rattle.jsgen_syntax.specs.Raw.{template_text}
use Rattle.jsgen_tree.specs.Named.{printed_name}
use Rattle.jsgen_model.specs.Private.{printed_private, classes_within}
use Rattle.jsgen_model.specs.Punctuator.{Round, opening, closing, punctuator_text}
use Rattle.jsgen_model.specs.Items.{Items, no_side_effects, is_pure, nothing, ◌⊕◌, word, name, private_name, number, literal, regular_expression, template_part, string, first_string, directive, punctuator, operator, member_dot, soft_space, soft_line, hard_space, indentation, body_space, deeper, in_class, brackets, wrapped, wrapped_at_start, parentheses_unless_minified, unless_minified, where_same, statement_end, due_semicolon, drop_semicolon, statement_begins, arrow_body_begins, default_export_begins, mark, end_mark, link_mark, marked_word, marked_operator, marked_number, marked_indentation, apart, comments, orphans, orphan_lines, empty_body, held, lined_case, caught, annotation, annotation_line, annotated, commented, member_line, member_space, in_lines, line_break, a_brace, Break, first_argument, other_argument, import_source, import_options, Lead, to_block, to_body, to_empty, with_due_space, all_of_them}
use Rattle.jsgen_model.specs.Comments.{are_any}
use Rattle.jsgen_model.specs.Groups.{group_at, comments_at, has_orphans, case_begun, last_byte, ending_at, without_ending, are_lined, lines_opened, annotation_at, annotation_line_at}
use Rattle.jsgen_model.specs.Layout.{Pen, Style, other_end, written, written_if, text_if, space_if, unless_printed, led, on_one_line, is_barred, deeper_level, entered, at_indentation, are_printed_alike, is_apart, joins, joins_pattern, dot_joins, regular_expression_text, chosen_quote, first_quote, directive_quoted, end_statement, begun_at}
use Rattle.jsgen_model.specs.Lay.{lay, lifts, annotated_if, is_enclosed, commented_from, case_mark, mark_behind, may_be_indented, part_opening, part_closing}
use Rattle.jsgen_syntax.specs.Strings.{quoted}
use Rattle.jsgen_comment_laws.specs.Woven.{is_white, dark_of, Bones, no_bones, comment_gap, orphan_gap, ◌⧺◌, darks, in_parentheses, object_bones, annotation_if, gap_if, between, bones}
use Rattle.jsgen_comment_laws.proofs.Writes.{Adds, Writes, stays, none, writes_if, writes, indents_by, ends_statement, ended_by}
use Rattle.jsgen_comment_laws.proofs.Rests.{Rest, rest_of, Keeps, indentation_keeps, comments_keep, orphans_keep, orphan_lines_keep, empty_body_keeps, ending_keeps, closing_keeps, annotation_keeps, annotation_line_keeps, annotated_keeps, begun_keeps, case_mark_keeps, ended_keeps, block_keeps, commented_keeps, member_line_keeps, member_space_keeps, break_keeps, opened_keeps, closed_keeps, indentation_start, if_start, line_start, orphan_lines_start, ending_start, closing_start, empty_body_start, annotated_start, begun_start, ended_start, own_line_start, comments_start, orphans_start, block_start, break_start, opened_start, closed_start}

-- ---- texts

behind : (x y : List ℕ) → drop (length x) (x ++ y) ≡ y
behind [] y = refl
behind (c ∷ x) y = behind x y

between_is : {p q : Pen} (w : Adds p q) → between p q ≡ darks (dark_of w.text)
between_is {p} {q} w = ap (λ t. darks (dark_of t)) (ap (λ c. drop (length p.code) c) w.code ∙ behind p.code w.text)

-- of two steps with the same dark characters
same_text : {p q r s : Pen} (v : Adds p q) (w : Adds r s) → dark_of v.text ≡ dark_of w.text → between p q ≡ between r s
same_text v w e = between_is v ∙ (ap darks e ∙ sym (between_is w))

-- an item of its own from two pens
same_item : (item : Items) (p q : Pen) (v : Adds q (lay item q)) (w : Adds p (lay item p)) → dark_of v.text ≡ dark_of w.text → between q (lay item q) ≡ between p (lay item p)
same_item item p q v w e = same_text v w e

same_white : {p q r s : Pen} (v : Writes [] p q) (w : Writes [] r s) → is_white p.style.indent ≡ true → is_white r.style.indent ≡ true → between p q ≡ between r s
same_white v w e f = same_text v.adds w.adds (v.dark e ∙ sym (w.dark f))

spaced_dark : (b : Bool) (t : List ℕ) → dark_of (space_if b ++ t) ≡ dark_of t
spaced_dark true t = refl
spaced_dark false t = refl

text_dark : (b : Bool) (t : List ℕ) → dark_of (text_if b (codes " ") ++ t) ≡ dark_of t
text_dark true t = refl
text_dark false t = refl

same_spaced : (b c : Bool) (t u : List ℕ) → t ≡ u → dark_of (space_if b ++ t) ≡ dark_of (space_if c ++ u)
same_spaced b c t u e = spaced_dark b t ∙ (ap dark_of e ∙ sym (spaced_dark c u))

same_parted : (b c : Bool) (t u : List ℕ) → t ≡ u → dark_of (text_if b (codes " ") ++ t) ≡ dark_of (text_if c (codes " ") ++ u)
same_parted b c t u e = text_dark b t ∙ (ap dark_of e ∙ sym (text_dark c u))

-- ---- what stays

ends_alike : (b c : Bool) (p q : Pen) → b ≡ c → rest_of q ≡ rest_of p → rest_of (end_statement b q) ≡ rest_of (end_statement c p)
ends_alike true true p q e r = ap (λ (x : Rest). record x { semicolon = true }) r
ends_alike false false p q e r = r
ends_alike true false p q e r = absurd (true≢false e)
ends_alike false true p q e r = absurd (false≢true e)

ending_text : (b : Bool) (p : Pen) → dark_of (ends_statement b p).text ≡ dark_of (text_if (not b) (codes ";\n"))
ending_text true p = refl
ending_text false p = refl

-- ---- the whole

-- the bones bs from a pen that ends in y, and cs from p, which ends in x
pub record AlikeBy (bs cs : Bones) (y x p : Pen) : Type 0 where
  pub same : bs ≡ cs
  pub rest : rest_of y ≡ rest_of x
  pub start : y.start ≡ x.start
  pub style : x.style ≡ p.style

abbrev pub Alike : Items → Pen → Pen → Type 0
Alike items p q = AlikeBy (bones items q) (bones items p) (lay items q) (lay items p) p

-- what leaves the rest in both
kept : (p q x y : Pen) → Keeps p x → Keeps q y → rest_of q ≡ rest_of p → rest_of y ≡ rest_of x
kept p q x y h k r = k ∙ (r ∙ sym h)

style_kept : (p x : Pen) → Keeps p x → x.style ≡ p.style
style_kept p x h = ap (λ (z : Rest). z.style) h

style_of : (p q : Pen) → rest_of q ≡ rest_of p → q.style ≡ p.style
style_of p q r = ap (λ (z : Rest). z.style) r

white_of : (p q : Pen) → rest_of q ≡ rest_of p → is_white p.style.indent ≡ true → is_white q.style.indent ≡ true
white_of p q r w = ap (λ (z : Rest). is_white z.style.indent) r ∙ w

ends_style : (b : Bool) (p : Pen) → (end_statement b p).style ≡ p.style
ends_style true p = refl
ends_style false p = refl

-- what begins behind a text that the style tells of
unless_alike : (test : Style → Bool) (p q : Pen) → rest_of q ≡ rest_of p → q.start ≡ p.start → unless_printed (test q.style) q.start ≡ unless_printed (test p.style) p.start
unless_alike test p q r t = λ i. unless_printed (test (style_of p q r i)) (t i)

-- what leaves the start in both
start_kept : (p q x y : Pen) → x.start ≡ p.start → y.start ≡ q.start → q.start ≡ p.start → y.start ≡ x.start
start_kept p q x y h k t = k ∙ (t ∙ sym h)

ends_start : (b c : Bool) (p q : Pen) → b ≡ c → q.start ≡ p.start → (end_statement b q).start ≡ (end_statement c p).start
ends_start true true p q e t = t
ends_start false false p q e t = refl
ends_start true false p q e t = absurd (true≢false e)
ends_start false true p q e t = absurd (false≢true e)

break_alike : (at : Break) (p q : Pen) → rest_of q ≡ rest_of p → q.start ≡ p.start → (on_one_line at q).start ≡ (on_one_line at p).start
break_alike (first_argument o) p q r t = t
break_alike (other_argument o) p q r t = unless_alike (λ st. not st.minified) p q r t
break_alike (import_source o) p q r t = t
break_alike import_options p q r t = unless_alike (λ st. not st.minified) p q r t

led_alike : (lead : Lead) (p q : Pen) → rest_of q ≡ rest_of p → q.start ≡ p.start → (led lead q).start ≡ (led lead p).start
led_alike to_block p q r t = unless_alike (λ st. not st.minified) p q r t
led_alike to_body p q r t = t
led_alike (to_empty span) p q r t = t

if_keeps : (b : Bool) (p x : Pen) → Keeps p x → Keeps p (if b then x else p)
if_keeps true p x h = h
if_keeps false p x h = refl

minified_alike : (b c : Bool) (items : Items) (p q : Pen) → c ≡ b → rest_of q ≡ rest_of p → q.start ≡ p.start → Alike items p q → AlikeBy (if c then no_bones else bones items q) (if b then no_bones else bones items p) (if c then q else lay items q) (if b then p else lay items p) p
minified_alike true true items p q e r t h = record { same = refl; rest = r; start = t; style = refl }
minified_alike false false items p q e r t h = h
minified_alike true false items p q e r t h = absurd (false≢true e)
minified_alike false true items p q e r t h = absurd (true≢false e)

either_alike : (b c : Bool) (x y : Items) (p q : Pen) → c ≡ b → Alike x p q → Alike y p q → AlikeBy (if c then bones x q else bones y q) (if b then bones x p else bones y p) (if c then lay x q else lay y q) (if b then lay x p else lay y p) p
either_alike true true x y p q e h k = h
either_alike false false x y p q e h k = k
either_alike true false x y p q e h k = absurd (false≢true e)
either_alike false true x y p q e h k = absurd (true≢false e)

pub alike : (items : Items) (p q : Pen) → is_white p.style.indent ≡ true → rest_of q ≡ rest_of p → q.start ≡ p.start → Alike items p q
alike nothing p q w r t =
    record { same = same_white (none q) (none p) (white_of p q r w) w; rest = r; start = t; style = refl }
alike (x ⊕ y) p q w r t =
    let first = alike x p q w r t in
    let second = alike y (lay x p) (lay x q) (ap (λ (st : Style). is_white st.indent) first.style ∙ w) first.rest first.start in
    record { same = λ i. first.same i ⧺ second.same i; rest = second.rest; start = second.start; style = second.style ∙ first.style }
alike (word v) p q w r t =
    record { same = same_item (word v) p q (record { text = space_if (is_apart q.ending q.code) ++ v; code = refl; store = refl; style = refl; annotations = refl }) (record { text = space_if (is_apart p.ending p.code) ++ v; code = refl; store = refl; style = refl; annotations = refl }) (same_spaced (is_apart q.ending q.code) (is_apart p.ending p.code) (v) (v) refl); rest = r; start = refl; style = refl }
alike (number dot_is_its_own v) p q w r t =
    record { same = same_item (number dot_is_its_own v) p q (record { text = space_if (is_apart q.ending q.code) ++ v; code = refl; store = refl; style = refl; annotations = refl }) (record { text = space_if (is_apart p.ending p.code) ++ v; code = refl; store = refl; style = refl; annotations = refl }) (same_spaced (is_apart q.ending q.code) (is_apart p.ending p.code) (v) (v) refl); rest = r; start = refl; style = refl }
alike (regular_expression pattern flags) p q w r t =
    record { same = same_item (regular_expression pattern flags) p q (record { text = space_if (joins_pattern q.code pattern) ++ regular_expression_text q.style.ascii pattern flags; code = refl; store = refl; style = refl; annotations = refl }) (record { text = space_if (joins_pattern p.code pattern) ++ regular_expression_text p.style.ascii pattern flags; code = refl; store = refl; style = refl; annotations = refl }) (same_spaced (joins_pattern q.code pattern) (joins_pattern p.code pattern) (regular_expression_text q.style.ascii pattern flags) (regular_expression_text p.style.ascii pattern flags) (ap (λ (st : Style). regular_expression_text st.ascii pattern flags) (style_of p q r))); rest = r; start = refl; style = refl }
alike (operator sign) p q w r t =
    record { same = same_item (operator sign) p q (record { text = space_if (joins q.ending q.code sign) ++ punctuator_text sign; code = refl; store = refl; style = refl; annotations = refl }) (record { text = space_if (joins p.ending p.code sign) ++ punctuator_text sign; code = refl; store = refl; style = refl; annotations = refl }) (same_spaced (joins q.ending q.code sign) (joins p.ending p.code sign) (punctuator_text sign) (punctuator_text sign) refl); rest = r; start = refl; style = refl }
alike member_dot p q w r t =
    record { same = same_item member_dot p q (record { text = space_if (dot_joins q.ending) ++ codes "."; code = refl; store = refl; style = refl; annotations = refl }) (record { text = space_if (dot_joins p.ending) ++ codes "."; code = refl; store = refl; style = refl; annotations = refl }) (same_spaced (dot_joins q.ending) (dot_joins p.ending) (codes ".") (codes ".") refl); rest = r; start = refl; style = refl }
alike (literal v) p q w r t =
    record { same = same_item (literal v) p q (record { text = v; code = refl; store = refl; style = refl; annotations = refl }) (record { text = v; code = refl; store = refl; style = refl; annotations = refl }) refl; rest = r; start = refl; style = refl }
alike (string backticks units) p q w r t =
    record { same = same_item (string backticks units) p q (record { text = quoted (chosen_quote q.style backticks units) q.style.ascii units; code = refl; store = refl; style = refl; annotations = refl }) (record { text = quoted (chosen_quote p.style backticks units) p.style.ascii units; code = refl; store = refl; style = refl; annotations = refl }) (ap (λ (st : Style). dark_of (quoted (chosen_quote st backticks units) st.ascii units)) (style_of p q r)); rest = r; start = refl; style = refl }
alike (first_string units) p q w r t =
    record { same = same_item (first_string units) p q (record { text = quoted (first_quote q.style) q.style.ascii units; code = refl; store = refl; style = refl; annotations = refl }) (record { text = quoted (first_quote p.style) p.style.ascii units; code = refl; store = refl; style = refl; annotations = refl }) (ap (λ (st : Style). dark_of (quoted (first_quote st) st.ascii units)) (style_of p q r)); rest = r; start = refl; style = refl }
alike (directive raw) p q w r t =
    record { same = same_item (directive raw) p q (record { text = directive_quoted q.style raw; code = refl; store = refl; style = refl; annotations = refl }) (record { text = directive_quoted p.style raw; code = refl; store = refl; style = refl; annotations = refl }) (ap (λ (st : Style). dark_of (directive_quoted st raw)) (style_of p q r)); rest = r; start = refl; style = refl }
alike (punctuator sign) p q w r t =
    record { same = same_item (punctuator sign) p q (record { text = punctuator_text sign; code = refl; store = refl; style = refl; annotations = refl }) (record { text = punctuator_text sign; code = refl; store = refl; style = refl; annotations = refl }) refl; rest = r; start = refl; style = refl }
alike (name span n) p q w r t =
    record { same = same_item (name span n) p q (record { text = text_if (is_apart q.ending q.code) (codes " ") ++ name_text q.style.ascii (printed_name q.style.tables n); code = append_assoc q.code (text_if (is_apart q.ending q.code) (codes " ")) (name_text q.style.ascii (printed_name q.style.tables n)); store = refl; style = refl; annotations = refl }) (record { text = text_if (is_apart p.ending p.code) (codes " ") ++ name_text p.style.ascii (printed_name p.style.tables n); code = append_assoc p.code (text_if (is_apart p.ending p.code) (codes " ")) (name_text p.style.ascii (printed_name p.style.tables n)); store = refl; style = refl; annotations = refl }) (same_parted (is_apart q.ending q.code) (is_apart p.ending p.code) (name_text q.style.ascii (printed_name q.style.tables n)) (name_text p.style.ascii (printed_name p.style.tables n)) (ap (λ (st : Style). name_text st.ascii (printed_name st.tables n)) (style_of p q r))); rest = r; start = refl; style = refl }
alike (marked_word span v) p q w r t =
    record { same = same_item (marked_word span v) p q (record { text = text_if (is_apart q.ending q.code) (codes " ") ++ v; code = append_assoc q.code (text_if (is_apart q.ending q.code) (codes " ")) (v); store = refl; style = refl; annotations = refl }) (record { text = text_if (is_apart p.ending p.code) (codes " ") ++ v; code = append_assoc p.code (text_if (is_apart p.ending p.code) (codes " ")) (v); store = refl; style = refl; annotations = refl }) (same_parted (is_apart q.ending q.code) (is_apart p.ending p.code) (v) (v) refl); rest = r; start = refl; style = refl }
alike (marked_number span dot_is_its_own v) p q w r t =
    record { same = same_item (marked_number span dot_is_its_own v) p q (record { text = text_if (is_apart q.ending q.code) (codes " ") ++ v; code = append_assoc q.code (text_if (is_apart q.ending q.code) (codes " ")) (v); store = refl; style = refl; annotations = refl }) (record { text = text_if (is_apart p.ending p.code) (codes " ") ++ v; code = append_assoc p.code (text_if (is_apart p.ending p.code) (codes " ")) (v); store = refl; style = refl; annotations = refl }) (same_parted (is_apart q.ending q.code) (is_apart p.ending p.code) (v) (v) refl); rest = r; start = refl; style = refl }
alike (marked_operator span sign) p q w r t =
    record { same = same_item (marked_operator span sign) p q (record { text = text_if (joins q.ending q.code sign) (codes " ") ++ punctuator_text sign; code = append_assoc q.code (text_if (joins q.ending q.code sign) (codes " ")) (punctuator_text sign); store = refl; style = refl; annotations = refl }) (record { text = text_if (joins p.ending p.code sign) (codes " ") ++ punctuator_text sign; code = append_assoc p.code (text_if (joins p.ending p.code sign) (codes " ")) (punctuator_text sign); store = refl; style = refl; annotations = refl }) (same_parted (joins q.ending q.code sign) (joins p.ending p.code sign) (punctuator_text sign) (punctuator_text sign) refl); rest = r; start = refl; style = refl }
alike (private_name span v) p q w r t =
    record { same = same_item (private_name span v) p q (record { text = 35 ∷ name_text q.style.ascii (printed_private q.style.tables q.classes v); code = refl; store = refl; style = refl; annotations = refl }) (record { text = 35 ∷ name_text p.style.ascii (printed_private p.style.tables p.classes v); code = refl; store = refl; style = refl; annotations = refl }) (ap (λ (z : Rest). dark_of (35 ∷ name_text z.style.ascii (printed_private z.style.tables z.classes v))) r); rest = r; start = refl; style = refl }
alike (template_part part tagged span raw) p q w r t =
    record { same = same_item (template_part part tagged span raw) p q (record { text = part_opening part ++ (template_text tagged q.style.minified q.style.ascii raw ++ part_closing part); code = append_assoc q.code (part_opening part) (template_text tagged q.style.minified q.style.ascii raw ++ part_closing part); store = refl; style = refl; annotations = refl }) (record { text = part_opening part ++ (template_text tagged p.style.minified p.style.ascii raw ++ part_closing part); code = append_assoc p.code (part_opening part) (template_text tagged p.style.minified p.style.ascii raw ++ part_closing part); store = refl; style = refl; annotations = refl }) (ap (λ (st : Style). dark_of (part_opening part ++ (template_text tagged st.minified st.ascii raw ++ part_closing part))) (style_of p q r)); rest = r; start = refl; style = refl }
alike soft_space p q w r t =
    record { same = same_white (writes_if (not q.style.minified) (codes " ") q refl) (writes_if (not p.style.minified) (codes " ") p refl) (white_of p q r w) w; rest = r; start = unless_alike (λ st. not st.minified) p q r t; style = refl }
alike soft_line p q w r t =
    record { same = same_white (writes_if (not q.style.minified) (codes "\n") q refl) (writes_if (not p.style.minified) (codes "\n") p refl) (white_of p q r w) w; rest = r; start = unless_alike (λ st. not st.minified) p q r t; style = refl }
alike hard_space p q w r t =
    record { same = same_white (writes (codes " ") other_end q refl) (writes (codes " ") other_end p refl) (white_of p q r w) w; rest = r; start = refl; style = refl }
alike apart p q w r t =
    record { same = same_white (writes_if (is_apart q.ending q.code) (codes " ") q refl) (writes_if (is_apart p.ending p.code) (codes " ") p refl) (white_of p q r w) w; rest = r; start = t; style = refl }
alike indentation p q w r t =
    record { same = same_white (indents_by q.style.minified q) (indents_by p.style.minified p) (white_of p q r w) w; rest = kept p q (lay indentation p) (lay indentation q) (indentation_keeps p.style.minified p) (indentation_keeps q.style.minified q) r; start = start_kept p q (lay indentation p) (lay indentation q) (indentation_start p.style.minified p) (indentation_start q.style.minified q) t; style = style_kept p (lay indentation p) (indentation_keeps p.style.minified p) }
alike (marked_indentation always span) p q w r t =
    record { same = same_white (ended_by (indents_by q.style.minified q) (stays (at_indentation q.style.minified q) (mark_behind (may_be_indented always q) span (at_indentation q.style.minified q)) refl refl refl refl)) (ended_by (indents_by p.style.minified p) (stays (at_indentation p.style.minified p) (mark_behind (may_be_indented always p) span (at_indentation p.style.minified p)) refl refl refl refl)) (white_of p q r w) w; rest = kept p q (lay (marked_indentation always span) p) (lay (marked_indentation always span) q) (indentation_keeps p.style.minified p) (indentation_keeps q.style.minified q) r; start = start_kept p q (lay (marked_indentation always span) p) (lay (marked_indentation always span) q) (indentation_start p.style.minified p) (indentation_start q.style.minified q) t; style = style_kept p (lay (marked_indentation always span) p) (indentation_keeps p.style.minified p) }
alike body_space p q w r t =
    record { same = same_white (stays q (lay body_space q) refl refl refl refl) (stays p (lay body_space p) refl refl refl refl) (white_of p q r w) w; rest = r; start = t; style = refl }
alike statement_begins p q w r t =
    record { same = same_white (stays q (lay statement_begins q) refl refl refl refl) (stays p (lay statement_begins p) refl refl refl refl) (white_of p q r w) w; rest = r; start = refl; style = refl }
alike arrow_body_begins p q w r t =
    record { same = same_white (stays q (lay arrow_body_begins q) refl refl refl refl) (stays p (lay arrow_body_begins p) refl refl refl refl) (white_of p q r w) w; rest = r; start = refl; style = refl }
alike default_export_begins p q w r t =
    record { same = same_white (stays q (lay default_export_begins q) refl refl refl refl) (stays p (lay default_export_begins p) refl refl refl refl) (white_of p q r w) w; rest = r; start = refl; style = refl }
alike (mark span) p q w r t =
    record { same = same_white (stays q (lay (mark span) q) refl refl refl refl) (stays p (lay (mark span) p) refl refl refl refl) (white_of p q r w) w; rest = r; start = t; style = refl }
alike (end_mark span) p q w r t =
    record { same = same_white (stays q (lay (end_mark span) q) refl refl refl refl) (stays p (lay (end_mark span) p) refl refl refl refl) (white_of p q r w) w; rest = r; start = t; style = refl }
alike (link_mark span) p q w r t =
    record { same = same_white (stays q (lay (link_mark span) q) refl refl refl refl) (stays p (lay (link_mark span) p) refl refl refl refl) (white_of p q r w) w; rest = r; start = t; style = refl }
alike statement_end p q w r t =
    record { same = same_text (ends_statement q.style.minified q) (ends_statement p.style.minified p) (ending_text q.style.minified q ∙ (ap (λ (st : Style). dark_of (text_if (not st.minified) (codes ";\n"))) (style_of p q r) ∙ sym (ending_text p.style.minified p))); rest = ends_alike q.style.minified p.style.minified p q (ap (λ (st : Style). st.minified) (style_of p q r)) r; start = ends_start q.style.minified p.style.minified p q (ap (λ (st : Style). st.minified) (style_of p q r)) t; style = ends_style p.style.minified p }
alike due_semicolon p q w r t =
    record { same = same_item due_semicolon p q (record { text = text_if q.pending_semicolon (codes ";"); code = refl; store = refl; style = refl; annotations = refl }) (record { text = text_if p.pending_semicolon (codes ";"); code = refl; store = refl; style = refl; annotations = refl }) (ap (λ (z : Rest). dark_of (text_if z.semicolon (codes ";"))) r); rest = ap (λ (z : Rest). record z { semicolon = false }) r; start = λ i. unless_printed (r i).semicolon (t i); style = refl }
alike drop_semicolon p q w r t =
    record { same = same_white (stays q (lay drop_semicolon q) refl refl refl refl) (stays p (lay drop_semicolon p) refl refl refl refl) (white_of p q r w) w; rest = ap (λ (z : Rest). record z { semicolon = false }) r; start = t; style = refl }
alike (deeper items) p q w r t =
    let a = alike items (record p { depth = deeper_level p.style.minified p.depth }) (record q { depth = deeper_level q.style.minified q.depth }) w r t in
    record { same = a.same; rest = a.rest; start = a.start; style = a.style }
alike (in_class items) p q w r t =
    let a = alike items (entered p) (entered q) w (ap (λ (z : Rest). record z { classes = classes_within z.style.tables z.next_class z.classes; next_class = suc z.next_class }) r) t in
    record { same = a.same; rest = λ i. record (a.rest i) { classes = (r i).classes }; start = a.start; style = a.style }
alike (brackets b items) p q w r t =
    let a = alike items (written (opening b) other_end p) (written (opening b) other_end q) w r refl in
    record { same = λ i. darks (dark_of (opening b)) ⧺ (a.same i ⧺ darks (dark_of (closing b))); rest = a.rest; start = refl; style = a.style }
alike (wrapped test items) p q w r t =
    let a = alike items (written_if test (opening Round) p) (written_if test (opening Round) q) w r (ap (unless_printed test) t) in
    record { same = ap (in_parentheses test) a.same; rest = a.rest; start = ap (unless_printed test) a.start; style = a.style }
alike (wrapped_at_start own opener items) p q w r t =
    let x : Pen = written_if (own || is_barred opener p.start) (opening Round) p in
    let y : Pen = written_if (own || is_barred opener q.start) (opening Round) q in
    let a = alike items x y w r (ap (λ z. unless_printed (own || is_barred opener z) z) t) in
    record { same = λ i. in_parentheses (own || is_barred opener (t i)) (a.same i); rest = a.rest; start = λ i. unless_printed (own || is_barred opener (t i)) (a.start i); style = a.style }
alike (parentheses_unless_minified items) p q w r t =
    let x : Pen = written_if (not p.style.minified) (opening Round) p in
    let y : Pen = written_if (not q.style.minified) (opening Round) q in
    let a = alike items x y w r (unless_alike (λ st. not st.minified) p q r t) in
    record { same = λ i. in_parentheses (not (style_of p q r i).minified) (a.same i); rest = a.rest; start = λ i. unless_printed (not (style_of p q r i).minified) (a.start i); style = a.style }
alike (unless_minified items) p q w r t = minified_alike p.style.minified q.style.minified items p q (ap (λ (st : Style). st.minified) (style_of p q r)) r t (alike items p q w r t)
alike (where_same m n x y) p q w r t = either_alike (are_printed_alike p.style.tables m n) (are_printed_alike q.style.tables m n) x y p q (ap (λ (st : Style). are_printed_alike st.tables m n) (style_of p q r)) (alike x p q w r t) (alike y p q w r t)
alike (comments manner o) p q w r t = record { same = refl; rest = kept p q (lay (comments manner o) p) (lay (comments manner o) q) (comments_keep manner o p) (comments_keep manner o q) r; start = start_kept p q (lay (comments manner o) p) (lay (comments manner o) q) (comments_start manner o p) (comments_start manner o q) t; style = style_kept p (lay (comments manner o) p) (comments_keep manner o p) }
alike (orphans o) p q w r t = record { same = refl; rest = kept p q (lay (orphans o) p) (lay (orphans o) q) (orphans_keep o p) (orphans_keep o q) r; start = start_kept p q (lay (orphans o) p) (lay (orphans o) q) (orphans_start o p) (orphans_start o q) t; style = style_kept p (lay (orphans o) p) (orphans_keep o p) }
alike (orphan_lines o) p q w r t = record { same = refl; rest = kept p q (lay (orphan_lines o) p) (lay (orphan_lines o) q) (orphan_lines_keep o p) (orphan_lines_keep o q) r; start = start_kept p q (lay (orphan_lines o) p) (lay (orphan_lines o) q) (orphan_lines_start o p) (orphan_lines_start o q) t; style = style_kept p (lay (orphan_lines o) p) (orphan_lines_keep o p) }
alike (empty_body o) p q w r t = record { same = refl; rest = kept p q (lay (empty_body o) p) (lay (empty_body o) q) (empty_body_keeps o p) (empty_body_keeps o q) r; start = start_kept p q (lay (empty_body o) p) (lay (empty_body o) q) (empty_body_start o p) (empty_body_start o q) t; style = style_kept p (lay (empty_body o) p) (empty_body_keeps o p) }
alike (member_line o) p q w r t = record { same = refl; rest = kept p q (lay (member_line o) p) (lay (member_line o) q) (member_line_keeps o p) (member_line_keeps o q) r; start = own_line_start o (written_if (not q.style.minified) (codes "\n") q) ∙ (unless_alike (λ st. not st.minified) p q r t ∙ sym (own_line_start o (written_if (not p.style.minified) (codes "\n") p))); style = style_kept p (lay (member_line o) p) (member_line_keeps o p) }
alike (member_space o) p q w r t = record { same = refl; rest = kept p q (lay (member_space o) p) (lay (member_space o) q) (member_space_keeps o p) (member_space_keeps o q) r; start = comments_start with_due_space o (written_if (not q.style.minified) (codes " ") q) ∙ (unless_alike (λ st. not st.minified) p q r t ∙ sym (comments_start with_due_space o (written_if (not p.style.minified) (codes " ") p))); style = style_kept p (lay (member_space o) p) (member_space_keeps o p) }
alike (line_break at) p q w r t = record { same = refl; rest = kept p q (lay (line_break at) p) (lay (line_break at) q) (break_keeps at p) (break_keeps at q) r; start = break_start at q ∙ (break_alike at p q r t ∙ sym (break_start at p)); style = style_kept p (lay (line_break at) p) (break_keeps at p) }
alike (held o items) p q w r t =
    let x : Pen = without_ending (last_byte o) p in
    let y : Pen = without_ending (last_byte o) q in
    let kx = ending_keeps (last_byte o) p in
    let s = style_kept p x kx in
    let a = alike items x y (ap (λ (st : Style). is_white st.indent) s ∙ w) (kept p q x y kx (ending_keeps (last_byte o) q) r) (start_kept p q x y (ending_start (last_byte o) p) (ending_start (last_byte o) q) t) in
    let cx = closing_keeps (ending_at (last_byte o) p) (lay items x) in
    record {
      same = λ i. a.same i ⧺ gap_if (last_byte o);
      rest = kept (lay items x) (lay items y) (lay (held o items) p) (lay (held o items) q) cx (closing_keeps (ending_at (last_byte o) q) (lay items y)) a.rest;
      start = start_kept (lay items x) (lay items y) (lay (held o items) p) (lay (held o items) q) (closing_start (ending_at (last_byte o) p) (lay items x)) (closing_start (ending_at (last_byte o) q) (lay items y)) a.start;
      style = style_kept (lay items x) (lay (held o items) p) cx ∙ (a.style ∙ s);
    }
alike (lined_case only items) p q w r t =
    let bx : Pen = case_begun (has_orphans only.start p) only.lead only.start p in
    let by : Pen = case_begun (has_orphans only.start q) only.lead only.start q in
    let x : Pen = case_mark (has_orphans only.start p) only.lead bx in
    let y : Pen = case_mark (has_orphans only.start q) only.lead by in
    let kx : Keeps p x = case_mark_keeps (has_orphans only.start p) only.lead bx ∙ begun_keeps (has_orphans only.start p) only.lead only.start p in
    let ky : Keeps q y = case_mark_keeps (has_orphans only.start q) only.lead by ∙ begun_keeps (has_orphans only.start q) only.lead only.start q in
    let s = style_kept p x kx in
    let a = alike items x y (ap (λ (st : Style). is_white st.indent) s ∙ w) (kept p q x y kx ky r) (start_kept (led only.lead p) (led only.lead q) x y (begun_start (has_orphans only.start p) only.lead only.start p) (begun_start (has_orphans only.start q) only.lead only.start q) (led_alike only.lead p q r t)) in
    let cx = ended_keeps (has_orphans only.start p) p.depth only.end (lay items x) in
    record {
      same = λ i. orphan_gap only.start (comment_gap (only.start ∷ []) (a.same i ⧺ orphan_gap only.end no_bones));
      rest = kept (lay items x) (lay items y) (lay (lined_case only items) p) (lay (lined_case only items) q) cx (ended_keeps (has_orphans only.start q) q.depth only.end (lay items y)) a.rest;
      start = start_kept (lay items x) (lay items y) (lay (lined_case only items) p) (lay (lined_case only items) q) (ended_start (has_orphans only.start p) p.depth only.end (lay items x)) (ended_start (has_orphans only.start q) q.depth only.end (lay items y)) a.start;
      style = style_kept (lay items x) (lay (lined_case only items) p) cx ∙ (a.style ∙ s);
    }
alike (caught start body items) p q w r t =
    let x : Pen = comments_at all_of_them start p in
    let y : Pen = comments_at all_of_them start q in
    let kx = comments_keep all_of_them start p in
    let s = style_kept p x kx in
    let a = alike items x y (ap (λ (st : Style). is_white st.indent) s ∙ w) (kept p q x y kx (comments_keep all_of_them start q) r) (start_kept p q x y (comments_start all_of_them start p) (comments_start all_of_them start q) t) in
    let cx = block_keeps (are_any (group_at start p)) body (lay items x) in
    record {
      same = λ i. comment_gap (start ∷ []) (a.same i ⧺ comment_gap (body ∷ []) no_bones);
      rest = kept (lay items x) (lay items y) (lay (caught start body items) p) (lay (caught start body items) q) cx (block_keeps (are_any (group_at start q)) body (lay items y)) a.rest;
      start = start_kept (lay items x) (lay items y) (lay (caught start body items) p) (lay (caught start body items) q) (block_start (are_any (group_at start p)) body (lay items x)) (block_start (are_any (group_at start q)) body (lay items y)) a.start;
      style = style_kept (lay items x) (lay (caught start body items) p) cx ∙ (a.style ∙ s);
    }
alike (annotation test kind o) p q w r t =
    let kx = if_keeps (test && p.style.annotated) p (begun_at p.start (annotation_at kind o p)) (annotation_keeps p.start kind o p) in
    let ky = if_keeps (test && q.style.annotated) q (begun_at q.start (annotation_at kind o q)) (annotation_keeps q.start kind o q) in
    record { same = ap (λ (st : Style). annotation_if (test && st.annotated) kind o) (style_of p q r); rest = kept p q (lay (annotation test kind o) p) (lay (annotation test kind o) q) kx ky r; start = start_kept p q (lay (annotation test kind o) p) (lay (annotation test kind o) q) (if_start (test && p.style.annotated) (begun_at p.start (annotation_at kind o p)) p refl) (if_start (test && q.style.annotated) (begun_at q.start (annotation_at kind o q)) q refl) t; style = style_kept p (lay (annotation test kind o) p) kx }
alike (annotation_line indented test o) p q w r t =
    let kx = if_keeps (test && p.style.annotated) p (annotation_line_at indented o p) (annotation_line_keeps indented o p) in
    let ky = if_keeps (test && q.style.annotated) q (annotation_line_at indented o q) (annotation_line_keeps indented o q) in
    record { same = ap (λ (st : Style). annotation_if (test && st.annotated) no_side_effects o) (style_of p q r); rest = kept p q (lay (annotation_line indented test o) p) (lay (annotation_line indented test o) q) kx ky r; start = line_start (test && q.style.annotated) (annotation_line_at indented o q) q refl ∙ (unless_alike (λ st. test && st.annotated) p q r t ∙ sym (line_start (test && p.style.annotated) (annotation_line_at indented o p) p refl)); style = style_kept p (lay (annotation_line indented test o) p) kx }
alike (annotated call items) p q w r t =
    let x0 : Pen = written_if (lifts call p || call.wrapped) (opening Round) p in
    let y0 : Pen = written_if (lifts call q || call.wrapped) (opening Round) q in
    let x : Pen = annotated_if (call.pure && p.style.annotated) call.span call.start p.start x0 in
    let y : Pen = annotated_if (call.pure && q.style.annotated) call.span call.start q.start y0 in
    let kx = annotated_keeps (call.pure && p.style.annotated) call.span call.start p.start x0 in
    let s = style_kept x0 x kx in
    let st = style_of p q r in
    let begins : y.start ≡ x.start = annotated_start (call.pure && q.style.annotated) call.span call.start q.start y0 ∙ ((λ i. if call.pure && (st i).annotated then t i else unless_printed (((call.pure && (st i).annotated) && call.lifted) || call.wrapped) (t i)) ∙ sym (annotated_start (call.pure && p.style.annotated) call.span call.start p.start x0)) in
    let a = alike items x y (ap (λ (st : Style). is_white st.indent) s ∙ w) (kept x0 y0 x y kx (annotated_keeps (call.pure && q.style.annotated) call.span call.start q.start y0) r) begins in
    record {
      same = λ i. in_parentheses (((call.pure && (st i).annotated) && call.lifted) || call.wrapped) (annotation_if (call.pure && (st i).annotated) is_pure call.start ⧺ a.same i);
      rest = a.rest;
      start = λ i. unless_printed (((call.pure && (st i).annotated) && call.lifted) || call.wrapped) (a.start i);
      style = a.style ∙ s;
    }
alike (commented o items) p q w r t =
    let x0 : Pen = written_if (is_enclosed o p) (opening Round) p in
    let y0 : Pen = written_if (is_enclosed o q) (opening Round) q in
    let x : Pen = commented_from o p in
    let y : Pen = commented_from o q in
    let kx : Keeps x0 x = commented_keeps (are_any (group_at o p)) o x0 in
    let ky : Keeps y0 y = commented_keeps (are_any (group_at o q)) o y0 in
    let s = style_kept x0 x kx in
    let a = alike items x y (ap (λ (st : Style). is_white st.indent) s ∙ w) (kept x0 y0 x y kx ky r) refl in
    record { same = λ i. object_bones (is_barred a_brace (t i)) o (comment_gap (o ∷ []) (a.same i)); rest = a.rest; start = refl; style = a.style ∙ s }
alike (in_lines lines starts end items) p q w r t =
    let x : Pen = lines_opened (are_lined lines starts end p) p in
    let y : Pen = lines_opened (are_lined lines starts end q) q in
    let kx = opened_keeps (are_lined lines starts end p) p in
    let s = style_kept p x kx in
    let a = alike items x y (ap (λ (st : Style). is_white st.indent) s ∙ w) (kept p q x y kx (opened_keeps (are_lined lines starts end q) q) r) (start_kept p q x y (opened_start (are_lined lines starts end p) p) (opened_start (are_lined lines starts end q) q) t) in
    let cx = closed_keeps (are_lined lines starts end p) lines end p.depth p.lines (lay items x) in
    record {
      same = λ i. a.same i ⧺ gap_if (last_byte end);
      rest = kept (lay items x) (lay items y) (lay (in_lines lines starts end items) p) (lay (in_lines lines starts end items) q) cx (closed_keeps (are_lined lines starts end q) lines end q.depth q.lines (lay items y)) a.rest;
      start = start_kept (lay items x) (lay items y) (lay (in_lines lines starts end items) p) (lay (in_lines lines starts end items) q) (closed_start (are_lined lines starts end p) lines end p.depth p.lines (lay items x)) (closed_start (are_lined lines starts end q) lines end q.depth q.lines (lay items y)) a.start;
      style = style_kept (lay items x) (lay (in_lines lines starts end items) p) cx ∙ (a.style ∙ s);
    }
