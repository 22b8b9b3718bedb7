-- What steps write behind the code, the texts of some comments among it, where nothing leaves the store.
use Rattle.std.specs.Prelude.{not as isnt, not}
use Rattle.std.proofs.lemmas.Bool.{false≢true}
use Rattle.std.proofs.lemmas.List.Elements.{filter-append}
use Rattle.std.proofs.Common.{cond, zero, suc, ◌≡◌, ℕ, ◌*◌, Bool, true, false, ◌||◌, ◌==◌, List, [], ◌∷◌, ◌++◌, Option, Some, None, codes, drop, replicate, refl, ap, sym, subst, ◌∙◌, append_assoc, append-nil, if◌then◌else◌}
use Rattle.std.specs.Str.{skip_leading_whitespace}
use Rattle.jsgen_syntax.specs.Raw.{tag_free}
use Rattle.jsgen_tree.specs.declared.statements.CommentKind.{CommentKind}
use Rattle.jsgen_tree.specs.declared.statements.CommentKind.TheVariants as kinds
use Rattle.jsgen_tree.specs.Options.{Legal, left_out, inline, at_end, linked, external}
use Rattle.jsgen_model.specs.Items.{Manner, all_of_them, then_space, with_due_space, before_it, annotation_before_it, with_key_annotation, none_of_them, Lead, to_block, to_body, to_empty}
use Rattle.jsgen_model.specs.Comments.{Comment}
use Rattle.jsgen_model.specs.Groups.{is_dark, line_ended, indented_here, softly_spaced, with_pending_space, used_up_if, used_up, lines_of, opens_block, closes_block, indented_if, block_line, block_lines, is_mid_line, html_close, text_written, comment_written, last_of, on_new_line, at_line_start, before_first, is_legal, before_later, is_line, ends_its_line, behind_last, behind_comment, group, code_ends_in, before_group, behind_group, closing_group, each_on_line, broken_by, soft_line_ended}
use Rattle.jsgen_model.specs.Ends.{each_written, licensed, reference}
use Rattle.jsgen_model.specs.Layout.{Pen, Ending, other_end, written, written_if, text_if, indented, indent_or_space, at_indentation, end_statement, led, white_if, begun_at}
use Rattle.jsgen_comment_laws.specs.Stand.{CommentPlaces, IsIndentedByBlanks}
use Rattle.jsgen_comment_laws.specs.Woven.{is_white, dark_of, InTwo, IsDarkTextOf}

-- ---- places in longer texts

behind_text : (a b : List ℕ) (cs : List Comment) → CommentPlaces b cs → CommentPlaces (a ++ b) cs
behind_text a b [] h = tt
behind_text a b (c ∷ cs) h = (
  record {
    before = a ++ h.0.before;
    own = h.0.own;
    rest = h.0.rest;
    is = ap (λ x. a ++ x) h.0.is ∙ sym (append_assoc a h.0.before (h.0.own ++ h.0.rest));
    its = h.0.its;
  },
  h.1,
)

pub stand_both : (a b : List ℕ) (cs ds : List Comment) → CommentPlaces a cs → CommentPlaces b ds → CommentPlaces (a ++ b) (cs ++ ds)
stand_both a b [] ds h k = behind_text a b ds k
stand_both a b (c ∷ cs) ds h k = (
  record {
    before = h.0.before;
    own = h.0.own;
    rest = h.0.rest ++ b;
    is = ap (λ x. x ++ b) h.0.is ∙ (append_assoc h.0.before (h.0.own ++ h.0.rest) b ∙ ap (λ x. h.0.before ++ x) (append_assoc h.0.own h.0.rest b));
    its = h.0.its;
  },
  stand_both h.0.rest b cs ds h.1 k,
)

-- ---- characters that aren't white

pub dark_both : (a b : List ℕ) → dark_of (a ++ b) ≡ dark_of a ++ dark_of b
dark_both a b = filter-append (λ c. isnt (is_white c)) a b

dark_replicate : (n c : ℕ) → is_white c ≡ true → dark_of (replicate n c) ≡ []
dark_replicate zero c e = refl
dark_replicate (suc n) c e = by (is_white c) e (dark_replicate n c e)
  where
    by : (b : Bool) → b ≡ true → dark_of (replicate n c) ≡ [] → cond (isnt b) (c ∷ dark_of (replicate n c)) (dark_of (replicate n c)) ≡ []
    by true e rest = rest
    by false e rest = absurd (false≢true e)

-- the dark characters are those of the comments' texts, one behind the other
abbrev pub DarkTexts : List Comment → List ℕ → Type 0
DarkTexts [] bytes = bytes ≡ []
DarkTexts (c ∷ cs) bytes = InTwo bytes (IsDarkTextOf c) (λ rest. DarkTexts cs rest)

dark_texts_both : (cs ds : List Comment) (x y : List ℕ) → DarkTexts cs x → DarkTexts ds y → DarkTexts (cs ++ ds) (x ++ y)
dark_texts_both [] ds x y h k = subst (λ z. DarkTexts ds (z ++ y)) (sym h) k
dark_texts_both (c ∷ cs) ds x y h k = record {
  first = h.first;
  second = h.second ++ y;
  is = ap (λ z. z ++ y) h.is ∙ append_assoc h.first h.second y;
  one = h.one;
  other = dark_texts_both cs ds h.second y h.other k;
}

-- ---- steps

-- text behind the code, and nothing else that matters here
pub record Adds (p q : Pen) : Type 0 where
  pub text : List ℕ
  pub code : q.code ≡ p.code ++ text
  pub store : q.store ≡ p.store
  pub style : q.style ≡ p.style
  pub annotations : q.annotations ≡ p.annotations

-- text behind the code, in which the comments stand where levels are indented by blanks, and what else there is is white
pub record Writes (cs : List Comment) (p q : Pen) : Type 0 where
  pub adds : Adds p q
  pub stand : IsIndentedByBlanks p → CommentPlaces adds.text cs
  pub dark : is_white p.style.indent ≡ true → DarkTexts cs (dark_of adds.text)

abbrev pub adds_then : {p q r : Pen} → Adds p q → Adds q r → Adds p r
adds_then {p} a b = record {
  text = a.text ++ b.text;
  code = b.code ∙ (ap (λ x. x ++ b.text) a.code ∙ append_assoc p.code a.text b.text);
  store = b.store ∙ a.store;
  style = b.style ∙ a.style;
  annotations = b.annotations ∙ a.annotations;
}

-- levels are indented by blanks where the style is kept
pub still_indented : (p q : Pen) → q.style ≡ p.style → IsIndentedByBlanks p → IsIndentedByBlanks q
still_indented p q e h = ap (λ st. is_dark st.indent) e ∙ h

pub both : {cs ds : List Comment} {p q r : Pen} → Writes cs p q → Writes ds q r → Writes (cs ++ ds) p r
both {cs} {ds} {p} {q} a b = record {
  adds = adds_then a.adds b.adds;
  stand = λ h. stand_both a.adds.text b.adds.text cs ds (a.stand h) (b.stand (still_indented p q a.adds.style h));
  dark = λ w. subst (λ x. DarkTexts (cs ++ ds) x) (sym (dark_both a.adds.text b.adds.text)) (dark_texts_both cs ds (dark_of a.adds.text) (dark_of b.adds.text) (a.dark w) (b.dark (ap (λ st. is_white st.indent) a.adds.style ∙ w)));
}

-- a step without a comment behind it
pub ended_by : {cs : List Comment} {p q r : Pen} → Writes cs p q → Writes [] q r → Writes cs p r
ended_by {cs} {p} {q} {r} a b = subst (λ ds. Writes ds p r) (append-nil cs) (both a b)

abbrev pub stays : (p q : Pen) → q.code ≡ p.code → q.store ≡ p.store → q.style ≡ p.style → q.annotations ≡ p.annotations → Writes [] p q
stays p q e f g h = record { adds = record { text = []; code = e ∙ sym (append-nil p.code); store = f; style = g; annotations = h }; stand = λ h. tt; dark = λ w. refl }

abbrev pub none : (p : Pen) → Writes [] p p
none p = stays p p refl refl refl refl

-- any text
abbrev pub adds : (t : List ℕ) (e : Ending) (p : Pen) → Adds p (written t e p)
adds t e p = record { text = t; code = refl; store = refl; style = refl; annotations = refl }

abbrev pub adds_if : (test : Bool) (t : List ℕ) (p : Pen) → Adds p (written_if test t p)
adds_if test t p = record { text = text_if test t; code = refl; store = refl; style = refl; annotations = refl }

-- white text
pub writes : (t : List ℕ) (e : Ending) (p : Pen) → dark_of t ≡ [] → Writes [] p (written t e p)
writes t e p w = record { adds = adds t e p; stand = λ h. tt; dark = λ h. w }

pub writes_if : (test : Bool) (t : List ℕ) (p : Pen) → dark_of t ≡ [] → Writes [] p (written_if test t p)
writes_if true t p w = record { adds = adds_if true t p; stand = λ h. tt; dark = λ h. w }
writes_if false t p w = record { adds = adds_if false t p; stand = λ h. tt; dark = λ h. refl }

-- the same, behind which begins what did before it
whitens : (test : Bool) (t : List ℕ) (p : Pen) → dark_of t ≡ [] → Writes [] p (white_if test t p)
whitens test t p w = ended_by (writes_if test t p w) (stays (written_if test t p) (white_if test t p) refl refl refl refl)

pub nothing_written : (t : List ℕ) (p : Pen) → Writes [] p (written_if false t p)
nothing_written t p = record { adds = adds_if false t p; stand = λ h. tt; dark = λ h. refl }

pub one_of : {cs : List Comment} (test : Bool) {p a b : Pen} → Writes cs p a → Writes cs p b → Writes cs p (if test then a else b)
one_of true h k = h
one_of false h k = k

-- ---- indentation

abbrev indented_adds : (t : List ℕ) (p : Pen) → Adds p (indented t p)
indented_adds [] p = (none p).adds
indented_adds (c ∷ cs) p = record { text = c ∷ cs; code = refl; store = refl; style = refl; annotations = refl }

indented_dark : (t : List ℕ) (p : Pen) → dark_of t ≡ [] → dark_of (indented_adds t p).text ≡ []
indented_dark [] p e = refl
indented_dark (c ∷ cs) p e = e

or_space : (pending : Bool) (p : Pen) → Writes [] p (indent_or_space pending p)
or_space true p = record { adds = record { text = codes " "; code = refl; store = refl; style = refl; annotations = refl }; stand = λ h. tt; dark = λ w. refl }
or_space false p =
    let t = replicate (p.depth * p.style.width) p.style.indent in
    record { adds = indented_adds t p; stand = λ h. tt; dark = λ w. indented_dark t p (dark_replicate (p.depth * p.style.width) p.style.indent w) }

pub indents_by : (minified : Bool) (p : Pen) → Writes [] p (at_indentation minified p)
indents_by true p = none p
indents_by false p = or_space p.pending_space p

pub indents : (p : Pen) → Writes [] p (indented_here p)
indents p = indents_by p.style.minified p

pub indents_if : (b : Bool) (p : Pen) → Writes [] p (indented_if b p)
indents_if true p = indents p
indents_if false p = none p

abbrev pub ends_statement : (minified : Bool) (p : Pen) → Adds p (end_statement minified p)
ends_statement true p = (stays p (end_statement true p) refl refl refl refl).adds
ends_statement false p = adds (codes ";\n") other_end p

pub uses_up_if : (b : Bool) (p : Pen) → Writes [] p (used_up_if b p)
uses_up_if true p = ended_by (whitens (not p.style.minified) (codes " ") p refl) (stays (softly_spaced p) (used_up_if true p) refl refl refl refl)
uses_up_if false p = none p

uses_up : (p : Pen) → Writes [] p (used_up p)
uses_up p = uses_up_if p.pending_space p

pub ends_line_softly : (p : Pen) → Writes [] p (soft_line_ended p)
ends_line_softly p = whitens (not p.style.minified) (codes "\n") p refl

spaces : (p : Pen) → Writes [] p (softly_spaced p)
spaces p = whitens (not p.style.minified) (codes " ") p refl

-- ---- one comment

line_adds : (l : List ℕ) (p : Pen) → Adds p (block_line l p)
line_adds l p =
    let p1 : Pen = indented_if (not (opens_block l)) p in
    let p2 : Pen = written (tag_free (skip_leading_whitespace l)) other_end p1 in
    adds_then (indents_if (not (opens_block l)) p).adds (adds_then (adds (tag_free (skip_leading_whitespace l)) other_end p1) (adds_if (not (closes_block l)) (codes "\n") p2))

lines_add : (ls : List (List ℕ)) (p : Pen) → Adds p (block_lines ls p)
lines_add [] p = (none p).adds
lines_add (l ∷ ls) p = adds_then (line_adds l p) (lines_add ls (block_line l p))

html_adds : (b : Bool) (text : List ℕ) (p : Pen) → Adds p (html_close b text p)
html_adds true text p = adds_then (adds (codes "//") other_end p) (adds (tag_free (drop 3 text)) other_end (written (codes "//") other_end p))
html_adds false text p = adds (tag_free text) other_end p

text_adds : (kind : CommentKind) (text : List ℕ) (p : Pen) → Adds p (text_written kind text p)
text_adds kinds.MultiLineBlock text p = lines_add (lines_of text) p
text_adds kinds.HtmlClose text p = html_adds (is_mid_line p.code) text p
text_adds kinds.Line text p = adds (tag_free text) other_end p
text_adds kinds.SingleLineBlock text p = adds (tag_free text) other_end p
text_adds kinds.HtmlOpen text p = adds (tag_free text) other_end p

-- a comment's text is its own
pub writes_comment : (c : Comment) (p : Pen) → Writes (c ∷ []) p (comment_written c p)
writes_comment c p =
    let w = text_adds c.kind c.text p in
    record {
      adds = w;
      stand = λ h. (record { before = []; own = w.text; rest = []; is = sym (append-nil w.text); its = (p, (h, w.code)) }, tt);
      dark = λ h. record { first = dark_of w.text; second = []; is = sym (append-nil (dark_of w.text)); one = (w.text, ((p, w.code), refl)); other = refl };
    }

-- ---- a group

pub ends_line_here : (p : Pen) → Writes [] p (line_ended p)
ends_line_here p = writes (codes "\n") other_end p refl

on_line : (p : Pen) → Writes [] p (indented_here (line_ended p))
on_line p = both (ends_line_here p) (indents (line_ended p))

begins_line : (last : Option ℕ) (p : Pen) → Writes [] p (on_new_line last p)
begins_line None p = none p
begins_line (Some c) p = one_of (c == 10) (indents p) (one_of (c == 9) (none p) (on_line p))

begins : (b : Bool) (p : Pen) → Writes [] p (before_first b p)
begins true p = begins_line (last_of p.code) p
begins false p = one_of p.pending_space (uses_up p) (indents_if (at_line_start (last_of p.code)) p)

goes_on : (b legal : Bool) (p : Pen) → Writes [] p (before_later b legal p)
goes_on true legal p = on_line p
goes_on false true p = ends_line_here p
goes_on false false p = spaces p

ends : (b : Bool) (p : Pen) → Writes [] p (behind_last b p)
ends true p = ends_line_here p
ends false p = stays p (with_pending_space true p) refl refl refl refl

writes_others : (ended : Bool) (c : Comment) (cs : List Comment) (p : Pen) → Writes cs p (behind_comment ended c cs p)
writes_others ended c [] p = ends (ended || ends_its_line c) p
writes_others ended c (d ∷ cs) p =
    let p1 : Pen = before_later (d.newline_before || is_line c.kind) (is_legal d.content) p in
    both (goes_on (d.newline_before || is_line c.kind) (is_legal d.content) p) (both (writes_comment d p1) (writes_others ended d cs (comment_written d p1)))

pub writes_group : (ended : Bool) (cs : List Comment) (p : Pen) → Writes cs p (group ended cs p)
writes_group ended [] p = none p
writes_group ended (c ∷ cs) p =
    let p1 : Pen = before_first c.newline_before p in
    let p2 : Pen = behind_comment ended c cs (comment_written c p1) in
    ended_by (both (begins c.newline_before p) (both (writes_comment c p1) (writes_others ended c cs (comment_written c p1)))) (stays p2 (begun_at p.start p2) refl refl refl refl)

pub writes_before : (m : Manner) (p : Pen) → Writes [] p (before_group m p)
writes_before with_key_annotation p = whitens (code_ends_in 47 p) (codes " ") p refl
writes_before all_of_them p = none p
writes_before then_space p = none p
writes_before with_due_space p = none p
writes_before before_it p = none p
writes_before annotation_before_it p = none p
writes_before none_of_them p = none p

writes_due : (p : Pen) → Writes [] p (if code_ends_in 10 p then indented_here p else used_up p)
writes_due p = one_of (code_ends_in 10 p) (indents p) (uses_up p)

pub writes_behind : (m : Manner) (p : Pen) → Writes [] p (behind_group m p)
writes_behind all_of_them p = none p
writes_behind then_space p = ended_by (spaces p) (stays (softly_spaced p) (behind_group then_space p) refl refl refl refl)
writes_behind with_due_space p = uses_up p
writes_behind before_it p = writes_due p
writes_behind annotation_before_it p = writes_due p
writes_behind with_key_annotation p = writes_due p
writes_behind none_of_them p = writes_due p

pub writes_closing : (cs : List Comment) (p : Pen) → Writes cs p (closing_group cs p)
writes_closing [] p = none p
writes_closing (c ∷ cs) p = ended_by (writes_group false (c ∷ cs) p) (stays (group false (c ∷ cs) p) (closing_group (c ∷ cs) p) refl refl refl refl)

-- ---- on lines

pub writes_each : (cs : List Comment) (p : Pen) → Writes cs p (each_on_line cs p)
writes_each [] p = none p
writes_each (c ∷ cs) p =
    let p1 : Pen = indented_here (line_ended p) in
    both (on_line p) (both (writes_comment c p1) (writes_each cs (comment_written c p1)))

pub breaks : (cs : List Comment) (p : Pen) → Writes cs p (broken_by cs p)
breaks [] p = ends_line_softly p
breaks (c ∷ cs) p =
    let p1 : Pen = line_ended (each_on_line (c ∷ cs) p) in
    ended_by (ended_by (writes_each (c ∷ cs) p) (ends_line_here (each_on_line (c ∷ cs) p))) (stays p1 (begun_at p.start p1) refl refl refl refl)

pub leads : (lead : Lead) (p : Pen) → Writes [] p (led lead p)
leads to_block p = writes_if (not p.style.minified) (codes " ") p refl
leads to_body p = stays p (led to_body p) refl refl refl refl
leads (to_empty span) p = none p

-- ---- at the end

ends_each : (cs : List Comment) (p : Pen) → Adds p (each_written cs p)
ends_each [] p = (none p).adds
ends_each (c ∷ cs) p = adds_then (writes_comment c p).adds (adds_then (ends_line_here (comment_written c p)).adds (ends_each cs (line_ended (comment_written c p))))

pub adds_licences : (legal : Legal) (cs : List Comment) (p : Pen) → Adds p (licensed legal cs p)
adds_licences legal [] p = (none p).adds
adds_licences at_end (c ∷ cs) p =
    let p1 : Pen = with_pending_space false (line_ended p) in
    adds_then (ends_line_here p).adds (adds_then (stays (line_ended p) p1 refl refl refl refl).adds (ends_each (c ∷ cs) p1))
adds_licences (linked path) (c ∷ cs) p = adds (reference path) other_end p
adds_licences left_out (c ∷ cs) p = (none p).adds
adds_licences inline (c ∷ cs) p = (none p).adds
adds_licences external (c ∷ cs) p = (none p).adds
