-- What steps add: text behind the code, and marks that lead to its end or behind it.
use Rattle.std.proofs.Common.{◌≡◌, ℕ, zero, suc, ◌*◌, ◌-◌, ◌≤◌, Bool, cond, slice_index, true, false, ◌&&◌, nat_le, nat_lt, length, List, [], ◌∷◌, ◌++◌, Option, Some, None, codes, replicate, refl, ap, sym, subst, ◌∙◌, arith, append_assoc, append-nil, if◌then◌else◌}
use Rattle.std.specs.Fmt.{is_char_start}
use Rattle.std.specs.Fmt.Cut.{floor_char_boundary}
use Rattle.jsgen_syntax.specs.declared.span.Span.{Span}
use Rattle.std.proofs.lemmas.Bool.{and_parts, both_ways, leb-true, ltb-true}
use Rattle.jsgen_model.specs.Items.{TemplatePart, whole_part, head_part, middle_part, tail_part}
use Rattle.jsgen_map.specs.Marks.{Mark, OffsetsDiffer, last_offset, is_last, unless_last}
use Rattle.std.specs.Prelude.{not as isnt}
use Rattle.jsgen_model.specs.Marks.{size, is_empty_span, other_name_in, has_start_mark, has_end_mark, end_offset, has_link_mark, ends_in_link}
use Rattle.jsgen_model.specs.Layout.{Pen, Ending, other_end, written, written_if, text_if, is_apart, indented, indent_or_space, at_indentation, end_statement}
use Rattle.jsgen_model.specs.Lay.{marked_if, name_mark, mark_behind, has_piece_mark, spaced}
use Rattle.jsgen_mark_laws.specs.Law.{Adds, ArePlaced, LeadsInto}
use Rattle.jsgen_mark_laws.proofs.Sizes.{longer}
use Rattle.jsgen_mark_laws.proofs.Marks.{ordered_append, parted_append, last_append}

-- ---- marks that have their place

pub placed_append : (code : List ℕ) (source : Option (List ℕ)) (ms ns : List Mark) → ArePlaced code source ms → ArePlaced code source ns → ArePlaced code source (ms ++ ns)
placed_append code source [] ns h k = k
placed_append code source (m ∷ ms) ns h k = (h.0, placed_append code source ms ns h.1 k)

pub placed_longer : (code text : List ℕ) (source : Option (List ℕ)) (ms : List Mark) → ArePlaced code source ms → ArePlaced (code ++ text) source ms
placed_longer code text source [] h = tt
placed_longer code text source (m ∷ ms) h = (
  record {
    before = h.0.before;
    rest = h.0.rest ++ text;
    is = ap (λ x. x ++ text) h.0.is ∙ append_assoc h.0.before h.0.rest text;
    bytes = h.0.bytes;
    leads = h.0.leads;
  },
  placed_longer code text source ms h.1,
)

-- in what they had before a step, they have it behind it
pub placed_on : {p q : Pen} (s : Adds p q) (ms : List Mark) → ArePlaced p.code p.style.source ms → ArePlaced q.code q.style.source ms
placed_on {p} {q} s ms h =
    subst (λ code. ArePlaced code q.style.source ms) (sym s.code)
    (placed_longer p.code s.text q.style.source ms (subst (λ source. ArePlaced p.code source ms) (sym (ap (λ st. st.source) s.style)) h))

pub step_then : {p q r : Pen} → Adds p q → Adds q r → Adds p r
step_then {p} {q} {r} a b = record {
  text = a.text ++ b.text;
  code = b.code ∙ (ap (λ x. x ++ b.text) a.code ∙ append_assoc p.code a.text b.text);
  style = b.style ∙ a.style;
  more = a.more ++ b.more;
  marks = b.marks ∙ (ap (λ x. x ++ b.more) a.marks ∙ append_assoc p.marks a.more b.more);
  ordered = ordered_append a.more b.more (size p.code) (size q.code) (size r.code) a.ordered b.ordered;
  parted = parted_append (last_offset p.marks) a.more b.more a.parted (subst (λ l. OffsetsDiffer l b.more) (ap (λ ms. last_offset ms) a.marks ∙ last_append None p.marks a.more) b.parted);
  placed = placed_append r.code r.style.source a.more b.more (placed_on b a.more a.placed) b.placed;
}

-- text alone
pub texted : (p q : Pen) (text : List ℕ) → q.code ≡ p.code ++ text → q.style ≡ p.style → q.marks ≡ p.marks → Adds p q
texted p q text e f g = record {
  text = text;
  code = e;
  style = f;
  more = [];
  marks = g ∙ sym (append-nil p.marks);
  ordered = longer p.code q.code text e;
  parted = tt;
  placed = tt;
}

-- neither
pub same : (p q : Pen) → q.code ≡ p.code → q.style ≡ p.style → q.marks ≡ p.marks → Adds p q
same p q e f g = texted p q [] (e ∙ sym (append-nil p.code)) f g

pub none : (p : Pen) → Adds p p
none p = same p p refl refl refl

pub written_step : (t : List ℕ) (e : Ending) (p : Pen) → Adds p (written t e p)
written_step t e p = texted p (written t e p) t refl refl refl

pub written_if_step : (test : Bool) (t : List ℕ) (p : Pen) → Adds p (written_if test t p)
written_if_step test t p = texted p (written_if test t p) (text_if test t) refl refl refl

pub indented_step : (t : List ℕ) (p : Pen) → Adds p (indented t p)
indented_step [] p = none p
indented_step (c ∷ cs) p = texted p (indented (c ∷ cs) p) (c ∷ cs) refl refl refl

pub or_space_step : (pending : Bool) (p : Pen) → Adds p (indent_or_space pending p)
or_space_step true p = texted p (indent_or_space true p) (codes " ") refl refl refl
or_space_step false p = indented_step (replicate (p.depth * p.style.width) p.style.indent) p

pub indentation_step : (minified : Bool) (p : Pen) → Adds p (at_indentation minified p)
indentation_step true p = none p
indentation_step false p = or_space_step p.pending_space p

pub end_step : (minified : Bool) (p : Pen) → Adds p (end_statement minified p)
end_step true p = same p (end_statement true p) refl refl refl
end_step false p = written_step (codes ";\n") other_end p

pub one_of : (test : Bool) {p a b : Pen} → Adds p a → Adds p b → Adds p (if test then a else b)
one_of true h k = h
one_of false h k = k

-- ---- marks

pub marked_step : (o : ℕ) (called : Option (List ℕ)) (p : Pen) → LeadsInto p.style.source o → Adds p (marked_if true o called p)
marked_step o called p leads = go (is_last (last_offset p.marks) o) refl
  where
    m : Mark
    m = record { bytes = size p.code; offset = o; name = called }

    go : (b : Bool) → is_last (last_offset p.marks) o ≡ b → Adds p (record p { marks = unless_last b m p.marks })
    go true e = same p (record p { marks = p.marks }) refl refl refl
    go false e = record {
      text = [];
      code = sym (append-nil p.code);
      style = refl;
      more = m ∷ [];
      marks = refl;
      ordered = (omega arith, omega arith);
      parted = (e, tt);
      placed = (record { before = p.code; rest = []; is = sym (append-nil p.code); bytes = refl; leads = leads }, tt);
    }

pub marked_if_step : (b : Bool) (o : ℕ) (called : Option (List ℕ)) (p : Pen) → (b ≡ true → LeadsInto p.style.source o) → Adds p (marked_if b o called p)
marked_if_step true o called p leads = marked_step o called p (leads refl)
marked_if_step false o called p leads = none p

-- a character begins at its last byte or before it
begins_before : (source : List ℕ) (i : ℕ) → floor_char_boundary source i ≤ i
unfolding floor_char_boundary
begins_before source zero = omega arith
begins_before source (suc i) =
    let before = begins_before source i in
    elim (is_char_start (slice_index source (suc i))) as (λ t. cond t (suc i) (floor_char_boundary source i) ≤ suc i) [ true ↦ omega arith | false ↦ omega arith ]

-- where they have marks, a span's start, its last character and what follows it lie in the source
pub start_leads : (source : Option (List ℕ)) (span : Span) → has_start_mark source span ≡ true → LeadsInto source span.start
start_leads None span h = tt
start_leads (Some source) span h = leb-true span.start (length source) (and_parts (isnt (is_empty_span span)) (nat_le span.start (length source)) h).1

pub end_leads : (source : Option (List ℕ)) (span : Span) → has_end_mark source span ≡ true → LeadsInto source (end_offset source span)
end_leads None span h = tt
end_leads (Some source) span h =
    let within = leb-true span.end (length source) (and_parts (isnt (is_empty_span span)) (nat_le span.end (length source)) h).1 in
    omega (arith, within, begins_before source (span.end - 1))

pub link_leads : (source : Option (List ℕ)) (span : Span) (code : List ℕ) → has_link_mark source span code ≡ true → LeadsInto source span.end
link_leads None span code h = tt
link_leads (Some source) span code h =
    let before = ltb-true span.end (length source) (and_parts (ends_in_link code) (nat_lt span.end (length source)) (and_parts (isnt (is_empty_span span)) (ends_in_link code && nat_lt span.end (length source)) h).1).1 in
    omega (arith, before)

pub piece_leads : (part : TemplatePart) (source : Option (List ℕ)) (span : Span) → has_piece_mark part source span ≡ true → LeadsInto source span.start
piece_leads whole_part source span h = absurd (both_ways false refl h)
piece_leads head_part source span h = absurd (both_ways false refl h)
piece_leads middle_part source span h = start_leads source span h
piece_leads tail_part source span h = start_leads source span h

pub start_step : (span : Span) (called : Option (List ℕ)) (p : Pen) → Adds p (marked_if (has_start_mark p.style.source span) span.start called p)
start_step span called p = marked_if_step (has_start_mark p.style.source span) span.start called p (start_leads p.style.source span)

pub name_step : (span : Span) (w : List ℕ) (p : Pen) → Adds p (name_mark span w p)
name_step span w p = start_step span (other_name_in p.style.source span w) p

pub behind_step : (test : Bool) (span : Span) (p : Pen) → Adds p (mark_behind test span p)
behind_step true span p = start_step span None p
behind_step false span p = none p

pub spaced_step : (p : Pen) → Adds p (spaced p)
spaced_step p = written_if_step (is_apart p.ending p.code) (codes " ") p
