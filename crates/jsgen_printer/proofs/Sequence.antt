-- Steps one after another.
use Rattle.std.proofs.Common.{◌≡◌, ℕ, Bool, true, false, ◌||◌, if◌then◌else◌, List, ◌++◌, refl, ap, sym, subst, ◌∙◌, append_assoc, not}
use Rattle.std.proofs.lemmas.Bool.{both_ways}
use Rattle.jsgen_tree.specs.Named.{Named}
use Rattle.jsgen_model.specs.Punctuator.{Bracket, Round, opening, closing}
use Rattle.jsgen_model.specs.Items.{Items, nothing, ◌⊕◌, brackets, wrapped, wrapped_at_start, Opener, parentheses_unless_minified, unless_minified, where_same, deeper}
use Rattle.jsgen_model.specs.Lay.{lay}
use Rattle.jsgen_model.specs.Layout.{Style, Pen, Ending, Start, nowhere, begun_at, written, written_if, other_end, text_if, is_barred, are_printed_alike}
use Rattle.jsgen_model.specs.Printing.{IsPrefix, Stops}
use Rattle.jsgen_printer.specs.Printer.{pen_of, deepened, at_depth}
use Rattle.jsgen_printer.specs.Steps.{has_failed, Ends, Goes, Lays}
use Rattle.jsgen_printer.specs.declared.printer.Printer.{Printer}
use Rattle.jsgen_printer.proofs.Prefixes.{whole_prefix, prefix_append, prefix_of_prefix}
use Rattle.jsgen_printer.proofs.Appends.{layout_appends}

abbrev pub Appends : (Pen → Pen) → Type 0
Appends f = (pen : Pen) → IsPrefix pen.code (f pen).code

-- ---- two steps

stopped_then : (fc : Bool) (pa pb pc : Pen) (w : Pen) (g : Pen → Pen) → Appends g → (fc ≡ true) × (pc.code ≡ pb.code) → Stops pa pb w → Ends fc pa pc (g w)
stopped_then false pa pb pc w g more h s = absurd (both_ways true (sym h.0) refl)
stopped_then true pa pb pc w g more h s = record {
  kept = subst (λ code. IsPrefix pa.code code) (sym h.1) s.kept;
  part = prefix_of_prefix (subst (λ code. IsPrefix code w.code) (sym h.1) s.part) (more w);
}

went_then : (fc : Bool) (pa pb pc : Pen) (w : Pen) (g : Pen → Pen) → IsPrefix pa.code w.code → pb ≡ w → Ends fc pb pc (g pb) → Ends fc pa pc (g w)
went_then false pa pb pc w g kept e h = h ∙ ap g e
went_then true pa pb pc w g kept e s = record {
  kept = prefix_of_prefix (subst (λ p. IsPrefix pa.code p.code) (sym e) kept) s.kept;
  part = subst (λ p. IsPrefix pc.code (g p).code) e s.part;
}

ends_then : (fb fc : Bool) (pa pb pc w : Pen) (g : Pen → Pen) → Appends g → IsPrefix pa.code w.code → (fb ≡ true → (fc ≡ true) × (pc.code ≡ pb.code)) → (fb ≡ false → Ends fc pb pc (g pb)) → Ends fb pa pb w → Ends fc pa pc (g w)
ends_then true fc pa pb pc w g more kept stays goes h = stopped_then fc pa pb pc w g more (stays refl) h
ends_then false fc pa pb pc w g more kept stays goes h = went_then fc pa pb pc w g kept h (goes refl)

pub goes_then : {a b c : Printer} {f g : Pen → Pen} → Appends f → Appends g → Goes a b f → Goes b c g → Goes a c (λ pen. g (f pen))
goes_then {a} {b} {c} {f} {g} kept more h k = record {
  stays = λ stopped. let x = h.stays stopped in let y = k.stays x.0 in (y.0, y.1 ∙ x.1);
  goes = λ going. ends_then (has_failed b) (has_failed c) (pen_of a) (pen_of b) (pen_of c) (f (pen_of a)) g more (kept (pen_of a)) k.stays k.goes (h.goes going);
}

-- a step under other names: what matters is where the pen is
pub goes_as : {a b : Printer} {f : Pen → Pen} (g : Pen → Pen) → f (pen_of a) ≡ g (pen_of a) → Goes a b f → Goes a b g
goes_as {a} {b} g e h = record { stays = h.stays; goes = λ going. subst (λ whole. Ends (has_failed b) (pen_of a) (pen_of b) whole) e (h.goes going) }

pub goes_laid : {a b : Printer} {f : Pen → Pen} (i : Items) → f (pen_of a) ≡ lay i (pen_of a) → Goes a b f → Lays a b i
goes_laid {a} {b} i e h = record { stays = h.stays; goes = λ going. subst (λ whole. Ends (has_failed b) (pen_of a) (pen_of b) whole) e (h.goes going) }

pub items_go : {a b : Printer} {i : Items} → Lays a b i → Goes a b (λ pen. lay i pen)
items_go h = record { stays = h.stays; goes = h.goes }

-- texts one after the other, which may depend on the style
pub in_a_row : {a b c : Printer} {d e : Ending} (s t : Style → List ℕ) → Goes a b (λ pen. written (s pen.style) d pen) → Goes b c (λ pen. written (t pen.style) e pen) → Goes a c (λ pen. written (s pen.style ++ t pen.style) e pen)
in_a_row {a} {b} {c} {d} {e} s t h k = goes_as (λ pen. written (s pen.style ++ t pen.style) e pen) (ap (λ code. record (pen_of a) { code = code; ending = e; start = nowhere }) (append_assoc (pen_of a).code (s (pen_of a).style) (t (pen_of a).style))) (goes_then (λ pen. prefix_append pen.code (s pen.style)) (λ pen. prefix_append pen.code (t pen.style)) h k)

-- what began before a step begins behind it
pub begun_again : {a b c : Printer} {f : Pen → Pen} (start : Start) → start ≡ (pen_of a).start → Appends f → Goes a b f → Goes b c (begun_at start) → Goes a c (λ pen. begun_at pen.start (f pen))
begun_again {a} {b} {c} {f} start e more h k = goes_as (λ pen. begun_at pen.start (f pen)) (ap (λ s. begun_at s (f (pen_of a))) e) (goes_then more (λ p. whole_prefix p.code) h k)

-- items one after the other
infixr 20 ◌⨾◌
pub ◌⨾◌ : {a b c : Printer} {i j : Items} → Lays a b i → Lays b c j → Lays a c (i ⊕ j)
◌⨾◌ {a} {b} {c} {i} {j} h k = goes_laid (i ⊕ j) refl (goes_then (λ pen. layout_appends i pen) (λ pen. layout_appends j pen) (items_go h) (items_go k))

-- other items that give the same layout where the pen is
pub laid_there : {a b : Printer} {i j : Items} → (has_failed a ≡ false → lay i (pen_of a) ≡ lay j (pen_of a)) → Lays a b i → Lays a b j
laid_there {a} {b} e h = record { stays = h.stays; goes = λ going. subst (λ whole. Ends (has_failed b) (pen_of a) (pen_of b) whole) (e going) (h.goes going) }

-- the same items, grouped otherwise
pub regrouped : {a b : Printer} {i j : Items} → ((pen : Pen) → lay i pen ≡ lay j pen) → Lays a b i → Lays a b j
regrouped {a} {b} e h = laid_there (λ going. e (pen_of a)) h

-- no step
pub nothing_laid : (p : Printer) → Lays p p nothing
nothing_laid p = record { stays = λ h. (h, refl); goes = λ going. rw going refl }

-- items that the layout passes over
pub passed_over : (p : Printer) (i : Items) → ((pen : Pen) → lay i pen ≡ pen) → Lays p p i
passed_over p i e = record { stays = λ h. (h, refl); goes = λ going. subst (λ failed. Ends failed (pen_of p) (pen_of p) (lay i (pen_of p))) (sym going) (sym (e (pen_of p))) }

-- ---- steps round others

pub in_brackets_laid : {a b c d : Printer} {i : Items} (bracket : Bracket) → Goes a b (written (opening bracket) other_end) → Lays b c i → Goes c d (written (closing bracket) other_end) → Lays a d (brackets bracket i)
in_brackets_laid {a} {b} {c} {d} {i} bracket h inside k = goes_laid (brackets bracket i) refl (goes_then (λ pen. prefix_of_prefix (prefix_append pen.code (opening bracket)) (layout_appends i (written (opening bracket) other_end pen))) (λ pen. prefix_append pen.code (closing bracket)) (goes_then (λ pen. prefix_append pen.code (opening bracket)) (λ pen. layout_appends i pen) h (items_go inside)) k)

pub wrapped_laid : {a b c d : Printer} {i : Items} (test : Bool) → Goes a b (written_if test (opening Round)) → Lays b c i → Goes c d (written_if test (closing Round)) → Lays a d (wrapped test i)
wrapped_laid {a} {b} {c} {d} {i} test h inside k = goes_laid (wrapped test i) refl (goes_then (λ pen. prefix_of_prefix (prefix_append pen.code (text_if test (opening Round))) (layout_appends i (written_if test (opening Round) pen))) (λ pen. prefix_append pen.code (text_if test (closing Round))) (goes_then (λ pen. prefix_append pen.code (text_if test (opening Round))) (λ pen. layout_appends i pen) h (items_go inside)) k)

-- in parentheses where the pen asks for them
pub wrapped_at_start_laid : {a b c d : Printer} {i : Items} (own : Bool) (opener : Opener) (test : Bool) → test ≡ own || is_barred opener (pen_of a).start → Goes a b (written_if test (opening Round)) → Lays b c i → Goes c d (written_if test (closing Round)) → Lays a d (wrapped_at_start own opener i)
wrapped_at_start_laid {a} {b} {c} {d} {i} own opener test e h inside k = laid_there (λ going. ap (λ b. lay (wrapped b i) (pen_of a)) e) (wrapped_laid test h inside k)

pub unless_minified_laid : {a b c d : Printer} {i : Items} (test : Bool) → test ≡ not (pen_of a).style.minified → Goes a b (written_if test (opening Round)) → Lays b c i → Goes c d (written_if test (closing Round)) → Lays a d (parentheses_unless_minified i)
unless_minified_laid {a} {b} {c} {d} {i} test e h inside k = laid_there (λ going. ap (λ b. lay (wrapped b i) (pen_of a)) e) (wrapped_laid test h inside k)

-- in minified text nothing
left_out_there : (minified : Bool) (i : Items) (pen : Pen) → lay (if minified then nothing else i) pen ≡ (if minified then pen else lay i pen)
left_out_there true i pen = refl
left_out_there false i pen = refl

pub left_out_laid : {a b : Printer} (i : Items) (minified : Bool) → minified ≡ (pen_of a).style.minified → Lays a b (if minified then nothing else i) → Lays a b (unless_minified i)
left_out_laid {a} i minified e h = laid_there (λ going. left_out_there minified i (pen_of a) ∙ ap (λ b. if b then pen_of a else lay i (pen_of a)) e) h

-- one of two, by how two names are printed
same_there : (said : Bool) (i j : Items) (pen : Pen) → lay (if said then i else j) pen ≡ (if said then lay i pen else lay j pen)
same_there true i j pen = refl
same_there false i j pen = refl

pub where_same_laid : {a b : Printer} (m n : Named) (i j : Items) (said : Bool) → said ≡ are_printed_alike (pen_of a).style.tables m n → Lays a b (if said then i else j) → Lays a b (where_same m n i j)
where_same_laid {a} m n i j said e h = laid_there (λ going. same_there said i j (pen_of a) ∙ ap (λ b. if b then lay i (pen_of a) else lay j (pen_of a)) e) h

-- ---- where no step has failed

before_went : (fa fb : Bool) → (fa ≡ true → fb ≡ true) → fb ≡ false → fa ≡ false
before_went false fb h e = refl
before_went true fb h e = absurd (both_ways fb e (h refl))

pub went_before : {a b : Printer} {f : Pen → Pen} → Goes a b f → has_failed b ≡ false → has_failed a ≡ false
went_before {a} {b} h going = before_went (has_failed a) (has_failed b) (λ stopped. (h.stays stopped).0) going

pub went : {a b : Printer} {f : Pen → Pen} → Goes a b f → has_failed b ≡ false → pen_of b ≡ f (pen_of a)
went {a} {b} {f} h going = subst (λ failed. Ends failed (pen_of a) (pen_of b) (f (pen_of a))) going (h.goes (went_before h going))

-- ---- a level deeper, and the level before behind it

at_level_before : (fd : Bool) (depth before : ℕ) (pa pd inner : Pen) → (fd ≡ false → depth ≡ before) → Ends fd pa pd (at_depth depth inner) → Ends fd pa pd (at_depth before inner)
at_level_before false depth before pa pd inner level h = h ∙ ap (λ n. at_depth n inner) (level refl)
at_level_before true depth before pa pd inner level s = record { kept = s.kept; part = s.part }

pub deeper_laid : {a b c d : Printer} {i : Items} (depth : ℕ) → (has_failed b ≡ false → depth ≡ (pen_of a).depth) → Goes a b deepened → Lays b c i → Goes c d (at_depth depth) → Lays a d (deeper i)
deeper_laid {a} {b} {c} {d} {i} depth level h inside k =
    let all = goes_then (λ pen. layout_appends i (deepened pen)) (λ pen. whole_prefix pen.code) (goes_then (λ pen. whole_prefix pen.code) (λ pen. layout_appends i pen) h (items_go inside)) k in
    record {
      stays = all.stays;
      goes = λ going. at_level_before (has_failed d) depth (pen_of a).depth (pen_of a) (pen_of d) (lay i (deepened (pen_of a))) (λ whole. level (went_before (items_go inside) (went_before k whole))) (all.goes going);
    }
