-- Steps turn by turn: what is still to be laid out of the whole.
use Rattle.std.proofs.Common.{◌≡◌, Bool, true, false, refl, ap, sym, subst, ◌∙◌}
use Rattle.std.proofs.lemmas.Bool.{both_ways}
use Rattle.jsgen_model.specs.Items.{Items, ◌⊕◌}
use Rattle.jsgen_model.specs.Lay.{lay}
use Rattle.jsgen_model.specs.Layout.{Pen}
use Rattle.jsgen_model.specs.Printing.{IsPrefix, Stops}
use Rattle.jsgen_printer.specs.Printer.{pen_of}
use Rattle.jsgen_printer.specs.Steps.{has_failed, Ends, Lays}
use Rattle.jsgen_printer.specs.declared.printer.Printer.{Printer}
use Rattle.jsgen_printer.proofs.Prefixes.{whole_prefix, prefix_of_prefix}
use Rattle.jsgen_printer.proofs.Appends.{layout_appends}

-- where no step has failed, what is left gives the whole
abbrev Left : Bool → Pen → Pen → Items → Pen → Type 0
Left false old at rest whole = IsPrefix old.code at.code × (lay rest at ≡ whole)
Left true old at rest whole = Stops old at whole

pub record Towards (old at : Printer) (rest whole : Items) : Type 0 where
  pub stays : has_failed old ≡ true → (has_failed at ≡ true) × ((pen_of at).code ≡ (pen_of old).code)
  pub goes : has_failed old ≡ false → Left (has_failed at) (pen_of old) (pen_of at) rest (lay whole (pen_of old))

pub begun : (p : Printer) (whole : Items) → Towards p p whole whole
begun p whole = record { stays = λ h. (h, refl); goes = λ going. subst (λ b. Left b (pen_of p) (pen_of p) whole (lay whole (pen_of p))) (sym going) (whole_prefix (pen_of p).code, refl) }

left_then : (fb fc : Bool) (pa pb pc : Pen) (first rest : Items) (whole : Pen) → (fb ≡ true → (fc ≡ true) × (pc.code ≡ pb.code)) → (fb ≡ false → Ends fc pb pc (lay first pb)) → Left fb pa pb (first ⊕ rest) whole → Left fc pa pc rest whole
left_then true true pa pb pc first rest whole stays goes s = record { kept = subst (λ code. IsPrefix pa.code code) (sym (stays refl).1) s.kept; part = subst (λ code. IsPrefix code whole.code) (sym (stays refl).1) s.part }
left_then true false pa pb pc first rest whole stays goes s = absurd (both_ways true (sym (stays refl).0) refl)
left_then false false pa pb pc first rest whole stays goes h = let e = goes refl in (prefix_of_prefix h.0 (subst (λ p. IsPrefix pb.code p.code) (sym e) (layout_appends first pb)), ap (λ p. lay rest p) e ∙ h.1)
left_then false true pa pb pc first rest whole stays goes h = let s = goes refl in record { kept = prefix_of_prefix h.0 s.kept; part = prefix_of_prefix s.part (subst (λ p. IsPrefix (lay first pb).code p.code) h.1 (layout_appends rest (lay first pb))) }

pub turn : {a b c : Printer} {first rest whole : Items} → Towards a b (first ⊕ rest) whole → Lays b c first → Towards a c rest whole
turn {a} {b} {c} {first} {rest} {whole} h k = record {
  stays = λ stopped. let x = h.stays stopped in let y = k.stays x.0 in (y.0, y.1 ∙ x.1);
  goes = λ going. left_then (has_failed b) (has_failed c) (pen_of a) (pen_of b) (pen_of c) first rest (lay whole (pen_of a)) k.stays k.goes (h.goes going);
}

pub left_as : {a b : Printer} {rest rest' whole : Items} → rest ≡ rest' → Towards a b rest whole → Towards a b rest' whole
left_as {a} {b} {rest} {rest'} {whole} e h = subst (λ items. Towards a b items whole) e h

none_left : (fb : Bool) (pa pb : Pen) (rest : Items) (whole : Pen) → lay rest pb ≡ pb → Left fb pa pb rest whole → Ends fb pa pb whole
none_left false pa pb rest whole e h = sym e ∙ h.1
none_left true pa pb rest whole e s = s

pub done : {a b : Printer} {rest whole : Items} → ((pen : Pen) → lay rest pen ≡ pen) → Towards a b rest whole → Lays a b whole
done {a} {b} {rest} {whole} e h = record {
  stays = h.stays;
  goes = λ going. none_left (has_failed b) (pen_of a) (pen_of b) rest (lay whole (pen_of a)) (e (pen_of b)) (h.goes going);
}
